-- What is said of two images that are prepared for a policy. Assumes nothing.
use Rattle.std.specs.Prelude.{List}
use Rattle.rules.specs.Changes.{Change}
use Rattle.rules.specs.Outcome.{Outcome}
use Rattle.compat.specs.Policies.{changes_by, pair_outcome}
use Rattle.compat.specs.declared.prepared.Prepared.{Prepared}

-- the changes that its policy reports of them, and what it tells of them
abbrev pub changes_of : Prepared → List Change
changes_of w = changes_by w.policy w.old.image w.new.image

abbrev pub outcome_of : Prepared → Outcome
outcome_of w = pair_outcome w.policy w.old.image w.new.image
