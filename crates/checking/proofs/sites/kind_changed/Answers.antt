-- `checking::sites::kind_changed` meets its contract. Assumes nothing.
use Rattle.std.proofs.Common.{[], ◌∷◌, refl, ap, ◌∙◌}
use Rattle.rules.specs.Changes.{Change}
use Rattle.rules.specs.Clauses.{kind_changed}
use Rattle.checking.proofs.sites.kind_changed.Goals as goal

pub returns : goal.returns
unfolding kind_changed
returns c = ap (λ (x : Change). x ∷ []) (c.changed.ensures ∙ rw (c.name-name.ensures, c.kind.ensures, c.kind-2.ensures) refl)
