-- `clauses::shared::compare_deprecated` meets its contract. Assumes nothing.
use Rattle.std.proofs.Common.{refl, sym, ◌∙◌}
use Rattle.image.specs.Words.{bytes}
use Rattle.rules.specs.Clauses.{compare_deprecated}
use Rattle.details.specs.Details.{detail_text}
use Rattle.clauses.proofs.Told.{silent, told}
use Rattle.clauses.proofs.shared.compare_deprecated.Goals as goal

pub returns-then-not-is_gained : goal.returns-then-not-is_gained
unfolding compare_deprecated
returns-then-not-is_gained c = silent _ (sym c.is_gained.ensures ∙ c.if-not-is_gained.true)

pub returns : goal.returns
unfolding compare_deprecated detail_text bytes
returns c = told _ (sym c.is_gained.ensures ∙ c.if-not-is_gained.false) refl c.emit.ensures
