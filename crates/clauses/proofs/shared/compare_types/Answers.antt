-- `clauses::shared::compare_types` meets its contract. Assumes nothing.
use Rattle.std.proofs.Common.{not, refl, sym, ap, ◌∙◌}
use Rattle.image.specs.Words.{bytes}
use Rattle.rules.specs.Clauses.{compare_types}
use Rattle.details.specs.Details.{detail_text}
use Rattle.clauses.proofs.Told.{silent, told}
use Rattle.clauses.proofs.shared.compare_types.Goals as goal

pub returns-then-types_equal : goal.returns-then-types_equal
unfolding compare_types
returns-then-types_equal c = silent _ (ap not (sym c.types_equal.ensures ∙ c.if-types_equal.true))

pub returns : goal.returns
unfolding compare_types detail_text bytes
returns c = told _ (ap not (sym c.types_equal.ensures ∙ c.if-types_equal.false)) refl c.emit.ensures
