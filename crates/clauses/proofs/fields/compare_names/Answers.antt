-- `clauses::fields::compare_names` meets its contract. Assumes nothing.
use Rattle.std.proofs.Common.{not, refl, sym, ap, ◌∙◌}
use Rattle.image.specs.Words.{bytes}
use Rattle.rules.specs.Clauses.{compare_field_names}
use Rattle.details.specs.Details.{detail_text}
use Rattle.clauses.proofs.Told.{silent, told}
use Rattle.clauses.proofs.fields.compare_names.Goals as goal

pub returns-then-same_name : goal.returns-then-same_name
unfolding compare_field_names
returns-then-same_name c = silent _ (rw (c.name-was.ensures, c.name-is.ensures) at (ap not (sym c.same_name.ensures ∙ c.if-same_name.true)))

pub returns : goal.returns
unfolding compare_field_names detail_text bytes
returns c =
    told _ (rw (c.name-was.ensures, c.name-is.ensures) at (ap not (sym c.same_name.ensures ∙ c.if-same_name.false)))
    (rw (c.name-was.ensures, c.name-is.ensures, c.ordinal.ensures) refl) c.emit.ensures
