-- `clauses::fields::compare_encodings` meets its contract. Assumes nothing.
use Rattle.std.proofs.Common.{not, refl, sym, ap, ◌∙◌}
use Rattle.image.specs.Words.{bytes}
use Rattle.rules.specs.Clauses.{field_text, compare_encodings}
use Rattle.details.specs.Details.{detail_text}
use Rattle.clauses.proofs.Told.{silent, told}
use Rattle.clauses.proofs.fields.compare_encodings.Goals as goal

pub returns-then-is_same_coding : goal.returns-then-is_same_coding
unfolding compare_encodings
returns-then-is_same_coding c = silent _ (ap not (sym c.is_same_coding.ensures ∙ c.if-is_same_coding.true))

pub returns : goal.returns
unfolding compare_encodings field_text detail_text bytes
returns c =
    told _ (ap not (sym c.is_same_coding.ensures ∙ c.if-is_same_coding.false))
    (rw (c.name-name.ensures, c.ordinal.ensures, c.encoding.ensures, c.encoding-2.ensures) refl) c.emit.ensures
