-- `clauses::fields::compare_fields` meets its contract, part by part. Assumes nothing.
use Rattle.rules.specs.Clauses.{field_text}
use Rattle.clauses.proofs.Kept.{fields_told}
use Rattle.clauses.proofs.fields.compare_fields.Goals as goal

pub returns : goal.returns
unfolding field_text
returns c =
    fields_told c.args.old.item.image c.args.new.item.image _ _ _ c.compare_names.ensures
    (rw (c.ty.ensures.tree, c.ty-2.ensures.tree, c.ty.ensures.image, c.ty-2.ensures.image, c.name-name.ensures, c.ordinal.ensures) at c.compare_types.ensures)
    c.compare_encodings.ensures
    (rw (c.name-name.ensures, c.deprecated.ensures, c.deprecated-2.ensures) at c.compare_deprecated.ensures)
