-- `clauses::unions::compare_variants` meets its contract: its fields, and what is reported last.
use Rattle.std.proofs.Common.{ap, ◌++◌}
use Rattle.image.specs.Words.{bytes}
use Rattle.rules.specs.Clauses.{union_rules, variant_decl}
use Rattle.clauses.proofs.Kept.{variant_fields, sets_told, last_told}
use Rattle.clauses.proofs.unions.compare_variants.Goals as goal

pub returns : goal.returns
unfolding union_rules variant_decl
returns c =
    let was = variant_fields c.args.old c.fields.ensures in
    let is = variant_fields c.args.new c.fields-2.ensures in
    let name = ap (λ n. c.args.union.now ++ (bytes "::" ++ n)) c.name.ensures in
    last_told _ _ _ (sets_told c.fields.ensures.image c.fields-2.ensures.image name _ _ was is c.compare_field_sets.ensures)
    (rw c.name.ensures at c.compare_last_in.ensures)
