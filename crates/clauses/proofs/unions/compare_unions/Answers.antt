-- `clauses::unions::compare_unions` meets its contract. Assumes nothing.
use Rattle.std.proofs.Common.{sym, ◌∙◌}
use Rattle.rules.specs.Clauses.{compare_unions}
use Rattle.lines.proofs.Reports.{reports_as}
use Rattle.items.proofs.Owned.{changes_owned}
use Rattle.items.proofs.Walks.{kept_done}
use Rattle.clauses.proofs.Kept.{union_variants, union_told}
use Rattle.clauses.proofs.Sets.{all_reported}
use Rattle.clauses.proofs.unions.compare_unions.Goals as goal

pub returns : goal.returns
unfolding compare_unions
returns c =
    let p = c.new-pair.ensures in
    let was = union_variants _ c.args.old.decl.here c.variants-variants.ensures c.args.old.is in
    let is = union_variants _ c.args.new.decl.here c.variants.ensures c.args.new.is in
    reports_as
    (union_told c.variants-variants.ensures.image c.variants.ensures.image c.name-name.ensures _ _ _ was is ∙ sym (changes_owned _ _ p.of p.old p.new))
    (all_reported _ c.unmatched_items.ensures c.unmatched_items-2.ensures (kept_done _ c.loop-variant.invariant.2 c.in-None.ensures.steps))
