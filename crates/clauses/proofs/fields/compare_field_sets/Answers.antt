-- `clauses::fields::compare_field_sets` meets its contract, part by part. Assumes nothing.
use Rattle.std.proofs.Common.{sym}
use Rattle.rules.specs.Clauses.{compare_field_sets}
use Rattle.lines.proofs.Reports.{reports_as}
use Rattle.items.proofs.Owned.{changes_owned}
use Rattle.items.proofs.Walks.{kept_done}
use Rattle.clauses.proofs.Sets.{all_reported}
use Rattle.clauses.proofs.fields.compare_field_sets.Goals as goal

pub returns : goal.returns
unfolding compare_field_sets
returns c =
    let p = c.new-pair.ensures in
    reports_as (sym (changes_owned _ _ p.of p.old p.new)) (all_reported _ c.unmatched_items.ensures c.unmatched_items-2.ensures (kept_done _ c.loop-field.invariant.2 c.in-None.ensures.steps))
