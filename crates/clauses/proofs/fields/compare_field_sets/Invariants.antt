-- What is left is what the walk over the old fields has yet to report.
use Rattle.items.specs.Items.{kept_items}
use Rattle.items.proofs.Walks.{Kept}
use Rattle.clauses.proofs.fields.compare_field_sets.Given as goal

abbrev pub invariant-loop-field : goal.invariant-loop-field
invariant-loop-field l =
    (goal.iterator-loop-field).can_next l.field-iterator × (goal.iterator-loop-field).is_finite l.field-iterator
    × Kept l.pair l.initial.r (kept_items l.initial.r.reading l.pair) l.r l.field-iterator
