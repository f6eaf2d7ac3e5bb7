-- What the walk has yet to mark is owed.
use Rattle.parts.specs.declared.Shape.{Shape}
use Rattle.reached.specs.Named.{named_items}
use Rattle.reached.proofs.Walks.{Marking}
use Rattle.reached.proofs.fields.mark_fields.Given as goal

abbrev pub invariant-loop-item : goal.invariant-loop-item
invariant-loop-item l =
    (goal.iterator-loop-item).can_next l.item-iterator × (goal.iterator-loop-item).is_finite l.item-iterator
    × Marking Shape.Field l.fields l.initial.marks (named_items Shape.Field l.fields) l.marks l.item-iterator
