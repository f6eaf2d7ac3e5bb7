-- What is left is what the walk has yet to report.
use Rattle.items.specs.Items.{unmatched_items}
use Rattle.items.proofs.Walks.{Unmatched}
use Rattle.items.proofs.unmatched.unmatched_items.Given as goal

abbrev pub invariant-loop-item : goal.invariant-loop-item
invariant-loop-item l =
    (goal.iterator-loop-item).can_next l.item-iterator × (goal.iterator-loop-item).is_finite l.item-iterator
    × Unmatched l.pair l.side l.fn.r (unmatched_items l.fn.r.reading l.pair l.side) l.r l.item-iterator
