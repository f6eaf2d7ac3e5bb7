-- The best item so far, and those that are left, come to the next one.
use Rattle.survivors.proofs.Laws.Passed.{Nearing}
use Rattle.survivors.proofs.items.next_item.Given as goal

abbrev pub invariant-loop-at : goal.invariant-loop-at
invariant-loop-at l =
    (goal.iterator-loop-at).can_next l.at-iterator × (goal.iterator-loop-at).is_finite l.at-iterator × Nearing l.places l.after l.best l.at-iterator
