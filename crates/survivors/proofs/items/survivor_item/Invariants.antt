-- What was found so far, and the items that are left, come to the item that stands.
use Rattle.survivors.proofs.Laws.Passed.{Found}
use Rattle.survivors.proofs.items.survivor_item.Given as goal

abbrev pub invariant-loop-at : goal.invariant-loop-at
invariant-loop-at l =
    (goal.iterator-loop-at).can_next l.at-iterator × (goal.iterator-loop-at).is_finite l.at-iterator × Found l.places l.ordinal l.found l.at-iterator
