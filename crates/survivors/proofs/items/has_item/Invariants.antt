-- One of the items that are left has the ordinal if one stands under it.
use Rattle.survivors.proofs.Laws.Passed.{Having}
use Rattle.survivors.proofs.items.has_item.Given as goal

abbrev pub invariant-loop-at : goal.invariant-loop-at
invariant-loop-at l =
    (goal.iterator-loop-at).can_next l.at-iterator × (goal.iterator-loop-at).is_finite l.at-iterator × Having l.places l.ordinal l.at-iterator
