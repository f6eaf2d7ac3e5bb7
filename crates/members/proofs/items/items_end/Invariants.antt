-- The items that are left end where all of them do.
use Rattle.std.proofs.Common.{◌≡◌, ◌-◌}
use Rattle.parts.specs.Promise.{ItemsHere, items_end}
use Rattle.members.proofs.items.items_end.Given as goal

abbrev pub invariant-loop : goal.invariant-loop
invariant-loop l =
    ItemsHere l.shape l.image (l.count - l.counter) l.next
    × (items_end l.shape l.image (l.count - l.counter) l.next ≡ items_end l.shape l.image l.count l.at)
