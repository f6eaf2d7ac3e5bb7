-- The fields that are left end where all of them do.
use Rattle.std.proofs.Common.{◌≡◌, ◌-◌}
use Rattle.parts.specs.Promise.{ItemsHere, items_end}
use Rattle.parts.specs.declared.Shape.{Shape}
use Rattle.members.proofs.items.fields_passed.Given as goal

abbrev pub invariant-loop : goal.invariant-loop
invariant-loop l =
    ItemsHere Shape.Field l.image (l.count - l.counter) l.next
    × (items_end Shape.Field l.image (l.count - l.counter) l.next ≡ items_end Shape.Field l.image l.count l.at)
