-- The names that are left end where all of them do.
use Rattle.std.proofs.Common.{◌≡◌, ◌-◌}
use Rattle.parts.specs.Promise.{NamesHere, names_end}
use Rattle.parts.proofs.names.names_end.Given as goal

abbrev pub invariant-loop : goal.invariant-loop
invariant-loop l =
    NamesHere l.image (l.count - l.counter) l.next × (names_end l.image (l.count - l.counter) l.next ≡ names_end l.image l.count l.at)
