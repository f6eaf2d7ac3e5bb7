-- So many types as are left stand one after the other, the last of them ends where the whole does, and no more are left than there
-- were bytes. The measure is how many bytes are left.
use Rattle.std.proofs.Common.{◌≡◌, ◌≤◌, ◌+◌, ◌-◌, length}
use Rattle.image.specs.Parse.{many}
use Rattle.image.specs.Types.{type_at}
use Rattle.image.specs.WellFormed.{Good, end_of}
use Rattle.parts.specs.Promise.{type_end}
use Rattle.parts.proofs.types.type_end.Given as goal

abbrev pub invariant-loop-left : goal.invariant-loop-left
invariant-loop-left l =
    Good (many type_at l.left l.image l.next) × (end_of (many type_at l.left l.image l.next) ≡ type_end l.image l.at) × (l.left + l.at ≤ l.next + 1)

abbrev pub decreases-loop-left : goal.decreases-loop-left
decreases-loop-left l = length l.image - l.next
