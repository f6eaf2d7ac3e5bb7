-- The value is the number of the bytes from i on, and is as small as their count says. The measure: what is left of the bytes in front.
use Rattle.std.proofs.Common.{◌-◌, ◌≡◌, ◌+◌, ◌^◌, ◌≤◌, ◌<◌, drop}
use Rattle.image.specs.Parse.{little_endian}
use Rattle.image.proofs.numbers.number.Given as goal

abbrev pub invariant-loop-i : goal.invariant-loop-i
invariant-loop-i l =
    (l.at ≤ l.i) × (l.i ≤ l.at + l.w) × (l.value ≡ little_endian (l.at + l.w - l.i) (drop l.i l.s)) × (l.value < 256 ^ (l.at + l.w - l.i))

abbrev pub decreases-loop-i : goal.decreases-loop-i
decreases-loop-i l = l.i - l.at
