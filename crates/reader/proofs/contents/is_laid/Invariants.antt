-- The entries from the i-th on decide. The measure is how many are left.
use Rattle.std.proofs.Common.{◌-◌, ◌≡◌, ◌≤◌, length}
use Rattle.image.specs.Image.{laid}
use Rattle.reader.proofs.contents.is_laid.Given as goal

abbrev pub invariant-loop-i : goal.invariant-loop-i
invariant-loop-i l = (l.i ≤ l.n) × (l.at ≤ length l.head.bytes.now) × (laid l.n l.head.bytes.now 0 l.from ≡ laid (l.n - l.i) l.head.bytes.now l.i l.at)
