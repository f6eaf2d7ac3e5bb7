-- The answer for all entries is the answer for those from the i-th on. The measure is how many are left.
use Rattle.std.proofs.Common.{◌-◌, ◌≡◌}
use Rattle.image.specs.Numbers.{format_number}
use Rattle.image.specs.Image.{entries_of}
use Rattle.image.specs.Reads.{skip}
use Rattle.reader.proofs.contents.read_entries.Given as goal

abbrev pub invariant-loop-i : goal.invariant-loop-i
invariant-loop-i l = skip (entries_of (format_number l.format) (l.n - l.i) l.head.bytes.now l.i) ≡ skip (entries_of (format_number l.format) l.n l.head.bytes.now 0)
