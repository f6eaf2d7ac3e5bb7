-- Whether all bytes of the name are allowed is whether those from i on are.
use Rattle.std.proofs.Common.{◌-◌, ◌≡◌, ◌≤◌}
use Rattle.image.specs.Parse.{part}
use Rattle.image.specs.Names.{name_bytes}
use Rattle.image.proofs.names.read_name.Given as goal

abbrev pub invariant-loop-i : goal.invariant-loop-i
invariant-loop-i l = (l.i ≤ l.end) × (name_bytes (part l.from l.k l.s) ≡ name_bytes (part l.i (l.end - l.i) l.s))
