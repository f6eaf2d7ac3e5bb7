-- No more deltas were passed than there are. The measure: those that are left.
use Rattle.std.proofs.Common.{◌-◌, ◌≤◌}
use Rattle.parts.specs.Promise.{encoding_in}
use Rattle.members.proofs.fields.deltas.Given as goal

abbrev pub invariant-loop-n : goal.invariant-loop-n
invariant-loop-n l = l.n ≤ (encoding_in l.image l.at).deltas

abbrev pub decreases-loop-n : goal.decreases-loop-n
decreases-loop-n l = (encoding_in l.image l.at).deltas - l.n
