use Rattle.std.proofs.Common.{arith}
use Rattle.reached.proofs.Followed.{open_none}
use Rattle.reached.proofs.follow.next_open.Goals as goal

pub returns : goal.returns
returns c = open_none _ _ _ _ c.loop-id.invariant (omega arith)
