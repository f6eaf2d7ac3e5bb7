use Rattle.reached.proofs.Followed.{turn_following}
use Rattle.reached.proofs.follow.reached.Goals as goal

pub loop-id-preserved : goal.loop-id-preserved
loop-id-preserved c = turn_following c.loop-id.invariant c.entry_count-count.ensures c.next_open.ensures c.in-Some.is c.mark_entry.ensures
