-- All marks are of reached ids, what the survivors name is marked, and what is named by a followed entry. The measure is how many ids are not
-- yet followed.
use Rattle.reached.proofs.Followed.{unfollowed, Following}
use Rattle.reached.proofs.follow.reached.Given as goal

abbrev pub invariant-loop-id : goal.invariant-loop-id
invariant-loop-id l = Following l.image l.marks l.followed

abbrev pub decreases-loop-id : goal.decreases-loop-id
decreases-loop-id l = unfollowed l.followed
