-- No id passed is open.
use Rattle.reached.proofs.Followed.{Passed}
use Rattle.reached.proofs.follow.next_open.Given as goal

abbrev pub invariant-loop-id : goal.invariant-loop-id
invariant-loop-id l = Passed l.marks l.followed l.id
