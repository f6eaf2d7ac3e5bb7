-- What is found going on from i, with the best declaration so far, is the next one.
use Rattle.std.proofs.Common.{◌-◌}
use Rattle.survivors.proofs.Laws.Listed.{Met}
use Rattle.survivors.proofs.decls.Declarations.following.Given as goal

abbrev pub invariant-loop-i : goal.invariant-loop-i
invariant-loop-i l = Met l.self l.after l.best l.i

abbrev pub decreases-loop-i : goal.decreases-loop-i
decreases-loop-i l = l.n - l.i
