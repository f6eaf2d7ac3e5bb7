-- Whether the names from i on are all had is whether all are.
use Rattle.std.proofs.Common.{◌-◌}
use Rattle.survivors.specs.Answers.{standing_of}
use Rattle.survivors.proofs.Laws.Listed.{Covering}
use Rattle.survivors.proofs.decls.Declarations.all_named.Given as goal

abbrev pub invariant-loop-i : goal.invariant-loop-i
invariant-loop-i l = Covering (standing_of l.other) l.self l.i

abbrev pub decreases-loop-i : goal.decreases-loop-i
decreases-loop-i l = l.n - l.i
