-- The search: what is found going back from i is what stands under the name. The nested loop: the two names agree as far as j.
use Rattle.std.proofs.Common.{◌-◌, length}
use Rattle.survivors.proofs.Laws.Listed.{Left}
use Rattle.survivors.proofs.Laws.Nearest.{Agree}
use Rattle.survivors.proofs.decls.Declarations.survivor.Given as goal

abbrev pub invariant-loop-j : goal.invariant-loop-j
invariant-loop-j l = Agree l.name l.own l.j

abbrev pub decreases-loop-j : goal.decreases-loop-j
decreases-loop-j l = length l.name - l.j

abbrev pub invariant-search : goal.invariant-search
invariant-search l = Left l.self l.name l.i

abbrev pub decreases-search : goal.decreases-search
decreases-search l = l.i
