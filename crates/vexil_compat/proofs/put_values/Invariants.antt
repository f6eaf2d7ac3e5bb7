-- The first i places hold the values of the first i selectors.
use Rattle.verdicts.specs.Verdicts.{select_in}
use Rattle.vexil_compat.proofs.Values.{Filled}
use Rattle.vexil_compat.proofs.put_values.Given as goal

abbrev pub invariant-loop-i : goal.invariant-loop-i
invariant-loop-i l = Filled (select_in l.v) l.initial.values l.i l.values
