use Rattle.vexil_compat.proofs.Values.{filled_start, filled_next, filled_end}
use Rattle.vexil_compat.proofs.put_values.Goals as goal

pub loop-i-init : goal.loop-i-init
loop-i-init c = filled_start _ _

pub loop-i-preserved : goal.loop-i-preserved
loop-i-preserved c = filled_next _ _ c.loop-i.invariant c.loop-i-test.true c.select.ensures

pub returns : goal.returns
returns c = filled_end _ _ c.loop-i.invariant c.loop-i-test.false
