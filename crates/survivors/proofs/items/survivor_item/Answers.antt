-- `survivors::items::survivor_item` meets its contract, by a pass. Assumes nothing.
use Rattle.survivors.proofs.Laws.Passed.{found_same}
use Rattle.survivors.proofs.items.survivor_item.Goals as goal

pub loop-at-preserved-then-ordinal_at-ordinal : goal.loop-at-preserved-then-ordinal_at-ordinal
loop-at-preserved-then-ordinal_at-ordinal c =
    (tt, tt, found_same c.loop-at.invariant.2 c.in-Some.ensures.steps.0 c.in-Some.ensures.steps.1 c.ordinal_at.ensures c.if-ordinal_at-ordinal.true)
