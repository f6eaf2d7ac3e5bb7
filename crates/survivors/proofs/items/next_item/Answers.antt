-- `survivors::items::next_item` meets its contract, by a pass. Assumes nothing.
use Rattle.survivors.proofs.Laws.Passed.{nearing_taken, nearing_left}
use Rattle.survivors.proofs.items.next_item.Goals as goal

pub loop-at-preserved-then-is_nearer : goal.loop-at-preserved-then-is_nearer
loop-at-preserved-then-is_nearer c =
    (tt, tt, nearing_taken c.loop-at.invariant.2 c.in-Some.ensures.steps.0 c.in-Some.ensures.steps.1 c.ordinal_at-ordinal.ensures c.is_nearer.ensures c.if-is_nearer.true)

pub loop-at-preserved : goal.loop-at-preserved
loop-at-preserved c =
    (tt, tt, nearing_left c.loop-at.invariant.2 c.in-Some.ensures.steps.0 c.in-Some.ensures.steps.1 c.ordinal_at-ordinal.ensures c.is_nearer.ensures c.if-is_nearer.false)
