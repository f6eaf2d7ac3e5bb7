use Rattle.std.proofs.Common.{arith, ap, ◌∙◌}
use Rattle.image.specs.Types.{inner_types}
use Rattle.image.proofs.Laws.Types.{inner_most}
use Rattle.parts.proofs.Laws.Skips.{label_longer, types_start, types_label, types_turn}
use Rattle.parts.proofs.types.type_end.Goals as goal

pub loop-left-init : goal.loop-left-init
loop-left-init c = let t = types_start _ _ c.requires in (t.0, t.1, omega arith)

pub loop-left-preserved : goal.loop-left-preserved
loop-left-preserved c =
    let l = types_label _ _ _ c.loop-left-test.true c.loop-left.invariant.0 in
    let i = c.inner_types-inner.ensures ∙ ap inner_types c.type_tag.ensures in
    let t = types_turn _ _ _ c.loop-left-test.true c.loop-left.invariant.0 _ _ i c.label_end-next.ensures in
    (t.0, t.1 ∙ c.loop-left.invariant.1, omega (arith, label_longer _ _ l, inner_most))
