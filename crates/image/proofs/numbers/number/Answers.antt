use Rattle.std.proofs.Common.{arith, ◌+◌, ◌-◌, ◌∙◌}
use Rattle.image.proofs.Laws.Numbers.{number_none, number_more, number_all, below_none, below_more, below_all, below_seven}
use Rattle.image.proofs.numbers.number.Goals as goal

pub loop-i-init : goal.loop-i-init
loop-i-init c = (omega arith, omega arith, number_none _ _ _ (omega arith), below_none _)

pub overflow_mul-value : goal.overflow_mul-value
overflow_mul-value c =
    let h = below_seven (c.args.at + c.args.w - c.loop-i.i) c.loop-i.value (omega arith) c.loop-i.invariant.3 in
    omega arith

pub overflow_add-value : goal.overflow_add-value
overflow_add-value c =
    let h = below_seven (c.args.at + c.args.w - c.loop-i.i) c.loop-i.value (omega arith) c.loop-i.invariant.3 in
    omega (arith, c.type_inv.s (c.loop-i.i - 1))

pub loop-i-preserved : goal.loop-i-preserved
loop-i-preserved c =
    let v = c.loop-i.invariant in (
      omega arith,
      omega arith,
      number_more _ (c.args.at + c.args.w) _ _ (omega arith) v.1 v.2,
      below_more (c.args.at + c.args.w) c.loop-i.i _ _ (omega arith) v.1 v.3 (omega (arith, c.type_inv.s (c.loop-i.i - 1))),
    )

pub returns : goal.returns
returns c =
    let v = c.loop-i.invariant in
    (v.2 ∙ number_all _ c.args.at c.args.w c.loop-i.i (omega arith), below_all c.args.at c.args.w c.loop-i.i _ (omega arith) v.3)

pub bounds-s-i : goal.bounds-s-i
bounds-s-i c = omega arith
