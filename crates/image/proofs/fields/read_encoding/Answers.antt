use Rattle.std.proofs.Common.{arith}
use Rattle.image.proofs.Laws.Numbers.{there_got, code_there}
use Rattle.image.proofs.Laws.Sure.{sure_got, code_in}
use Rattle.image.proofs.Laws.Fields.{within_start, within_stop, within_plain, within_more}
use Rattle.image.proofs.fields.read_encoding.Goals as goal

pub loop-init : goal.loop-init
loop-init g c = within_start _ _

pub returns-in_default : goal.returns-in_default
returns-in_default g c = within_stop c.loop.invariant c.loop-test.true c.place.ensures c.in_default.is c.read_code-step.ensures

pub bounds-s-place : goal.bounds-s-place
bounds-s-place g c = rw (c.place-in-loop.ensures, ← c.place.ensures) (code_there 0 3 _ _ c.in-Ok.is c.read_code-step.ensures).inside

pub returns-then-s-place-ne3 : goal.returns-then-s-place-ne3
returns-then-s-place-ne3 g c =
    within_plain c.loop.invariant c.loop-test.true c.place.ensures (code_there 0 3 _ _ c.in-Ok.is c.read_code-step.ensures)
    (rw (c.place-in-loop.ensures, ← c.place.ensures) at c.if-s-place-ne3.true)

pub hold-next-requires : goal.hold-next-requires
hold-next-requires g c = c.requires _ (sure_got (code_in 0 3 _ _) (there_got (code_there 0 3 _ _ c.in-Ok.is c.read_code-step.ensures)))

pub loop-preserved : goal.loop-preserved
loop-preserved g c =
    within_more c.loop.invariant c.loop-test.true c.place.ensures (code_there 0 3 _ _ c.in-Ok.is c.read_code-step.ensures)
    c.hold-next.ensures (omega (arith, rw (c.place-in-loop.ensures, ← c.place.ensures) at c.if-s-place-ne3.false))

pub returns : goal.returns
returns g c = c.loop.invariant.deep (omega arith)
