use Rattle.image.proofs.Laws.Answers.{got}
use Rattle.std.proofs.lemmas.Result.{IfOk-at_ok}
use Rattle.image.proofs.Laws.Sure.{sure_got, number_in}
use Rattle.image.proofs.Laws.Numbers.{number_within}
use Rattle.image.proofs.Laws.Repeats.{counted_stop, counted_as, rest_start, rest_more, rest_stop, rest_none, read_skip}
use Rattle.image.proofs.counted.read_counted.Goals as goal

pub returns-in_default : goal.returns-in_default
returns-in_default g c = λ p q. rw (← c.place.ensures) (counted_stop p _ _ c.in_default.is c.read_number-count.ensures)

pub hold-next-requires : goal.hold-next-requires
hold-next-requires g c = c.requires.carried _ (sure_got (number_in 2 _ _) (got c.in-Ok.is c.read_number-count.ensures))

pub u16_at-end-requires : goal.u16_at-end-requires
u16_at-end-requires g c = rw (c.place-2.ensures, ← c.place.ensures) (number_within 2 _ _ c.in-Ok.is c.read_number-count.ensures)

pub loop-init : goal.loop-init
loop-init g c = λ p q.
    rw (c.hold-next.ensures, ← c.place.ensures)
    (rest_start p _ _ _ (counted_as p _ _ c.in-Ok.is c.read_number-count.ensures (rw (c.place-2.ensures, ← c.place.ensures) at c.u16_at-end.ensures.0)))

pub read-step-requires : goal.read-step-requires
read-step-requires g c = c.requires.callable _ _ c.requires.carried

pub returns-in_default-step : goal.returns-in_default-step
returns-in_default-step g c = λ p q.
    rest_stop (c.loop.invariant p q) c.loop-test.true c.in_default-step.is (read_skip (q _ _ _ c.read-step.ensures))

pub hold-next-requires-in-loop : goal.hold-next-requires-in-loop
hold-next-requires-in-loop g c =
    c.requires.carried _ (IfOk-at_ok _ c.in-Ok-step.is (c.requires.inside _ _ _ c.read-step.ensures))

pub loop-preserved : goal.loop-preserved
loop-preserved g c = λ p q.
    rw c.hold-next-in-loop.ensures
    (rest_more (c.loop.invariant p q) c.loop-test.true c.in-Ok-step.is (read_skip (q _ _ _ c.read-step.ensures)))

pub returns : goal.returns
returns g c = λ p q. rw c.place-3.ensures (rest_none (c.loop.invariant p q) c.loop-test.false)
