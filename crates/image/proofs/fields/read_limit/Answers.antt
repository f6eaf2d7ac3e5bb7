use Rattle.std.proofs.Common.{◌∙◌}
use Rattle.image.proofs.Laws.Numbers.{there_got, code_there}
use Rattle.image.proofs.Laws.Sure.{sure_got, code_in}
use Rattle.image.proofs.Laws.Fields.{limit_stop, limit_none, limit_number}
use Rattle.image.proofs.fields.read_limit.Goals as goal

pub returns-in_default : goal.returns-in_default
returns-in_default g c = rw (← c.place.ensures) (limit_stop _ _ c.in_default.is c.read_code-step.ensures)

pub hold-next-requires : goal.hold-next-requires
hold-next-requires g c = c.requires _ (sure_got (code_in 0 1 _ _) (there_got (code_there 0 1 _ _ c.in-Ok.is c.read_code-step.ensures)))

pub bounds-s-place : goal.bounds-s-place
bounds-s-place g c = rw (c.place-2.ensures, ← c.place.ensures) (code_there 0 1 _ _ c.in-Ok.is c.read_code-step.ensures).inside

pub returns-then-s-place-eq0 : goal.returns-then-s-place-eq0
returns-then-s-place-eq0 g c =
    rw (← c.place.ensures) (limit_none _ _ (code_there 0 1 _ _ c.in-Ok.is c.read_code-step.ensures) (rw (c.place-2.ensures, ← c.place.ensures) at c.if-s-place-eq0.true))

pub returns : goal.returns
returns g c =
    rw (← c.place.ensures)
    (rw (c.place-3.ensures, c.hold-next.ensures) at c.read_number.ensures
    ∙ limit_number _ _ (code_there 0 1 _ _ c.in-Ok.is c.read_code-step.ensures) (rw (c.place-2.ensures, ← c.place.ensures) at c.if-s-place-eq0.false))
