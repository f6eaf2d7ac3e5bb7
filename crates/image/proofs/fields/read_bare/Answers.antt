use Rattle.image.proofs.Laws.Answers.{got}
use Rattle.image.proofs.Laws.Sure.{sure_got, number_in}
use Rattle.image.proofs.Laws.Fields.{ordinal_stop, ordinal_name}
use Rattle.image.proofs.fields.read_bare.Goals as goal

pub returns-in_default : goal.returns-in_default
returns-in_default g c = rw (← c.place.ensures) (ordinal_stop _ _ c.in_default.is c.read_number-ordinal.ensures)

pub hold-name_at-requires : goal.hold-name_at-requires
hold-name_at-requires g c = c.requires _ (sure_got (number_in 4 _ _) (got c.in-Ok.is c.read_number-ordinal.ensures))

pub returns : goal.returns
returns g c =
    rw (← c.place.ensures)
    (ordinal_name _ _ (got c.in-Ok.is c.read_number-ordinal.ensures)
    (rw (c.place-2.ensures, c.hold-name_at.ensures) at c.read_name.ensures))
