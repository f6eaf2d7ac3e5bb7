-- One read after the other.
use Rattle.image.proofs.Laws.Answers.{got}
use Rattle.image.proofs.Laws.Sure.{sure_got, bare_sure, marks_sure, encoding_sure, limit_sure}
use Rattle.image.proofs.Laws.Fields.{field_stop, field_marks, field_encoding, field_limit, field_type}
use Rattle.image.proofs.fields.read_field.Goals as goal

pub returns-in_default : goal.returns-in_default
returns-in_default g c = field_stop _ _ c.in_default.is c.read_bare-bare.ensures

pub hold-marks_at-requires : goal.hold-marks_at-requires
hold-marks_at-requires g c = c.requires _ (sure_got (bare_sure _ _) (got c.in-Ok.is c.read_bare-bare.ensures))

pub returns-in_default-marks : goal.returns-in_default-marks
returns-in_default-marks g c =
    field_marks _ _ (got c.in-Ok.is c.read_bare-bare.ensures) c.in_default-marks.is
    (rw (c.place.ensures, c.hold-marks_at.ensures) at c.read_marks-marks.ensures)

pub hold-encoding_at-requires : goal.hold-encoding_at-requires
hold-encoding_at-requires g c = c.requires _ (sure_got (marks_sure _ _) (got c.in-Ok-marks.is c.read_marks-marks.ensures))

pub returns-in_default-encoding : goal.returns-in_default-encoding
returns-in_default-encoding g c =
    field_encoding _ _ (got c.in-Ok.is c.read_bare-bare.ensures)
    (got c.in-Ok-marks.is (rw (c.place.ensures, c.hold-marks_at.ensures) at c.read_marks-marks.ensures))
    c.in_default-encoding.is (rw c.hold-encoding_at.ensures at c.read_encoding-encoding.ensures)

pub hold-limit_at-requires : goal.hold-limit_at-requires
hold-limit_at-requires g c = c.requires _ (sure_got (encoding_sure _ _) (got c.in-Ok-encoding.is c.read_encoding-encoding.ensures))

pub returns-in_default-limit : goal.returns-in_default-limit
returns-in_default-limit g c =
    field_limit _ _ (got c.in-Ok.is c.read_bare-bare.ensures)
    (got c.in-Ok-marks.is (rw (c.place.ensures, c.hold-marks_at.ensures) at c.read_marks-marks.ensures))
    (got c.in-Ok-encoding.is (rw c.hold-encoding_at.ensures at c.read_encoding-encoding.ensures))
    c.in_default-limit.is (rw c.hold-limit_at.ensures at c.read_limit-limit.ensures)

pub hold-type_at-requires : goal.hold-type_at-requires
hold-type_at-requires g c = c.requires _ (sure_got (limit_sure _ _) (got c.in-Ok-limit.is c.read_limit-limit.ensures))

pub read_type_at-requires : goal.read_type_at-requires
read_type_at-requires g c =
    rw (c.place-2.ensures, c.hold-type_at.ensures) (sure_got (limit_sure _ _) (got c.in-Ok-limit.is c.read_limit-limit.ensures))

pub returns : goal.returns
returns g c =
    field_type _ _ (got c.in-Ok.is c.read_bare-bare.ensures)
    (got c.in-Ok-marks.is (rw (c.place.ensures, c.hold-marks_at.ensures) at c.read_marks-marks.ensures))
    (got c.in-Ok-encoding.is (rw c.hold-encoding_at.ensures at c.read_encoding-encoding.ensures))
    (got c.in-Ok-limit.is (rw c.hold-limit_at.ensures at c.read_limit-limit.ensures))
    (rw (c.place-2.ensures, c.hold-type_at.ensures) at c.read_type_at.ensures)
