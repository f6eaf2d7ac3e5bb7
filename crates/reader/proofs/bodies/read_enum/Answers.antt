use Rattle.reader.proofs.Laws.Bodies.{enum_marks, enum_width}
use Rattle.reader.proofs.bodies.read_enum.Goals as goal

pub returns-in_default-marks : goal.returns-in_default-marks
returns-in_default-marks c = enum_marks _ _ _ c.in-Ok.is c.read_name-name.ensures c.in_default-marks.is c.read_marks-marks.ensures

pub returns-in_default-width : goal.returns-in_default-width
returns-in_default-width c =
    enum_width _ _ _ c.in-Ok.is c.read_name-name.ensures c.in-Ok-marks.is c.read_marks-marks.ensures c.in_default-width.is c.read_wire_bits-width.ensures
