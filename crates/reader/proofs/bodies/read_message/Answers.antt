use Rattle.reader.proofs.Laws.Bodies.{message_marks}
use Rattle.reader.proofs.bodies.read_message.Goals as goal

pub returns-in_default-marks : goal.returns-in_default-marks
returns-in_default-marks c = message_marks _ _ c.in-Ok.is c.read_name-name.ensures c.in_default-marks.is c.read_marks-marks.ensures
