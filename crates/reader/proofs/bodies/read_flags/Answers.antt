use Rattle.reader.proofs.Laws.Bodies.{flags_width}
use Rattle.reader.proofs.bodies.read_flags.Goals as goal

pub returns-in_default-width : goal.returns-in_default-width
returns-in_default-width c = flags_width _ _ _ c.in-Ok.is c.read_name-name.ensures c.in_default-width.is c.read_wire_bytes-width.ensures
