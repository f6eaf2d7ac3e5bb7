use Rattle.image.specs.Parse.{bind}
use Rattle.image.specs.Reads.{read_of}
use Rattle.reader.proofs.bodies.close.Goals as goal

pub returns-in_default : goal.returns-in_default
unfolding read_of bind
returns-in_default c = rw c.in_default.is

pub returns : goal.returns
unfolding read_of bind
returns c = rw c.in-Ok.is c.read_tombstones.ensures
