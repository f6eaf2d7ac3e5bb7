use Rattle.image.proofs.Laws.Sure.{sure_at, name_sure}
use Rattle.reader.proofs.bodies.read_newtype.Goals as goal

pub read_type_at-requires : goal.read_type_at-requires
read_type_at-requires c = (sure_at (name_sure _ _ _) c.in-Ok.is c.read_name-name.ensures).2.inside
