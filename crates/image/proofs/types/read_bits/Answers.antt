use Rattle.image.specs.Types.{after_tag}
use Rattle.image.proofs.Laws.Answers.{stop}
use Rattle.image.proofs.Laws.Numbers.{byte_there}
use Rattle.image.proofs.Laws.Types.{bits_as}
use Rattle.image.proofs.types.read_bits.Goals as goal

pub returns-in_default : goal.returns-in_default
unfolding after_tag
returns-in_default c = stop _ _ c.in_default.is c.read_byte-step.ensures

pub bounds-s-at : goal.bounds-s-at
bounds-s-at c = (byte_there 8 _ _ c.in-Ok.is c.read_byte-step.ensures).inside

pub returns : goal.returns
returns c = bits_as _ _ (byte_there 8 _ _ c.in-Ok.is c.read_byte-step.ensures) c.read_names.ensures
