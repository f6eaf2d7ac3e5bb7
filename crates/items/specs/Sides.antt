-- The old side and the new. Assumes nothing.
use Rattle.items.specs.declared.Side.{Side}
use Rattle.items.specs.declared.Side.TheVariants.{Old, New}

-- what stands on a side
abbrev pub on : {A : Type 0} → Side → A → A → A
on Old old new = old
on New old new = new

-- what stands on the other
abbrev pub off : {A : Type 0} → Side → A → A → A
off Old old new = new
off New old new = old
