-- Lists of entries with keys. A map is such a list with each key once, in the order of the keys.
-- Assumes nothing.
use Rattle.std.specs.Prelude.{Bool, cond, List, [], ◌∷◌, Option, None, Some}
use Rattle.maps.specs.Lists.{pass}
use Rattle.maps.specs.Orders.{same}

module _ {K E : Type 0} (key : E → K) (lt : K → K → Bool) where
  -- one entry more, in its place; of one key the later replaces the earlier
  unfoldable pub insert : List E → E → List E
  insert [] e = e ∷ []
  insert (f ∷ m) e = cond (lt (key e) (key f)) (e ∷ f ∷ m) (cond (lt (key f) (key e)) (f ∷ insert m e) (e ∷ m))

  -- Of the entries listed under one key the last stands, and what stands is in the order of the keys: the entries are inserted one after
  -- the other.
  unfoldable pub survivors : List E → List E
  survivors l = pass insert [] l

  -- the entry that a map has under a key
  unfoldable pub lookup : K → List E → Option E
  lookup k [] = None
  lookup k (e ∷ m) = cond (same lt k (key e)) (Some e) (lookup k m)
