-- For the walk: code that meets the entries of a map by rising key, and finds each by a search in the list that the map is made of. What is
-- reported does not rest on these definitions: contracts of searches cite them, and laws tie them to `survivors`, `lookup` and `between`.
-- Assumes nothing.
use Rattle.std.specs.Prelude.{◌≡◌, Bool, true, false, cond, not, ◌&&◌, ◌||◌, List, [], ◌∷◌, Option, None, Some}
use Rattle.std.specs.Option.{is_some, option_or}
use Rattle.maps.specs.Lists.{pass, every, All}
use Rattle.maps.specs.Orders.{same}
use Rattle.maps.specs.Keyed.{lookup}
use Rattle.maps.specs.Compare.{between}

-- whether k is past a bound: none is before all keys, some a is just after a
unfoldable pub past : {K : Type 0} → (K → K → Bool) → Option K → K → Bool
past lt None k = true
past lt (Some a) k = lt a k

module _ {K E : Type 0} (key : E → K) (lt : K → K → Bool) where
  -- each key is before all that follow it
  unfoldable pub Rising : List E → Type 0
  Rising [] = Unit {0}
  Rising (e ∷ m) = All (λ f. lt (key e) (key f) ≡ true) m × Rising m

  -- what is left of a map past a bound
  unfoldable pub above : Option K → List E → List E
  above b [] = []
  above b (e ∷ m) = cond (past lt b (key e)) (e ∷ m) (above b m)

  -- the first entry of a map past a bound
  unfoldable pub following : Option K → List E → Option E
  following b [] = None
  following b (e ∷ m) = cond (past lt b (key e)) (Some e) (following b m)

  -- what a walk has yet to give past a bound
  unfoldable pub rest : {C : Type 0} → (Option E → Option E → List C) → List E → List E → Option K → List C
  rest g m n b = between key lt g (above b m) n

  -- whether e takes the place of the best entry so far, if any: that one is not before it, and it is past a bound
  unfoldable pub nearer : Option K → Option E → E → Bool
  nearer b None e = past lt b (key e)
  nearer b (Some f) e = not (lt (key f) (key e)) && past lt b (key e)

  -- the best entry after one more: of one key the later
  unfoldable pub better : Option K → Option E → E → Option E
  better b best e = cond (nearer b best e) (Some e) best

  -- the best entry of a list past a bound, in one pass from the front that starts with the best so far
  unfoldable pub least : Option K → Option E → List E → Option E
  least b best l = pass (better b) best l

  -- whether an entry is listed under k
  unfoldable pub has : K → List E → Bool
  has k [] = false
  has k (e ∷ l) = same lt k (key e) || has k l

  -- whether a map has each key of a list
  unfoldable pub covers : List E → List E → Bool
  covers n l = every (λ e. is_some (lookup key lt (key e) n)) l

  -- what was found last under k, after one entry more
  unfoldable pub seen : K → Option E → E → Option E
  seen k o e = cond (same lt k (key e)) (Some e) o

  -- the same after the entries of a list, in one pass from the front
  unfoldable pub last_seen : K → Option E → List E → Option E
  last_seen k o l = pass (seen k) o l

  -- what a search from the end finds first
  unfoldable pub latest : K → List E → Option E
  latest k [] = None
  latest k (e ∷ l) = option_or (latest k l) (seen k None e)
