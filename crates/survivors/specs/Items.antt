-- What the searches among items answer, by their places in any bytes. Assumes nothing.
use Rattle.std.specs.Prelude.{◌≡◌, Bool, List, ℕ, ltb, Option, IfSome}
use Rattle.std.specs.Option.{option_map}
use Rattle.maps.specs.Keyed.{survivors, lookup}
use Rattle.maps.specs.Walk.{following, nearer}
use Rattle.parts.specs.Promise.{ItemHere, places_from, ordinal_in}
use Rattle.members.specs.declared.places.Places.{Places}

-- the places of the items that stand, by rising ordinal
unfoldable pub place_map : Places → List ℕ
place_map x = survivors (ordinal_in x.bytes.now) ltb (places_from x.shape x.bytes.now x.run.count x.run.start)

-- whether an item with an ordinal takes the place of the best item so far, if any, by its ordinal
unfoldable pub nearer_ordinal : Option ℕ → Option ℕ → ℕ → Bool
nearer_ordinal b best k = nearer (λ j. j) ltb b best k

-- the place of the item that stands under an ordinal
pub record ItemSurvives (x : Places) (k : ℕ) (r : Option ℕ) : Type 0 where
  pub place : r ≡ lookup (ordinal_in x.bytes.now) ltb k (place_map x)
  pub here : IfSome r (ItemHere x.shape x.bytes.now)

-- an ordinal, with the place of an item that has it
pub record Placed (x : Places) (b : ℕ × ℕ) : Type 0 where
  pub here : ItemHere x.shape x.bytes.now b.1
  pub ordinal : b.0 ≡ ordinal_in x.bytes.now b.1

-- the next ordinal under which an item stands, with its place
pub record ItemFollows (x : Places) (after : Option ℕ) (r : Option (ℕ × ℕ)) : Type 0 where
  pub place : option_map (λ b. b.1) r ≡ following (ordinal_in x.bytes.now) ltb after (place_map x)
  pub placed : IfSome r (Placed x)
