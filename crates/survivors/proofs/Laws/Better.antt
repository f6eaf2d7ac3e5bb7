-- Whether one more entry takes the place of the best so far, by the tests that decide it, and which is the best then. Assumes nothing.
use mathlib.Core.Path.{◌≡◌, refl}
use mathlib.Core.Bool.{Bool, true, false}
use Rattle.std.specs.Prelude.{Option, None, Some}
use Rattle.std.specs.Option.{option_map, is_some}
use Rattle.maps.specs.Walk.{past, nearer, better}

module _ {K E : Type 0} (key : E → K) (lt : K → K → Bool) (b : Option K) (best : Option E) (e : E) where
  -- t: it is past the bound
  module _ {t : Bool} (p : t ≡ past lt b (key e)) where
    pub nearer_first : best ≡ None → t ≡ nearer key lt b best e
    unfolding nearer
    nearer_first f = rw f p

    pub nearer_past : {a : E} → best ≡ Some a → lt (key a) (key e) ≡ false → t ≡ nearer key lt b best e
    unfolding nearer
    nearer_past f w = rw (f, w) p

  pub nearer_before : {a : E} → best ≡ Some a → lt (key a) (key e) ≡ true → false ≡ nearer key lt b best e
  unfolding nearer
  nearer_before f w = rw (f, w)

  module _ {t : Bool} (p : t ≡ nearer key lt b best e) where
    pub better_taken : t ≡ true → Some e ≡ better key lt b best e
    unfolding better
    better_taken q = rw (← p, q)

    pub better_left : t ≡ false → best ≡ better key lt b best e
    unfolding better
    better_left q = rw (← p, q)

-- a value is there if what it is mapped to is
pub some_map : {A B : Type 0} (f : A → B) (o : Option A) → is_some o ≡ is_some (option_map f o)
some_map f None = refl
some_map f (Some a) = refl
