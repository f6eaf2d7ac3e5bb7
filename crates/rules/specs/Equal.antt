-- Tests of equality: of names, of lists, of what may be absent; and when a test is sound. Assumes nothing.
use Rattle.std.specs.Prelude.{◌≡◌, Bool, true, false, not, ◌&&◌, List, [], ◌∷◌, eqb, Option, None, Some}
use Rattle.image.specs.Schema.{Name}

unfoldable pub same_list : {A : Type 0} → (A → A → Bool) → List A → List A → Bool
same_list same [] [] = true
same_list same [] (y ∷ ys) = false
same_list same (x ∷ xs) [] = false
same_list same (x ∷ xs) (y ∷ ys) = same x y && same_list same xs ys

unfoldable pub same_option : {A : Type 0} → (A → A → Bool) → Option A → Option A → Bool
same_option same None None = true
same_option same None (Some b) = false
same_option same (Some a) None = false
same_option same (Some a) (Some b) = same a b

unfoldable pub same_name : Name → Name → Bool
same_name a b = same_list eqb a b

unfoldable pub same_names : List Name → List Name → Bool
same_names a b = same_list same_name a b

-- A test is sound if it says yes only of equal things, and of a thing and itself unless the thing is odd.
pub record Sound {A : Type 0} (same : A → A → Bool) (odd : A → Bool) : Type 0 where
  pub equal : (a b : A) → same a b ≡ true → a ≡ b
  pub self : (a : A) → same a a ≡ not (odd a)

-- nothing is odd
abbrev pub never : {A : Type 0} → A → Bool
never a = false
