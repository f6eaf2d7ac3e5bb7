-- Lists in another order, and what holds of every two elements of a list.
-- Assumes nothing.
use Rattle.std.specs.Prelude.{◌≡◌, List, [], ◌∷◌}
use Rattle.maps.specs.Lists.{All}

-- the second list is the first with a put in, anywhere
pub data Put {A : Type 0} (a : A) : List A → List A → Type 0 where
  here : {l : List A} → Put a l (a ∷ l)
  later : {b : A} {l m : List A} → Put a l m → Put a (b ∷ l) (b ∷ m)

-- Each element of the first list became, by R, one of the second, and these stand in any order. With equality for R they are the same
-- elements in another order.
pub data Reordered {A B : Type 0} (R : A → B → Type 0) : List A → List B → Type 0 where
  nothing : Reordered R [] []
  each : {a : A} {b : B} {l : List A} {m n : List B} → R a b → Reordered R l m → Put b m n → Reordered R (a ∷ l) n

-- P holds of every two elements: of each and all that follow it
unfoldable pub EachTwo : {A : Type 0} → (A → A → Type 0) → List A → Type 0
EachTwo P [] = Unit {0}
EachTwo P (a ∷ l) = All (P a) l × EachTwo P l

-- no two elements have one key
unfoldable pub Once : {K E : Type 0} → (E → K) → List E → Type 0
Once key l = EachTwo (λ e f. key e ≡ key f → ⊥) l
