-- A pass over a list from the front; the largest, the sum and the number over a list; what all its elements pass or have, or one of them.
-- Assumes nothing.
use Rattle.std.specs.Prelude.{Bool, true, false, cond, ◌&&◌, ◌||◌, List, [], ◌∷◌, ℕ, eqb, ◌+◌, max}

-- each element in turn is taken into the state
unfoldable pub pass : {S A : Type 0} → (S → A → S) → S → List A → S
pass step s [] = s
pass step s (a ∷ l) = pass step (step s a) l

-- the largest of w, 0 of the empty list
unfoldable pub largest : {A : Type 0} → (A → ℕ) → List A → ℕ
largest w [] = 0
largest w (a ∷ l) = max (w a) (largest w l)

-- the sum of w
unfoldable pub total : {A : Type 0} → (A → ℕ) → List A → ℕ
total w [] = 0
total w (a ∷ l) = w a + total w l

-- how many pass a test
unfoldable pub count : {A : Type 0} → (A → Bool) → List A → ℕ
count p l = total (λ a. cond (p a) 1 0) l

-- whether every element passes a test
unfoldable pub every : {A : Type 0} → (A → Bool) → List A → Bool
every p [] = true
every p (a ∷ l) = p a && every p l

-- whether one of the elements passes a test
unfoldable pub any : {A : Type 0} → (A → Bool) → List A → Bool
any p [] = false
any p (a ∷ l) = p a || any p l

-- whether a number is one of those listed
unfoldable pub among : ℕ → List ℕ → Bool
among n l = any (eqb n) l

-- every element has P
unfoldable pub All : {A : Type 0} → (A → Type 0) → List A → Type 0
All P [] = Unit {0}
All P (a ∷ l) = P a × All P l
