-- Orders of keys: what makes an order strict, and the byte order of names. Numbers are ordered by `ltb`.
-- Assumes nothing.
use Rattle.std.specs.Prelude.{◌≡◌, Bool, true, false, cond, not, ◌&&◌, List, [], ◌∷◌, ℕ, ltb}
use Rattle.std.specs.declared.cmp.Ordering.{Ordering}
use Rattle.std.specs.declared.cmp.Ordering.TheVariants.{Less, Equal, Greater}
use Rattle.std.specs.Ordering.{is_lt}

-- no key is before itself, and of two different keys one is before the other
pub record Strict (K : Type 0) (lt : K → K → Bool) : Type 0 where
  pub irrefl : (a : K) → lt a a ≡ false
  pub trans : (a b c : K) → lt a b ≡ true → lt b c ≡ true → lt a c ≡ true
  pub total : (a b : K) → lt a b ≡ false → lt b a ≡ false → a ≡ b

-- two keys are the same if neither is before the other
unfoldable pub same : {K : Type 0} → (K → K → Bool) → K → K → Bool
same lt a b = not (lt a b) && not (lt b a)

-- how two names stand: by their first different byte, a name before its extensions
unfoldable pub order_of : List ℕ → List ℕ → Ordering
order_of [] [] = Equal
order_of [] (y ∷ ys) = Less
order_of (x ∷ xs) [] = Greater
order_of (x ∷ xs) (y ∷ ys) = cond (ltb x y) Less (cond (ltb y x) Greater (order_of xs ys))

unfoldable pub before : List ℕ → List ℕ → Bool
before a b = is_lt (order_of a b)
