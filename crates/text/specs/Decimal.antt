-- A number in decimal. Assumes nothing.
use Rattle.std.specs.Prelude.{cond, List, [], ◌∷◌, ◌++◌, ℕ, zero, suc, ◌+◌, ◌/◌, ◌%◌, ltb}

-- a number in decimal, of at most so many digits
unfoldable pub digits : ℕ → ℕ → List ℕ
digits zero n = []
digits (suc d) n = cond (ltb n 10) ((48 + n) ∷ []) (digits d (n / 10) ++ ((48 + n % 10) ∷ []))

-- a u64 has at most 20
unfoldable pub decimal : ℕ → List ℕ
decimal n = digits 20 n
