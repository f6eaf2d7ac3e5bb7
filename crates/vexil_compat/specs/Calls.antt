-- What the calls from C answer, where more than one thing is said of a call: what it returns, and the lent buffer. Assumes nothing.
use Rattle.std.specs.Prelude.{◌≡◌, List, [], ◌∷◌, ◌++◌, ℕ, zero, suc, length}
use Rattle.rules.specs.Answer.{Policy, returned_by, leaves_by}

-- f 0, f 1 and so on, so many
unfoldable pub values_of : (ℕ → ℕ) → ℕ → List ℕ
values_of f zero = []
values_of f (suc n) = values_of f n ++ f n ∷ []

-- a values call with the buffer d: the number, and for each place what the verdict call answers to its index
abbrev pub Valued : (ℕ → ℕ) → List ℕ → ℕ → List ℕ → Type 0
Valued answer d r d' = (r ≡ answer 0) × (d' ≡ values_of answer (length d))

-- a report call with the buffer d
abbrev pub Reported : Policy → List ℕ → List ℕ → List ℕ → ℕ → List ℕ → Type 0
Reported p old new d r d' = (r ≡ returned_by p old new d) × (d' ≡ leaves_by p old new d)
