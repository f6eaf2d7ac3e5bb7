-- Words in one text: after each word stands a space. Assumes nothing.
use Rattle.std.specs.Prelude.{cond, List, [], ◌∷◌, ℕ, zero, suc, eqb}

-- the word with a number; past the last it is empty
unfoldable pub word_in : List ℕ → ℕ → List ℕ
word_in [] n = []
word_in (b ∷ words) zero = cond (eqb b 32) [] (b ∷ word_in words zero)
word_in (b ∷ words) (suc n) = word_in words (cond (eqb b 32) n (suc n))
