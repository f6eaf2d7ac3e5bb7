-- Text that stands in a buffer. Assumes nothing.
use Rattle.std.specs.Prelude.{List, ◌++◌, ℕ, ◌+◌, length, take, drop}

-- d with xs in place of what stands from `at` on
unfoldable pub put : List ℕ → ℕ → List ℕ → List ℕ
put d at xs = take at d ++ (xs ++ drop (at + length xs) d)
