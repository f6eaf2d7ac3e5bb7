-- The numbers that a body strikes off: R-10, "a u16 count and that many u32 numbers closing each message, enum, flags, union and union
-- variant". Assumes nothing.
use Rattle.std.specs.Prelude.{List, [], ℕ}
use Rattle.image.specs.Formats.{has_tombstones, stored}
use Rattle.image.specs.Parse.{Parsed, number_at, counted}

-- what stands there in a format that stores them; in another one none do
unfoldable pub tombstones_at : ℕ → List ℕ → ℕ → Parsed (List ℕ)
tombstones_at format s at = stored (has_tombstones format) [] (counted (number_at 4)) s at
