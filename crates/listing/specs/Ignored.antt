-- R-6 and R-10, of the listing: two images that hold the same but for format, widths and tombstones get the same answers from it. Assumes
-- nothing.
use Rattle.std.specs.Prelude.{◌≡◌, List, ℕ}
use Rattle.rules.specs.Ignored.{SameStripped}
use Rattle.listing.specs.Listing.{outcome}

-- from both calls, with a buffer of so many bytes: their answers are made of the outcome
pub record ListingIgnores : Type 0 where
  pub same : (a b : List ℕ) → SameStripped a b → (room : ℕ) → outcome a room ≡ outcome b room
