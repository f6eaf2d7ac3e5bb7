-- Document 01, "From Rust shapes" and "Turned back", for the listing of one image: when each number is given, with which side, what a
-- refusal is, and when the length is 0. When an image alone is refused is said by the crates image and refusals. Assumes nothing.
use Rattle.std.specs.Prelude.{◌≡◌, ◌↔◌, List, ℕ, ◌≤◌, ◌<◌, length, get_or, None}
use Rattle.image.specs.Schema.{Schema}
use Rattle.image.specs.Parse.{ok, no}
use Rattle.image.specs.Image.{read_image}
use Rattle.rules.specs.Outcome.{text_length, written}
use Rattle.rules.specs.Refusals.{Refusal}
use Rattle.listing.specs.Listing.{listing, outcome, listing_verdict}

-- the image is accepted, and P holds of what it holds
pub record Holds (image : List ℕ) (P : Schema → Type 0) : Type 0 where
  pub schema : Schema
  pub end : ℕ
  pub read : read_image image ≡ ok schema end
  pub holds : P schema

-- the image is refused, by this number
abbrev pub RefusedBy : List ℕ → ℕ → Type 0
RefusedBy image k = read_image image ≡ no k

-- of both calls, with a buffer of so many bytes
pub record ListingRefusals (image : List ℕ) (room : ℕ) : Type 0 where
  -- "for one accepted image", whose listing is not longer than the buffer: number 0
  pub accepted : (listing_verdict image room 0 ≡ 0) ↔ Holds image (λ x. length (listing x) ≤ room)
  -- 12: "longer than its buffer"
  pub full : (listing_verdict image room 0 ≡ 12) ↔ Holds image (λ x. room < length (listing x))
  -- 1 to 10: the image's own number; "It refuses by 1 to 10 and 12", and by no other
  pub refused : (k : ℕ) → (((1 ≤ k) × (k ≤ 10)) × (listing_verdict image room 0 ≡ k)) ↔ RefusedBy image k
  pub only : (listing_verdict image room 0 ≡ 12 → ⊥) → listing_verdict image room 0 ≤ 10
  -- "number 0 and side none"; a refusal "always with side old"
  pub no_side : listing_verdict image room 0 ≡ 0 → listing_verdict image room 1 ≡ 0
  pub old_side : (listing_verdict image room 0 ≡ 0 → ⊥) → listing_verdict image room 1 ≡ 1
  -- a refusal is one as of two images: "bump Major, result Breaking, all counts and length 0"; an answer has a length and no more
  pub refusal : (listing_verdict image room 0 ≡ 0 → ⊥) → Refusal (listing_verdict image room)
  pub rest : listing_verdict image room 0 ≡ 0 → (n : ℕ) → (n ≡ 4 → ⊥) → listing_verdict image room n ≡ 0
  -- of a refusal the listing call returns 0, and leaves "an untouched buffer"
  pub nothing : (listing_verdict image room 0 ≡ 0 → ⊥) → text_length (outcome image room) ≡ 0
  pub untouched : (listing_verdict image room 0 ≡ 0 → ⊥) → (out : List ℕ) → written (outcome image room) out ≡ out
  -- both calls give one length, and "with no such entry the length is 0", which fits any buffer
  pub same : text_length (outcome image room) ≡ listing_verdict image room 4
  pub empty : Holds image (λ x. (id : ℕ) → get_or x.registry id None ≡ None)
      → (listing_verdict image room 0 ≡ 0) × (listing_verdict image room 4 ≡ 0)
