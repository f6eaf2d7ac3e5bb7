-- When an image is listed and when each refusal is given, exactly as specs/Refusals says. Assumes nothing.
use mathlib.Core.Path.{◌≡◌, refl, ◌∙◌}
use mathlib.Core.Bool.{cond}
use Rattle.std.specs.Prelude.{Option, None}
use mathlib.Core.List.{List, [], ◌∷◌}
use Prim.Native.Nat.{ℕ, zero, suc, ◌≤◌, ◌<◌}
use native.Mathlib.Omega.{arith}
use borrow.Author.Tests.{le-leb, lt-leb}
use lib.Dec.{leb}
use lib.ListN.{length, get_or, replicate}
use Rattle.image.specs.Schema.{Decl, Schema}
use Rattle.parts.specs.Promise.{Accepted, schema_of}
use Rattle.parts.proofs.Promise.{accepted_read}
use Rattle.rules.specs.Changes.{kind_count}
use Rattle.rules.specs.Outcome.{Outcome, refused, text_only, selected, select, fit}
use Rattle.parts.specs.Codes.{number, old_side}
use Rattle.rules.proofs.Outcomes.{not_answered, nothing_told, nothing_written, length_selected}
use Rattle.listing.specs.Listing.{entry_text, lines_from, listing, accept, outcome, listing_verdict}
use Rattle.listing.specs.Refusals.{Holds, RefusedBy, ListingRefusals}
use Rattle.listing.proofs.Outcomes.{Case, turned, full, fits, case}

-- entries that are all empty
lines_none : (id : ℕ) (R : List (Option Decl)) → ((j : ℕ) → get_or R j None ≡ None) → lines_from id R ≡ []
unfolding lines_from entry_text
lines_none id [] h = refl
lines_none id (e ∷ R) h = rw (h 0, lines_none (suc id) R (λ j. h (suc j)))

listing_none : (x : Schema) → ((id : ℕ) → get_or x.registry id None ≡ None) → listing x ≡ []
unfolding listing
listing_none x h = lines_none _ x.registry h

-- of what is answered there is a length
zeros : (n k : ℕ) → get_or {A = ℕ} (replicate n 0) k 0 ≡ 0
zeros zero k = refl
zeros (suc n) zero = refl
zeros (suc n) (suc k) = zeros n k

rest_zero : (text : List ℕ) (n : ℕ) → (n ≡ 4 → ⊥) → select (text_only text) n ≡ 0
unfolding select selected
rest_zero text zero h = refl
rest_zero text (suc zero) h = refl
rest_zero text (suc (suc zero)) h = refl
rest_zero text (suc (suc (suc zero))) h = refl
rest_zero text (suc (suc (suc (suc zero)))) h = absurd (h refl)
rest_zero text (suc (suc (suc (suc (suc n))))) h = zeros kind_count n

module _ (s : List ℕ) (room : ℕ) where
  -- ---- what a number says of the image

  holds : {P : Schema → Type 0} → Accepted s → P (schema_of s) → Holds s P
  holds g h = let r = accepted_read s g in record { schema = schema_of s; end = r.0; read = r.1; holds = h }

  zero_only : {o : Outcome} → Case s room o → select o 0 ≡ 0 → Holds s (λ x. length (listing x) ≤ room)
  unfolding select selected
  zero_only (turned l p) z = absurd (omega arith)
  zero_only (full g l) z = absurd (omega arith)
  zero_only (fits g l) z = holds g l

  full_only : {o : Outcome} → Case s room o → select o 0 ≡ 12 → Holds s (λ x. room < length (listing x))
  unfolding select selected
  full_only (turned l p) z = absurd (omega arith)
  full_only (full g l) z = holds g l
  full_only (fits g l) z = absurd (omega arith)

  number_only : (k : ℕ) {o : Outcome} → Case s room o → ((1 ≤ k) × (k ≤ 10)) × (select o 0 ≡ k) → RefusedBy s k
  unfolding select selected
  number_only k (turned l p) z = rw z.1 at p
  number_only k (full g l) z = absurd (omega arith)
  number_only k (fits g l) z = absurd (omega arith)

  only_these : {o : Outcome} → Case s room o → (select o 0 ≡ 12 → ⊥) → select o 0 ≤ 10
  unfolding select selected
  only_these (turned l p) n = omega arith
  only_these (full g l) n = absurd (n refl)
  only_these (fits g l) n = omega arith

  no_side_lem : {o : Outcome} → Case s room o → select o 0 ≡ 0 → select o 1 ≡ 0
  unfolding select selected
  no_side_lem (turned l p) z = absurd (omega arith)
  no_side_lem (full g l) z = absurd (omega arith)
  no_side_lem (fits g l) z = refl

  old_side_lem : {o : Outcome} → Case s room o → (select o 0 ≡ 0 → ⊥) → select o 1 ≡ 1
  unfolding select selected
  old_side_lem (turned l p) n = refl
  old_side_lem (full g l) n = refl
  old_side_lem (fits g l) n = absurd (n refl)

  rest_none : {o : Outcome} → Case s room o → select o 0 ≡ 0 → (n : ℕ) → (n ≡ 4 → ⊥) → select o n ≡ 0
  unfolding select selected
  rest_none (turned l p) z n h = absurd (omega arith)
  rest_none (full g l) z n h = absurd (omega arith)
  rest_none (fits g l) z n h = rest_zero (listing (schema_of s)) n h

  -- ---- the number of an image

  number_given : (k : ℕ) {o : Outcome} → Case s room o → RefusedBy s k → ((1 ≤ k) × (k ≤ 10)) × (select o 0 ≡ k)
  unfolding select selected
  number_given k (turned {k = j} l p) e = let q : j ≡ k = cc in (omega arith, q)
  number_given k (full g l) e = absurd (let r = (accepted_read s g).1 in let z : ◌≡◌ {A = ℕ} 0 1 = cc in omega arith)
  number_given k (fits g l) e = absurd (let r = (accepted_read s g).1 in let z : ◌≡◌ {A = ℕ} 0 1 = cc in omega arith)

  module _ {P : Schema → Type 0} (a : Holds s P) where
    held_is : outcome s room ≡ cond (leb (length (listing a.schema)) room) (text_only (listing a.schema)) (refused 12 (number old_side))
    unfolding outcome accept fit
    held_is = rw a.read

  zero_given : Holds s (λ x. length (listing x) ≤ room) → select (outcome s room) 0 ≡ 0
  unfolding select selected
  zero_given a = rw (held_is a, le-leb (length (listing a.schema)) room a.holds)

  full_given : Holds s (λ x. room < length (listing x)) → select (outcome s room) 0 ≡ 12
  unfolding select selected
  full_given a = rw (held_is a, lt-leb (length (listing a.schema)) room a.holds)

  empty_given : Holds s (λ x. (id : ℕ) → get_or x.registry id None ≡ None) → outcome s room ≡ text_only []
  empty_given a = held_is a ∙ rw (listing_none a.schema a.holds, le-leb 0 room (omega arith))

pub listing_refusals : (image : List ℕ) (room : ℕ) → ListingRefusals image room
unfolding listing_verdict select selected
listing_refusals s room = record {
  accepted = (zero_only s room (case s room), zero_given s room);
  full = (full_only s room (case s room), full_given s room);
  refused = λ k. (number_only s room k (case s room), number_given s room k (case s room));
  only = only_these s room (case s room);
  no_side = no_side_lem s room (case s room);
  old_side = old_side_lem s room (case s room);
  refusal = not_answered (outcome s room);
  rest = rest_none s room (case s room);
  nothing = nothing_told (outcome s room);
  untouched = nothing_written (outcome s room);
  same = length_selected (outcome s room);
  empty = λ a. (rw (empty_given s room a), rw (empty_given s room a));
}
