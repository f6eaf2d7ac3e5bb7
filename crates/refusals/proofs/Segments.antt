-- The namespace: each segment is a name, or the first that is none runs past the end or has a byte that is not allowed. Assumes nothing.
use mathlib.Core.Path.{◌≡◌, refl, ap}
use mathlib.Core.Bool.{Bool, true, false, ◌&&◌}
use mathlib.Core.List.{List, ◌∷◌}
use Prim.Native.Nat.{ℕ, zero, suc, ◌+◌, ◌≤◌, ◌<◌}
use native.Mathlib.Omega.{arith}
use native.Mathlib.Decide.{dec_lt}
use borrow.Author.Tests.{ltb-false, leb-true, leb-false}
use lib.ListN.{length, get_or}
use lib.Seq.{drop-cons}
use Rattle.image.specs.Schema.{Name}
use Rattle.image.specs.Parse.{part, byte_at, many}
use Rattle.image.specs.Names.{name_byte, name_bytes, name_at, names_at}
use Rattle.image.specs.Image.{segment_count}
use Rattle.refusals.specs.Refusals.{segment_at, Segment}
use Rattle.maps.proofs.Tests.{no_both, both}
use Rattle.refusals.proofs.Told.{Told, told_ok, told_no, told_bind, told_pick, told_then}

-- the bytes of a part are allowed exactly if each byte is
part_next : (from count : ℕ) (s : List ℕ) → from < length s → part from (suc count) s ≡ get_or s from 0 ∷ part (suc from) count s
unfolding part
part_next from count s h = rw (drop-cons s from 0 h)

bytes_allowed : (count from : ℕ) (s : List ℕ) → from + count ≤ length s → name_bytes (part from count s) ≡ true
    → (k : ℕ) → from ≤ k → k < from + count → name_byte (get_or s k 0) ≡ true
unfolding name_bytes
bytes_allowed zero from s l e k low high = absurd (omega arith)
bytes_allowed (suc count) from s l e k low high =
    let b = both _ _ (rw (part_next from count s (omega arith)) at e) in
    go (dec_lt from k) b.0 (bytes_allowed count (suc from) s (omega arith) b.1 k)
  where
    go : Dec (from < k) → name_byte (get_or s from 0) ≡ true → (suc from ≤ k → k < suc from + count → name_byte (get_or s k 0) ≡ true)
        → name_byte (get_or s k 0) ≡ true
    go (yes h) b later = later h (omega arith)
    go (no h) b later = let e : k ≡ from = omega arith in rw e b

-- a byte of a part that is not allowed
record Bad (from count : ℕ) (s : List ℕ) : Type 0 where
  pub place : ℕ
  pub low : from ≤ place
  pub high : place < from + count
  pub is : name_byte (get_or s place 0) ≡ false

bytes_bad : (count from : ℕ) (s : List ℕ) → from + count ≤ length s → name_bytes (part from count s) ≡ false → Bad from count s
unfolding name_bytes part
bytes_bad zero from s l e = no_both refl e
bytes_bad (suc count) from s l e =
    go (name_byte (get_or s from 0)) refl (bytes_bad count (suc from) s (omega arith)) (rw (part_next from count s (omega arith)) at e)
  where
    go : (b : Bool) → name_byte (get_or s from 0) ≡ b → (name_bytes (part (suc from) count s) ≡ false → Bad (suc from) count s)
        → b && name_bytes (part (suc from) count s) ≡ false → Bad from (suc count) s
    go true h later e = let r = later e in record { place = r.place; low = omega arith; high = omega arith; is = r.is }
    go false h later e = record { place = from; low = omega arith; high = omega arith; is = h }

-- what is wrong with the i-th segment, by its number
pub data Wrong (s : List ℕ) (i k : ℕ) : Type 0 where
  past : k ≡ 2 → length s < segment_at s (suc i) → Wrong s i k
  bad : k ≡ 7 → segment_at s (suc i) ≤ length s → ¬ Segment s i → Wrong s i k

segment_told : (s : List ℕ) (i : ℕ) → Told (λ x n. Segment s i × (n ≡ segment_at s (suc i))) (Wrong s i) (name_at 2 s (segment_at s i))
unfolding name_at byte_at segment_at
segment_told s i =
    told_bind {P = λ b n. (b ≡ get_or s at 0) × (n ≡ at + 1)} _
    (told_pick _ (λ h. told_ok (refl, refl)) (λ h. told_no (let l : length s ≤ at = ltb-false _ _ h in past refl (omega arith))))
    (λ b n h. rw (h.0, h.1)
    (told_pick _
    (λ g. told_pick _
    (λ a. told_ok (right (leb-true _ _ g) a, refl))
    (λ a. told_no (let l = leb-true _ _ g in bad refl l (λ t. wrong t (bytes_bad (get_or s at 0) (at + 1) s l a)))))
    (λ g. told_no (past refl (leb-false _ _ g)))))
  where
    at : ℕ
    at = segment_at s i

    right : at + 1 + get_or s at 0 ≤ length s → name_bytes (part (at + 1) (get_or s at 0) s) ≡ true → Segment s i
    right l a = record { inside = l; allowed = λ k low high. bytes_allowed (get_or s at 0) (at + 1) s l a k (omega arith) high }

    wrong : Segment s i → Bad (at + 1) (get_or s at 0) s → ⊥
    wrong t r = no_both (t.allowed r.place (let l = r.low in omega arith) r.high) r.is

-- the first segment that is no name
pub record Fault (s : List ℕ) (k : ℕ) : Type 0 where
  pub place : ℕ
  pub inside : place < segment_count s
  pub before : (j : ℕ) → j < place → Segment s j
  pub wrong : Wrong s place k

-- each segment is a name, and n is where the last ends
abbrev pub Named : List ℕ → List Name → ℕ → Type 0
Named s xs n = ((j : ℕ) → j < segment_count s → Segment s j) × (n ≡ segment_at s (segment_count s))

pub segments_told : (s : List ℕ) (count i : ℕ) → i + count ≡ segment_count s → ((j : ℕ) → j < i → Segment s j)
    → Told (Named s) (Fault s) (names_at 2 count s (segment_at s i))
unfolding names_at many
segments_told s zero i e before =
    let z : i ≡ segment_count s = omega arith in
    told_ok ((λ j h. before j (omega arith)), ap (segment_at s) z)
segments_told s (suc count) i e before =
    told_bind _ (told_then (segment_told s i) (λ x n h. h) (λ k w. record { place = i; inside = omega arith; before = before; wrong = w }))
    (λ x n h. told_bind _ (rw h.1 (segments_told s count (suc i) (omega arith) (more h.0))) (λ xs m g. told_ok g))
  where
    more : Segment s i → (j : ℕ) → j < suc i → Segment s j
    more t j h = go (dec_lt j i)
      where
        go : Dec (j < i) → Segment s j
        go (yes l) = before j l
        go (no l) = let z : j ≡ i = omega arith in rw z t

-- where each segment is a name there is no fault; where a segment runs past the end and those before it are names, the fault is 2
pub fault_none : (s : List ℕ) {k : ℕ} → ((j : ℕ) → j < segment_count s → Segment s j) → Fault s k → ⊥
fault_none s {k} h f = go f.wrong (h f.place f.inside)
  where
    go : Wrong s f.place k → Segment s f.place → ⊥
    go (past e l) t = let i = t.inside in omega arith
    go (bad e l n) t = n t

pub fault_past : (s : List ℕ) {k : ℕ} (i : ℕ) → ((j : ℕ) → j < i → Segment s j) → length s < segment_at s (suc i) → Fault s k → k ≡ 2
fault_past s {k} i before past_end f = go f.wrong
  where
    at : ℕ
    at = f.place

    go : Wrong s at k → k ≡ 2
    go (past e l) = e
    go (bad e l n) = absurd (place (dec_lt at i) (dec_lt i at))
      where
        place : Dec (at < i) → Dec (i < at) → ⊥
        place (yes h) r = n (before at h)
        place (no h) (yes r) = let t = (f.before i r).inside in omega arith
        place (no h) (no r) =
            let z : at ≡ i = omega arith in
            let m : segment_at s (suc i) ≤ length s = rw z at l in
            omega arith
