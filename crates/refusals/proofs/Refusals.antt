-- Document 01's table: when each of 1 to 5 is given, as equivalences with the statements of specs/Refusals; and that 1 to 10 are the only
-- numbers. Assumes nothing.
use mathlib.Core.Path.{◌≡◌, refl, ap, ◌∙◌}
use mathlib.Core.Bool.{Bool, true, false, ◌&&◌, and-false}
use mathlib.Core.List.{List}
use Prim.Native.Nat.{ℕ, zero, suc, ◌≤◌, ◌<◌}
use native.Mathlib.Omega.{arith}
use native.Mathlib.Decide.{dec_lt}
use borrow.Author.Tests.{leb-true, leb-false, eqb-true, eqb-false, le-leb, lt-leb}
use lib.Dec.{eqb, leb}
use lib.ListN.{length}
use Rattle.image.specs.Schema.{Schema, Name}
use Rattle.image.specs.Parse.{Parsed, ok, no, bind, pick}
use Rattle.image.specs.Names.{names_at}
use Rattle.image.specs.Formats.{known}
use Rattle.image.specs.Image.{format, entry_count, id_count, segment_count, segments_at, head_of, tables_of, laid, read_image}
use Rattle.refusals.specs.Refusals.{Long, Eight, Known, one, two, three, Format, Over, entries, ids, segments, Crowded, Head, segment_at, Segment, ShortHead, head, tables, namespace, body_start, Misplaced, entry, after, Tables, Contents, ExactlyIf}
use Rattle.maps.proofs.Tests.{no_both, both}
use Rattle.refusals.proofs.Told.{Told, told_ok, told_no, Any, told_bind, told_pick, told_then}
use Rattle.refusals.proofs.Bodies.{Body, entries_told}
use Rattle.refusals.proofs.Segments.{Wrong, past, bad, Fault, Named, segments_told, fault_none, fault_past}
use Rattle.refusals.proofs.Places.{Laid, good, wrong, laid_told}

-- what a number says of the bytes; of 6 to 10 nothing but that they are no more
pub Given : List ℕ → ℕ → Type 0
Given s zero = ⊥
Given s (suc zero) = Long s
Given s (suc (suc zero)) = ShortHead s
Given s (suc (suc (suc zero))) = Format s
Given s (suc (suc (suc (suc zero)))) = Crowded s
Given s (suc (suc (suc (suc (suc zero))))) = Contents s
Given s (suc (suc (suc (suc (suc (suc k)))))) = k ≤ 4

given_ten : (s : List ℕ) (k : ℕ) → Given s k → (1 ≤ k) × (k ≤ 10)
unfolding Given
given_ten s zero g = absurd g
given_ten s (suc zero) g = omega arith
given_ten s (suc (suc zero)) g = omega arith
given_ten s (suc (suc (suc zero))) g = omega arith
given_ten s (suc (suc (suc (suc zero)))) g = omega arith
given_ten s (suc (suc (suc (suc (suc zero))))) g = omega arith
given_ten s (suc (suc (suc (suc (suc (suc k)))))) g = omega arith

-- what is said of 6 to 10 holds of each of them
later : (s : List ℕ) (k : ℕ) → Body k → Given s k
unfolding Given
later s zero b = absurd (let l = b.low in omega arith)
later s (suc zero) b = absurd (let l = b.low in omega arith)
later s (suc (suc zero)) b = absurd (let l = b.low in omega arith)
later s (suc (suc (suc zero))) b = absurd (let l = b.low in omega arith)
later s (suc (suc (suc (suc zero)))) b = absurd (let l = b.low in omega arith)
later s (suc (suc (suc (suc (suc zero))))) b = absurd (let l = b.low in omega arith)
later s (suc (suc (suc (suc (suc (suc k)))))) b = let h = b.high in omega arith

-- the head
over_told : (s : List ℕ) → leb (entry_count s) 512 && (leb (id_count s) 512 && leb (segment_count s) 16) ≡ false → Over s
over_told s e = go (leb (entry_count s) 512) (leb (id_count s) 512) refl refl e
  where
    go : (a b : Bool) → leb (entry_count s) 512 ≡ a → leb (id_count s) 512 ≡ b → a && (b && leb (segment_count s) 16) ≡ false → Over s
    go true true p q r = segments (leb-false _ _ r)
    go true false p q r = ids (leb-false _ _ q)
    go false b p q r = entries (leb-false _ _ p)

-- 1, 2 or 3, and nothing else
known_is : (n : ℕ) → known n ≡ true → Known n
unfolding known
known_is n e = go (eqb n 1) (eqb n 2) refl refl
  where
    go : (b c : Bool) → eqb n 1 ≡ b → eqb n 2 ≡ c → Known n
    go true c q r = one (eqb-true _ _ q)
    go false true q r = two (eqb-true _ _ r)
    go false false q r =
        let x : (leb 1 n ≡ true) × (leb n 3 ≡ true) = both _ _ e in
        three (omega (arith, leb-true 1 n x.0, leb-true n 3 x.1, eqb-false n 1 q, eqb-false n 2 r))

is_known : (n : ℕ) → Known n → known n ≡ true
unfolding known
is_known n (one e) = rw e
is_known n (two e) = rw e
is_known n (three e) = rw e

pub head_told : (s : List ℕ) → Told (λ h n. Head s) (Given s) (head_of s)
unfolding head_of Given
head_told s =
    told_pick _
    (λ a. told_pick _
    (λ b. told_pick _
    (λ c. told_pick _
    (λ d. told_ok (let x = both _ _ d in let y = both _ _ x.1 in
    record { eight = eight a b; known = known_is (format s) c; entries = leb-true _ _ x.0; ids = leb-true _ _ y.0; segments = leb-true _ _ y.1 }))
    (λ d. told_no (record { eight = eight a b; known = known_is (format s) c; over = over_told s d })))
    (λ c. told_no (record { eight = eight a b; other = λ k. no_both (is_known (format s) k) c })))
    (λ b. told_no (head (leb-false _ _ b))))
    (λ a. told_no (leb-false _ _ a))
  where
    eight : leb (length s) 32768 ≡ true → leb 8 (length s) ≡ true → Eight s
    eight a b = record { fits = leb-true _ _ a; there = leb-true _ _ b }

tables_told : (s : List ℕ) → Head s → Told (λ is n. (segments_at s ≤ length s) × (n ≡ segments_at s)) (Given s) (tables_of s)
unfolding tables_of Given
tables_told s h = told_pick _ (λ e. told_ok (leb-true _ _ e, refl)) (λ e. told_no (tables h (leb-false _ _ e)))

fault_given : (s : List ℕ) → Head s → (k : ℕ) → Fault s k → Given s k
unfolding Given
fault_given s h k f = go f.wrong
  where
    go : Wrong s f.place k → Given s k
    go (past e l) = rw e (namespace h f.place f.inside (λ j g. f.before j (omega arith)) l)
    go (bad e l n) = rw e (omega arith)

pub names_told : (s : List ℕ) (at : ℕ) → at ≡ segments_at s
    → Told (Named s) (Fault s) (names_at 2 (segment_count s) s at)
unfolding segment_at
names_told s at e = rw e (segments_told s (segment_count s) 0 (omega arith) (λ j h. absurd (omega arith)))

names_inside : (s : List ℕ) (count : ℕ) → segments_at s ≤ length s → ((j : ℕ) → j < count → Segment s j) → segment_at s count ≤ length s
unfolding segment_at
names_inside s zero l h = l
names_inside s (suc count) l h = (h count (omega arith)).inside

-- whether the contents are as they should be, as the reader finds it
abbrev Fits : List ℕ → Bool
Fits s = laid (entry_count s) s 0 (segment_at s (segment_count s))

pub fits_told : (s : List ℕ) → Tables s → Laid s 0 (Fits s)
unfolding body_start
fits_told s t = laid_told s (entry_count s) 0 _ refl (names_inside s (segment_count s) t.inside t.segments) (omega arith)

misplaced_told : {s : List ℕ} {b : Bool} → Laid s 0 b → b ≡ false → Misplaced s
misplaced_told (good h e) f = no_both refl f
misplaced_told (wrong m) f = m

told_misplaced : {s : List ℕ} {b : Bool} → Laid s 0 b → Misplaced s → b ≡ false
told_misplaced (wrong m) n = refl
told_misplaced (good h e) (entry i l f) = absurd (f (h i (omega arith) l))
told_misplaced (good h e) (after l) = absurd (omega arith)

image_told : (s : List ℕ) → Told Any (Given s) (read_image s)
unfolding read_image Given
image_told s =
    told_bind _ (head_told s) (λ f n₁ h.
    told_bind _ (tables_told s h) (λ is n₂ g.
    told_bind _ (told_then (names_told s n₂ g.1) (λ xs n e. e) (fault_given s h)) (λ xs n₃ e.
    told_pick _
    (λ l. told_bind _ (told_then (entries_told f (entry_count s) s 0) (λ es n u. u) (later s)) (λ es n₄ u. told_ok tt))
    (λ l. told_no (contents (record { head = h; inside = g.0; segments = e.0 }) (rw e.1 at l))))))
  where
    contents : Tables s → Fits s ≡ false → Contents s
    contents t f = record { tables = t; misplaced = misplaced_told (fits_told s t) f }

-- the number of a refusal is given for its reason
reason : (s : List ℕ) (k : ℕ) → read_image s ≡ no k → Given s k
reason s k e = go (rw e at (image_told s))
  where
    go : Told {A = Schema} Any (Given s) (no k) → Given s k
    go (told_no g) = g

-- And each reason gives its number. First the head.
from_head : (s : List ℕ) (k : ℕ) → head_of s ≡ no k → read_image s ≡ no k
unfolding read_image bind
from_head s k e = rw e

long_given : (s : List ℕ) → Long s → read_image s ≡ no 1
unfolding head_of pick
long_given s l = from_head s 1 (simp (lt-leb _ _ l))

head_given : (s : List ℕ) → length s < 8 → read_image s ≡ no 2
unfolding head_of pick
head_given s l = from_head s 2 (simp (le-leb (length s) 32768 (omega arith), lt-leb 8 (length s) l))

format_given : (s : List ℕ) → Format s → read_image s ≡ no 3
unfolding head_of pick
format_given s f = from_head s 3 (simp (le-leb _ _ f.eight.fits, le-leb _ _ f.eight.there, unknown (known (format s)) refl))
  where
    unknown : (b : Bool) → known (format s) ≡ b → known (format s) ≡ false
    unknown true q = absurd (f.other (known_is (format s) q))
    unknown false q = q

crowded_given : (s : List ℕ) → Crowded s → read_image s ≡ no 4
unfolding head_of pick
crowded_given s c = from_head s 4 (simp (le-leb _ _ c.eight.fits, le-leb _ _ c.eight.there, is_known (format s) c.known, crowd c.over))
  where
    crowd : Over s → leb (entry_count s) 512 && (leb (id_count s) 512 && leb (segment_count s) 16) ≡ false
    crowd (entries l) = simp (lt-leb _ _ l)
    crowd (ids l) = simp (lt-leb _ _ l, and-false)
    crowd (segments l) = simp (lt-leb _ _ l, and-false)

pub head_passed : (s : List ℕ) → Head s → head_of s ≡ ok (format s) 8
unfolding head_of pick
head_passed s h =
    let eight = h.eight in
    simp (le-leb _ _ eight.fits, le-leb _ _ eight.there, is_known (format s) h.known, le-leb _ _ h.entries, le-leb _ _ h.ids, le-leb _ _ h.segments)

-- then the tables
tables_given : (s : List ℕ) → Head s → length s < segments_at s → read_image s ≡ no 2
unfolding read_image tables_of bind pick
tables_given s h l = simp (head_passed s h, lt-leb _ _ l)

-- then the namespace
from_names : (s : List ℕ) (k : ℕ) → Head s → segments_at s ≤ length s → names_at 2 (segment_count s) s (segments_at s) ≡ no k → read_image s ≡ no k
unfolding read_image tables_of bind pick
from_names s k h l e = simp (head_passed s h, le-leb _ _ l, e)

namespace_given : (s : List ℕ) → Head s → (i : ℕ) → i < segment_count s → ((j : ℕ) → j < i → Segment s j) → length s < segment_at s (suc i)
    → read_image s ≡ no 2
namespace_given s h i inside before l = go (dec_lt (length s) (segments_at s))
  where
    names : {p : Parsed (List Name)} → Told (Named s) (Fault s) p → p ≡ no 2
    names (told_ok q) = absurd (let t = (q.0 i inside).inside in omega arith)
    names (told_no f) = ap no (fault_past s i before l f)

    go : Dec (length s < segments_at s) → read_image s ≡ no 2
    go (Dec.yes g) = tables_given s h g
    go (Dec.no g) = from_names s 2 h (omega arith) (names (names_told s (segments_at s) refl))

short_given : (s : List ℕ) → ShortHead s → read_image s ≡ no 2
short_given s (head l) = head_given s l
short_given s (tables h l) = tables_given s h l
short_given s (namespace h i inside before l) = namespace_given s h i inside (λ j g. before j (omega arith)) l

-- then the contents
contents_given : (s : List ℕ) → Contents s → read_image s ≡ no 5
unfolding read_image tables_of bind pick
contents_given s c = go (names_told s (segments_at s) refl) refl
  where
    from : (names : List Name) → names_at 2 (segment_count s) s (segments_at s) ≡ ok names (segment_at s (segment_count s)) → read_image s ≡ no 5
    from names e =
        let t = c.tables in
        simp (head_passed s t.head, le-leb _ _ t.inside, e, told_misplaced (fits_told s t) c.misplaced)

    go : {p : Parsed (List Name)} → Told (Named s) (Fault s) p → names_at 2 (segment_count s) s (segments_at s) ≡ p → read_image s ≡ no 5
    go (told_ok {a = names} q) e = from names (e ∙ ap (ok names) q.1)
    go (told_no f) e = absurd (fault_none s c.tables.segments f)

-- document 01's table for 1 to 5
pub exactly_if : (s : List ℕ) → ExactlyIf s
unfolding Given
exactly_if s =
    record {
      long = (reason s 1, long_given s);
      short_head = (reason s 2, short_given s);
      format = (reason s 3, format_given s);
      crowded = (reason s 4, crowded_given s);
      contents = (reason s 5, contents_given s);
    }

-- 1 to 10 are the only numbers
pub only_ten : (s : List ℕ) (k : ℕ) → read_image s ≡ no k → (1 ≤ k) × (k ≤ 10)
only_ten s k e = given_ten s k (reason s k e)
