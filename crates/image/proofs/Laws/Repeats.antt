-- So many of a kind, one after the other, for any kind. One loop of the code reads them: what it answers for all of them is what it
-- answers for those that are left, from the next position on. Assumes nothing.
use mathlib.Core.Path.{◌≡◌, refl, sym, ap, ◌∙◌}
use mathlib.Core.List.{List, ◌∷◌}
use Prim.Native.Nat.{ℕ, zero, suc, ◌+◌, ◌-◌, ◌≤◌, ◌<◌}
use native.Mathlib.Omega.{arith}
use native.Mathlib.Numerals.{sub-one}
use lib.ListN.{length, drop}
use Rattle.image.specs.Parse.{Parsed, ok, no, bind, little_endian, number_at, many, counted}
use Rattle.image.specs.Image.{ids_from}
use Rattle.image.specs.Reads.{skip, Read, read_of}
use Rattle.image.proofs.Laws.Answers.{got, next, next_is, stop, skip_ok}
use Rattle.image.proofs.Laws.Numbers.{number_is}
use Rattle.std.specs.Prelude.{Ok, Err, ⊤}
use Rattle.image.specs.declared.refusals.Refusal.{Refusal}

module _ {A : Type 0} (p : List ℕ → ℕ → Parsed A) (c : ℕ) (s : List ℕ) (at : ℕ) where
  pub many_more : {x : Read} {n : ℕ} → 0 < c → x ≡ Ok n → read_of x ≡ skip (p s at) → skip (many p (c - 1) s n) ≡ skip (many p c s at)
  unfolding many
  many_more {n = n} h e q = go c h
    where
      go : (c : ℕ) → 0 < c → skip (many p (c - 1) s n) ≡ skip (many p c s at)
      go zero h = absurd (omega arith)
      go (suc c) h = rw sub-one (next _ (got e q) (λ a. sym (skip_ok (many p c s n) _)))

  pub many_stop : {x : Read} {k : Refusal} → 0 < c → x ≡ Err k → read_of x ≡ skip (p s at) → read_of x ≡ skip (many p c s at)
  unfolding many
  many_stop {x} h e q = go c h
    where
      go : (c : ℕ) → 0 < c → read_of x ≡ skip (many p c s at)
      go zero h = absurd (omega arith)
      go (suc c) h = stop (p s at) _ e q

  pub many_none : c ≡ 0 → read_of (Ok at) ≡ skip (many p c s at)
  unfolding many skip read_of
  many_none e = rw e

-- The invariant of a loop over them: what it answers for those that are left after `done` of `count`, from `here` on, is its answer t.
pub record Rest {A : Type 0} (p : List ℕ → ℕ → Parsed A) (s : List ℕ) (here count done : ℕ) (t : Parsed ⊤) : Type 0 where
  pub is : skip (many p (count - done) s here) ≡ t

pub rest_start : {A : Type 0} (p : List ℕ → ℕ → Parsed A) (s : List ℕ) (at count : ℕ) {t : Parsed ⊤} → skip (many p count s at) ≡ t
    → Rest p s at count 0 t
rest_start p s at count e = record { is = (let z : count - 0 ≡ count = omega arith in rw z e) }

module _ {A : Type 0} {p : List ℕ → ℕ → Parsed A} {s : List ℕ} {here count done : ℕ} {t : Parsed ⊤} (rest : Rest p s here count done t) where
  pub rest_more : {x : Read} {n : ℕ} → done < count → x ≡ Ok n → read_of x ≡ skip (p s here) → Rest p s n count (done + 1) t
  rest_more h e q =
      let z : count - (done + 1) ≡ count - done - 1 = omega arith in
      record { is = rw z (many_more p (count - done) s here (omega arith) e q ∙ rest.is) }

  pub rest_stop : {x : Read} {k : Refusal} → done < count → x ≡ Err k → read_of x ≡ skip (p s here) → read_of x ≡ t
  rest_stop h e q = many_stop p (count - done) s here (omega arith) e q ∙ rest.is

  pub rest_none : count ≤ done → read_of (Ok here) ≡ t
  rest_none h = many_none p (count - done) s here (omega arith) ∙ rest.is

-- a count, and as many
module _ {A : Type 0} (p : List ℕ → ℕ → Parsed A) (s : List ℕ) (at : ℕ) where
  pub counted_stop : {x : Read} {k : Refusal} → x ≡ Err k → read_of x ≡ skip (number_at 2 s at) → read_of x ≡ skip (counted p s at)
  unfolding counted
  counted_stop h e = stop (number_at 2 s at) _ h e

  pub counted_as : {x : Read} {c n : ℕ} → x ≡ Ok n → read_of x ≡ skip (number_at 2 s at) → c ≡ little_endian 2 (drop at s)
      → skip (many p c s n) ≡ skip (counted p s at)
  unfolding counted
  counted_as h e q = next_is _ (number_is 2 s at h e) (rw q refl)

-- what the items are does not matter to the answer
module _ {A : Type 0} (p : List ℕ → ℕ → Parsed A) (s : List ℕ) where
  abbrev p' : List ℕ → ℕ → Parsed ⊤
  p' s at = skip (p s at)

  skip_many : (c at : ℕ) → skip (many p' c s at) ≡ skip (many p c s at)
  unfolding many skip bind
  skip_many zero at = refl
  skip_many (suc c) at = go (p s at) (skip_many c)
    where
      go : (q : Parsed A) → ((n : ℕ) → skip (many p' c s n) ≡ skip (many p c s n))
          → skip (bind (skip q) (λ x n. bind (many p' c s n) (λ xs m. ok (x ∷ xs) m)))
          ≡ skip (bind q (λ x n. bind (many p c s n) (λ xs m. ok (x ∷ xs) m)))
      go (ok a n) ih = skip_ok (many p' c s n) _ ∙ ih n ∙ sym (skip_ok (many p c s n) _)
      go (no k) ih = refl

  pub skip_counted : (at : ℕ) → skip (counted p' s at) ≡ skip (counted p s at)
  unfolding counted skip bind
  skip_counted at = go (number_at 2 s at)
    where
      go : (q : Parsed ℕ) → skip (bind q (λ c n. many p' c s n)) ≡ skip (bind q (λ c n. many p c s n))
      go (ok c n) = skip_many c n
      go (no k) = refl

-- a parse without a value says as much as it does without its value
pub read_skip : {y q : Parsed ⊤} → y ≡ q → y ≡ skip q
unfolding skip
read_skip {q = q} e = e ∙ sym (same q)
  where
    same : (q : Parsed ⊤) → skip q ≡ q
    same (ok a n) = refl
    same (no k) = refl

-- as many ids as are asked for
pub ids_length : (count : ℕ) (s : List ℕ) (at : ℕ) → length (ids_from count s at) ≡ count
unfolding ids_from
ids_length zero s at = refl
ids_length (suc count) s at = ap suc (ids_length count s (at + 4))

-- what the code needs
pub ruleset rests = (rest_start, rest_more, rest_stop, rest_none)
