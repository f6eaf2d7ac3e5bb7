-- Reads that were good, one after the other: each is good, and its value and its end are known. Assumes nothing.
use mathlib.Core.Path.{◌≡◌, refl, sym, ap₂, ◌∙◌}
use mathlib.Core.Bool.{Bool, true, false, cond, false≢true}
use Rattle.std.specs.Prelude.{None, Some}
use mathlib.Core.List.{List, []}
use Prim.Native.Nat.{ℕ, ◌+◌, ◌-◌, ◌≤◌, ◌<◌}
use native.Mathlib.Omega.{arith}
use native.Mathlib.Nat.{add-sub_cancel_left}
use borrow.Author.Tests.{le-leb}
use lib.ListN.{length, get_or, take, drop}
use Rattle.image.specs.Parse.{Parsed, ok, no, bind, pick, part, little_endian, byte_at, code_at, number_at}
use Rattle.image.specs.Names.{name_at}
use Rattle.image.specs.Fields.{marks_of, marks_at}
use Rattle.image.specs.Formats.{has_widths, stored}
use Rattle.image.specs.Widths.{wire_bits_at, wire_bytes_at, width_at}
use Rattle.image.specs.WellFormed.{Good, value_or, end_of}
use Rattle.image.proofs.Laws.Sure.{Sure, sure_ok, sure_no, Named, byte_sure, code_sure, number_sure, name_sure}
use Rattle.image.proofs.Laws.Good.{sure_good, good_first}
use Rattle.parts.specs.Promise.{NameHere, name_in, name_end}

pub good_is : {A : Type 0} (d : A) (p : Parsed A) → Good p → p ≡ ok (value_or d p) (end_of p)
unfolding Good value_or end_of
good_is d (ok a n) g = refl
good_is d (no k) g = absurd g

-- what is known of every answer
pub itself : {A : Type 0} (d : A) (p : Parsed A) → Sure (λ a n. Good p × (a ≡ value_or d p) × (n ≡ end_of p)) p
unfolding Good value_or end_of
itself d (ok a n) = sure_ok (tt, refl, refl)
itself d (no k) = sure_no

-- a read whose value is known, and what follows it
module _ {A B : Type 0} {p : Parsed A} (f : A → ℕ → Parsed B) {a : A} {n : ℕ} (e : p ≡ ok a n) where
  pub then_is : bind p f ≡ f a n
  unfolding bind
  then_is = rw e

  pub then_good : Good (bind p f) → Good (f a n)
  then_good g = rw then_is at g

-- a test that must hold
module _ {A : Type 0} (k : ℕ) where
  pub need_true : (b : Bool) (x : Parsed A) → Good (pick b x (no k)) → b ≡ true
  unfolding pick Good
  need_true true x g = refl
  need_true false x g = absurd g

  pub need_is : (b : Bool) (x : Parsed A) → Good (pick b x (no k)) → pick b x (no k) ≡ x
  unfolding pick Good
  need_is true x g = refl
  need_is false x g = absurd g

-- bytes, numbers, marks, widths, names
module _ (s : List ℕ) (at : ℕ) where
  pub byte_is : (short : ℕ) → Good (byte_at short s at) → (byte_at short s at ≡ ok (get_or s at 0) (at + 1)) × (at < length s)
  byte_is short g =
      let h = sure_good 0 (byte_sure short s at) g in
      (good_is 0 _ g ∙ ap₂ ok h.value h.next, (let i = h.inside in let j = h.next in omega arith))

  pub code_is : (lo hi : ℕ) → Good (code_at lo hi s at) → (code_at lo hi s at ≡ ok (get_or s at 0) (at + 1)) × (at < length s) × (lo ≤ get_or s at 0) × (get_or s at 0 ≤ hi)
  code_is lo hi g =
      let k = sure_good 0 (code_sure lo hi s at) g in
      let h = k.byte in
      (good_is 0 _ g ∙ ap₂ ok h.value h.next, (let i = h.inside in let j = h.next in omega arith), rw h.value at k.low, rw h.value at k.high)

  pub number_is : (w : ℕ) → Good (number_at w s at) → (number_at w s at ≡ ok (little_endian w (drop at s)) (at + w)) × (at + w ≤ length s)
  number_is w g =
      let h = sure_good 0 (number_sure w s at) g in
      (good_is 0 _ g ∙ ap₂ ok h.value h.next, (let i = h.inside in let j = h.next in omega arith))

  pub number_there : (w : ℕ) → at + w ≤ length s → number_at w s at ≡ ok (little_endian w (drop at s)) (at + w)
  unfolding number_at pick
  number_there w l = rw (le-leb (at + w) (length s) l)

  pub marks_is : Good (marks_at s at) → (marks_at s at ≡ ok (marks_of (get_or s at 0)) (at + 1)) × (at < length s)
  unfolding marks_at
  marks_is g =
      let h = code_is 0 3 (good_first 0 (code_at 0 3 s at) _ g) in
      (then_is _ h.0, h.1)

  -- a byte that was read, and where
  abbrev pub Byte-read : Parsed ℕ → Type 0
  Byte-read p = (p ≡ ok (get_or s at 0) (at + 1)) × (at < length s)

  pub wire_bits_is : Good (wire_bits_at s at) → Byte-read (wire_bits_at s at)
  unfolding wire_bits_at
  wire_bits_is g = byte_is 8 g

  pub wire_bytes_is : Good (wire_bytes_at s at) → Byte-read (wire_bytes_at s at)
  unfolding wire_bytes_at
  wire_bytes_is g =
      let h = byte_is 8 (good_first 0 (byte_at 8 s at) _ g) in
      (then_is _ h.0 ∙ need_is 9 _ _ (then_good _ h.0 g), h.1)

  -- in a format that stores no width nothing is read
  pub width_is : (f : ℕ) (wire : List ℕ → ℕ → Parsed ℕ) → (Good (wire s at) → Byte-read (wire s at)) → Good (width_at f wire s at)
      → (width_at f wire s at ≡ ok (cond (has_widths f) (Some (get_or s at 0)) None) (at + cond (has_widths f) 1 0)) × (has_widths f ≡ true → at < length s)
  unfolding width_at stored pick
  width_is f wire h g = go (has_widths f) g
    where
      go : (b : Bool) → Good (pick b (bind (wire s at) (λ w n. ok (Some w) n)) (ok None at))
          → (pick b (bind (wire s at) (λ w n. ok (Some w) n)) (ok None at) ≡ ok (cond b (Some (get_or s at 0)) None) (at + cond b 1 0)) × (b ≡ true → at < length s)
      go true g = let r = h (good_first 0 (wire s at) _ g) in (then_is _ r.0, λ _. r.1)
      go false g = let z : at ≡ at + 0 = omega arith in (ap₂ ok refl z, λ e. absurd (false≢true e))

  pub name_is : NameHere s at → name_at 8 s at ≡ ok (name_in s at) (name_end s at)
  unfolding NameHere name_in name_end
  name_is g = good_is [] (name_at 8 s at) g

  pub name_stands : NameHere s at → Named s at (name_in s at) (name_end s at)
  unfolding NameHere name_in name_end
  name_stands g = sure_good [] (name_sure 8 s at) g

  -- the bytes after its length
  pub name_part : NameHere s at → take (at + 1 + get_or s at 0 - (at + 1)) (drop (at + 1) s) ≡ name_in s at
  unfolding part
  name_part g = rw (add-sub_cancel_left (at + 1) (get_or s at 0)) (sym (name_stands g).value)

-- what the code needs of a name
pub ruleset naming = (name_stands, name_part)
