-- Names: what the code's answers say of them. Assumes nothing.
use mathlib.Core.Path.{◌≡◌, sym, ap, ap₂, ◌∙◌}
use mathlib.Core.Bool.{Bool, true, false}
use mathlib.Core.List.{List, ◌∷◌}
use Prim.Native.Nat.{ℕ, suc, ◌+◌, ◌-◌, ◌≤◌, ◌<◌}
use native.Mathlib.Omega.{arith}
use native.Mathlib.Nat.{add-sub_cancel_left}
use native.Mathlib.Numerals.{add-one}
use borrow.Author.Tests.{le-leb, lt-leb, lt-ltb, le-ltb}
use lib.ListN.{length, get_or, take, drop, length-take, length-drop}
use lib.Seq.{drop-cons}
use Rattle.image.specs.Parse.{bind, pick, part, byte_at}
use Rattle.image.specs.Names.{name_byte, name_bytes, name_at}
use Rattle.image.specs.Numbers.{refusal_number}
use Rattle.image.specs.Reads.{skip, read_of}
use Rattle.image.specs.declared.refusals.Refusal.{Refusal}
use Rattle.std.specs.Prelude.{Ok, Err}
use Rattle.image.specs.declared.refusals.Refusal.TheVariants.{Name}

-- the length is past the end; the bytes run past the end; one is not allowed; all are
module _ (short : Refusal) (s : List ℕ) (at : ℕ) where
  pub name_past : length s ≤ at → read_of (Err short) ≡ skip (name_at (refusal_number short) s at)
  unfolding name_at byte_at bind skip read_of pick
  name_past h = rw (le-ltb at (length s) h)

  module _ (h : at < length s) where
    pub name_long : length s < at + 1 + get_or s at 0 → read_of (Err short) ≡ skip (name_at (refusal_number short) s at)
    unfolding name_at byte_at bind skip read_of pick
    name_long l = rw (lt-ltb at (length s) h, lt-leb (at + 1 + get_or s at 0) (length s) l)

    module _ (l : at + 1 + get_or s at 0 ≤ length s) where
      pub name_bad : name_bytes (part (at + 1) (get_or s at 0) s) ≡ false → read_of (Err Name) ≡ skip (name_at (refusal_number short) s at)
      unfolding name_at byte_at bind skip read_of pick
      name_bad e = rw (lt-ltb at (length s) h, le-leb (at + 1 + get_or s at 0) (length s) l, e)

      pub name_good : name_bytes (part (at + 1) (get_or s at 0) s) ≡ true → read_of (Ok (at + 1 + get_or s at 0)) ≡ skip (name_at (refusal_number short) s at)
      unfolding name_at byte_at bind skip read_of pick
      name_good e = rw (lt-ltb at (length s) h, le-leb (at + 1 + get_or s at 0) (length s) l, e)

-- a part is no longer than its count, nor than what is there
pub part_length : (from count : ℕ) (s : List ℕ) → (length (part from count s) ≤ count) × (length (part from count s) ≤ length s - from)
unfolding part
part_length from count s = simp (length-take, length-drop) (omega arith, omega arith)

-- the bytes from i to e: the first, and the rest
pub part_cons : (i e : ℕ) (s : List ℕ) → i < e → e ≤ length s → part i (e - i) s ≡ get_or s i 0 ∷ part (i + 1) (e - (i + 1)) s
unfolding part
part_cons i e s h l =
    let n : e - i ≡ suc (e - (i + 1)) = omega arith in
    let k : i < length s = omega arith in
    ap₂ take n (drop-cons s i 0 k) ∙ ap (λ (j : ℕ). get_or s i 0 ∷ take (e - (i + 1)) (drop j s)) (sym (add-one i))

-- a name's bytes: those from the first, none, one that is not allowed, one that is
pub bytes_first : (s : List ℕ) (from k : ℕ) → name_bytes (part from k s) ≡ name_bytes (part from (from + k - from) s)
bytes_first s from k = rw add-sub_cancel_left

pub bytes_done : (s : List ℕ) (i e : ℕ) → e ≤ i → name_bytes (part i (e - i) s) ≡ true
unfolding name_bytes part
bytes_done s i e h =
    let z : e - i ≡ 0 = omega arith in
    rw z

module _ (s : List ℕ) (i e : ℕ) {b : Bool} (h : i < e) (l : e ≤ length s) (q : b ≡ name_byte (get_or s i 0)) where
  pub bytes_bad : b ≡ false → name_bytes (part i (e - i) s) ≡ false
  unfolding name_bytes
  bytes_bad f = rw (part_cons i e s h l, ← q, f)

  pub bytes_next : b ≡ true → name_bytes (part i (e - i) s) ≡ name_bytes (part (i + 1) (e - (i + 1)) s)
  unfolding name_bytes
  bytes_next t = rw (part_cons i e s h l, ← q, t)

-- what the code needs
pub ruleset naming = (name_past, name_long, name_bad, name_good, bytes_first, bytes_bad, bytes_next, bytes_done)
