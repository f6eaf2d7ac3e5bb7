-- Bytes, coded bytes and little-endian numbers: what the code's answers say of them. Assumes nothing.
use mathlib.Core.Path.{◌≡◌, refl, ap, ◌∙◌}
use mathlib.Core.Bool.{and-false}
use mathlib.Core.List.{List}
use Prim.Native.Nat.{ℕ, suc, ◌+◌, ◌-◌, ◌*◌, ◌^◌, ◌≤◌, ◌<◌}
use native.Mathlib.Nat.{pow-suc, pow-le-pow_right}
use native.Mathlib.Omega.{arith}
use borrow.Author.Tests.{le-leb, lt-leb, lt-ltb, le-ltb}
use lib.ListN.{length, get_or, drop}
use lib.Seq.{drop-drop, get_or-drop}
use Rattle.image.specs.Parse.{Parsed, ok, no, bind, pick, little_endian, byte_at, code_at, number_at}
use Rattle.image.specs.Reads.{skip, Read, read_of}
use Rattle.image.proofs.Laws.Answers.{Got}
use Rattle.image.proofs.Laws.Sure.{sure_at, byte_sure, code_sure, number_sure}
use Rattle.std.specs.Prelude.{Ok, Err}
use Rattle.image.specs.declared.refusals.Refusal.TheVariants.{Body, Code}

-- a byte past the end, or there
module _ (short : ℕ) (s : List ℕ) (at : ℕ) where
  pub byte_past : length s ≤ at → no short ≡ skip (byte_at short s at)
  unfolding byte_at skip pick
  byte_past h = rw (le-ltb at (length s) h)

  pub byte_at_lem : at < length s → ok tt (at + 1) ≡ skip (byte_at short s at)
  unfolding byte_at skip pick
  byte_at_lem h = rw (lt-ltb at (length s) h)

-- one of a body, as a read answers
module _ (s : List ℕ) (at : ℕ) where
  pub body_byte_past : length s ≤ at → read_of (Err Body) ≡ skip (byte_at 8 s at)
  unfolding read_of
  body_byte_past h = byte_past 8 s at h

  pub body_byte_at : at < length s → read_of (Ok (at + 1)) ≡ skip (byte_at 8 s at)
  unfolding read_of
  body_byte_at h = byte_at_lem 8 s at h

-- a coded byte past the end, too low, too high, or allowed
module _ (lo hi : ℕ) (s : List ℕ) (at : ℕ) where
  pub code_past : length s ≤ at → read_of (Err Body) ≡ skip (code_at lo hi s at)
  unfolding code_at byte_at bind skip read_of pick
  code_past h = rw (le-ltb at (length s) h)

  module _ (there : at < length s) where
    pub code_low : get_or s at 0 < lo → read_of (Err Code) ≡ skip (code_at lo hi s at)
    unfolding code_at byte_at bind skip read_of pick
    code_low h = rw (lt-ltb at (length s) there, lt-leb lo (get_or s at 0) h)

    pub code_high : hi < get_or s at 0 → read_of (Err Code) ≡ skip (code_at lo hi s at)
    unfolding code_at byte_at bind skip read_of pick
    code_high h = simp (lt-ltb at (length s) there, lt-leb (get_or s at 0) hi h, and-false)

    pub code_at_lem : lo ≤ get_or s at 0 → get_or s at 0 ≤ hi → read_of (Ok (at + 1)) ≡ skip (code_at lo hi s at)
    unfolding code_at byte_at bind skip read_of pick
    code_at_lem l h = rw (lt-ltb at (length s) there, le-leb lo (get_or s at 0) l, le-leb (get_or s at 0) hi h)

-- what a read tells that was not refused: the byte is there, and is the value
pub record There (p : Parsed ℕ) (s : List ℕ) (at n : ℕ) : Type 0 where
  pub inside : at < length s
  pub is : p ≡ ok (get_or s at 0) n

pub there_got : {p : Parsed ℕ} {s : List ℕ} {at n : ℕ} → There p s at n → Got p n
there_got {s = s} {at = at} b = record { value = get_or s at 0; is = b.is }

pub byte_there : (short : ℕ) (s : List ℕ) (at : ℕ) {x : Read} {n : ℕ} → x ≡ Ok n → read_of x ≡ skip (byte_at short s at)
    → There (byte_at short s at) s at n
byte_there short s at {n = n} h e =
    let (b, q, r) = sure_at (byte_sure short s at) h e in
    record { inside = (let i = r.inside in let j = r.next in omega arith); is = q ∙ ap (λ (v : ℕ). ok v n) r.value }

pub code_there : (lo hi : ℕ) (s : List ℕ) (at : ℕ) {x : Read} {n : ℕ} → x ≡ Ok n → read_of x ≡ skip (code_at lo hi s at)
    → There (code_at lo hi s at) s at n
code_there lo hi s at {n = n} h e =
    let (b, q, r) = sure_at (code_sure lo hi s at) h e in
    record { inside = (let i = r.byte.inside in let j = r.byte.next in omega arith); is = q ∙ ap (λ (v : ℕ). ok v n) r.byte.value }

-- a number of w bytes runs past the end, or stands there
module _ (w : ℕ) (s : List ℕ) (at : ℕ) where
  pub number_short : length s < at + w → read_of (Err Body) ≡ skip (number_at w s at)
  unfolding number_at skip read_of pick
  number_short h = rw (lt-leb (at + w) (length s) h)

  pub number_at_lem : at + w ≤ length s → read_of (Ok (at + w)) ≡ skip (number_at w s at)
  unfolding number_at skip read_of pick
  number_at_lem h = rw (le-leb (at + w) (length s) h)

  module _ {x : Read} {n : ℕ} (h : x ≡ Ok n) (e : read_of x ≡ skip (number_at w s at)) where
    pub number_is : number_at w s at ≡ ok (little_endian w (drop at s)) n
    number_is =
        let (v, q, r) = sure_at (number_sure w s at) h e in
        q ∙ ap (λ (v : ℕ). ok v n) r.value

    pub number_within : at + w ≤ length s
    number_within =
        let (v, q, r) = sure_at (number_sure w s at) h e in
        let i = r.inside in
        let j = r.next in
        omega arith

-- what the tests of a read of a byte, a code or a number say of it
pub ruleset told = (body_byte_past, body_byte_at, code_past, code_low, code_high, code_at_lem, number_short, number_at_lem)

-- the number of the bytes from a place on: its lowest byte, and those after it
next_byte : (s : List ℕ) (k i j : ℕ) → j ≡ i + 1 → little_endian (suc k) (drop i s) ≡ get_or s i 0 + little_endian k (drop j s) * 256
unfolding little_endian
next_byte s k i j e =
    let z : i + 0 ≡ i = omega arith in
    rw (e, drop-drop 1 i s, get_or-drop i s 0 0, z) (omega arith)

no_byte : (s : List ℕ) (i : ℕ) → little_endian 0 (drop i s) ≡ 0
unfolding little_endian
no_byte s i = refl

-- the next byte in front
le_front : (s : List ℕ) (i k : ℕ) → little_endian (suc k) (drop i s) ≡ little_endian k (drop (i + 1) s) * 256 + get_or s i 0
le_front s i k = next_byte s k i (i + 1) refl ∙ omega arith

-- the number of the bytes from i to e: none; one more in front; all
pub number_none : (s : List ℕ) (e i : ℕ) → e ≡ i → 0 ≡ little_endian (e - i) (drop i s)
unfolding little_endian
number_none s e i h =
    let z : e - i ≡ 0 = omega arith in
    rw z

pub number_more : (s : List ℕ) (e i v : ℕ) → 0 < i → i ≤ e → v ≡ little_endian (e - i) (drop i s)
    → v * 256 + get_or s (i - 1) 0 ≡ little_endian (e - (i - 1)) (drop (i - 1) s)
number_more s e i v p l h =
    let k : e - (i - 1) ≡ suc (e - i) = omega arith in
    let j : i - 1 + 1 ≡ i = omega arith in
    rw (k, le_front s (i - 1) (e - i), j, h)

pub number_all : (s : List ℕ) (at w i : ℕ) → i ≡ at → little_endian (at + w - i) (drop i s) ≡ little_endian w (drop at s)
number_all s at w i h =
    let k : at + w - at ≡ w = omega arith in
    rw (h, k)

-- and how large it can be
pub below_none : (e : ℕ) → 0 < 256 ^ (e - e)
below_none e =
    let z : e - e ≡ 0 = omega arith in
    rw z (omega arith)

pub below_more : (e i v b : ℕ) → 0 < i → i ≤ e → v < 256 ^ (e - i) → b < 256 → v * 256 + b < 256 ^ (e - (i - 1))
below_more e i v b p l h g =
    let k : e - (i - 1) ≡ suc (e - i) = omega arith in
    rw (k, pow-suc 256 (e - i)) (omega arith)

pub below_all : (at w i v : ℕ) → i ≡ at → v < 256 ^ (at + w - i) → v < 256 ^ w
below_all at w i v h l =
    let k : at + w - i ≡ w = omega arith in
    rw k at l

pub below_seven : (k v : ℕ) → k ≤ 7 → v < 256 ^ k → v < 72057594037927936
below_seven k v h l =
    let z : 256 ^ k ≤ 256 ^ 7 = pow-le-pow_right (omega arith) h in
    omega arith

module _ (s : List ℕ) (at : ℕ) where
  pub two_bytes : get_or s at 0 + get_or s (at + 1) 0 * 256 ≡ little_endian 2 (drop at s)
  two_bytes = omega (arith, next_byte s 1 at (at + 1) refl, next_byte s 0 (at + 1) (at + 2) (omega arith), no_byte s (at + 2))

  pub four_bytes : get_or s at 0 + get_or s (at + 1) 0 * 256 + get_or s (at + 2) 0 * 65536 + get_or s (at + 3) 0 * 16777216 ≡ little_endian 4 (drop at s)
  four_bytes =
      omega (arith, next_byte s 3 at (at + 1) refl, next_byte s 2 (at + 1) (at + 2) (omega arith), next_byte s 1 (at + 2) (at + 3) (omega arith), next_byte s 0 (at + 3) (at + 4) (omega arith), no_byte s (at + 4))

  pub eight_bytes : get_or s at 0 + get_or s (at + 1) 0 * 256 + get_or s (at + 2) 0 * 65536 + get_or s (at + 3) 0 * 16777216
      + get_or s (at + 4) 0 * 4294967296 + get_or s (at + 5) 0 * 1099511627776 + get_or s (at + 6) 0 * 281474976710656 + get_or s (at + 7) 0 * 72057594037927936
      ≡ little_endian 8 (drop at s)
  eight_bytes =
      omega (
        arith,
        four_bytes,
        next_byte s 7 at (at + 1) refl,
        next_byte s 6 (at + 1) (at + 2) (omega arith),
        next_byte s 5 (at + 2) (at + 3) (omega arith),
        next_byte s 4 (at + 3) (at + 4) (omega arith),
        next_byte s 3 (at + 4) (at + 5) (omega arith),
        next_byte s 2 (at + 5) (at + 6) (omega arith),
        next_byte s 1 (at + 6) (at + 7) (omega arith),
        next_byte s 0 (at + 7) (at + 8) (omega arith),
        no_byte s (at + 8),
      )

-- what the code needs
pub ruleset lowest_first = (two_bytes, four_bytes, eight_bytes)
