-- The other way: what a parser answers is within the limits, and its bytes stand where it was read. Numbers, coded bytes, names and lists.
-- Assumes nothing.
use mathlib.Core.Path.{◌≡◌, refl, sym, ap, ap₂, ◌∙◌}
use mathlib.Core.Bool.{true}
use mathlib.Core.List.{List, [], ◌∷◌, ◌++◌, append_assoc, append-nil}
use Prim.Native.Nat.{ℕ, zero, suc, ◌+◌, ◌*◌, ◌/◌, ◌%◌, ◌^◌, ◌≤◌, ◌<◌}
use native.Mathlib.Omega.{arith}
use native.Mathlib.Nat.{add-zero}
use borrow.Author.Tests.{ltb-true, leb-true}
use lib.ListN.{length, get_or, take, drop, length-append, length-drop, take-append-drop}
use lib.Seq.{drop-drop, drop-append_seam, drop-cons, length-take-le}
use Rattle.image.specs.Parse.{Parsed, part, byte_at, code_at, little_endian, number_at, many, counted}
use Rattle.image.specs.Names.{name_bytes, name_at}
use Rattle.written.specs.Writer.{digits, write_each, write_counted, write_name}
use Rattle.written.specs.Limits.{Each, end, also, Byte, Few, NameWithin}
use Rattle.maps.proofs.Tests.{both}
use Rattle.refusals.proofs.Told.{Told, told_ok, told_no, told_bind, told_pick, told_then}
use Rattle.written.proofs.Here.{Here, here_fits}
use Rattle.written.proofs.Pieces.{length_digits}

-- w stands in s from `at` to n
pub record Run (s : List ℕ) (at n : ℕ) (w : List ℕ) : Type 0 where
  pub here : Here s at w
  pub next : n ≡ at + length w

pub run_none : {s : List ℕ} {at : ℕ} → at ≤ length s → Run s at at []
run_none {s} {at} h = record { here = record { rest = drop at s; is = refl; from = h }; next = sym (add-zero at) }

pub run_inside : {s : List ℕ} {at n : ℕ} {w : List ℕ} → Run s at n w → n ≤ length s
run_inside r = rw r.next (here_fits r.here)

-- one after the other
pub run_join : {s : List ℕ} {at n m : ℕ} (w v : List ℕ) → Run s at n w → Run s n m v → Run s at m (w ++ v)
run_join {s} {at} {n} {m} w v a b =
    record {
      here = record { rest = after; is = a.here.is ∙ ap (λ (l : List ℕ). w ++ l) later ∙ sym (append_assoc w v after); from = a.here.from };
      next = omega (arith, a.next, b.next, length-append w v);
    }
  where
    after : List ℕ
    after = b.here.rest

    later : a.here.rest ≡ v ++ after
    later =
        sym (drop-append_seam w a.here.rest) ∙ ap (drop (length w)) (sym a.here.is) ∙ drop-drop (length w) at s
        ∙ ap (λ (k : ℕ). drop k s) (sym a.next) ∙ b.here.is

-- from the start to the end: it is the whole
pub run_whole : {s : List ℕ} {n : ℕ} {w : List ℕ} → n ≡ length s → Run s 0 n w → s ≡ w
run_whole {s} {n} {w} e r = r.here.is ∙ ap (λ (l : List ℕ). w ++ l) (none r.here.rest left) ∙ append-nil w
  where
    left : length r.here.rest ≡ 0
    left = omega (arith, r.next, length-append w r.here.rest, ap length r.here.is)

    none : (l : List ℕ) → length l ≡ 0 → l ≡ []
    none [] h = refl
    none (x ∷ l) h = absurd (omega arith)

-- refusals do not matter here
abbrev pub Free : ℕ → Type 0
Free k = Unit

-- each value that p answers is as P says, and its bytes stand from where it was read to the position after it
abbrev pub Keeps : {A : Type 0} → (A → Type 0) → (A → List ℕ) → List ℕ → ℕ → Parsed A → Type 0
Keeps P w s at p = Told (λ x n. P x × Run s at n (w x)) Free p

-- bytes of a list of bytes
pub each_drop : {P : ℕ → Type 0} (n : ℕ) (s : List ℕ) → Each P s → Each P (drop n s)
each_drop zero s e = e
each_drop (suc n) [] end = end
each_drop (suc n) (b ∷ s) (also q qs) = each_drop n s qs

each_take : {P : ℕ → Type 0} (n : ℕ) (s : List ℕ) → Each P s → Each P (take n s)
each_take zero s e = end
each_take (suc n) [] end = end
each_take (suc n) (b ∷ s) (also q qs) = also q (each_take n s qs)

pub each_part : {P : ℕ → Type 0} (from count : ℕ) (s : List ℕ) → Each P s → Each P (part from count s)
unfolding part
each_part from count s e = each_take count (drop from s) (each_drop from s e)

byte_of : (s : List ℕ) (at : ℕ) → Each Byte s → get_or s at 0 < 256
byte_of [] at e = omega arith
byte_of (b ∷ s) zero (also q qs) = q
byte_of (b ∷ s) (suc at) (also q qs) = byte_of s at qs

number_below : (w : ℕ) (s : List ℕ) → Each Byte s → little_endian w s < 256 ^ w
unfolding little_endian
number_below zero s e = omega arith
number_below (suc w) s e = omega (arith, byte_of s 0 e, number_below w (drop 1 s) (each_drop 1 s e))

digits_of : (w : ℕ) (s : List ℕ) → Each Byte s → w ≤ length s → digits w (little_endian w s) ≡ take w s
unfolding digits little_endian
digits_of zero s e h = refl
digits_of (suc w) [] e h = absurd (omega arith)
digits_of (suc w) (b ∷ s) (also q qs) h =
    let r = little_endian w s in
    let m : (b + 256 * r) % 256 ≡ b = omega arith in
    let d : (b + 256 * r) / 256 ≡ r = omega arith in
    ap₂ ◌∷◌ m (ap (digits w) d ∙ digits_of w s qs (omega arith))

pub part_length : (n k : ℕ) (s : List ℕ) → n + k ≤ length s → length (part n k s) ≡ k
unfolding part
part_length n k s h = length-take-le k (drop n s) (omega (arith, length-drop n s))

pub part_run : (n k : ℕ) (s : List ℕ) → n + k ≤ length s → Run s n (n + k) (part n k s)
unfolding part
part_run n k s h =
    record {
      here = record { rest = drop k (drop n s); is = first; from = omega arith };
      next = ap (λ (m : ℕ). n + m) (sym (part_length n k s h));
    }
  where
    first : drop n s ≡ part n k s ++ drop k (drop n s)
    first = sym (take-append-drop k (drop n s))

module _ (s : List ℕ) (bytes : Each Byte s) where
  pub byte_keeps : (short at : ℕ) → Keeps Byte (λ b. b ∷ []) s at (byte_at short s at)
  unfolding byte_at
  byte_keeps short at =
      told_pick _ (λ h. told_ok (byte_of s at bytes, run (ltb-true _ _ h))) (λ h. told_no tt)
    where
      run : at < length s → Run s at (at + 1) (get_or s at 0 ∷ [])
      run h = record { here = record { rest = drop (suc at) s; is = drop-cons s at 0 h; from = omega arith }; next = refl }

  pub code_keeps : (lo hi at : ℕ) → Keeps (λ b. (lo ≤ b) × (b ≤ hi)) (λ b. b ∷ []) s at (code_at lo hi s at)
  unfolding code_at
  code_keeps lo hi at =
      told_bind _ (byte_keeps 8 at) (λ b n h.
      told_pick _ (λ e. let c = both _ _ e in told_ok ((leb-true _ _ c.0, leb-true _ _ c.1), h.1)) (λ e. told_no tt))

  pub number_run : (w at : ℕ) → at + w ≤ length s → Run s at (at + w) (digits w (little_endian w (drop at s)))
  number_run w at h =
      record {
        here = record { rest = drop w l; is = sym (take-append-drop w l) ∙ ap (λ (x : List ℕ). x ++ drop w l) (sym first); from = omega arith };
        next = ap (λ (n : ℕ). at + n) (sym (length_digits w (little_endian w l)));
      }
    where
      l : List ℕ
      l = drop at s

      first : digits w (little_endian w l) ≡ take w l
      first = digits_of w l (each_drop at s bytes) (omega (arith, length-drop at s))

  pub number_is : (w at : ℕ) → little_endian w (drop at s) < 256 ^ w
  number_is w at = number_below w (drop at s) (each_drop at s bytes)

  pub number_keeps : (w at : ℕ) → Keeps (λ v. v < 256 ^ w) (digits w) s at (number_at w s at)
  unfolding number_at
  number_keeps w at = told_pick _ (λ h. told_ok (number_is w at, number_run w at (leb-true _ _ h))) (λ h. told_no tt)

  pub name_keeps : (short at : ℕ) → Keeps NameWithin write_name s at (name_at short s at)
  unfolding name_at write_name
  name_keeps short at =
      told_bind _ (byte_keeps short at) (λ k n h.
      told_pick _ (λ e. told_pick _ (λ g. told_ok (name k n h.0 h.1 (leb-true _ _ e) g)) (λ g. told_no tt)) (λ e. told_no tt))
    where
      name : (k n : ℕ) → Byte k → Run s at n (k ∷ []) → n + k ≤ length s → name_bytes (part n k s) ≡ true
          → NameWithin (part n k s) × Run s at (n + k) (write_name (part n k s))
      name k n h r e g =
          let len = part_length n k s e in (
            record { short = omega (arith, h, len); allowed = g },
            run_join (length (part n k s) ∷ []) (part n k s) (rw len r) (part_run n k s e),
          )

  pub each_keeps : {A : Type 0} (p : List ℕ → ℕ → Parsed A) (w : A → List ℕ) (P : A → Type 0) → ((at : ℕ) → Keeps P w s at (p s at))
      → (count at : ℕ) → at ≤ length s → Keeps (λ xs. (length xs ≡ count) × Each P xs) (write_each w) s at (many p count s at)
  unfolding many write_each
  each_keeps p w P f zero at h = told_ok ((refl, end), run_none h)
  each_keeps p w P f (suc count) at h =
      told_bind _ (f at) (λ x n a.
      told_bind _ (each_keeps p w P f count n (run_inside a.1)) (λ xs m b.
      told_ok ((ap suc b.0.0, also a.0 b.0.1), run_join (w x) (write_each w xs) a.1 b.1)))

  pub counted_keeps : {A : Type 0} (p : List ℕ → ℕ → Parsed A) (w : A → List ℕ) (P : A → Type 0) → ((at : ℕ) → Keeps P w s at (p s at))
      → (at : ℕ) → Keeps (λ xs. Few xs × Each P xs) (write_counted w) s at (counted p s at)
  unfolding counted write_counted
  counted_keeps p w P f at =
      told_bind _ (number_keeps 2 at) (λ c n a.
      told_then (each_keeps p w P f c n (run_inside a.1))
      (λ xs m b. ((rw b.0.0 a.0, b.0.1), run_join (digits 2 (length xs)) (write_each w xs) (rw b.0.0 a.1) b.1))
      (λ k u. u))
