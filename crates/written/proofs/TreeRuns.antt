-- What is read as a label or a type is within the limits, and its bytes stand where it was read. Assumes nothing.
use mathlib.Core.Path.{◌≡◌, refl}
use mathlib.Core.Bool.{Bool, true, false, cond}
use mathlib.Core.List.{List, [], ◌∷◌}
use Prim.Native.Nat.{ℕ, zero, suc, ◌+◌, max, ◌≤◌, ◌<◌}
use native.Mathlib.Omega.{arith}
use native.Mathlib.Decide.{dec_lt}
use borrow.Author.Tests.{leb-true, eqb-true, eqb-false}
use lib.ListN.{length, drop}
use Rattle.image.specs.Schema.{Name, Label, label, Ty}
use Rattle.image.specs.Parse.{Parsed, shift, within}
use Rattle.image.specs.Names.{name_at, names_at}
use Rattle.image.specs.Types.{Follows, code, sub_byte, identity, size, nothing, bits, unknown, follows_tag, inner_types, after_tag, label_of, inner_at, type_of, type_at}
use Rattle.written.specs.Writer.{write_each, write_name, write_after, write_label, write_type}
use Rattle.written.specs.Limits as Limits
use Rattle.written.specs.Limits.{Each, Byte, NameWithin, Wrapping, optional, array, set, vector, LabelWithin, primitive, semantic, named, wrapping, fixed_array, map, result, Typed, bare, around, between, nodes, TypeWithin}
use Rattle.image.proofs.Laws.Types.{inner_most}
use Rattle.refusals.proofs.Told.{Told, told_ok, told_no, told_bind, told_then}
use Rattle.written.proofs.Trees.{wraps_nothing, wraps_one}
use Rattle.written.proofs.Runs.{Run, run_none, run_inside, run_join, Free, Keeps, each_drop, byte_keeps, code_keeps, number_keeps, name_keeps, each_keeps}

-- the tags, by what follows each
data Tag (tag : ℕ) : Follows → Type 0 where
  is_primitive : tag ≡ 0 → Tag tag (code 13)
  is_sub_byte : tag ≡ 1 → Tag tag sub_byte
  is_semantic : tag ≡ 2 → Tag tag (code 5)
  is_named_lem : tag ≡ 3 → Tag tag identity
  is_fixed : tag ≡ 6 → Tag tag size
  is_bits : tag ≡ 16 → Tag tag bits
  is_other : 4 ≤ tag → ¬ (tag ≡ 6) → tag ≤ 15 → Tag tag nothing
  is_none : Tag tag unknown

choose : (tag : ℕ) (b : Bool) (f g : Follows) → (b ≡ true → Tag tag f) → (b ≡ false → Tag tag g) → Tag tag (cond b f g)
choose tag true f g p q = p refl
choose tag false f g p q = q refl

tag_view : (tag : ℕ) → Tag tag (follows_tag tag)
unfolding follows_tag
tag_view tag =
    choose tag _ _ _ (λ h. is_primitive (eqb-true _ _ h)) (λ h₀.
    choose tag _ _ _ (λ h. is_sub_byte (eqb-true _ _ h)) (λ h₁.
    choose tag _ _ _ (λ h. is_semantic (eqb-true _ _ h)) (λ h₂.
    choose tag _ _ _ (λ h. is_named_lem (eqb-true _ _ h)) (λ h₃.
    choose tag _ _ _ (λ h. is_fixed (eqb-true _ _ h)) (λ h₆.
    choose tag _ _ _ (λ h. is_bits (eqb-true _ _ h)) (λ h.
    choose tag _ _ _ (λ l. other (eqb-false _ _ h₀) (eqb-false _ _ h₁) (eqb-false _ _ h₂) (eqb-false _ _ h₃) (eqb-false _ _ h₆) (leb-true _ _ l)) (λ l.
    is_none)))))))
  where
    other : ¬ (tag ≡ 0) → ¬ (tag ≡ 1) → ¬ (tag ≡ 2) → ¬ (tag ≡ 3) → ¬ (tag ≡ 6) → tag ≤ 15 → Tag tag nothing
    other a b c d e l = is_other (omega arith) e l

-- a tag with inner types and nothing else
record Plain (tag : ℕ) : Type 0 where
  pub within : LabelWithin (inner_types tag) (label tag 0 0 [])
  pub follows : follows_tag tag ≡ nothing

plain_wraps : {tag : ℕ} → Wrapping tag → Plain tag
plain_wraps w = record { within = rw (wraps_one w) (wrapping w); follows = wraps_nothing w }

plain_tag : (tag : ℕ) → 4 ≤ tag → ¬ (tag ≡ 6) → tag ≤ 15 → Plain tag
unfolding follows_tag inner_types
plain_tag tag low six high = go (dec_lt tag 5) (dec_lt tag 6) (dec_lt tag 8) (dec_lt tag 9) (dec_lt tag 10)
  where
    go : Dec (tag < 5) → Dec (tag < 6) → Dec (tag < 8) → Dec (tag < 9) → Dec (tag < 10) → Plain tag
    go (yes a) b c d e = plain_wraps (optional (omega arith))
    go (no a) (yes b) c d e = plain_wraps (array (omega arith))
    go (no a) (no b) (yes c) d e = plain_wraps (set (omega arith))
    go (no a) (no b) (no c) (yes d) e = let z : tag ≡ 8 = omega arith in rw z (record { within = map; follows = refl })
    go (no a) (no b) (no c) (no d) (yes e) = let z : tag ≡ 9 = omega arith in rw z (record { within = result; follows = refl })
    go (no a) (no b) (no c) (no d) (no e) = plain_wraps (vector (omega arith) high)

-- a label after its tag
abbrev After : ℕ → List ℕ → ℕ → Label → ℕ → Type 0
After tag s at l n = (l.tag ≡ tag) × LabelWithin (inner_types l.tag) l × Run s at n (write_after (follows_tag l.tag) l)

after_keeps : (s : List ℕ) → Each Byte s → (tag : ℕ) (f : Follows) → Tag tag f → (at : ℕ) → at ≤ length s
    → Told (After tag s at) Free (after_tag tag f s at)
unfolding after_tag names_at write_after follows_tag inner_types
after_keeps s bytes tag _ (is_primitive e) at h =
    rw e (told_bind _ (code_keeps s bytes 0 13 at) (λ a n q. told_ok (refl, primitive q.0.1, q.1)))
after_keeps s bytes tag _ (is_sub_byte e) at h =
    rw e
    (told_bind _ (code_keeps s bytes 0 1 at) (λ a n q.
    told_bind _ (code_keeps s bytes 1 64 n) (λ b m r.
    told_ok (refl, Limits.sub_byte q.0.1 r.0.0 r.0.1, run_join (a ∷ []) (b ∷ []) q.1 r.1))))
after_keeps s bytes tag _ (is_semantic e) at h =
    rw e (told_bind _ (code_keeps s bytes 0 5 at) (λ a n q. told_ok (refl, semantic q.0.1, q.1)))
after_keeps s bytes tag _ (is_named_lem e) at h = rw e (told_bind _ (number_keeps s bytes 4 at) (λ a n q. told_ok (refl, named q.0, q.1)))
after_keeps s bytes tag _ (is_fixed e) at h = rw e (told_bind _ (number_keeps s bytes 8 at) (λ a n q. told_ok (refl, fixed_array q.0, q.1)))
after_keeps s bytes tag _ (is_bits e) at h =
    rw e
    (told_bind _ (byte_keeps s bytes 8 at) (λ k n q.
    told_bind _ (each_keeps s bytes (name_at 8) write_name NameWithin (name_keeps s bytes 8) k n (run_inside q.1)) (λ xs m r.
    told_ok (
      refl,
      Limits.bits (few k xs q.0 r.0.0) r.0.1,
      run_join (length xs ∷ []) (write_each write_name xs) (rw r.0.0 q.1) r.1,
    ))))
  where
    few : (k : ℕ) (xs : List Name) → Byte k → length xs ≡ k → length xs ≤ 255
    few k xs b l = omega arith
after_keeps s bytes tag _ (is_other low six high) at h =
    let p = plain_tag tag low six high in
    told_ok {n = at} (refl, p.within, rw p.follows (run_none h))
after_keeps s bytes tag _ is_none at h = told_no tt

label_keeps : (s : List ℕ) → Each Byte s → Keeps (λ l. LabelWithin (inner_types l.tag) l) write_label s 0 (label_of s)
unfolding label_of write_label
label_keeps s bytes =
    told_bind _ (byte_keeps s bytes 8 0) (λ tag n a.
    told_then (after_keeps s bytes tag (follows_tag tag) (tag_view tag) n (run_inside a.1))
    (λ l m b. (b.1, run_join (l.tag ∷ []) _ (rw b.0 a.1) b.2))
    (λ k u. u))

-- from a part
shift_keeps : {A : Type 0} {P : A → Type 0} {w : A → List ℕ} (s : List ℕ) (at : ℕ) → at ≤ length s → {p : Parsed A} → Keeps P w (drop at s) 0 p
    → Keeps P w s at (shift at p)
unfolding shift
shift_keeps {w = w} s at h (told_ok {a = x} {n = n} q) = told_ok (q.0, run q.1)
  where
    run : Run (drop at s) 0 n (w x) → Run s at (at + n) (w x)
    run r = record { here = record { rest = r.here.rest; is = r.here.is; from = h }; next = omega (arith, r.next) }
shift_keeps s at h (told_no u) = told_no u

-- a type of at most `left` nodes on a path
abbrev Kept : ℕ → Ty → Type 0
Kept left t = Typed t × (nodes t ≤ left)

inner_keeps : (left : ℕ) → ((t : List ℕ) → Each Byte t → Keeps (Kept left) write_type t 0 (type_of left t)) → (s : List ℕ) → Each Byte s → (i : ℕ)
    → i ≤ 2 → (l : Label)
    → LabelWithin i l → (n : ℕ) → Run s 0 n (write_label l) → Keeps (Kept (suc left)) write_type s 0 (inner_at i l (type_of left) s n)
unfolding inner_at within write_type nodes
inner_keeps left f s bytes zero h l q n r = told_ok ((bare q, omega arith), r)
inner_keeps left f s bytes (suc zero) h l q n r =
    told_bind _ (part n (run_inside r)) (λ t m b. told_ok ((around q b.0.0, deep b.0.1), run_join (write_label l) (write_type t) r b.1))
  where
    part : (at : ℕ) → at ≤ length s → Keeps (Kept left) write_type s at (shift at (type_of left (drop at s)))
    part at h = shift_keeps s at h (f (drop at s) (each_drop at s bytes))

    deep : {a : ℕ} → a ≤ left → suc a ≤ suc left
    deep h = omega arith
inner_keeps left f s bytes (suc (suc k)) h l q n r =
    told_bind _ (part n (run_inside r)) (λ t m b.
    told_bind _ (part m (run_inside b.1)) (λ u o c.
    told_ok (
      (between two_inside b.0.0 c.0.0, deep b.0.1 c.0.1),
      run_join (write_label l) _ r (run_join (write_type t) (write_type u) b.1 c.1),
    )))
  where
    part : (at : ℕ) → at ≤ length s → Keeps (Kept left) write_type s at (shift at (type_of left (drop at s)))
    part at h = shift_keeps s at h (f (drop at s) (each_drop at s bytes))

    deep : {a b : ℕ} → a ≤ left → b ≤ left → suc (max a b) ≤ suc left
    deep h g = omega arith

    two_inside : LabelWithin 2 l
    two_inside = let z : suc (suc k) ≡ 2 = omega arith in rw z at q

type_keeps : (left : ℕ) (s : List ℕ) → Each Byte s → Keeps (Kept left) write_type s 0 (type_of left s)
unfolding type_of
type_keeps zero s bytes = told_no tt
type_keeps (suc left) s bytes =
    told_bind _ (label_keeps s bytes) (λ l n a.
    inner_keeps left (type_keeps left) s bytes (inner_types l.tag) (inner_most l.tag) l a.0 n a.1)

pub type_at_keeps : (s : List ℕ) → Each Byte s → (at : ℕ) → at ≤ length s → Keeps TypeWithin write_type s at (type_at s at)
unfolding type_at within
type_at_keeps s bytes at h =
    told_then (shift_keeps s at h (type_keeps 32 (drop at s) (each_drop at s bytes)))
    (λ t n q. (record { typed = q.0.0; path = omega (arith, q.0.1) }, q.1))
    (λ k u. u)
