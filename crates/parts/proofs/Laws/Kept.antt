-- What is read in a part of a list is read at the same place of the whole: the same value, and the end moved by the part's start.
-- The refusals may differ, and so may the depth that is left to a type, if the whole's is no less. The format is the whole's. Assumes nothing.
use mathlib.Core.Path.{◌≡◌, refl, sym, ap, ap₂, ◌∙◌}
use mathlib.Core.Bool.{Bool, true, false}
use mathlib.Core.List.{List}
use Prim.Native.Nat.{ℕ, zero, suc, ◌+◌, ◌*◌, ◌≤◌, ◌<◌}
use native.Mathlib.Omega.{arith}
use borrow.Author.Tests.{ltb-true, leb-true, le-leb, lt-ltb}
use lib.ListN.{length, get_or, drop, length-drop}
use lib.Seq.{drop-drop, get_or-drop, get_or-take, ext_get_or, length-take-le}
use lib.Dec.{ltb, leb, eqb}
use Rattle.image.specs.Schema.{Label, Ty, Decl}
use Rattle.image.specs.Parse.{Parsed, ok, no, bind, pick, shift, within, part, little_endian, byte_at, code_at, number_at, many, counted}
use Rattle.image.specs.Names.{name_bytes, name_at, names_at}
use Rattle.image.specs.Types.{Follows, code, sub_byte, identity, size, nothing, bits, unknown, follows_tag, inner_types, after_tag, label_of, inner_at, type_of, type_at}
use Rattle.image.specs.Fields.{marks_at, encoding_of, encoding_at, limit_at, field_at, bare_at, variant_at}
use Rattle.image.specs.Kinds.{Kind, message, enum, flags, union, newtype, config, alias, trait, impl, other, kind_of}
use Rattle.image.specs.Codes.{number, config_kind, alias_kind, trait_kind}
use Rattle.image.specs.Formats.{stored}
use Rattle.image.specs.Tombstones.{tombstones_at}
use Rattle.image.specs.Widths.{wire_bits_at, wire_bytes_at, width_at}
use Rattle.image.specs.Image.{format}
use Rattle.image.specs.Bodies.{message_at, enum_at, flags_at, union_at, newtype_at, other_at, impl_at, closed, decl_at, body_of}
use Rattle.parts.specs.Promise.{body_at}
use Rattle.image.specs.WellFormed.{Good, value_or, end_of}
use Rattle.image.proofs.Laws.Names.{part_length}

-- the first answer is a refusal, or the second is the same with its end moved on
pub data Kept {A : Type 0} (by : ℕ) : Parsed A → Parsed A → Type 0 where
  kept_ok : {a : A} {n m : ℕ} → m ≡ by + n → Kept by (ok a n) (ok a m)
  kept_no : {k : ℕ} {q : Parsed A} → Kept by (no k) q

-- a good answer stays good
pub kept_good : {A : Type 0} {by : ℕ} {p q : Parsed A} → Kept by p q → Good p → Good q
unfolding Good
kept_good (kept_ok e) g = tt
kept_good kept_no g = absurd g

pub kept_value : {A : Type 0} {by : ℕ} {p q : Parsed A} (d : A) → Kept by p q → Good p → value_or d q ≡ value_or d p
unfolding Good value_or
kept_value d (kept_ok e) g = refl
kept_value d kept_no g = absurd g

pub kept_end : {A : Type 0} {by : ℕ} {p q : Parsed A} → Kept by p q → Good p → end_of q ≡ by + end_of p
unfolding Good end_of
kept_end (kept_ok e) g = e
kept_end kept_no g = absurd g

pub kept_bind : {A B : Type 0} {by : ℕ} {p q : Parsed A} (f g : A → ℕ → Parsed B) → Kept by p q
    → ((a : A) (n : ℕ) → Kept by (f a n) (g a (by + n))) → Kept by (bind p f) (bind q g)
unfolding bind
kept_bind f g (kept_ok {a = a} {n = n} e) h = rw e (h a n)
kept_bind f g kept_no h = kept_no

-- a value that was found equal
kept_as : {A : Type 0} {by : ℕ} {a b : A} {n m : ℕ} → b ≡ a → m ≡ by + n → Kept by (ok a n) (ok b m)
kept_as e q = rw e (kept_ok q)

kept_need : {A : Type 0} {by : ℕ} (b c : Bool) (k m : ℕ) {x y : Parsed A} → (b ≡ true → c ≡ true) → (b ≡ true → Kept by x y)
    → Kept by (pick b x (no k)) (pick c y (no m))
unfolding pick
kept_need true c k m t h = rw (t refl) (h refl)
kept_need false c k m t h = kept_no

kept_pick : {A : Type 0} {by : ℕ} (b : Bool) {x y u v : Parsed A} → Kept by x u → Kept by y v → Kept by (pick b x y) (pick b u v)
unfolding pick
kept_pick true h l = h
kept_pick false h l = l

-- a list is a part of another
pub record Part (by : ℕ) (t s : List ℕ) : Type 0 where
  pub fits : by + length t ≤ length s
  pub same : (i : ℕ) → i < length t → get_or t i 0 ≡ get_or s (by + i) 0

pub part_self : (s : List ℕ) → Part 0 s s
part_self s = record { fits = omega arith; same = λ i h. let e : 0 + i ≡ i = omega arith in rw e }

pub part_of : (from count : ℕ) (s : List ℕ) → from ≤ length s → Part from (part from count s) s
unfolding part
part_of from count s h = record {
  fits = omega (arith, (part_length from count s).1);
  same = λ i l. (let k : i < count = omega (arith, (part_length from count s).0) in get_or-take count (drop from s) i 0 k ∙ get_or-drop from s i 0);
}

pub part_from : (at : ℕ) (s : List ℕ) → at ≤ length s → Part at (drop at s) s
part_from at s h = record { fits = (let e = length-drop at s in omega arith); same = λ i l. get_or-drop at s i 0 }

part_drop : (by : ℕ) (t s : List ℕ) (at : ℕ) → Part by t s → Part 0 (drop at t) (drop (by + at) s)
part_drop by t s at h = record {
  fits = (let f = h.fits in let e = length-drop at t in let d = length-drop (by + at) s in omega arith);
  same = λ i l. (
      let e = length-drop at t in
      let k : at + i < length t = omega arith in
      let z : by + (at + i) ≡ by + at + (0 + i) = omega arith in
      get_or-drop at t i 0 ∙ h.same (at + i) k ∙ ap (λ (j : ℕ). get_or s j 0) z ∙ sym (get_or-drop (by + at) s (0 + i) 0));
}

-- the bytes of a part, and the numbers that they make
module _ {by : ℕ} {t s : List ℕ} (h : Part by t s) where
  part_part : (from count : ℕ) → from + count ≤ length t → part from count t ≡ part (by + from) count s
  unfolding part
  part_part from count l =
      let f = h.fits in
      let d = length-drop from t in
      let e = length-drop (by + from) s in
      let m = length-take-le count (drop from t) (omega arith) in
      let n = length-take-le count (drop (by + from) s) (omega arith) in
      ext_get_or 0 _ _ (m ∙ sym n) (λ i k.
      let c : i < count = omega arith in
      let o : from + i < length t = omega arith in
      let z : by + (from + i) ≡ by + from + i = omega arith in
      get_or-take count (drop from t) i 0 c ∙ get_or-drop from t i 0 ∙ h.same (from + i) o ∙ ap (λ (j : ℕ). get_or s j 0) z
      ∙ sym (get_or-take count (drop (by + from) s) i 0 c ∙ get_or-drop (by + from) s i 0))

le_part : (w : ℕ) {by : ℕ} {t s : List ℕ} → Part by t s → (at : ℕ) → at + w ≤ length t → little_endian w (drop at t) ≡ little_endian w (drop (by + at) s)
unfolding little_endian
le_part zero h at l = refl
le_part (suc w) {by} {t} {s} h at l =
    let i : at + 0 < length t = omega arith in
    let z : by + (at + 0) ≡ by + at + 0 = omega arith in
    let o : by + (at + 1) ≡ by + at + 1 = omega arith in
    let m : at + 1 + w ≤ length t = omega arith in
    rw (drop-drop 1 at t, drop-drop 1 (by + at) s, get_or-drop at t 0 0, get_or-drop (by + at) s 0 0)
    (ap₂ (λ (a b : ℕ). a + 256 * b) (h.same (at + 0) i ∙ ap (λ (j : ℕ). get_or s j 0) z)
    (le_part w h (at + 1) m ∙ ap (λ (j : ℕ). little_endian w (drop j s)) o))

-- bytes, coded bytes, numbers and names
module _ {by : ℕ} {t s : List ℕ} (h : Part by t s) where
  fits_less : (at : ℕ) → ltb at (length t) ≡ true → ltb (by + at) (length s) ≡ true
  fits_less at e = let l = ltb-true at (length t) e in let f = h.fits in lt-ltb (by + at) (length s) (omega arith)

  fits_most : (at k : ℕ) → leb (at + k) (length t) ≡ true → leb (by + at + k) (length s) ≡ true
  fits_most at k e = let l = leb-true (at + k) (length t) e in let f = h.fits in le-leb (by + at + k) (length s) (omega arith)

  pub byte_kept : (k m at : ℕ) → Kept by (byte_at k t at) (byte_at m s (by + at))
  unfolding byte_at
  byte_kept k m at =
      kept_need _ _ _ _ (fits_less at) (λ e. kept_as (sym (h.same at (ltb-true at (length t) e))) (omega arith))

  code_kept : (lo hi at : ℕ) → Kept by (code_at lo hi t at) (code_at lo hi s (by + at))
  unfolding code_at
  code_kept lo hi at = kept_bind _ _ (byte_kept 8 8 at) (λ b n. kept_need _ _ _ _ (λ e. e) (λ _. kept_ok refl))

  number_kept : (w at : ℕ) → Kept by (number_at w t at) (number_at w s (by + at))
  unfolding number_at
  number_kept w at =
      kept_need _ _ _ _ (fits_most at w) (λ e. kept_as (sym (le_part w h at (leb-true (at + w) (length t) e))) (omega arith))

  name_kept : (k m at : ℕ) → Kept by (name_at k t at) (name_at m s (by + at))
  unfolding name_at
  name_kept k m at =
      kept_bind _ _ (byte_kept k m at) (λ c n.
      kept_need _ _ _ _ (fits_most n c) (λ e.
      let q = part_part h n c (leb-true (n + c) (length t) e) in
      kept_need _ _ _ _ (λ b. ap name_bytes (sym q) ∙ b) (λ _. kept_as (sym q) (omega arith))))

-- so many of a kind
pub many_kept : {A : Type 0} {by : ℕ} {t s : List ℕ} (p q : List ℕ → ℕ → Parsed A) → ((at : ℕ) → Kept by (p t at) (q s (by + at)))
    → (c at : ℕ) → Kept by (many p c t at) (many q c s (by + at))
unfolding many
many_kept p q h zero at = kept_ok refl
many_kept p q h (suc c) at = kept_bind _ _ (h at) (λ x n. kept_bind _ _ (many_kept p q h c n) (λ xs m. kept_ok refl))

-- a part of the part
shift_kept : {A : Type 0} (by at : ℕ) {p q : Parsed A} → Kept 0 p q → Kept by (shift at p) (shift (by + at) q)
unfolding shift
shift_kept by at (kept_ok {n = n} {m = m} e) = let z : by + at + m ≡ by + (at + n) = omega arith in kept_ok z
shift_kept by at kept_no = kept_no

pub within_kept : {A : Type 0} {by : ℕ} {t s : List ℕ} (p q : List ℕ → Parsed A) → ((u v : List ℕ) → Part 0 u v → Kept 0 (p u) (q v)) → Part by t s
    → (at : ℕ) → Kept by (within p t at) (within q s (by + at))
unfolding within
within_kept {by = by} p q f h at = shift_kept by at (f _ _ (part_drop _ _ _ at h))

-- labels and types
module _ {by : ℕ} {t s : List ℕ} (h : Part by t s) where
  pub names_kept : (k m c at : ℕ) → Kept by (names_at k c t at) (names_at m c s (by + at))
  unfolding names_at
  names_kept k m c at = many_kept (name_at k) (name_at m) (name_kept h k m) c at

  counted_kept : {A : Type 0} (p : List ℕ → ℕ → Parsed A) → ((at : ℕ) → Kept by (p t at) (p s (by + at))) → (at : ℕ)
      → Kept by (counted p t at) (counted p s (by + at))
  unfolding counted
  counted_kept p f at = kept_bind _ _ (number_kept h 2 at) (λ c n. many_kept p p f c n)

  pub after_kept : (tag : ℕ) (f : Follows) (at : ℕ) → Kept by (after_tag tag f t at) (after_tag tag f s (by + at))
  unfolding after_tag
  after_kept tag (code hi) at = kept_bind _ _ (code_kept h 0 hi at) (λ a n. kept_ok refl)
  after_kept tag sub_byte at = kept_bind _ _ (code_kept h 0 1 at) (λ a n. kept_bind _ _ (code_kept h 1 64 n) (λ b m. kept_ok refl))
  after_kept tag identity at = kept_bind _ _ (number_kept h 4 at) (λ a n. kept_ok refl)
  after_kept tag size at = kept_bind _ _ (number_kept h 8 at) (λ a n. kept_ok refl)
  after_kept tag nothing at = kept_ok refl
  after_kept tag bits at = kept_bind _ _ (byte_kept h 8 8 at) (λ k n. kept_bind _ _ (names_kept 8 8 k n) (λ xs m. kept_ok refl))
  after_kept tag unknown at = kept_no

  inner_kept : (p q : List ℕ → Parsed Ty) → ((u v : List ℕ) → Part 0 u v → Kept 0 (p u) (q v)) → (i : ℕ) (l : Label) (at : ℕ)
      → Kept by (inner_at i l p t at) (inner_at i l q s (by + at))
  unfolding inner_at
  inner_kept p q f zero l at = kept_ok refl
  inner_kept p q f (suc zero) l at = kept_bind _ _ (within_kept p q f h at) (λ u n. kept_ok refl)
  inner_kept p q f (suc (suc k)) l at =
      kept_bind _ _ (within_kept p q f h at) (λ u n. kept_bind _ _ (within_kept p q f h n) (λ v m. kept_ok refl))

label_kept : (t s : List ℕ) → Part 0 t s → Kept 0 (label_of t) (label_of s)
unfolding label_of
label_kept t s h = kept_bind _ _ (byte_kept h 8 8 0) (λ tag n. after_kept h tag (follows_tag tag) n)

pub type_kept : (d e : ℕ) → d ≤ e → (t s : List ℕ) → Part 0 t s → Kept 0 (type_of d t) (type_of e s)
unfolding type_of
type_kept zero e l t s h = kept_no
type_kept (suc d) zero l t s h = absurd (omega arith)
type_kept (suc d) (suc e) l t s h =
    kept_bind _ _ (label_kept t s h) (λ a n.
    inner_kept h (type_of d) (type_of e) (λ u v p. type_kept d e (omega arith) u v p) (inner_types a.tag) a n)

-- items
module _ {by : ℕ} {t s : List ℕ} (h : Part by t s) where
  type_at_kept : (at : ℕ) → Kept by (type_at t at) (type_at s (by + at))
  unfolding type_at
  type_at_kept at = within_kept (type_of 32) (type_of 32) (type_kept 32 32 (omega arith)) h at

  marks_kept : (at : ℕ) → Kept by (marks_at t at) (marks_at s (by + at))
  unfolding marks_at
  marks_kept at = kept_bind _ _ (code_kept h 0 3 at) (λ b n. kept_ok refl)

  encoding_kept : (left at : ℕ) → Kept by (encoding_of left t at) (encoding_of left s (by + at))
  unfolding encoding_of
  encoding_kept zero at = kept_bind _ _ (code_kept h 0 3 at) (λ b n. kept_pick _ kept_no (kept_ok refl))
  encoding_kept (suc left) at =
      kept_bind _ _ (code_kept h 0 3 at) (λ b n. kept_pick _ (kept_bind _ _ (encoding_kept left n) (λ e m. kept_ok refl)) (kept_ok refl))

  encoding_at_kept : (at : ℕ) → Kept by (encoding_at t at) (encoding_at s (by + at))
  unfolding encoding_at
  encoding_at_kept at = encoding_kept 8 at

  limit_kept : (at : ℕ) → Kept by (limit_at t at) (limit_at s (by + at))
  unfolding limit_at
  limit_kept at =
      kept_bind _ _ (code_kept h 0 1 at) (λ b n. kept_pick _ (kept_ok refl) (kept_bind _ _ (number_kept h 8 n) (λ v m. kept_ok refl)))

  field_kept : (at : ℕ) → Kept by (field_at t at) (field_at s (by + at))
  unfolding field_at
  field_kept at =
      kept_bind _ _ (number_kept h 4 at) (λ o n₁.
      kept_bind _ _ (name_kept h 8 8 n₁) (λ x n₂.
      kept_bind _ _ (marks_kept n₂) (λ m n₃.
      kept_bind _ _ (encoding_at_kept n₃) (λ e n₄.
      kept_bind _ _ (limit_kept n₄) (λ l n₅.
      kept_bind _ _ (type_at_kept n₅) (λ u n₆.
      kept_ok refl))))))

  bare_kept : (at : ℕ) → Kept by (bare_at t at) (bare_at s (by + at))
  unfolding bare_at
  bare_kept at = kept_bind _ _ (number_kept h 4 at) (λ o n₁. kept_bind _ _ (name_kept h 8 8 n₁) (λ x n₂. kept_ok refl))

  -- what a format stores, and tombstones
  stored_kept : {A : Type 0} (stores : Bool) (absent : A) (p : List ℕ → ℕ → Parsed A) → ((at : ℕ) → Kept by (p t at) (p s (by + at))) → (at : ℕ)
      → Kept by (stored stores absent p t at) (stored stores absent p s (by + at))
  unfolding stored
  stored_kept stores absent p k at = kept_pick stores (k at) (kept_ok refl)

  tombstones_kept : (f at : ℕ) → Kept by (tombstones_at f t at) (tombstones_at f s (by + at))
  unfolding tombstones_at
  tombstones_kept f at = stored_kept _ _ _ (counted_kept h (number_at 4) (number_kept h 4)) at

  variant_kept : (f at : ℕ) → Kept by (variant_at f t at) (variant_at f s (by + at))
  unfolding variant_at
  variant_kept f at =
      kept_bind _ _ (number_kept h 4 at) (λ o n₁.
      kept_bind _ _ (name_kept h 8 8 n₁) (λ x n₂.
      kept_bind _ _ (counted_kept h field_at field_kept n₂) (λ fs n₃.
      kept_bind _ _ (tombstones_kept f n₃) (λ ts n₄.
      kept_ok refl))))

  -- widths
  wire_bits_kept : (at : ℕ) → Kept by (wire_bits_at t at) (wire_bits_at s (by + at))
  unfolding wire_bits_at
  wire_bits_kept at = byte_kept h 8 8 at

  wire_bytes_kept : (at : ℕ) → Kept by (wire_bytes_at t at) (wire_bytes_at s (by + at))
  unfolding wire_bytes_at
  wire_bytes_kept at = kept_bind _ _ (byte_kept h 8 8 at) (λ b n. kept_need _ _ _ _ (λ e. e) (λ _. kept_ok refl))

  width_kept : (f : ℕ) (wire : List ℕ → ℕ → Parsed ℕ) → ((at : ℕ) → Kept by (wire t at) (wire s (by + at))) → (at : ℕ)
      → Kept by (width_at f wire t at) (width_at f wire s (by + at))
  unfolding width_at
  width_kept f wire k at = stored_kept _ _ _ (λ at. kept_bind _ _ (k at) (λ w n. kept_ok refl)) at

  -- declarations, in a format
  message_kept : (at : ℕ) → Kept by (message_at t at) (message_at s (by + at))
  unfolding message_at
  message_kept at =
      kept_bind _ _ (name_kept h 8 8 at) (λ x n₁. kept_bind _ _ (marks_kept n₁) (λ m n₂. kept_bind _ _ (counted_kept h field_at field_kept n₂) (λ fs n₃. kept_ok refl)))

  enum_kept : (f at : ℕ) → Kept by (enum_at f t at) (enum_at f s (by + at))
  unfolding enum_at
  enum_kept f at =
      kept_bind _ _ (name_kept h 8 8 at) (λ x n₁.
      kept_bind _ _ (marks_kept n₁) (λ m n₂.
      kept_bind _ _ (width_kept f wire_bits_at wire_bits_kept n₂) (λ w n₃.
      kept_bind _ _ (counted_kept h bare_at bare_kept n₃) (λ vs n₄.
      kept_ok refl))))

  flags_kept : (f at : ℕ) → Kept by (flags_at f t at) (flags_at f s (by + at))
  unfolding flags_at
  flags_kept f at =
      kept_bind _ _ (name_kept h 8 8 at) (λ x n₁.
      kept_bind _ _ (width_kept f wire_bytes_at wire_bytes_kept n₁) (λ w n₂.
      kept_bind _ _ (counted_kept h bare_at bare_kept n₂) (λ vs n₃.
      kept_ok refl)))

  union_kept : (f at : ℕ) → Kept by (union_at f t at) (union_at f s (by + at))
  unfolding union_at
  union_kept f at = kept_bind _ _ (name_kept h 8 8 at) (λ x n₁. kept_bind _ _ (counted_kept h (variant_at f) (variant_kept f) n₁) (λ vs n₂. kept_ok refl))

  newtype_kept : (at : ℕ) → Kept by (newtype_at t at) (newtype_at s (by + at))
  unfolding newtype_at
  newtype_kept at = kept_bind _ _ (name_kept h 8 8 at) (λ x n₁. kept_bind _ _ (type_at_kept n₁) (λ u n₂. kept_ok refl))

  other_kept : (kind at : ℕ) → Kept by (other_at kind t at) (other_at kind s (by + at))
  unfolding other_at
  other_kept kind at = kept_bind _ _ (name_kept h 8 8 at) (λ x n. kept_ok refl)

  closed_kept : (f : ℕ) (p : List ℕ → ℕ → Parsed Decl) → ((at : ℕ) → Kept by (p t at) (p s (by + at))) → (at : ℕ)
      → Kept by (closed f p t at) (closed f p s (by + at))
  unfolding closed
  closed_kept f p k at = kept_bind _ _ (k at) (λ d n. kept_bind _ _ (tombstones_kept f n) (λ ts m. kept_ok refl))

  decl_kept : (f : ℕ) (kind : Kind) (at : ℕ) → Kept by (decl_at f kind t at) (decl_at f kind s (by + at))
  unfolding decl_at impl_at
  decl_kept f message at = closed_kept f message_at message_kept at
  decl_kept f enum at = closed_kept f (enum_at f) (enum_kept f) at
  decl_kept f flags at = closed_kept f (flags_at f) (flags_kept f) at
  decl_kept f union at = closed_kept f (union_at f) (union_kept f) at
  decl_kept f newtype at = newtype_kept at
  decl_kept f config at = other_kept (number config_kind) at
  decl_kept f alias at = other_kept (number alias_kind) at
  decl_kept f trait at = other_kept (number trait_kind) at
  decl_kept f impl at = kept_ok refl
  decl_kept f other at = kept_no

-- a test of the end that the whole does not make
tested : {A : Type 0} {by : ℕ} (b : Bool) (k : ℕ) {x y : Parsed A} → Kept by x y → Kept by (pick b x (no k)) y
unfolding pick
tested true k h = h
tested false k h = kept_no

kept_test : {A : Type 0} {by : ℕ} {p q : Parsed A} (test : ℕ → Bool) (k : ℕ) → Kept by p q → Kept by (bind p (λ a n. pick (test n) (ok a n) (no k))) q
unfolding bind
kept_test test k (kept_ok {n = n} e) = tested (test n) k (kept_ok e)
kept_test test k kept_no = kept_no

-- a whole body, in the format of the list that it is a part of
pub body_kept : (by : ℕ) (t s : List ℕ) → Part by t s → Kept by (body_of (format s) t) (body_at s by)
unfolding body_of body_at
body_kept by t s h =
    let z : by + 0 ≡ by = omega arith in
    kept_bind _ _ (rw z at (byte_kept h 8 8 0)) (λ kind n. kept_test (λ m. eqb m (length t)) 8 (decl_kept h (format s) (kind_of kind) n))
