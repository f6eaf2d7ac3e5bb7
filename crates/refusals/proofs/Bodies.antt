-- A body is refused by 6 to 10 and by nothing else. Assumes nothing.
use mathlib.Core.List.{List}
use Prim.Native.Nat.{ℕ, zero, suc, ◌+◌, ◌≤◌}
use mathlib.Core.Bool.{Bool}
use lib.Dec.{T, leb, lit≤}
use Rattle.image.specs.Schema.{Ty, Label, Decl}
use Rattle.image.specs.Formats.{stored}
use Rattle.image.specs.Parse.{Parsed, no, byte_at, code_at, number_at, counted}
use Rattle.image.specs.Names.{name_at, names_at}
use Rattle.image.specs.Types.{Follows, code, sub_byte, identity, size, nothing, bits, unknown, follows_tag, inner_types, after_tag, label_of, inner_at, type_of, type_at}
use Rattle.image.specs.Fields.{marks_at, encoding_of, encoding_at, limit_at, field_at, bare_at, variant_at}
use Rattle.image.specs.Codes.{number, kind_refusal, body_refusal, code_refusal}
use Rattle.image.specs.Kinds.{Kind, message, enum, flags, union, newtype, config, alias, trait, impl, other, kind_of}
use Rattle.image.specs.Widths.{wire_bits_at, wire_bytes_at, width_at}
use Rattle.image.specs.Tombstones.{tombstones_at}
use Rattle.image.specs.Bodies.{message_at, enum_at, flags_at, union_at, newtype_at, other_at, impl_at, closed, decl_at, body_of}
use Rattle.image.specs.Image.{entry_of, entries_of}
use Rattle.refusals.proofs.Told.{Told, told_ok, told_no, Any, told_bind, told_pick, told_within, told_many}

pub record Body (k : ℕ) : Type 0 where
  pub low : 6 ≤ k
  pub high : k ≤ 10

by : (k : ℕ) {A : Type 0} {P : A → ℕ → Type 0} → T (leb 6 k) → T (leb k 10) → Told P Body (no k)
by k low high = told_no (record { low = lit≤ low; high = lit≤ high })

byte_told : (s : List ℕ) (at : ℕ) → Told Any Body (byte_at 8 s at)
unfolding byte_at
byte_told s at = told_pick _ (λ h. told_ok tt) (λ h. by 8 tt tt)

code_told : (lo hi : ℕ) (s : List ℕ) (at : ℕ) → Told Any Body (code_at lo hi s at)
unfolding code_at
code_told lo hi s at =
    told_bind _ (byte_told s at) (λ b n _. told_pick _ (λ h. told_ok tt) (λ h. by 9 tt tt))

number_told : (w : ℕ) (s : List ℕ) (at : ℕ) → Told Any Body (number_at w s at)
unfolding number_at
number_told w s at = told_pick _ (λ h. told_ok tt) (λ h. by 8 tt tt)

counted_told : {A : Type 0} (p : List ℕ → ℕ → Parsed A) → ((s : List ℕ) (at : ℕ) → Told Any Body (p s at))
    → (s : List ℕ) (at : ℕ) → Told Any Body (counted p s at)
unfolding counted
counted_told p h s at = told_bind _ (number_told 2 s at) (λ c n _. told_many p h c s n)

name_told : (s : List ℕ) (at : ℕ) → Told Any Body (name_at 8 s at)
unfolding name_at
name_told s at =
    told_bind _ (byte_told s at) (λ k n _.
    told_pick _
    (λ h. told_pick _ (λ g. told_ok tt) (λ g. by 7 tt tt))
    (λ h. by 8 tt tt))

names_told : (count : ℕ) (s : List ℕ) (at : ℕ) → Told Any Body (names_at 8 count s at)
unfolding names_at
names_told count s at = told_many (name_at 8) name_told count s at

after_told : (tag : ℕ) (f : Follows) (s : List ℕ) (at : ℕ) → Told Any Body (after_tag tag f s at)
unfolding after_tag
after_told tag (code highest) s at = told_bind _ (code_told 0 highest s at) (λ a n _. told_ok tt)
after_told tag sub_byte s at = told_bind _ (code_told 0 1 s at) (λ a n _. told_bind _ (code_told 1 64 s n) (λ b m _. told_ok tt))
after_told tag identity s at = told_bind _ (number_told 4 s at) (λ a n _. told_ok tt)
after_told tag size s at = told_bind _ (number_told 8 s at) (λ a n _. told_ok tt)
after_told tag nothing s at = told_ok tt
after_told tag bits s at = told_bind _ (byte_told s at) (λ k n _. told_bind _ (names_told k s n) (λ x m _. told_ok tt))
after_told tag unknown s at = by 9 tt tt

inner_told : (p : List ℕ → Parsed Ty) → ((s : List ℕ) → Told Any Body (p s)) → (i : ℕ) (l : Label) (s : List ℕ) (at : ℕ)
    → Told Any Body (inner_at i l p s at)
unfolding inner_at
inner_told p h zero l s at = told_ok tt
inner_told p h (suc zero) l s at = told_bind _ (told_within p h s at) (λ t n _. told_ok tt)
inner_told p h (suc (suc k)) l s at =
    told_bind _ (told_within p h s at) (λ t n _. told_bind _ (told_within p h s n) (λ u m _. told_ok tt))

type_told : (left : ℕ) (s : List ℕ) → Told Any Body (type_of left s)
unfolding type_of label_of
type_told zero s = by 10 tt tt
type_told (suc left) s =
    told_bind _ (told_bind _ (byte_told s 0) (λ tag n _. after_told tag (follows_tag tag) s n)) (λ l n _.
    inner_told (type_of left) (type_told left) (inner_types l.tag) l s n)

type_at_told : (s : List ℕ) (at : ℕ) → Told Any Body (type_at s at)
unfolding type_at
type_at_told s at = told_within (type_of 32) (type_told 32) s at

marks_told : (s : List ℕ) (at : ℕ) → Told Any Body (marks_at s at)
unfolding marks_at
marks_told s at = told_bind _ (code_told 0 3 s at) (λ b n _. told_ok tt)

encoding_told : (left : ℕ) (s : List ℕ) (at : ℕ) → Told Any Body (encoding_of left s at)
unfolding encoding_of
encoding_told zero s at =
    told_bind _ (code_told 0 3 s at) (λ b n _. told_pick _ (λ h. by 10 tt tt) (λ h. told_ok tt))
encoding_told (suc left) s at =
    told_bind _ (code_told 0 3 s at) (λ b n _.
    told_pick _ (λ h. told_bind _ (encoding_told left s n) (λ e m _. told_ok tt)) (λ h. told_ok tt))

limit_told : (s : List ℕ) (at : ℕ) → Told Any Body (limit_at s at)
unfolding limit_at
limit_told s at =
    told_bind _ (code_told 0 1 s at) (λ b n _.
    told_pick _ (λ h. told_ok tt) (λ h. told_bind _ (number_told 8 s n) (λ v m _. told_ok tt)))

field_told : (s : List ℕ) (at : ℕ) → Told Any Body (field_at s at)
unfolding field_at encoding_at
field_told s at =
    told_bind _ (number_told 4 s at) (λ o n₁ _.
    told_bind _ (name_told s n₁) (λ x n₂ _.
    told_bind _ (marks_told s n₂) (λ m n₃ _.
    told_bind _ (encoding_told 8 s n₃) (λ e n₄ _.
    told_bind _ (limit_told s n₄) (λ l n₅ _.
    told_bind _ (type_at_told s n₅) (λ t n₆ _. told_ok tt))))))

bare_told : (s : List ℕ) (at : ℕ) → Told Any Body (bare_at s at)
unfolding bare_at
bare_told s at = told_bind _ (number_told 4 s at) (λ o n₁ _. told_bind _ (name_told s n₁) (λ x n₂ _. told_ok tt))

-- what a format stores
stored_told : {A : Type 0} (stores : Bool) (absent : A) (p : List ℕ → ℕ → Parsed A) → ((s : List ℕ) (at : ℕ) → Told Any Body (p s at))
    → (s : List ℕ) (at : ℕ) → Told Any Body (stored stores absent p s at)
unfolding stored
stored_told stores absent p told s at = told_pick _ (λ h. told s at) (λ h. told_ok tt)

tombstones_told : (f : ℕ) (s : List ℕ) (at : ℕ) → Told Any Body (tombstones_at f s at)
unfolding tombstones_at
tombstones_told f s at = stored_told _ _ _ (counted_told (number_at 4) (number_told 4)) s at

variant_told : (f : ℕ) (s : List ℕ) (at : ℕ) → Told Any Body (variant_at f s at)
unfolding variant_at
variant_told f s at =
    told_bind _ (number_told 4 s at) (λ o n₁ _.
    told_bind _ (name_told s n₁) (λ x n₂ _.
    told_bind _ (counted_told field_at field_told s n₂) (λ fs n₃ _.
    told_bind _ (tombstones_told f s n₃) (λ ts n₄ _. told_ok tt))))

width_told : (f : ℕ) (wire : List ℕ → ℕ → Parsed ℕ) → ((s : List ℕ) (at : ℕ) → Told Any Body (wire s at)) → (s : List ℕ) (at : ℕ)
    → Told Any Body (width_at f wire s at)
unfolding width_at
width_told f wire told s at = stored_told _ _ _ (λ s at. told_bind _ (told s at) (λ w n _. told_ok tt)) s at

bits_told : (s : List ℕ) (at : ℕ) → Told Any Body (wire_bits_at s at)
unfolding wire_bits_at
bits_told s at = byte_told s at

bytes_told : (s : List ℕ) (at : ℕ) → Told Any Body (wire_bytes_at s at)
unfolding wire_bytes_at
bytes_told s at = told_bind _ (byte_told s at) (λ b n _. told_pick _ (λ h. told_ok tt) (λ h. by (number code_refusal) tt tt))

-- and its tombstones
closed_told : (f : ℕ) (p : List ℕ → ℕ → Parsed Decl) → ((s : List ℕ) (at : ℕ) → Told Any Body (p s at)) → (s : List ℕ) (at : ℕ)
    → Told Any Body (closed f p s at)
unfolding closed
closed_told f p told s at = told_bind _ (told s at) (λ d n _. told_bind _ (tombstones_told f s n) (λ ts m _. told_ok tt))

decl_told : (f : ℕ) (kind : Kind) (s : List ℕ) (at : ℕ) → Told Any Body (decl_at f kind s at)
unfolding decl_at message_at enum_at flags_at union_at newtype_at other_at impl_at
decl_told f message s at =
    closed_told f _ (λ s at.
    told_bind _ (name_told s at) (λ x n₁ _.
    told_bind _ (marks_told s n₁) (λ m n₂ _.
    told_bind _ (counted_told field_at field_told s n₂) (λ fs n₃ _. told_ok tt)))) s at
decl_told f enum s at =
    closed_told f _ (λ s at.
    told_bind _ (name_told s at) (λ x n₁ _.
    told_bind _ (marks_told s n₁) (λ m n₂ _.
    told_bind _ (width_told f wire_bits_at bits_told s n₂) (λ w n₃ _.
    told_bind _ (counted_told bare_at bare_told s n₃) (λ vs n₄ _. told_ok tt))))) s at
decl_told f flags s at =
    closed_told f _ (λ s at.
    told_bind _ (name_told s at) (λ x n₁ _.
    told_bind _ (width_told f wire_bytes_at bytes_told s n₁) (λ w n₂ _.
    told_bind _ (counted_told bare_at bare_told s n₂) (λ vs n₃ _. told_ok tt)))) s at
decl_told f union s at =
    closed_told f _ (λ s at.
    told_bind _ (name_told s at) (λ x n₁ _. told_bind _ (counted_told (variant_at f) (variant_told f) s n₁) (λ vs n₂ _. told_ok tt))) s at
decl_told f newtype s at =
    told_bind _ (name_told s at) (λ x n₁ _. told_bind _ (type_at_told s n₁) (λ t n₂ _. told_ok tt))
decl_told f config s at = told_bind _ (name_told s at) (λ x n _. told_ok tt)
decl_told f alias s at = told_bind _ (name_told s at) (λ x n _. told_ok tt)
decl_told f trait s at = told_bind _ (name_told s at) (λ x n _. told_ok tt)
decl_told f impl s at = told_ok tt
decl_told f other s at = by (number kind_refusal) tt tt

body_told : (f : ℕ) (s : List ℕ) → Told Any Body (body_of f s)
unfolding body_of
body_told f s =
    told_bind _ (byte_told s 0) (λ kind n₁ _.
    told_bind _ (decl_told f (kind_of kind) s n₁) (λ d n₂ _.
    told_pick _ (λ h. told_ok tt) (λ h. by (number body_refusal) tt tt)))

entry_told : (f : ℕ) (s : List ℕ) (i : ℕ) → Told Any Body (entry_of f s i)
unfolding entry_of
entry_told f s i = told_pick _ (λ h. told_ok tt) (λ h. told_bind _ (body_told f _) (λ d n _. told_ok tt))

pub entries_told : (f count : ℕ) (s : List ℕ) (i : ℕ) → Told Any Body (entries_of f count s i)
unfolding entries_of
entries_told f zero s i = told_ok tt
entries_told f (suc count) s i =
    told_bind _ (entry_told f s i) (λ e n _. told_bind _ (entries_told f count s (i + 1)) (λ es m _. told_ok tt))
