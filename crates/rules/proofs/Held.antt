-- What an accepted image holds is no larger than the bytes that hold it. Assumes nothing.
use mathlib.Core.Path.{◌≡◌, refl, ap}
use mathlib.Core.Bool.{◌&&◌}
use Rattle.std.specs.Prelude.{Option, None, Some}
use mathlib.Core.List.{List, [], ◌∷◌}
use Prim.Native.Nat.{ℕ, zero, suc, ◌+◌, ◌≤◌}
use native.Mathlib.Omega.{arith}
use borrow.Author.Tests.{leb-true, eqb-true}
use lib.Dec.{leb}
use lib.ListN.{length, get_or, drop}
use Rattle.maps.specs.Lists.{total, All}
use Rattle.image.specs.Schema.{Name, Encoding, Label, Ty, Decl, Schema}
use Rattle.image.specs.Parse.{Parsed, ok, shift, within, part, number_at, many, counted}
use Rattle.image.specs.Names.{name_at, names_at}
use Rattle.image.specs.Types.{Follows, code, sub_byte, identity, size, nothing, bits, unknown, follows_tag, inner_types, after_tag, label_of, inner_at, type_of, type_at}
use Rattle.image.specs.Fields.{plain, delta, marks_at, encoding_of, encoding_at, limit_at, field_at, bare_at, variant_at}
use Rattle.image.specs.Kinds.{kind_of}
use Rattle.image.specs.Widths.{wire_bits_at, wire_bytes_at, width_at}
use Rattle.image.specs.Formats.{stored}
use Rattle.image.specs.Tombstones.{tombstones_at}
use Rattle.image.specs.Bodies.{message_at, enum_at, flags_at, union_at, newtype_at, other_at, impl_at, closed, decl_at, body_of}
use Rattle.image.specs.Image.{entry_count, id_count, segment_count, segments_at, ids_at, tables_of, entry_offset, entry_length, entry_of, entries_of, read_image}
use Rattle.image.proofs.Laws.Sure.{Sure, sure_ok, sure_no, sure_bind, sure_pick, sure_need, sure_then, byte_sure, code_sure, number_sure, name_sure, names_sure, Head, head_sure}
use Rattle.image.proofs.Laws.Repeats.{ids_length}
use Rattle.image.proofs.Laws.Names.{part_length}
use Rattle.maps.proofs.Tests.{both}
use Rattle.rules.proofs.Sizes.{names_size, numbers_size, type_size, field_size, variant_size, decl_size}

-- a value of this size stands between the position and the one after it
abbrev Takes : {A : Type 0} → (A → ℕ) → ℕ → A → ℕ → Type 0
Takes measure at a n = at + measure a ≤ n

-- a value and the position after it, written out
yields : {A : Type 0} {P : A → ℕ → Type 0} (a : A) (n : ℕ) → P a n → Sure P (ok a n)
yields a n h = sure_ok h

sure_both : {A : Type 0} {P Q : A → ℕ → Type 0} {p : Parsed A} → Sure P p → Sure Q p → Sure (λ a n. P a n × Q a n) p
sure_both (sure_ok h) (sure_ok k) = sure_ok (h, k)
sure_both sure_no sure_no = sure_no

-- ---- names

name_takes : (short : ℕ) (s : List ℕ) (at : ℕ) → Sure (Takes (λ (x : Name). 1 + length x) at) (name_at short s at)
name_takes short s at =
    sure_then (name_sure short s at) (λ x n q. omega (arith, ap length q.value, (part_length (at + 1) (get_or s at 0) s).0, q.next))

module _ {A : Type 0} (p : List ℕ → ℕ → Parsed A) (measure : A → ℕ) (s : List ℕ) (h : (at : ℕ) → Sure (Takes measure at) (p s at)) where
  many_take : (c at : ℕ) → Sure (Takes (total measure) at) (many p c s at)
  unfolding many total
  many_take zero at = yields [] at (omega arith)
  many_take (suc c) at = sure_bind _ (h at) (λ x n i. sure_bind _ (many_take c n) (λ xs m j. yields (x ∷ xs) m (omega arith)))

  counted_take : (at : ℕ) → Sure (λ xs n. at + 2 + total measure xs ≤ n) (counted p s at)
  unfolding counted
  counted_take at = sure_bind _ (number_sure 2 s at) (λ c n k. sure_then (many_take c n) (λ xs m j. omega (arith, k.next)))

names_take : (short c : ℕ) (s : List ℕ) (at : ℕ) → Sure (Takes names_size at) (names_at short c s at)
unfolding names_at names_size
names_take short c s at = many_take (name_at short) (λ (x : Name). 1 + length x) s (name_takes short s) c at

-- ---- types

after_takes : (tag : ℕ) (f : Follows) (s : List ℕ) (at : ℕ) → Sure (Takes (λ (l : Label). names_size l.names) at) (after_tag tag f s at)
unfolding after_tag names_size total
after_takes tag (code highest) s at = sure_bind _ (code_sure 0 highest s at) (λ a n q. yields _ n (omega (arith, q.byte.next)))
after_takes tag sub_byte s at =
    sure_bind _ (code_sure 0 1 s at)
    (λ a n q. sure_bind _ (code_sure 1 64 s n) (λ b m r. yields _ m (omega (arith, q.byte.next, r.byte.next))))
after_takes tag identity s at = sure_bind _ (number_sure 4 s at) (λ a n q. yields _ n (omega (arith, q.next)))
after_takes tag size s at = sure_bind _ (number_sure 8 s at) (λ a n q. yields _ n (omega (arith, q.next)))
after_takes tag nothing s at = yields _ at (omega arith)
after_takes tag bits s at =
    sure_bind _ (byte_sure 8 s at) (λ k n q. sure_bind _ (names_take 8 k s n) (λ xs m r. yields _ m (omega (arith, q.next))))
after_takes tag unknown s at = sure_no

label_takes : (s : List ℕ) → Sure (λ l n. 1 + names_size l.names ≤ n) (label_of s)
unfolding label_of
label_takes s =
    sure_bind _ (byte_sure 8 s 0) (λ tag n q. sure_then (after_takes tag (follows_tag tag) s n) (λ l m r. omega (arith, q.next)))

within_takes : {A : Type 0} (p : List ℕ → Parsed A) (measure : A → ℕ) → ((s : List ℕ) → Sure (λ a n. measure a ≤ n) (p s))
    → (s : List ℕ) (at : ℕ) → Sure (Takes measure at) (within p s at)
unfolding within shift
within_takes {A = A} p measure h s at = go (h (drop at s))
  where
    go : {r : Parsed A} → Sure (λ a n. measure a ≤ n) r → Sure (Takes measure at) (shift at r)
    go (sure_ok {a = a} {n = n} q) = yields a (at + n) (omega (arith, q))
    go sure_no = sure_no

inner_takes : (p : List ℕ → Parsed Ty) → ((s : List ℕ) → Sure (λ t n. type_size t ≤ n) (p s)) → (i : ℕ) (l : Label) (s : List ℕ) (at : ℕ)
    → 1 + names_size l.names ≤ at → Sure (λ t n. type_size t ≤ n) (inner_at i l p s at)
unfolding inner_at type_size
inner_takes p q zero l s at h = sure_ok h
inner_takes p q (suc zero) l s at h = sure_bind _ (within_takes p type_size q s at) (λ t n r. yields _ n (omega arith))
inner_takes p q (suc (suc k)) l s at h =
    sure_bind _ (within_takes p type_size q s at) (λ t n r. sure_bind _ (within_takes p type_size q s n) (λ u m o. yields _ m (omega arith)))

type_takes : (d : ℕ) (s : List ℕ) → Sure (λ t n. type_size t ≤ n) (type_of d s)
unfolding type_of
type_takes zero s = sure_no
type_takes (suc d) s = sure_bind _ (label_takes s) (λ l n q. inner_takes (type_of d) (type_takes d) (inner_types l.tag) l s n q)

type_at_takes : (s : List ℕ) (at : ℕ) → Sure (Takes type_size at) (type_at s at)
unfolding type_at
type_at_takes s at = within_takes (type_of 32) type_size (type_takes 32) s at

-- ---- items

marks_take : (s : List ℕ) (at : ℕ) → Sure (λ m n. at ≤ n) (marks_at s at)
unfolding marks_at
marks_take s at = sure_bind _ (code_sure 0 3 s at) (λ b n q. yields _ n (omega (arith, q.byte.next)))

encoding_takes : (left : ℕ) (s : List ℕ) (at : ℕ) → Sure (Takes (λ (e : Encoding). e.deltas) at) (encoding_of left s at)
unfolding encoding_of plain delta
encoding_takes zero s at =
    sure_bind _ (code_sure 0 3 s at) (λ b n q. sure_pick _ (λ h. sure_no) (λ h. yields _ n (omega (arith, q.byte.next))))
encoding_takes (suc left) s at =
    sure_bind _ (code_sure 0 3 s at) (λ b n q.
    sure_pick _
    (λ h. sure_bind _ (encoding_takes left s n) (λ e m r. yields _ m (omega (arith, q.byte.next))))
    (λ h. yields _ n (omega (arith, q.byte.next))))

limit_takes : (s : List ℕ) (at : ℕ) → Sure (λ l n. at ≤ n) (limit_at s at)
unfolding limit_at
limit_takes s at =
    sure_bind _ (code_sure 0 1 s at) (λ b n q.
    sure_pick _
    (λ h. yields _ n (omega (arith, q.byte.next)))
    (λ h. sure_bind _ (number_sure 8 s n) (λ v m r. yields _ m (omega (arith, q.byte.next, r.next)))))

field_takes : (s : List ℕ) (at : ℕ) → Sure (Takes field_size at) (field_at s at)
unfolding field_at encoding_at field_size
field_takes s at =
    sure_bind _ (number_sure 4 s at) (λ o n₁ q₁.
    sure_bind _ (name_takes 8 s n₁) (λ x n₂ q₂.
    sure_bind _ (marks_take s n₂) (λ m n₃ q₃.
    sure_bind _ (encoding_takes 8 s n₃) (λ e n₄ q₄.
    sure_bind _ (limit_takes s n₄) (λ l n₅ q₅.
    sure_bind _ (type_at_takes s n₅) (λ t n₆ q₆.
    yields _ n₆ (omega (arith, q₁.next))))))))

bare_takes : (s : List ℕ) (at : ℕ) → Sure (Takes variant_size at) (bare_at s at)
unfolding bare_at variant_size numbers_size total
bare_takes s at =
    sure_bind _ (number_sure 4 s at) (λ o n₁ q₁.
    sure_bind _ (name_takes 8 s n₁) (λ x n₂ q₂.
    yields _ n₂ (omega (arith, q₁.next))))

-- ---- tombstones, in any format

tombstones_take : (f : ℕ) (s : List ℕ) (at : ℕ) → Sure (Takes numbers_size at) (tombstones_at f s at)
unfolding tombstones_at stored numbers_size total
tombstones_take f s at =
    sure_pick _
    (λ e. sure_then (counted_take (number_at 4) (λ n. 1) s (λ i. sure_then (number_sure 4 s i) (λ n m q. omega (arith, q.next))) at) (λ ts n q. omega (arith, q)))
    (λ e. yields [] at (omega arith))

-- ---- variants and bits

variant_takes : (f : ℕ) (s : List ℕ) (at : ℕ) → Sure (Takes variant_size at) (variant_at f s at)
unfolding variant_at variant_size
variant_takes f s at =
    sure_bind _ (number_sure 4 s at) (λ o n₁ q₁.
    sure_bind _ (name_takes 8 s n₁) (λ x n₂ q₂.
    sure_bind _ (counted_take field_at field_size s (field_takes s) n₂) (λ fs n₃ q₃.
    sure_bind _ (tombstones_take f s n₃) (λ ts n₄ q₄.
    yields _ n₄ (omega (arith, q₁.next))))))

-- ---- widths, in any format

bits_take : (s : List ℕ) (at : ℕ) → Sure (λ w n. at ≤ n) (wire_bits_at s at)
unfolding wire_bits_at
bits_take s at = sure_then (byte_sure 8 s at) (λ b n q. omega (arith, q.next))

bytes_take : (s : List ℕ) (at : ℕ) → Sure (λ w n. at ≤ n) (wire_bytes_at s at)
unfolding wire_bytes_at
bytes_take s at = sure_bind _ (byte_sure 8 s at) (λ b n q. sure_need _ _ (λ h. yields b n (omega (arith, q.next))))

width_takes : (f : ℕ) (wire : List ℕ → ℕ → Parsed ℕ) (s : List ℕ) → ((at : ℕ) → Sure (λ w n. at ≤ n) (wire s at)) → (at : ℕ)
    → Sure (λ w n. at ≤ n) (width_at f wire s at)
unfolding width_at stored
width_takes f wire s h at = sure_pick _ (λ e. sure_bind _ (h at) (λ w n q. yields (Some w) n q)) (λ e. yields None at (omega arith))

-- ---- bodies: with the kind, at least a byte each

-- before its tombstones, and with them
module _ (f : ℕ) (p : List ℕ → ℕ → Parsed Decl) (s : List ℕ) (at : ℕ) where
  closed_takes : Sure (λ d n. at + decl_size d ≤ n + 1) (p s at) → Sure (λ d n. at + decl_size d ≤ n + 1) (closed f p s at)
  unfolding closed decl_size
  closed_takes h = sure_bind _ h (λ d n q. sure_bind _ (tombstones_take f s n) (λ ts m r. yields _ m (omega arith)))

decl_takes : (f kind : ℕ) (s : List ℕ) (at : ℕ) → Sure (λ d n. at + decl_size d ≤ n + 1) (decl_at f (kind_of kind) s at)
unfolding kind_of decl_at message_at enum_at flags_at union_at newtype_at other_at impl_at decl_size type_size names_size numbers_size total
decl_takes f zero s at =
    closed_takes f message_at s at
    (sure_bind _ (name_takes 8 s at) (λ x n₁ q₁.
    sure_bind _ (marks_take s n₁) (λ m n₂ q₂.
    sure_bind _ (counted_take field_at field_size s (field_takes s) n₂) (λ fs n₃ q₃.
    yields _ n₃ (omega arith)))))
decl_takes f (suc zero) s at =
    closed_takes f (enum_at f) s at
    (sure_bind _ (name_takes 8 s at) (λ x n₁ q₁.
    sure_bind _ (marks_take s n₁) (λ m n₂ q₂.
    sure_bind _ (width_takes f wire_bits_at s (bits_take s) n₂) (λ w n₃ q₃.
    sure_bind _ (counted_take bare_at variant_size s (bare_takes s) n₃) (λ vs n₄ q₄.
    yields _ n₄ (omega arith))))))
decl_takes f (suc (suc zero)) s at =
    closed_takes f (flags_at f) s at
    (sure_bind _ (name_takes 8 s at) (λ x n₁ q₁.
    sure_bind _ (width_takes f wire_bytes_at s (bytes_take s) n₁) (λ w n₂ q₂.
    sure_bind _ (counted_take bare_at variant_size s (bare_takes s) n₂) (λ vs n₃ q₃.
    yields _ n₃ (omega arith)))))
decl_takes f (suc (suc (suc zero))) s at =
    closed_takes f (union_at f) s at
    (sure_bind _ (name_takes 8 s at) (λ x n₁ q₁.
    sure_bind _ (counted_take (variant_at f) variant_size s (variant_takes f s) n₁) (λ vs n₂ q₂.
    yields _ n₂ (omega arith))))
decl_takes f (suc (suc (suc (suc zero)))) s at =
    sure_bind _ (name_takes 8 s at) (λ x n₁ q₁. sure_bind _ (type_at_takes s n₁) (λ t n₂ q₂. yields _ n₂ (omega arith)))
decl_takes f (suc (suc (suc (suc (suc zero))))) s at = sure_bind _ (name_takes 8 s at) (λ x n q. yields _ n (omega arith))
decl_takes f (suc (suc (suc (suc (suc (suc zero)))))) s at = sure_bind _ (name_takes 8 s at) (λ x n q. yields _ n (omega arith))
decl_takes f (suc (suc (suc (suc (suc (suc (suc zero))))))) s at = sure_bind _ (name_takes 8 s at) (λ x n q. yields _ n (omega arith))
decl_takes f (suc (suc (suc (suc (suc (suc (suc (suc zero)))))))) s at = yields _ at (omega arith)
decl_takes f (suc (suc (suc (suc (suc (suc (suc (suc (suc k))))))))) s at = sure_no

body_takes : (f : ℕ) (s : List ℕ) → Sure (λ d n. decl_size d ≤ length s) (body_of f s)
unfolding body_of
body_takes f s =
    sure_bind _ (byte_sure 8 s 0) (λ kind n₁ q₁.
    sure_bind _ (decl_takes f kind s n₁) (λ d n₂ q₂.
    sure_need _ _ (λ h. yields _ n₂ (omega (arith, q₁.next, eqb-true n₂ (length s) h)))))

-- ---- images

-- a declaration that an image can hold
unfoldable pub Small : Option Decl → Type 0
Small None = Unit {0}
Small (Some d) = decl_size d ≤ 32768

module _ (f : ℕ) (s : List ℕ) (l : length s ≤ 32768) where
  entry_small : (i : ℕ) → Sure (λ e n. Small e) (entry_of f s i)
  unfolding entry_of Small
  entry_small i =
      sure_pick _ (λ h. yields None 0 tt)
      (λ h. sure_bind _ (body_takes f (part (entry_offset s i) (entry_length s i) s))
      (λ d n q. yields (Some d) n (omega (arith, q, (part_length (entry_offset s i) (entry_length s i) s).1))))

  entries_small : (count i : ℕ) → Sure (λ es n. All Small es × (length es ≡ count)) (entries_of f count s i)
  unfolding entries_of All
  entries_small zero i = yields [] (length s) (tt, refl)
  entries_small (suc count) i =
      sure_bind _ (entry_small i) (λ e n p. sure_bind _ (entries_small count (i + 1)) (λ es m q. yields (e ∷ es) m ((p, q.0), ap suc q.1)))

-- what an accepted image holds
pub record Held (x : Schema) : Type 0 where
  pub entries : All Small x.registry
  pub registry : length x.registry ≤ 512
  pub ids : length x.ids ≤ 512
  pub segments : names_size x.namespace ≤ 32768

-- the head says how many entries and ids there are at most
few : (s : List ℕ) {f n : ℕ} → Head s f n → (entry_count s ≤ 512) × (id_count s ≤ 512)
few s h =
    let p = both (leb (entry_count s) 512) (leb (id_count s) 512 && leb (segment_count s) 16) h.counts in
    (leb-true (entry_count s) 512 p.0, leb-true (id_count s) 512 (both (leb (id_count s) 512) (leb (segment_count s) 16) p.1).0)

tables_sure : (s : List ℕ) → Sure (λ ids n. (length ids ≡ id_count s) × (n ≤ length s)) (tables_of s)
unfolding tables_of
tables_sure s = sure_need _ _ (λ h. sure_ok (ids_length (id_count s) s (ids_at s), leb-true (segments_at s) (length s) h))

image_held : (s : List ℕ) → Sure (λ x n. Held x) (read_image s)
unfolding read_image
image_held s =
    sure_bind _ (head_sure s) (λ f n₁ q₁.
    sure_bind _ (tables_sure s) (λ ids n₂ q₂.
    sure_bind _ (sure_both (names_take 2 (segment_count s) s n₂) (names_sure 2 (segment_count s) s n₂ q₂.1)) (λ names n₃ q₃.
    sure_need _ _ (λ l.
    sure_bind _ (entries_small f s q₁.most (entry_count s) 0) (λ es n₄ q₄.
    yields _ n₄ (record {
      entries = q₄.0;
      registry = omega (arith, q₄.1, (few s q₁).0);
      ids = omega (arith, q₂.0, (few s q₁).1);
      segments = omega (arith, q₃.0, q₃.1, q₁.most);
    }))))))

pub accepted_held : (s : List ℕ) {x : Schema} {n : ℕ} → read_image s ≡ ok x n → Held x
accepted_held s e = go (image_held s) e
  where
    go : {r : Parsed Schema} {x : Schema} {n : ℕ} → Sure (λ x n. Held x) r → r ≡ ok x n → Held x
    go {x = x} (sure_ok {a = y} h) e = let p : y ≡ x = cc in rw p at h
    go sure_no e = absurd (let z : ◌≡◌ {A = ℕ} 0 1 = cc in omega arith)
