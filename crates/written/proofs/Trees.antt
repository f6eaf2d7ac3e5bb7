-- Labels and types are read back where they were written. Assumes nothing.
use mathlib.Core.Path.{◌≡◌, refl}
use mathlib.Core.Bool.{false}
use mathlib.Core.List.{List, [], ◌∷◌}
use Prim.Native.Nat.{ℕ, zero, suc, ◌+◌, ◌≤◌, ◌<◌}
use native.Mathlib.Nat.{zero-add}
use native.Mathlib.Omega.{arith}
use borrow.Author.Tests.{le-leb, lt-leb, ne_eqb}
use lib.Dec.{eqb}
use lib.ListN.{length, drop}
use Rattle.image.specs.Schema.{Label, Ty, leaf, one, two}
use Rattle.image.specs.Parse.{Parsed, ok, shift, within}
use Rattle.image.specs.Types.{nothing, follows_tag, inner_types, after_tag, label_of, inner_at, type_of, type_at}
use Rattle.written.specs.Writer.{write_after, write_label, write_type}
use Rattle.written.specs.Limits.{Wrapping, optional, array, set, vector, LabelWithin, primitive, sub_byte, semantic, named, bits, wrapping, fixed_array, map, result, Typed, bare, around, between, nodes, TypeWithin}
use Rattle.written.proofs.Here.{Here, here_drop}
use Rattle.written.proofs.Pieces.{Reads, got, seq, stay, byte_back, code_back, number_back, names_back}

-- a tag with inner types and nothing else
pub wraps_nothing : {tag : ℕ} → Wrapping tag → follows_tag tag ≡ nothing
unfolding follows_tag
wraps_nothing (optional e) = rw e
wraps_nothing (array e) = rw e
wraps_nothing (set e) = rw e
wraps_nothing {tag} (vector low high) =
    simp (other 0 (omega arith), other 1 (omega arith), other 2 (omega arith), other 3 (omega arith), other 6 (omega arith), ne_eqb tag 16 (omega arith), le-leb tag 15 high)
  where
    other : (k : ℕ) → k < 10 → eqb tag k ≡ false
    other k h = ne_eqb tag k (omega arith)

pub wraps_most : {tag : ℕ} → Wrapping tag → tag ≤ 15
wraps_most (optional e) = omega arith
wraps_most (array e) = omega arith
wraps_most (set e) = omega arith
wraps_most (vector low high) = high

pub wraps_one : {tag : ℕ} → Wrapping tag → inner_types tag ≡ 1
unfolding inner_types
wraps_one (optional e) = rw e
wraps_one (array e) = rw e
wraps_one (set e) = rw e
wraps_one {tag} (vector low high) = simp (le-leb 4 tag (omega arith), le-leb tag 15 high, le-leb 8 tag (omega arith), lt-leb tag 9 (omega arith))

-- what follows the tag
after_back : {n : ℕ} (l : Label) → LabelWithin n l → Reads (after_tag l.tag (follows_tag l.tag)) (write_after (follows_tag l.tag) l) l
unfolding after_tag write_after follows_tag
after_back _ (primitive {a = a} h) s at g = got _ (code_back 0 13 a (omega arith) h s at g) refl
after_back _ (sub_byte {signed = a} {width = b} h low high) s at g =
    seq (a ∷ []) (b ∷ []) g _ (code_back 0 1 a (omega arith) h s at) (λ k. got _ (code_back 1 64 b low high s _ k) refl)
after_back _ (semantic {a = a} h) s at g = got _ (code_back 0 5 a (omega arith) h s at g) refl
after_back _ (named {id = id} h) s at g = got _ (number_back 4 id h s at g) refl
after_back _ (bits {names = xs} few qs) s at g =
    seq (length xs ∷ []) _ g _ (byte_back 8 (length xs) s at) (λ k. got _ (names_back 8 xs qs s _ k) refl)
after_back _ (wrapping {tag = tag} h) s at g = rw (wraps_nothing h) (stay _ at)
after_back _ (fixed_array {k = k} h) s at g = got _ (number_back 8 k h s at g) refl
after_back _ map s at g = stay _ at
after_back _ result s at g = stay _ at

inner_count : {n : ℕ} {l : Label} → LabelWithin n l → inner_types l.tag ≡ n
unfolding inner_types
inner_count (primitive h) = refl
inner_count (sub_byte h low high) = refl
inner_count (semantic h) = refl
inner_count (named h) = refl
inner_count (bits few qs) = refl
inner_count (wrapping h) = wraps_one h
inner_count (fixed_array h) = refl
inner_count map = refl
inner_count result = refl

-- p reads x from w at the start of a part
abbrev Starts : {A : Type 0} → (List ℕ → Parsed A) → List ℕ → A → Type 0
Starts p w x = (s : List ℕ) → Here s 0 w → p s ≡ ok x (0 + length w)

within_back : {A : Type 0} (p : List ℕ → Parsed A) (w : List ℕ) (x : A) → Starts p w x → Reads (within p) w x
unfolding within shift
within_back p w x back s at h = rw (back (drop at s) (here_drop h), zero-add (length w))

label_back : {n : ℕ} (l : Label) → LabelWithin n l → Starts label_of (write_label l) l
unfolding label_of write_label
label_back l q s h = seq (l.tag ∷ []) _ h _ (byte_back 8 l.tag s 0) (after_back l q s 1)

some_node : (t : Ty) → 1 ≤ nodes t
unfolding nodes
some_node (leaf l) = omega arith
some_node (one l t) = omega arith
some_node (two l t u) = omega arith

type_back : (left : ℕ) (t : Ty) → Typed t → nodes t ≤ left → Starts (type_of left) (write_type t) t
unfolding type_of inner_at write_type nodes
type_back zero t q l s h = absurd (omega (arith, some_node t))
type_back (suc left) _ (bare {l = x} q) l s h = got _ (label_back x q s h) (rw (inner_count q))
type_back (suc left) _ (around {l = x} {t = t} q r) l s h =
    seq (write_label x) _ h _ (label_back x q s) (λ g.
    rw (inner_count q) (got _ (within_back (type_of left) _ t (type_back left t r (omega arith)) s _ g) refl))
type_back (suc left) _ (between {l = x} {t = t} {u = u} q r v) l s h =
    seq (write_label x) _ h _ (label_back x q s) (λ g.
    rw (inner_count q)
    (seq (write_type t) _ g _ (within_back (type_of left) _ t (type_back left t r (omega arith)) s _) (λ k.
    got _ (within_back (type_of left) _ u (type_back left u v (omega arith)) s _ k) refl)))

pub type_at_back : (t : Ty) → TypeWithin t → Reads type_at (write_type t) t
unfolding type_at
type_at_back t q = within_back (type_of 32) (write_type t) t (type_back 32 t q.typed (omega (arith, q.path)))
