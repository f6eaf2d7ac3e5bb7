-- How long the texts are: linear in the names and types that they show. Assumes nothing.
use mathlib.Core.Path.{◌≡◌}
use mathlib.Core.Bool.{Bool, true, false, cond}
use Rattle.std.specs.Prelude.{Option, None, Some}
use mathlib.Core.List.{List, [], ◌∷◌}
use Prim.Native.Nat.{ℕ, zero, suc, ◌+◌, ◌*◌, ◌≤◌}
use Prim.Native.String.{String}
use native.Mathlib.Omega.{arith}
use lib.Dec.{eqb}
use lib.ListN.{length, length-append}
use Rattle.maps.specs.Lists.{largest, total}
use Rattle.image.specs.Schema.{Name, Encoding, Label, label, Ty, leaf, one, two}
use Rattle.image.specs.Kinds.{kind_of}
use Rattle.image.specs.Words.{bytes, kind_word}
use Rattle.image.proofs.Laws.Kinds.{word_short}
use Rattle.rules.specs.Survivors.{Registry, stands_for}
use Rattle.rules.specs.Types.{name_or_none, resolve_label, resolve}
use Rattle.text.proofs.Numbers.{decimal_length}
use Rattle.rules.specs.Text.{joined, word, bool_word, primitive_word, semantic_word, show_name, show_leaf, opening, show_size, show_type, deltas_around, show_encoding}
use Rattle.rules.specs.Changes.{level, Change, quoted, numbered, from_to}
use Rattle.rules.proofs.Sizes.{names_size, type_size}
use Rattle.rules.specs.Report.{change_word, bump_word, field_part, line, change_line}

-- ---- numbers and words

-- a word of a table
pub word_length : (ws : List String) (i : ℕ) → length (word ws i) ≤ largest (λ w. length (bytes w)) ws
unfolding word bytes largest
word_length [] i = omega arith
word_length (w ∷ ws) zero = omega arith
word_length (w ∷ ws) (suc i) = omega (arith, word_length ws i)

pub kind_length : (k : ℕ) → length (kind_word k) ≤ 13
unfolding kind_word
kind_length k = word_short (kind_of k)

pub bool_length : (b : Bool) → length (bool_word b) ≤ 5
unfolding bool_word bytes
bool_length true = omega arith
bool_length false = omega arith

-- names with a text of at most two bytes between each two
pub joined_length : (s : List ℕ) → length s ≤ 2 → (ns : List Name) → length (joined s ns) ≤ 2 * names_size ns
unfolding joined names_size total
joined_length s h [] = omega arith
joined_length s h (n ∷ []) = omega arith
joined_length s h (n ∷ m ∷ ns) = simp length-append (omega (arith, joined_length s h (m ∷ ns)))

-- ---- encodings and types

deltas_length : (n : ℕ) (text : List ℕ) → length (deltas_around n text) ≤ length text + 7 * n
unfolding deltas_around bytes
deltas_length zero text = omega arith
deltas_length (suc n) text = simp length-append (omega (arith, deltas_length n text))

pub encoding_length : (e : Encoding) → length (show_encoding e) ≤ 7 + 7 * e.deltas
unfolding show_encoding largest bytes
encoding_length e =
    omega (
      arith,
      deltas_length e.deltas (word ("default" ∷ "varint" ∷ "zigzag" ∷ []) e.base),
      word_length
          ("default" ∷ "varint" ∷ "zigzag" ∷ []) e.base,
    )

-- one text or another
either_length : (u : Bool) (b : ℕ) (x y : List ℕ) → length x ≤ b → length y ≤ b → length (cond u x y) ≤ b
either_length true b x y p q = p
either_length false b x y p q = q

name_length : (ns : List Name) → length (show_name ns) ≤ 9 + names_size ns
unfolding show_name bytes names_size total
name_length [] = omega arith
name_length (n ∷ ns) = omega arith

leaf_length : (l : Label) → length (show_leaf l) ≤ 40 + 2 * names_size l.names
unfolding show_leaf primitive_word semantic_word largest bytes
leaf_length l =
    either_length (eqb l.tag 0) _ _ _ (omega (arith, primitive))
    (either_length (eqb l.tag 1) _ _ _ (simp length-append (omega (arith, sign, decimal_length l.second)))
    (either_length (eqb l.tag 2) _ _ _ (omega (arith, semantic))
    (either_length (eqb l.tag 3) _ _ _ (omega (arith, name_length l.names))
    (simp length-append (omega (arith, joined_length (bytes ", ") (omega arith) l.names))))))
  where
    primitive : length (primitive_word l.first) ≤ 7
    primitive = word_length _ l.first

    sign : length (word ("u" ∷ "i" ∷ []) l.first) ≤ 1
    sign = word_length _ l.first

    semantic : length (semantic_word l.first) ≤ 9
    semantic = word_length _ l.first

-- the names of a registry are no longer than an image
pub record Short (R : Registry) : Type 0 where
  pub short : (id : ℕ) → names_size (name_or_none (stands_for R id)) ≤ 32769

module _ (R : Registry) (S : Short R) where
  resolved_size : (l : Label) → names_size (resolve_label R l).names ≤ 32769 + names_size l.names
  unfolding resolve_label
  resolved_size l = go (eqb l.tag 3)
    where
      go : (u : Bool) → names_size (cond u (label 3 0 0 (name_or_none (stands_for R l.first))) l).names ≤ 32769 + names_size l.names
      go true = omega (arith, S.short l.first)
      go false = omega arith

  opening_length : (tag : ℕ) → length (opening tag) ≤ 9
  unfolding opening largest bytes
  opening_length tag = word_length _ tag

  size_length : (l : Label) → length (show_size l) ≤ 22
  unfolding show_size bytes
  size_length l = either_length (eqb l.tag 6) 22 _ _ (simp length-append (omega (arith, decimal_length l.first))) (omega arith)

  -- a type is shown in so many bytes for each byte that holds it
  pub type_length : (t : Ty) → length (show_type (resolve R t)) ≤ 66000 * type_size t
  unfolding show_type resolve type_size bytes
  type_length (leaf l) = omega (arith, leaf_length (resolve_label R l), resolved_size l)
  type_length (one l t) =
      simp length-append (omega (arith, opening_length (resolve_label R l).tag, type_length t, size_length (resolve_label R l)))
  type_length (two l t u) = simp length-append (omega (arith, opening_length (resolve_label R l).tag, type_length t, type_length u))

-- ---- the parts of details, and lines

pub quoted_length : (n : Name) → length (quoted n) ≡ 2 + length n
unfolding quoted bytes
quoted_length n = simp length-append (omega arith)

pub numbered_length : (what : List ℕ) (n : Name) (o : ℕ) → length (numbered what n o) ≤ 25 + (length what + length n)
unfolding numbered bytes
numbered_length what n o = simp length-append (omega (arith, quoted_length n, decimal_length o))

pub from_to_length : (x y : List ℕ) → length (from_to x y) ≡ 10 + (length x + length y)
unfolding from_to bytes
from_to_length x y = simp length-append (omega arith)

-- of a field, if there is one
unfoldable pub option_length : Option Name → ℕ
option_length None = 0
option_length (Some n) = length n

part_length : (o : Option Name) → length (field_part o) ≤ 1 + option_length o
unfolding field_part option_length bytes
part_length None = omega arith
part_length (Some n) = omega arith

pub line_length_lem : (c : Change) → length (change_line c) ≤ 40 + (length c.declaration + (option_length c.field + length c.detail))
unfolding change_line line joined bytes change_word bump_word largest
line_length_lem c =
    simp length-append
    (omega (arith, kind, bump, part_length c.field))
  where
    kind : length (change_word c.kind) ≤ 22
    kind = word_length _ c.kind

    bump : length (bump_word (level c.bump)) ≤ 5
    bump = word_length _ (level c.bump)

-- and it is not empty
pub line_some : (c : Change) → 1 ≤ length (change_line c)
unfolding change_line line bytes
line_some c = simp length-append (omega arith)
