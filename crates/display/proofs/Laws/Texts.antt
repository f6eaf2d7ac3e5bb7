-- How a type and an encoding are shown, piece by piece. Assumes nothing.
use mathlib.Core.Path.{◌≡◌, refl, sym, ap, ◌∙◌}
use mathlib.Core.Bool.{false}
use mathlib.Core.List.{List, [], ◌∷◌, ◌++◌, append_assoc, append-nil}
use Prim.Native.Nat.{ℕ, zero, suc, ◌+◌, ◌<◌}
use native.Mathlib.Omega.{arith}
use native.Mathlib.Numerals.{add-one}
use borrow.Author.Tests.{ne_eqb}
use lib.Dec.{eqb}
use Rattle.std.specs.Prelude.{Option, None, Some}
use Rattle.image.specs.Words.{bytes}
use Rattle.image.specs.declared.tags.Tag.{Tag}
use Rattle.image.specs.declared.tags.Tag.TheVariants as tag
use Rattle.parts.specs.Codes.{number, sub_byte_tag, named_tag}
use Rattle.parts.specs.Handles.{decl_of, Resolves, TypeAt}
use Rattle.parts.specs.Numbers.{tag_number}
use Rattle.parts.specs.Promise.{label_in, label_end, type_end, coding_number, coding_of}
use Rattle.parts.specs.declared.handles.Image.{Image}
use Rattle.parts.specs.declared.handles.Decl.{Decl}
use Rattle.parts.specs.declared.handles.TypeRef.{TypeRef}
use Rattle.parts.specs.declared.Encoding.{Encoding}
use Rattle.parts.proofs.Promise.{same_tag, past_codes}
use Rattle.rules.specs.Types.{resolve}
use Rattle.text.specs.Decimal.{decimal}
use Rattle.text.specs.Writers.{Adds}
use Rattle.text.specs.declared.Writer.{Writer}
use Rattle.rules.specs.Text.{joined, word, primitive_word, semantic_word, show_name, show_leaf, opening, show_size, show_type, deltas_around, show_encoding}
use Rattle.rules.proofs.Types.{tag_resolved}
use Rattle.types.specs.Nodes.{Leaf, Node}
use Rattle.types.specs.Resolved.{named_by, node_in, type_in, resolved}
use Rattle.display.specs.Display.{repeated}
use Rattle.display.proofs.Laws.Words.{after_nil}
use Rattle.types.proofs.Laws.Labels.{not_named, named, unresolvable, resolvable}

-- ---- the name that an id stands for

module _ (i : Image) (id : ℕ) {r : Option Decl} (h : Resolves i id r) where
  pub name_unknown : r ≡ None → show_name (named_by i.bytes.now id) ≡ bytes "<unknown>"
  unfolding show_name
  name_unknown e = ap show_name (unresolvable i id h e)

  pub name_known : {d : Decl} → r ≡ Some d → show_name (named_by i.bytes.now id) ≡ (decl_of d).name
  unfolding show_name
  name_known e = ap show_name (resolvable i id h e)

pub ruleset ids = (name_unknown, name_known, after_nil)

-- ---- a node without inner types

module _ (s : List ℕ) (node : ℕ) where
  unnamed : ((label_in s node).tag ≡ number named_tag → ⊥) → node_in s node ≡ label_in s node
  unnamed n = not_named _ (label_in s node) n

  pub leaf_sub_byte : (label_in s node).tag ≡ number sub_byte_tag
      → show_leaf (node_in s node) ≡ word ("u" ∷ "i" ∷ []) (label_in s node).first ++ decimal (label_in s node).second
  unfolding show_leaf
  leaf_sub_byte e = rw (unnamed (λ z. absurd (omega arith)), e)

  pub leaf_bits : (number named_tag) < (label_in s node).tag
      → show_leaf (node_in s node) ≡ bytes "bits { " ++ (joined (bytes ", ") (label_in s node).names ++ bytes " }")
  unfolding show_leaf
  leaf_bits l =
      let past : (k : ℕ) → k < 4 → eqb (label_in s node).tag k ≡ false = (λ k h. ne_eqb _ k (λ z. absurd (omega arith))) in
      rw (unnamed (λ z. absurd (omega arith)), past 0 (omega arith), past 1 (omega arith), past 2 (omega arith), past 3 (omega arith))

  -- x is its tag
  module _ (x : Tag) (t : tag_number x ≡ (label_in s node).tag) where
    pub leaf_primitive : x ≡ tag.Primitive → show_leaf (node_in s node) ≡ primitive_word (label_in s node).first
    unfolding show_leaf
    leaf_primitive p = let e = sym t ∙ ap tag_number p in rw (unnamed (λ z. absurd (omega (arith, e, z))), e)

    pub leaf_semantic : x ≡ tag.Semantic → show_leaf (node_in s node) ≡ semantic_word (label_in s node).first
    unfolding show_leaf
    leaf_semantic p = let e = sym t ∙ ap tag_number p in rw (unnamed (λ z. absurd (omega (arith, e, z))), e)

    pub leaf_named : x ≡ tag.Named → show_leaf (node_in s node) ≡ show_name (named_by s (label_in s node).first)
    unfolding show_leaf
    leaf_named p = rw (named _ (label_in s node) (sym t ∙ ap tag_number p))

    pub size_some : x ≡ tag.FixedArray → show_size (node_in s node) ≡ bytes ", " ++ decimal (label_in s node).first
    unfolding show_size
    size_some p = let e = sym t ∙ ap tag_number p in rw (unnamed (λ z. absurd (omega (arith, e, z))), e)

    pub size_none : (x ≡ tag.FixedArray → ⊥) → show_size (node_in s node) ≡ []
    unfolding show_size
    size_none n = rw (tag_resolved _ (label_in s node), ne_eqb (label_in s node).tag 6 (λ z. n (same_tag x tag.FixedArray (t ∙ z))))

pub ruleset leaves = (leaf_primitive, leaf_semantic, leaf_named, past_codes)

pub ruleset sizes = (size_some, size_none, after_nil)

-- ---- a node with inner types

module _ (s : List ℕ) (node inner : ℕ) where
  pub text_leaf : Leaf s node → show_leaf (node_in s node) ≡ show_type (type_in s node)
  unfolding show_type resolve
  text_leaf n = rw n.tree

  module _ {left : ℕ} (n : Node left s node inner) {x : ℕ} (e : x ≡ (label_in s node).tag) {p : ℕ} (q : p ≡ label_end s node) where
    pub text_one : inner ≡ 1 → opening x ++ (show_type (type_in s p) ++ (show_size (node_in s node) ++ bytes ">")) ≡ show_type (type_in s node)
    unfolding show_type resolve
    text_one k = rw (q, e, (n.single k).tree, tag_resolved _ (label_in s node))

    pub text_two : (inner ≡ 0 → ⊥) → (inner ≡ 1 → ⊥) → {r : ℕ} → r ≡ type_end s p
        → opening x ++ (show_type (type_in s p) ++ (bytes ", " ++ (show_type (type_in s r) ++ bytes ">"))) ≡ show_type (type_in s node)
    unfolding show_type resolve
    text_two f k {r} u = rw (u, q, e, (n.pair f k).tree, tag_resolved _ (label_in s node))

-- an inner type t at its place
module _ {i : Image} {left at : ℕ} {t : TypeRef} (p : TypeAt i left at t) where
  pub shown_at : {w v : Writer} → Adds w (show_type (resolved t)) v → Adds w (show_type (type_in i.bytes.now at)) v
  shown_at a = rw (p.image, p.at) at a

  pub ended_at : {n : ℕ} → n ≡ type_end t.image.bytes.now t.at → n ≡ type_end i.bytes.now at
  ended_at e = rw (p.image, p.at) at e

-- ---- encodings

repeated_last : (n : ℕ) (xs : List ℕ) → repeated n xs ++ xs ≡ xs ++ repeated n xs
unfolding repeated
repeated_last zero xs = sym (append-nil xs)
repeated_last (suc n) xs = append_assoc xs (repeated n xs) xs ∙ ap (λ (l : List ℕ). xs ++ l) (repeated_last n xs)

deltas_around_lem : (n : ℕ) (text : List ℕ) → deltas_around n text ≡ repeated n (bytes "delta(") ++ (text ++ repeated n (bytes ")"))
unfolding deltas_around repeated
deltas_around_lem zero text = sym (append-nil text)
deltas_around_lem (suc n) text =
    let d = bytes "delta(" in
    let c = bytes ")" in
    ap (λ (l : List ℕ). d ++ (l ++ c)) (deltas_around_lem n text)
    ∙ ap (λ (l : List ℕ). d ++ l) (append_assoc (repeated n d) (text ++ repeated n c) c)
    ∙ ap (λ (l : List ℕ). d ++ (repeated n d ++ l)) (append_assoc text (repeated n c) c ∙ ap (λ (l : List ℕ). text ++ l) (repeated_last n c))
    ∙ sym (append_assoc d (repeated n d) (text ++ (c ++ repeated n c)))

pub encoding_text : (e : Encoding) → repeated e.deltas (bytes "delta(") ++ (word ("default" ∷ "varint" ∷ "zigzag" ∷ []) (coding_number e.base) ++ repeated e.deltas (bytes ")")) ≡ show_encoding (coding_of e)
unfolding show_encoding
encoding_text e = sym (deltas_around_lem e.deltas _)

pub repeated_none : (xs : List ℕ) → repeated 0 xs ≡ []
unfolding repeated
repeated_none xs = refl

pub repeated_more : (n : ℕ) (xs : List ℕ) → repeated (n + 1) xs ≡ repeated n xs ++ xs
unfolding repeated
repeated_more n xs = ap (λ (k : ℕ). repeated k xs) (add-one n) ∙ sym (repeated_last n xs)

pub ruleset repeating = (repeated_none, repeated_more, after_nil)
