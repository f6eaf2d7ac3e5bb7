-- Two labels, each with the names of its own registry: equal if what their tag has is equal. Assumes nothing.
use mathlib.Core.Path.{◌≡◌, refl, sym, ap, ◌∙◌}
use mathlib.Core.Bool.{Bool, true, false, ◌&&◌, and-true}
use mathlib.Core.List.{List, [], ◌∷◌}
use Prim.Native.Nat.{ℕ, ◌<◌}
use native.Mathlib.Omega.{arith}
use borrow.Author.Tests.{eqb-true, eq-eqb, ne_eqb}
use lib.Dec.{eqb}
use lib.Pointwise.{pointwise}
use Rattle.std.specs.Prelude.{Option, None, Some}
use Rattle.image.specs.Schema.{Name, Label, label}
use Rattle.image.specs.declared.tags.Tag.{Tag}
use Rattle.image.specs.declared.tags.Tag.TheVariants as tag
use Rattle.maps.proofs.Tests.{both}
use Rattle.parts.specs.Promise.{LabelHere, label_in, Regular}
use Rattle.parts.proofs.Promise.{label_regular, type_label, same_tag, past_codes}
use Rattle.parts.specs.Numbers.{tag_number}
use Rattle.parts.specs.Handles.{decl_of, Resolves}
use Rattle.parts.specs.declared.handles.Image.{Image}
use Rattle.parts.specs.declared.handles.Decl.{Decl}
use Rattle.std.specs.Option.{option_map}
use Rattle.rules.specs.Equal.{same_list, same_name, same_names}
use Rattle.rules.specs.Survivors.{Registry, stands_for}
use Rattle.rules.specs.Types.{name_or_none, resolve_label, same_label}
use Rattle.rules.proofs.Types.{tag_resolved}
use Rattle.types.specs.Resolved.{named_by, node_in}
use Rattle.types.proofs.Laws.Names.{bytes}

-- ---- with the name in the place of the id

pub not_named : (R : Registry) (l : Label) → (l.tag ≡ 3 → ⊥) → resolve_label R l ≡ l
unfolding resolve_label
not_named R l n = rw (ne_eqb l.tag 3 n)

pub named : (R : Registry) (l : Label) → l.tag ≡ 3 → resolve_label R l ≡ label 3 0 0 (name_or_none (stands_for R l.first))
unfolding resolve_label
named R l e = rw (eq-eqb l.tag 3 e)

-- what an id stands for, by the answer of `entry`
module _ (i : Image) (id : ℕ) {r : Option Decl} (h : Resolves i id r) where
  pub unresolvable : r ≡ None → named_by i.bytes.now id ≡ []
  unfolding stands_for name_or_none
  unresolvable e = ap name_or_none (sym h.value ∙ ap (option_map decl_of) e)

  pub resolvable : {d : Decl} → r ≡ Some d → named_by i.bytes.now id ≡ (decl_of d).name ∷ []
  unfolding stands_for name_or_none
  resolvable e = ap name_or_none (sym h.value ∙ ap (option_map decl_of) e)

-- and two ids, each in its own registry
module _ (a : Image) (old : ℕ) {x : Option Decl} (g : Resolves a old x) (b : Image) (new : ℕ) {y : Option Decl} (h : Resolves b new y) where
  pub both_names : {i j : Decl} → x ≡ Some i → y ≡ Some j → {n m : Name} → n ≡ (decl_of i).name → m ≡ (decl_of j).name
      → pointwise eqb n m ≡ same_names (named_by a.bytes.now old) (named_by b.bytes.now new)
  unfolding same_names same_list
  both_names {i} {j} e f {n} {m} p q =
      rw (resolvable a old g e, resolvable b new h f, and-true (same_name (decl_of i).name (decl_of j).name), ← p, ← q) (bytes n m)

  pub no_names : x ≡ None → y ≡ None → true ≡ same_names (named_by a.bytes.now old) (named_by b.bytes.now new)
  unfolding same_names same_list
  no_names e f = rw (unresolvable a old g e, unresolvable b new h f)

  pub old_name : {i : Decl} → x ≡ Some i → y ≡ None → false ≡ same_names (named_by a.bytes.now old) (named_by b.bytes.now new)
  unfolding same_names same_list
  old_name e f = rw (resolvable a old g e, unresolvable b new h f)

  pub new_name : {j : Decl} → x ≡ None → y ≡ Some j → false ≡ same_names (named_by a.bytes.now old) (named_by b.bytes.now new)
  unfolding same_names same_list
  new_name e f = rw (unresolvable a old g e, resolvable b new h f)

-- what the code needs of them
pub ruleset ids = (both_names, no_names, old_name, new_name)

-- ---- two labels

unequal : (l m : Label) → (l.tag ≡ m.tag → ⊥) → same_label l m ≡ false
unfolding same_label
unequal l m d = rw (ne_eqb l.tag m.tag d)

parts : (l m : Label) → l.tag ≡ m.tag → same_label l m ≡ (eqb l.first m.first && (eqb l.second m.second && same_names l.names m.names))
unfolding same_label
parts l m t = rw (eq-eqb l.tag m.tag t)

-- labels that are the same have one tag
pub same_tags : (R S : Registry) (l m : Label) → same_label (resolve_label R l) (resolve_label S m) ≡ true → l.tag ≡ m.tag
unfolding same_label
same_tags R S l m e =
    let q = (both (eqb (resolve_label R l).tag (resolve_label S m).tag) _ e).0 in
    sym (tag_resolved R l) ∙ eqb-true _ _ q ∙ tag_resolved S m

-- of one tag, by what it has: what it has not is 0 or empty in both
module _ (l m : Label) (D : Regular l) (E : Regular m) (t : l.tag ≡ m.tag) where
  first_only : l.tag < 10 → (l.tag ≡ 1 → ⊥) → same_label l m ≡ eqb l.first m.first
  unfolding same_names same_list
  first_only h n =
      let k : m.tag ≡ 1 → ⊥ = λ e. n (t ∙ e) in
      rw (parts l m t, D.second n, E.second k, D.names (λ e. absurd (omega arith)), E.names (λ e. absurd (omega arith)))
      (and-true (eqb l.first m.first))

  both_numbers : l.tag ≡ 1 → same_label l m ≡ (eqb l.first m.first && eqb l.second m.second)
  unfolding same_names same_list
  both_numbers h =
      rw (parts l m t, D.names (λ e. absurd (omega arith)), E.names (λ e. absurd (omega arith)), and-true (eqb l.second m.second))

  names_only : l.tag ≡ 16 → same_label l m ≡ same_names l.names m.names
  names_only h =
      let k : m.tag ≡ 16 = sym t ∙ h in
      rw (
        parts l m t,
        D.first (omega arith) (λ e. absurd (omega arith)),
        E.first (omega arith) (λ e. absurd (omega arith)),
        D.second (λ e. absurd (omega arith)),
        E.second (λ e. absurd (omega arith)),
      )

  nothing_more : 3 < l.tag → (l.tag ≡ 6 → ⊥) → (l.tag ≡ 16 → ⊥) → same_label l m ≡ true
  unfolding same_names same_list
  nothing_more h n k =
      rw (
        parts l m t,
        D.first h n,
        E.first (omega arith) (λ e. n (t ∙ e)),
        D.second (λ e. absurd (omega arith)),
        E.second (λ e. absurd (omega arith)),
        D.names k,
        E.names (λ e. k (t ∙ e)),
      )

-- ---- two nodes at their places: x and y are their tags

module _ (s : List ℕ) (i : ℕ) (t : List ℕ) (j : ℕ) (x y : Tag) (p : tag_number x ≡ (label_in s i).tag) (q : tag_number y ≡ (label_in t j).tag) where
  pub tags_differ : (x ≡ y → ⊥) → false ≡ same_label (node_in s i) (node_in t j)
  tags_differ d =
      sym (unequal (node_in s i) (node_in t j) (λ e. d (same_tag x y (p ∙ sym (tag_resolved _ (label_in s i)) ∙ e ∙ tag_resolved _ (label_in t j) ∙ sym q))))

  module _ (e : x ≡ y) where
    tags : (label_in s i).tag ≡ (label_in t j).tag
    tags = sym p ∙ ap tag_number e ∙ q

    -- both have the tag z
    first_is : {z : Tag} → x ≡ z → (label_in s i).tag ≡ tag_number z
    first_is k = sym p ∙ ap tag_number k

    pub by_name : x ≡ tag.Named → {u v : ℕ} → u ≡ (label_in s i).first → v ≡ (label_in t j).first → {r : Bool} → r ≡ same_names (named_by s u) (named_by t v)
        → r ≡ same_label (node_in s i) (node_in t j)
    by_name h k m c =
        rw (named _ (label_in s i) (first_is h), named _ (label_in t j) (sym tags ∙ first_is h))
        (c ∙ rw (k, m) (sym (parts (label 3 0 0 (named_by s (label_in s i).first)) (label 3 0 0 (named_by t (label_in t j).first)) refl)))

    module _ (g : LabelHere s i) (h : LabelHere t j) where
      -- neither has an id
      as_they_are : ((label_in s i).tag ≡ 3 → ⊥) → same_label (node_in s i) (node_in t j) ≡ same_label (label_in s i) (label_in t j)
      as_they_are n = rw (not_named _ (label_in s i) n, not_named _ (label_in t j) (λ z. n (tags ∙ z)))

      -- what only the first number tells apart
      by_first : (label_in s i).tag < 10 → ((label_in s i).tag ≡ 1 → ⊥) → ((label_in s i).tag ≡ 3 → ⊥) → {u v : ℕ} → u ≡ (label_in s i).first → v ≡ (label_in t j).first
          → eqb u v ≡ same_label (node_in s i) (node_in t j)
      by_first l m n k f = rw (k, f) (sym (as_they_are n ∙ first_only _ _ (label_regular s i g) (label_regular t j h) tags l m))

      pub by_primitive : x ≡ tag.Primitive → {u v : ℕ} → u ≡ (label_in s i).first → v ≡ (label_in t j).first → eqb u v ≡ same_label (node_in s i) (node_in t j)
      by_primitive k = let w = first_is k in by_first (omega arith) (λ z. absurd (omega arith)) (λ z. absurd (omega arith))

      pub by_semantic : x ≡ tag.Semantic → {u v : ℕ} → u ≡ (label_in s i).first → v ≡ (label_in t j).first → eqb u v ≡ same_label (node_in s i) (node_in t j)
      by_semantic k = let w = first_is k in by_first (omega arith) (λ z. absurd (omega arith)) (λ z. absurd (omega arith))

      pub by_size : x ≡ tag.FixedArray → {u v : ℕ} → u ≡ (label_in s i).first → v ≡ (label_in t j).first → eqb u v ≡ same_label (node_in s i) (node_in t j)
      by_size k = let w = first_is k in by_first (omega arith) (λ z. absurd (omega arith)) (λ z. absurd (omega arith))

      pub by_numbers : x ≡ tag.SubByte → {r : Bool} → r ≡ (eqb (label_in s i).first (label_in t j).first && eqb (label_in s i).second (label_in t j).second)
          → r ≡ same_label (node_in s i) (node_in t j)
      by_numbers k c =
          let w = first_is k in
          c ∙ sym (as_they_are (λ z. absurd (omega arith)) ∙ both_numbers _ _ (label_regular s i g) (label_regular t j h) tags w)

      pub by_names : x ≡ tag.Bits → {a b : List Name} → a ≡ (label_in s i).names → b ≡ (label_in t j).names → {r : Bool} → r ≡ same_names a b
          → r ≡ same_label (node_in s i) (node_in t j)
      by_names k f m c =
          let w = first_is k in
          c
          ∙ rw (f, m)
          (sym (as_they_are (λ z. absurd (omega arith)) ∙ names_only _ _ (label_regular s i g) (label_regular t j h) tags w))

      pub by_tag : (x ≡ tag.Primitive → ⊥) → (x ≡ tag.SubByte → ⊥) → (x ≡ tag.Semantic → ⊥) → (x ≡ tag.Named → ⊥) → (x ≡ tag.FixedArray → ⊥) → (x ≡ tag.Bits → ⊥)
          → true ≡ same_label (node_in s i) (node_in t j)
      by_tag a b c d f k =
          let l = past_codes x a b c d in
          sym (as_they_are (λ z. absurd (omega arith))
          ∙ nothing_more _ _ (label_regular s i g) (label_regular t j h) tags (omega arith) (λ z. f (same_tag x tag.FixedArray (p ∙ z))) (λ z. k (same_tag x tag.Bits (p ∙ z))))
