-- Types at places of the image. Assumes nothing.
use mathlib.Core.Path.{◌≡◌, sym, ap, ap₂, ◌∙◌}
use mathlib.Core.List.{List}
use Prim.Native.Nat.{ℕ, ◌+◌, ◌-◌, ◌≤◌, ◌<◌}
use native.Mathlib.Omega.{arith}
use lib.ListN.{get_or, drop}
use lib.Seq.{drop-drop}
use Rattle.image.specs.Schema.{leaf, one, two, no_type}
use Rattle.image.specs.Types.{inner_types, label_of, type_of}
use Rattle.image.specs.WellFormed.{Good, end_of}
use Rattle.image.specs.WellFormed.{tree_in as tree_of, label_in as first_label}
use Rattle.image.proofs.Laws.Trees.{type_deeper, type_labelled, label_tag, tree_leaf, tree_one, tree_two, first_good, second_good}
use Rattle.parts.specs.Promise.{LabelHere, label_in, label_end, TypeHere, tree_in, type_end}
use Rattle.parts.proofs.Laws.Kept.{kept_good, kept_value, kept_end, part_self, type_kept}

-- what has few nodes on a path is the same with more of them allowed
module _ (left : ℕ) (s : List ℕ) (l : left ≤ 32) (g : Good (type_of left s)) where
  whole_good : Good (type_of 32 s)
  whole_good = kept_good (type_kept left 32 l s s (part_self s)) g

  whole_tree : tree_of 32 s ≡ tree_of left s
  unfolding tree_of
  whole_tree = kept_value no_type (type_kept left 32 l s s (part_self s)) g

  whole_end : end_of (type_of 32 s) ≡ end_of (type_of left s)
  whole_end = kept_end (type_kept left 32 l s s (part_self s)) g ∙ (let z : 0 + end_of (type_of left s) ≡ end_of (type_of left s) = omega arith in z)

-- a tree of fewer nodes at a place
shallow : (s t : List ℕ) (n : ℕ) → t ≡ drop n s → Good (type_of 31 t) → tree_of 31 t ≡ tree_in s n
unfolding tree_in tree_of
shallow s t n e g = sym (whole_tree 31 t (omega arith) g) ∙ ap (tree_of 32) e

-- the parts where the inner types start
abbrev first_part : List ℕ → List ℕ
first_part t = drop (end_of (label_of t)) t

abbrev second_part : ℕ → List ℕ → List ℕ
second_part d t = drop (end_of (label_of t) + end_of (type_of d (first_part t))) t

first_at : (s : List ℕ) (at : ℕ) → first_part (drop at s) ≡ drop (label_end s at) s
unfolding label_end
first_at s at = drop-drop (end_of (label_of (drop at s))) at s

after : (s : List ℕ) (at x y : ℕ) → y ≡ x → at + (end_of (label_of (drop at s)) + x) ≡ label_end s at + y
unfolding label_end
after s at x y e = omega arith

second_at : (s : List ℕ) (at d : ℕ) → d ≤ 32 → Good (type_of d (first_part (drop at s))) → second_part d (drop at s) ≡ drop (type_end s (label_end s at)) s
unfolding type_end
second_at s at d l g =
    let x = end_of (type_of d (first_part (drop at s))) in
    let y = end_of (type_of 32 (drop (label_end s at) s)) in
    let e : y ≡ x = ap (λ (t : List ℕ). end_of (type_of 32 t)) (sym (first_at s at)) ∙ whole_end d (first_part (drop at s)) l g in
    drop-drop (end_of (label_of (drop at s)) + x) at s ∙ ap (λ (n : ℕ). drop n s) (after s at x y e)

module _ (s : List ℕ) (at : ℕ) where
  pub type_whole : (left : ℕ) → TypeHere left s at → TypeHere 32 s at
  type_whole left h = record { few = omega arith; good = whole_good left (drop at s) h.few h.good }

  module _ (left : ℕ) (h : TypeHere left s at) where
    pub type_some : 0 < left
    type_some = let f = type_deeper left (drop at s) h.good in omega arith

    pub type_label : LabelHere s at
    unfolding LabelHere
    type_label = type_labelled left (drop at s) h.good

    tag_first : inner_types (label_in s at).tag ≡ inner_types (get_or (drop at s) 0 0)
    unfolding label_in first_label
    tag_first = ap inner_types (label_tag (drop at s) (type_labelled left (drop at s) h.good)).tagged

    g : Good (type_of 32 (drop at s))
    g = whole_good left (drop at s) h.few h.good

    -- a node by how many inner types its tag has: none
    pub node_leaf : inner_types (label_in s at).tag ≡ 0 → tree_in s at ≡ leaf (label_in s at)
    unfolding tree_in label_in tree_of first_label
    node_leaf e = tree_leaf 32 (drop at s) g (sym tag_first ∙ e)

    -- one
    module _ (f : inner_types (label_in s at).tag ≡ 0 → ⊥) where
      not_none : inner_types (get_or (drop at s) 0 0) ≡ 0 → ⊥
      not_none e = f (tag_first ∙ e)

      pub type_first : TypeHere (left - 1) s (label_end s at)
      type_first = record {
        few = (let l = h.few in omega arith);
        good = rw (first_at s at) at (first_good left (drop at s) h.good not_none);
      }

      first_tree : tree_of 31 (first_part (drop at s)) ≡ tree_in s (label_end s at)
      first_tree = shallow s (first_part (drop at s)) (label_end s at) (first_at s at) (first_good 32 (drop at s) g not_none)

      pub node_one : inner_types (label_in s at).tag ≡ 1 → tree_in s at ≡ one (label_in s at) (tree_in s (label_end s at))
      unfolding tree_in label_in tree_of first_label
      node_one e = tree_one 32 (drop at s) g (sym tag_first ∙ e) ∙ ap (one (label_in s at)) first_tree

      -- two
      module _ (k : inner_types (label_in s at).tag ≡ 1 → ⊥) where
        not_one : inner_types (get_or (drop at s) 0 0) ≡ 1 → ⊥
        not_one e = k (tag_first ∙ e)

        pub type_second : TypeHere (left - 1) s (type_end s (label_end s at))
        type_second =
            let l : left - 1 ≤ 32 = (let m = h.few in omega arith) in
            record {
              few = l;
              good = rw (second_at s at (left - 1) l (first_good left (drop at s) h.good not_none)) at (second_good left (drop at s) h.good not_none not_one);
            }

        second_tree : tree_of 31 (second_part 31 (drop at s)) ≡ tree_in s (type_end s (label_end s at))
        second_tree =
            shallow s (second_part 31 (drop at s)) (type_end s (label_end s at)) (second_at s at 31 (omega arith) (first_good 32 (drop at s) g not_none)) (second_good 32 (drop at s) g not_none not_one)

        pub node_two : tree_in s at ≡ two (label_in s at) (tree_in s (label_end s at)) (tree_in s (type_end s (label_end s at)))
        unfolding tree_in label_in tree_of first_label
        node_two = tree_two 32 (drop at s) g not_none not_one ∙ ap₂ (two (label_in s at)) first_tree second_tree
