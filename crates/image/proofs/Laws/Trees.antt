-- Labels and types that are well formed: what stands in them, by their tag. Assumes nothing.
use mathlib.Core.Path.{◌≡◌, refl, ap, ap₂, ◌∙◌}
use mathlib.Core.List.{List, []}
use Prim.Native.Nat.{ℕ, zero, suc, ◌+◌, ◌-◌}
use native.Mathlib.Omega.{arith}
use native.Mathlib.Numerals.{sub-one}
use lib.ListN.{get_or, drop}
use Rattle.image.specs.Schema.{Label, label, Ty, leaf, one, two, no_type}
use Rattle.image.specs.Parse.{Parsed, within}
use Rattle.image.specs.Types.{inner_types, label_of, inner_at, type_of}
use Rattle.image.specs.WellFormed.{Good, value_or, end_of, label_in, tree_in}
use Rattle.image.proofs.Laws.Sure.{Labelled, label_sure}
use Rattle.image.proofs.Laws.Good.{sure_good, good_first, good_second, bind_is, within_good, within_value, within_end}

abbrev no_label : Label
no_label = label 0 0 0 []

-- the label of a good type
pub type_deeper : (d : ℕ) (s : List ℕ) → Good (type_of d s) → d ≡ 0 → ⊥
unfolding type_of Good
type_deeper d s g e = rw e at g

pub type_labelled : (d : ℕ) (s : List ℕ) → Good (type_of d s) → Good (label_of s)
unfolding type_of
type_labelled zero s g = absurd (type_deeper zero s g refl)
type_labelled (suc d) s g = good_first no_label (label_of s) _ g

pub label_tag : (s : List ℕ) → Good (label_of s) → Labelled s (label_in s) (end_of (label_of s))
unfolding label_in
label_tag s g = sure_good no_label (label_sure s) g

-- a good type is its label and its inner types
type_is : (d : ℕ) (s : List ℕ) → Good (type_of d s)
    → type_of d s ≡ inner_at (inner_types (get_or s 0 0)) (label_in s) (type_of (d - 1)) s (end_of (label_of s))
unfolding type_of label_in
type_is zero s g = absurd (type_deeper zero s g refl)
type_is (suc d) s g =
    let b = good_first no_label (label_of s) _ g in
    bind_is no_label (label_of s) _ b ∙ rw ((label_tag s b).tagged, sub-one) refl

module _ (i : ℕ) (l : Label) (p : List ℕ → Parsed Ty) (s : List ℕ) (at : ℕ) where
  -- where the second starts
  abbrev later : ℕ
  later = at + end_of (p (drop at s))

  inner_leaf : i ≡ 0 → value_or no_type (inner_at i l p s at) ≡ leaf l
  unfolding inner_at value_or
  inner_leaf e = rw e

  inner_first : (i ≡ 0 → ⊥) → Good (inner_at i l p s at) → Good (p (drop at s))
  unfolding inner_at
  inner_first f g = go i f g
    where
      go : (j : ℕ) → (j ≡ 0 → ⊥) → Good (inner_at j l p s at) → Good (p (drop at s))
      go zero f g = absurd (f refl)
      go (suc zero) f g = within_good no_type p s at (good_first no_type (within p s at) _ g)
      go (suc (suc k)) f g = within_good no_type p s at (good_first no_type (within p s at) _ g)

  inner_one_is : i ≡ 1 → Good (inner_at i l p s at) → value_or no_type (inner_at i l p s at) ≡ one l (value_or no_type (p (drop at s)))
  unfolding inner_at value_or
  inner_one_is e g = go i e g
    where
      go : (j : ℕ) → j ≡ 1 → Good (inner_at j l p s at) → value_or no_type (inner_at j l p s at) ≡ one l (value_or no_type (p (drop at s)))
      go zero e g = absurd (omega arith)
      go (suc zero) e g =
          let b = good_first no_type (within p s at) _ g in
          ap (value_or no_type) (bind_is no_type (within p s at) _ b) ∙ ap (one l) (within_value no_type p s at)
      go (suc (suc k)) e g = absurd (omega arith)

  module _ (f : i ≡ 0 → ⊥) (h : i ≡ 1 → ⊥) (g : Good (inner_at i l p s at)) where
    inner_second : Good (p (drop later s))
    unfolding inner_at
    inner_second = go i f h g
      where
        go : (j : ℕ) → (j ≡ 0 → ⊥) → (j ≡ 1 → ⊥) → Good (inner_at j l p s at) → Good (p (drop later s))
        go zero f h g = absurd (f refl)
        go (suc zero) f h g = absurd (h refl)
        go (suc (suc k)) f h g =
            let b = good_first no_type (within p s at) _ g in
            let c = good_first no_type _ _ (good_second no_type (within p s at) _ g) in
            within_good no_type p s later (rw (within_end no_type p s at b) at c)

    inner_two_is : value_or no_type (inner_at i l p s at) ≡ two l (value_or no_type (p (drop at s))) (value_or no_type (p (drop later s)))
    unfolding inner_at value_or
    inner_two_is = go i f h g
      where
        go : (j : ℕ) → (j ≡ 0 → ⊥) → (j ≡ 1 → ⊥) → Good (inner_at j l p s at)
            → value_or no_type (inner_at j l p s at) ≡ two l (value_or no_type (p (drop at s))) (value_or no_type (p (drop later s)))
        go zero f h g = absurd (f refl)
        go (suc zero) f h g = absurd (h refl)
        go (suc (suc k)) f h g =
            let b = good_first no_type (within p s at) _ g in
            let c = good_first no_type _ _ (good_second no_type (within p s at) _ g) in
            ap (value_or no_type) (bind_is no_type (within p s at) _ b ∙ bind_is no_type (within p s (end_of (within p s at))) _ c)
            ∙ ap₂ (two l) (within_value no_type p s at) (within_value no_type p s _ ∙ ap (λ (n : ℕ). value_or no_type (p (drop n s))) (within_end no_type p s at b))

-- for the crates above: a good type by its tag
module _ (d : ℕ) (s : List ℕ) (g : Good (type_of d s)) where
  -- where the inner types start
  abbrev E : ℕ
  E = end_of (label_of s)

  abbrev E₂ : ℕ
  E₂ = E + end_of (type_of (d - 1) (drop E s))

  g' : Good (inner_at (inner_types (get_or s 0 0)) (label_in s) (type_of (d - 1)) s E)
  g' = rw (type_is d s g) at g

  pub tree_leaf : inner_types (get_or s 0 0) ≡ 0 → tree_in d s ≡ leaf (label_in s)
  unfolding tree_in
  tree_leaf e = ap (value_or no_type) (type_is d s g) ∙ inner_leaf _ _ _ _ _ e

  pub first_good : (inner_types (get_or s 0 0) ≡ 0 → ⊥) → Good (type_of (d - 1) (drop E s))
  first_good f = inner_first _ _ _ _ _ f g'

  pub tree_one : inner_types (get_or s 0 0) ≡ 1 → tree_in d s ≡ one (label_in s) (tree_in (d - 1) (drop E s))
  unfolding tree_in
  tree_one e = ap (value_or no_type) (type_is d s g) ∙ inner_one_is _ _ _ _ _ e g'

  module _ (f : inner_types (get_or s 0 0) ≡ 0 → ⊥) (h : inner_types (get_or s 0 0) ≡ 1 → ⊥) where
    pub second_good : Good (type_of (d - 1) (drop E₂ s))
    second_good = inner_second _ _ _ _ _ f h g'

    pub tree_two : tree_in d s ≡ two (label_in s) (tree_in (d - 1) (drop E s)) (tree_in (d - 1) (drop E₂ s))
    unfolding tree_in
    tree_two = ap (value_or no_type) (type_is d s g) ∙ inner_two_is _ _ _ _ _ f h g'
