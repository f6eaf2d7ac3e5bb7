-- Types and encodings: their tests are sound, and a type is odd, different from itself, exactly if it holds a vector, quaternion or matrix
-- node, also once its named nodes are resolved. Assumes nothing.
use mathlib.Core.Path.{◌≡◌, refl, sym}
use mathlib.Core.Bool.{Bool, true, false, not, ◌&&◌, ◌||◌, false≢true}
use lib.Dec.{eqb}
use borrow.Author.Tests.{eqb-true}
use Rattle.image.specs.Schema.{Label, label, Ty, leaf, one, two}
use Rattle.maps.proofs.Tests.{both}
use Rattle.rules.specs.Equal.{Sound, never}
use Rattle.rules.specs.Survivors.{Registry}
use Rattle.rules.specs.Types.{resolve_label, resolve, vector, same_label, equal_label, same_tree, same_type, holds_vector}
use Rattle.rules.specs.Clauses.{same_encoding}
use Rattle.rules.proofs.Equal.{join, numbers, name_lists}

pub encodings : Sound same_encoding never
unfolding same_encoding
encodings = record {
  equal = λ a b e.
      let h = both (eqb a.deltas b.deltas) (eqb a.base b.base) e in
      let u = numbers.equal a.deltas b.deltas h.0 in
      let v = numbers.equal a.base b.base h.1 in
      λ i. record { deltas = u i; base = v i };
  self = λ a. join (numbers.self a.deltas) (numbers.self a.base);
}

-- ---- labels

label_equal : (l m : Label) → same_label l m ≡ true → l ≡ m
unfolding same_label
label_equal l m e =
    let p = both (eqb l.tag m.tag) _ e in
    let q = both (eqb l.first m.first) _ p.1 in
    let r = both (eqb l.second m.second) _ q.1 in
    let u = numbers.equal l.tag m.tag p.0 in
    let v = numbers.equal l.first m.first q.0 in
    let w = numbers.equal l.second m.second r.0 in
    let x = name_lists.equal l.names m.names r.1 in
    λ i. label (u i) (v i) (w i) (x i)

label_self : (l : Label) → same_label l l ≡ true
unfolding same_label
label_self l =
    join (numbers.self l.tag) (join (numbers.self l.first) (join (numbers.self l.second) (name_lists.self l.names)))

pub labels : Sound same_label never
labels = record { equal = label_equal; self = label_self }

-- equal labels are the same
equal_same : (l m : Label) → equal_label l m ≡ true → l ≡ m
unfolding equal_label
equal_same l m e = label_equal l m (both (not (vector l.tag)) (same_label l m) e).1

equal_self : (l : Label) → equal_label l l ≡ not (vector l.tag)
unfolding equal_label
equal_self l = rw (label_self l) (go (not (vector l.tag)))
  where
    go : (b : Bool) → (b && true) ≡ b
    go true = refl
    go false = refl

-- ---- types

-- if equal labels are the same, so are equal trees
module _ (same : Label → Label → Bool) (labels_equal : (l m : Label) → same l m ≡ true → l ≡ m) where
  pub tree_equal : (t u : Ty) → same_tree same t u ≡ true → t ≡ u
  unfolding same_tree
  tree_equal (leaf l) (leaf m) e = cc (labels_equal l m e)
  tree_equal (leaf l) (one m u) e = absurd (false≢true e)
  tree_equal (leaf l) (two m u v) e = absurd (false≢true e)
  tree_equal (one l t) (leaf m) e = absurd (false≢true e)
  tree_equal (one l t) (one m u) e =
      let p = both (same l m) (same_tree same t u) e in
      cc (labels_equal l m p.0, tree_equal t u p.1)
  tree_equal (one l t) (two m u v) e = absurd (false≢true e)
  tree_equal (two l t w) (leaf m) e = absurd (false≢true e)
  tree_equal (two l t w) (one m u) e = absurd (false≢true e)
  tree_equal (two l t w) (two m u v) e =
      let p = both (same l m) (same_tree same t u && same_tree same w v) e in
      let q = both (same_tree same t u) (same_tree same w v) p.1 in
      cc (labels_equal l m p.0, tree_equal t u q.0, tree_equal w v q.1)

-- a tree whose labels are equal to themselves is equal to itself
module _ (same : Label → Label → Bool) (labels_self : (l : Label) → same l l ≡ true) where
  pub tree_self : (t : Ty) → same_tree same t t ≡ true
  unfolding same_tree
  tree_self (leaf l) = labels_self l
  tree_self (one l t) = join (labels_self l) (tree_self t)
  tree_self (two l t u) = join (labels_self l) (join (tree_self t) (tree_self u))

-- neither of two
neither : {a b : Bool} (h k : Bool) → a ≡ not h → b ≡ not k → (a && b) ≡ not (h || k)
neither true k p q = rw p
neither false k p q = rw (p, q)

type_self : (t : Ty) → same_type t t ≡ not (holds_vector t)
unfolding same_type same_tree holds_vector
type_self (leaf l) = equal_self l
type_self (one l t) = neither (vector l.tag) (holds_vector t) (equal_self l) (type_self t)
type_self (two l t u) =
    neither (vector l.tag) (holds_vector t || holds_vector u) (equal_self l)
    (neither (holds_vector t) (holds_vector u) (type_self t) (type_self u))

pub types : Sound same_type holds_vector
unfolding same_type
types = record { equal = tree_equal equal_label equal_same; self = type_self }

-- ---- resolving keeps the tags

pub tag_resolved : (R : Registry) (l : Label) → (resolve_label R l).tag ≡ l.tag
unfolding resolve_label
tag_resolved R l = go (eqb l.tag 3) refl
  where
    go : (b : Bool) → eqb l.tag 3 ≡ b → (resolve_label R l).tag ≡ l.tag
    go true p = rw p (sym (eqb-true l.tag 3 p))
    go false p = rw p

pub holds_resolved : (R : Registry) (t : Ty) → holds_vector (resolve R t) ≡ holds_vector t
unfolding holds_vector resolve
holds_resolved R (leaf l) = rw (tag_resolved R l)
holds_resolved R (one l t) = rw (tag_resolved R l, holds_resolved R t)
holds_resolved R (two l t u) = rw (tag_resolved R l, holds_resolved R t, holds_resolved R u)
