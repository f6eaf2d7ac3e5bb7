-- Two types at their places, by their labels and their inner types. Assumes nothing.
use mathlib.Core.Path.{◌≡◌, refl, sym, ap, ◌∙◌}
use mathlib.Core.Bool.{Bool, true, false}
use mathlib.Core.List.{List}
use Rattle.std.specs.Prelude.{Option, None, Some}
use Prim.Native.Nat.{ℕ, zero, suc}
use native.Mathlib.Omega.{arith}
use Rattle.image.specs.Schema.{Label, Ty, leaf, one, two}
use Rattle.parts.specs.Promise.{schema_of, label_in, label_end, TypeHere, tree_in, type_end}
use Rattle.parts.proofs.Promise.{node_leaf, node_one, node_two}
use Rattle.rules.specs.Survivors.{Registry}
use Rattle.rules.specs.Types.{resolve_label, resolve, vector, same_label, same_tree}
use Rattle.rules.specs.Mended.{different, equal_trees, likeness_by, likeness}
use Rattle.rules.proofs.Types.{tag_resolved}
use Rattle.parts.specs.Handles.{TypeAt}
use Rattle.parts.specs.declared.handles.Image.{Image}
use Rattle.parts.specs.declared.handles.TypeRef.{TypeRef}
use Rattle.types.specs.Nodes.{One, Two, Node, Inner}
use Rattle.types.specs.Resolved.{node_in, type_in}
use Rattle.types.specs.Likeness.{likeness_of, answer_of, joint, After, ComparedAt, Compares}
use Rattle.types.specs.declared.equal.Compared.{Compared}
use Rattle.types.specs.declared.likeness.Likeness.{Likeness}
use Rattle.types.proofs.Laws.Labels.{same_tags}
use Rattle.types.proofs.Laws.Likeness.{label_likeness, joint_different, leaf_likeness, one_likeness, two_likeness}

-- the node of a type whose tag is known
pub node : {tag inner : ℕ} → Inner tag inner → {left : ℕ} {s : List ℕ} {at : ℕ} → TypeHere left s at → (label_in s at).tag ≡ tag → Node left s at inner
unfolding Inner
node f {left} {s} {at} h e = f left s at h e

-- a number is 0, 1 or more
by_count : {P : Type 0} (n : ℕ) → (n ≡ 0 → P) → (n ≡ 1 → P) → ((n ≡ 0 → ⊥) → (n ≡ 1 → ⊥) → P) → P
by_count zero z o m = z refl
by_count (suc zero) z o m = o refl
by_count (suc (suc n)) z o m = m (λ e. absurd (omega arith)) (λ e. absurd (omega arith))

-- the label at the root
root : Ty → Label
root (leaf l) = l
root (one l t) = l
root (two l t u) = l

roots_differ : (R S : Registry) (t u : Ty) → same_label (resolve_label R (root t)) (resolve_label S (root u)) ≡ false → equal_trees (resolve R t) (resolve S u) ≡ false
unfolding root equal_trees same_tree resolve
roots_differ R S (leaf l) (leaf m) e = e
roots_differ R S (leaf l) (one m u) e = refl
roots_differ R S (leaf l) (two m u v) e = refl
roots_differ R S (one l t) (leaf m) e = refl
roots_differ R S (one l t) (one m u) e = rw e
roots_differ R S (one l t) (two m u v) e = refl
roots_differ R S (two l t w) (leaf m) e = refl
roots_differ R S (two l t w) (one m u) e = refl
roots_differ R S (two l t w) (two m u v) e = rw e

root_is : (left : ℕ) (s : List ℕ) (at : ℕ) → TypeHere left s at → root (tree_in s at) ≡ label_in s at
unfolding root
root_is left s at h =
    by_count _ (λ e. ap root (node_leaf s at left h e)) (λ e. ap root (node_one s at left h (λ z. absurd (omega arith)) e)) (λ f g. ap root (node_two s at left h f g))

-- r is whether the labels are the same
module _ (s : List ℕ) (i : ℕ) (t : List ℕ) (j : ℕ) {r : Bool} (e : r ≡ same_label (node_in s i) (node_in t j)) where
  pub labels_differ : r ≡ false → {old new : ℕ} → TypeHere old s i → TypeHere new t j → ComparedAt s i t j None
  unfolding likeness likeness_by
  labels_differ f {old} {new} g h =
      let d : equal_trees (type_in s i) (type_in t j) ≡ false = roots_differ _ _ (tree_in s i) (tree_in t j) (rw (root_is old s i g, root_is new t j h, ← e) f) in
      record { answer = rw d; ends = tt }

  pub tags_same : r ≡ true → (label_in t j).tag ≡ (label_in s i).tag
  tags_same f = sym (same_tags _ _ (label_in s i) (label_in t j) (sym e ∙ f))

-- Two nodes whose labels are the same: they have one tag, with so many inner types, and by it they are n; p and q are where their labels end.
pub record Heads (left right : ℕ) (s : List ℕ) (i : ℕ) (t : List ℕ) (j inner : ℕ) (n : Likeness) (p q : ℕ) : Type 0 where
  pub old : Node left s i inner
  pub new : Node right t j inner
  pub likeness : likeness_of n ≡ label_likeness (node_in s i) (node_in t j)
  pub old_end : p ≡ label_end s i
  pub new_end : q ≡ label_end t j

-- x is the tag
pub heads : {s : List ℕ} {i : ℕ} {t : List ℕ} {j : ℕ} {r : Bool} → r ≡ same_label (node_in s i) (node_in t j) → r ≡ true
    → {x : ℕ} → x ≡ (label_in s i).tag → {inner : ℕ} → Inner x inner → {n : Likeness} → likeness_of n ≡ likeness_by true (vector x)
    → {p q : ℕ} → p ≡ label_end s i → q ≡ label_end t j → {left right : ℕ} → TypeHere left s i → TypeHere right t j
    → Heads left right s i t j inner n p q
unfolding label_likeness
heads {s} {i} {t} {j} e f y m g k l a b = record {
  old = node m a (sym y);
  new = node m b (tags_same s i t j e f ∙ sym y);
  likeness = g ∙ rw (← e, f, tag_resolved (schema_of s).registry (label_in s i), y);
  old_end = k;
  new_end = l;
}

module _ {left right : ℕ} {s : List ℕ} {i : ℕ} {t : List ℕ} {j inner : ℕ} {n : Likeness} {p q : ℕ} (h : Heads left right s i t j inner n p q) where
  pub leaves : inner ≡ 0 → ComparedAt s i t j (Some (record { likeness = n; old_end = p; new_end = q }))
  unfolding resolve
  leaves z =
      let a = h.old.none z in
      let b = h.new.none z in
      record {
        answer = rw (a.tree, b.tree) (h.likeness ∙ sym (leaf_likeness _ _));
        ends = (h.old_end ∙ sym a.end, h.new_end ∙ sym b.end);
      }

  -- o is how the first inner types compare
  module _ {o : Option Compared} (c : ComparedAt s p t q o) where
    module _ (u : o ≡ None) where
      lost : likeness (type_in s (label_end s i)) (type_in t (label_end t j)) ≡ different
      lost = sym (rw (h.old_end, h.new_end) at c.answer) ∙ ap answer_of u

      one_lost : One s i → One t j → ComparedAt s i t j None
      unfolding resolve
      one_lost a b = record {
        answer = rw (a.tree, b.tree) (sym (one_likeness _ _ _ _ ∙ rw lost (joint_different _)));
        ends = tt;
      }

      two_lost : Two s i → Two t j → ComparedAt s i t j None
      unfolding resolve joint
      two_lost a b = record {
        answer = rw (a.tree, b.tree) (sym (two_likeness _ _ _ _ _ _ ∙ ap (λ l. joint l (likeness (type_in s (type_end s (label_end s i))) (type_in t (type_end t (label_end t j))))) (ap (joint (label_likeness (node_in s i) (node_in t j))) lost ∙ joint_different _)));
        ends = tt;
      }

      pub first_lost : (inner ≡ 0 → ⊥) → ComparedAt s i t j None
      first_lost f =
          by_count inner
          (λ z. absurd (f z))
          (λ z. one_lost (h.old.single z) (h.new.single z))
          (λ x y. two_lost (h.old.pair x y) (h.new.pair x y))

    -- they are not different, and w is both together
    module _ {d : Compared} (u : o ≡ Some d) {w : Compared} (v : After (likeness_of n) d w) where
      found : (likeness_of d.likeness ≡ likeness (type_in s (label_end s i)) (type_in t (label_end t j)))
          × (d.old_end ≡ type_end s (label_end s i)) × (d.new_end ≡ type_end t (label_end t j))
      found = let g = (rw (h.old_end, h.new_end, u) at c) in (g.answer, g.ends.0, g.ends.1)

      first_likeness : likeness_of w.likeness
          ≡ joint (label_likeness (node_in s i) (node_in t j)) (likeness (type_in s (label_end s i)) (type_in t (label_end t j)))
      first_likeness = v.likeness ∙ rw (h.likeness, found.0)

      pub second_places : (w.old_end ≡ type_end s (label_end s i)) × (w.new_end ≡ type_end t (label_end t j))
      second_places = (v.old_end ∙ found.1, v.new_end ∙ found.2)

      pub ones : inner ≡ 1 → ComparedAt s i t j (Some w)
      unfolding resolve
      ones z =
          let a = h.old.single z in
          let b = h.new.single z in
          record {
            answer = rw (a.tree, b.tree) (first_likeness ∙ sym (one_likeness _ _ _ _));
            ends = (second_places.0 ∙ sym a.end, second_places.1 ∙ sym b.end);
          }

      -- o₂ is how the second ones compare
      module _ (f : inner ≡ 0 → ⊥) (g : inner ≡ 1 → ⊥) {o₂ : Option Compared} (c₂ : ComparedAt s w.old_end t w.new_end o₂) where
        second : ComparedAt s (type_end s (label_end s i)) t (type_end t (label_end t j)) o₂
        second = rw (second_places.0, second_places.1) at c₂

        pub second_lost : o₂ ≡ None → ComparedAt s i t j None
        unfolding resolve
        second_lost e₂ = record {
          answer = rw ((h.old.pair f g).tree, (h.new.pair f g).tree) (sym (two_likeness _ _ _ _ _ _ ∙ ap (joint _) (sym second.answer ∙ ap answer_of e₂) ∙ joint_different _));
          ends = tt;
        }

        pub twos : {d₂ : Compared} → o₂ ≡ Some d₂ → {r : Compared} → After (likeness_of w.likeness) d₂ r → ComparedAt s i t j (Some r)
        unfolding resolve
        twos e₂ {r} v₂ =
            let m = (rw e₂ at second) in
            let a = h.old.pair f g in
            let b = h.new.pair f g in
            record {
              answer = rw (a.tree, b.tree) (v₂.likeness ∙ (rw (first_likeness, m.answer) (sym (two_likeness _ _ _ _ _ _))));
              ends = (v₂.old_end ∙ m.ends.0 ∙ sym a.end, v₂.new_end ∙ m.ends.1 ∙ sym b.end);
            }

-- two inner types at the places that they were read from
pub placed : {a b : Image} {m n i j : ℕ} {t u : TypeRef} {r : Option Compared} → TypeAt a m i t → TypeAt b n j u → Compares t u r → ComparedAt a.bytes.now i b.bytes.now j r
placed x y c = rw (x.image, x.at, y.image, y.at) at c
