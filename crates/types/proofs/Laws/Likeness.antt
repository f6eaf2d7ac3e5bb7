-- The three answers: of parts together, and of two trees by their labels and their inner types. Assumes nothing.
use mathlib.Core.Path.{◌≡◌, refl, ap, ◌∙◌}
use mathlib.Core.Bool.{Bool, true, false, ◌&&◌, ◌||◌}
use Rattle.image.specs.Schema.{Label, Ty, leaf, one, two}
use Rattle.rules.specs.Types.{vector, same_label, same_tree, holds_vector}
use Rattle.rules.specs.Mended.{Likeness, equal, alike, different, equal_trees, likeness_by, likeness}
use Rattle.types.specs.Likeness.{joint}

-- ---- parts together

pub joint_different : (a : Likeness) → joint a different ≡ different
unfolding joint
joint_different equal = refl
joint_different alike = refl
joint_different different = refl

joint_assoc : (a b c : Likeness) → joint a (joint b c) ≡ joint (joint a b) c
unfolding joint
joint_assoc equal b c = refl
joint_assoc alike equal c = refl
joint_assoc alike alike equal = refl
joint_assoc alike alike alike = refl
joint_assoc alike alike different = refl
joint_assoc alike different c = refl
joint_assoc different b c = refl

-- trees are equal if their parts are, and a vector occurs if it occurs in one of them
joint_by : (a p b q : Bool) → likeness_by (a && b) (p || q) ≡ joint (likeness_by a p) (likeness_by b q)
unfolding likeness_by joint
joint_by false p b q = refl
joint_by true false b q = refl
joint_by true true true true = refl
joint_by true true true false = refl
joint_by true true false q = refl

-- ---- two trees

-- two labels
unfoldable pub label_likeness : Label → Label → Likeness
label_likeness l m = likeness_by (same_label l m) (vector l.tag)

module _ (l m : Label) where
  pub leaf_likeness : likeness (leaf l) (leaf m) ≡ label_likeness l m
  unfolding label_likeness likeness equal_trees same_tree holds_vector
  leaf_likeness = refl

  module _ (t u : Ty) where
    pub one_likeness : likeness (one l t) (one m u) ≡ joint (label_likeness l m) (likeness t u)
    unfolding label_likeness likeness equal_trees same_tree holds_vector
    one_likeness = joint_by (same_label l m) (vector l.tag) (equal_trees t u) (holds_vector t)

    pub two_likeness : (w v : Ty) → likeness (two l t w) (two m u v) ≡ joint (joint (label_likeness l m) (likeness t u)) (likeness w v)
    unfolding label_likeness likeness equal_trees same_tree holds_vector
    two_likeness w v =
        joint_by (same_label l m) (vector l.tag) (equal_trees t u && equal_trees w v) (holds_vector t || holds_vector w)
        ∙ ap (joint (label_likeness l m)) (joint_by (equal_trees t u) (holds_vector t) (equal_trees w v) (holds_vector w))
        ∙ joint_assoc (label_likeness l m) (likeness t u) (likeness w v)
