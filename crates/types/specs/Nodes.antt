-- A type at a place by the number of its inner types: its tree, where it ends, and that inner types stand at their places.
-- Assumes nothing.
use Rattle.std.specs.Prelude.{◌≡◌, List, ℕ, ◌-◌}
use Rattle.image.specs.Schema.{leaf, one, two}
use Rattle.parts.specs.Promise.{label_in, label_end, TypeHere, tree_in, type_end}

pub record Leaf (s : List ℕ) (at : ℕ) : Type 0 where
  pub tree : tree_in s at ≡ leaf (label_in s at)
  pub end : type_end s at ≡ label_end s at

pub record One (s : List ℕ) (at : ℕ) : Type 0 where
  pub tree : tree_in s at ≡ one (label_in s at) (tree_in s (label_end s at))
  pub end : type_end s at ≡ type_end s (label_end s at)

pub record Two (s : List ℕ) (at : ℕ) : Type 0 where
  pub tree : tree_in s at ≡ two (label_in s at) (tree_in s (label_end s at)) (tree_in s (type_end s (label_end s at)))
  pub end : type_end s at ≡ type_end s (type_end s (label_end s at))

-- a type of at most `left` nodes on a path
pub record Node (left : ℕ) (s : List ℕ) (at inner : ℕ) : Type 0 where
  pub none : inner ≡ 0 → Leaf s at
  pub first : (inner ≡ 0 → ⊥) → TypeHere (left - 1) s (label_end s at)
  pub single : inner ≡ 1 → One s at
  pub second : (inner ≡ 0 → ⊥) → (inner ≡ 1 → ⊥) → TypeHere (left - 1) s (type_end s (label_end s at))
  pub pair : (inner ≡ 0 → ⊥) → (inner ≡ 1 → ⊥) → Two s at

-- every type whose root has this tag has so many inner types
unfoldable pub Inner : ℕ → ℕ → Type 0
Inner tag inner = (left : ℕ) (s : List ℕ) (at : ℕ) → TypeHere left s at → (label_in s at).tag ≡ tag → Node left s at inner
