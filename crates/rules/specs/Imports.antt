-- R-2, "Follow the imports": what stands with what is reached, and the verdict and the report over it. The clauses, the checks and the stages
-- are those of document 01. Assumes nothing.
use Rattle.std.specs.Prelude.{◌≡◌, true, cond, List, [], ◌∷◌, ◌++◌, ℕ, suc, ◌<◌, Option, None, Some}
use Rattle.maps.specs.Lists.{count, among}
use Rattle.maps.specs.Keyed.{survivors, lookup}
use Rattle.maps.specs.Orders.{before}
use Rattle.image.specs.Schema.{Name, Decl, Schema}
use Rattle.image.specs.Parse.{ok}
use Rattle.image.specs.Image.{read_image}
use Rattle.rules.specs.Equal.{same_name}
use Rattle.rules.specs.Survivors.{stands_for, listed, name_of, declarations, View}
use Rattle.rules.specs.Answer.{Policy, usual, plain_reading, outcome, checked}
use Rattle.rules.specs.Reached.{Reached, IdSet, reached_set}

-- ---- what stands

-- the ids of a set, rising, from the id of its first mark on
unfoldable pub marked_ids : ℕ → IdSet → List ℕ
marked_ids id [] = []
marked_ids id (m ∷ ms) = cond m (id ∷ marked_ids (suc id) ms) (marked_ids (suc id) ms)

-- the survivors of one longer list: the ids of a set, rising, and after them the listed ids; of one name the last stands
unfoldable pub standing_with : IdSet → Schema → List Decl
standing_with m s = survivors name_of before (listed s.registry (marked_ids 0 m ++ s.ids))

unfoldable pub view_with : IdSet → Schema → View
view_with m s = record { namespace = s.namespace; standing = standing_with m s; registry = s.registry }

unfoldable pub imports_view : Schema → View
imports_view s = view_with (reached_set s) s

-- ---- the verdict with imports: as that of document 01, over this view. "Number 11 is tested over all entries that stand, reached ones too."

abbrev pub imports : Policy
imports = usual imports_view plain_reading

-- ---- what document 02 says of it

-- no reached entry has this name, of the ids that have P
abbrev pub NoneNamed : Schema → Name → (ℕ → Type 0) → Type 0
NoneNamed s name P = (id : ℕ) (d : Decl) → P id → Reached s id → stands_for s.registry id ≡ Some d → d.name ≡ name → ⊥

-- "For each name the surviving declaration stands, reached or not; where there is none, the reached entry with the highest id."
pub data Stands (s : Schema) (name : Name) : Option Decl → Type 0 where
  survivor : {d : Decl} → lookup name_of before name (declarations s) ≡ Some d → Stands s name (Some d)
  imported : {id : ℕ} {d : Decl} → lookup name_of before name (declarations s) ≡ None → Reached s id → stands_for s.registry id ≡ Some d
      → d.name ≡ name → NoneNamed s name (λ j. id < j) → Stands s name (Some d)
  absent : lookup name_of before name (declarations s) ≡ None → NoneNamed s name (λ j. Unit {0}) → Stands s name None

-- nothing that is not listed is reached
abbrev pub OnlyListed : Schema → Type 0
OnlyListed s = (id : ℕ) → Reached s id → among id s.ids ≡ true

pub record Imported : Type 0 where
  pub stands : (s : Schema) (name : Name) → Stands s name (lookup name_of before name (imports_view s).standing)
  -- "Each reached name is compared a single time, however the schemas refer back to themselves."
  pub once : (s : Schema) (id : ℕ) (d : Decl) → Reached s id → stands_for s.registry id ≡ Some d
      → count (λ e. same_name d.name e.name) (imports_view s).standing ≡ 1
  -- where nothing that is not listed is reached in an image that is accepted, on either side, verdict and report are those of document 01
  pub plain : (old new : List ℕ) → ((x : Schema) (n : ℕ) → read_image old ≡ ok x n → OnlyListed x)
      → ((y : Schema) (n : ℕ) → read_image new ≡ ok y n → OnlyListed y) → outcome imports old new ≡ checked old new
