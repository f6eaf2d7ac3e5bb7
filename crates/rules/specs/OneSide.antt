-- R-2: "A name that one side alone has, as survivor or reached, is removed or added as in clause 2." Assumes nothing.
use Rattle.std.specs.Prelude.{◌≡◌, Bool, ◌&&◌, ℕ, eqb, Option, None, Some}
use Rattle.maps.specs.Lists.{count}
use Rattle.image.specs.Schema.{Name, Decl, Schema}
use Rattle.rules.specs.Equal.{same_name}
use Rattle.rules.specs.Changes.{Change, kind_at, DeclarationAdded, DeclarationRemoved}
use Rattle.rules.specs.Clauses.{changes}
use Rattle.rules.specs.Answer.{plain_reading}
use Rattle.rules.specs.Imports.{imports_view, Stands}

-- a change of a kind, of the declaration of a name
unfoldable pub tells : ℕ → Name → Change → Bool
tells kind name c = eqb c.kind kind && same_name name c.declaration

-- 1 where the first has a declaration and the second has none, else 0
abbrev pub alone : Option Decl → Option Decl → ℕ
alone None o = 0
alone (Some d) None = 1
alone (Some d) (Some e) = 0

-- of what stands under a name on either side, as survivor or reached
pub record OneSided (old new : Schema) (name : Name) (was is : Option Decl) : Type 0 where
  pub removed : count (tells (kind_at DeclarationRemoved) name) (changes plain_reading (imports_view old) (imports_view new)) ≡ alone was is
  pub added : count (tells (kind_at DeclarationAdded) name) (changes plain_reading (imports_view old) (imports_view new)) ≡ alone is was

pub record OneSide : Type 0 where
  -- under a name one thing stands, or nothing
  pub once : (s : Schema) (name : Name) (o p : Option Decl) → Stands s name o → Stands s name p → o ≡ p
  pub told : (old new : Schema) (name : Name) (was is : Option Decl) → Stands old name was → Stands new name is → OneSided old new name was is
