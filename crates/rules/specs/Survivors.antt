-- Survivors: "Of declarations with one name the last listed stands. .. The same holds for ordinals and bits inside one body or variant."
-- Assumes nothing.
use Rattle.std.specs.Prelude.{Option, None, Some, List, [], ◌∷◌, ℕ, ltb, get_or}
use Rattle.maps.specs.Keyed.{survivors}
use Rattle.maps.specs.Orders.{before}
use Rattle.image.specs.Schema.{Name, Field, Variant, Decl, Schema}
use Rattle.image.specs.Kinds.{Kind, union}

abbrev pub Registry : Type 0
Registry = List (Option Decl)

-- "An id that is N or more, or whose entry is empty, is unresolvable"
unfoldable pub stands_for : Registry → ℕ → Option Decl
stands_for R id = get_or R id None

-- "in the declaration list it is skipped"
unfoldable pub resolved : Option Decl → List Decl → List Decl
resolved None ds = ds
resolved (Some d) ds = d ∷ ds

unfoldable pub listed : Registry → List ℕ → List Decl
listed R [] = []
listed R (id ∷ ids) = resolved (stands_for R id) (listed R ids)

-- "All impls share the empty name": an impl is read with it.
abbrev pub name_of : Decl → Name
name_of d = d.name

unfoldable pub declarations : Schema → List Decl
declarations s = survivors name_of before (listed s.registry s.ids)

abbrev pub ordinal_of : Field → ℕ
ordinal_of f = f.ordinal

unfoldable pub field_map : List Field → List Field
field_map fs = survivors ordinal_of ltb fs

abbrev pub variant_ordinal : Variant → ℕ
variant_ordinal v = v.ordinal

unfoldable pub variant_map : List Variant → List Variant
variant_map vs = survivors variant_ordinal ltb vs

-- those with fields and tombstones of their own: a union's
unfoldable pub union_variants : Kind → Decl → List Variant
union_variants union d = variant_map d.variants
union_variants k d = []

-- What the clauses compare of a schema: its namespace, the declarations that stand, by rising name, and its registry, for the names of
-- its types.
pub record View : Type 0 where
  pub namespace : List Name
  pub standing : List Decl
  pub registry : Registry

-- the survivors stand
unfoldable pub view_of : Schema → View
view_of s = record { namespace = s.namespace; standing = declarations s; registry = s.registry }
