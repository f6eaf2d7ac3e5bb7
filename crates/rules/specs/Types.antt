-- Types: when two are equal. Assumes nothing.
use Rattle.std.specs.Prelude.{Bool, false, cond, not, ◌&&◌, ◌||◌, List, [], ◌∷◌, ℕ, eqb, leb, Option, None, Some}
use Rattle.image.specs.Schema.{Name, Label, label, Ty, leaf, one, two, Decl}
use Rattle.image.specs.Codes.{number, named_tag, vec2_tag, mat4_tag}
use Rattle.rules.specs.Equal.{same_names}
use Rattle.rules.specs.Survivors.{Registry, stands_for}

-- the name that an id stands for in its own registry: a list with that name, or with none if the id is unresolvable
unfoldable pub name_or_none : Option Decl → List Name
name_or_none None = []
name_or_none (Some d) = d.name ∷ []

-- a named node has its name instead of its id
unfoldable pub resolve_label : Registry → Label → Label
resolve_label R l = cond (eqb l.tag (number named_tag)) (label (number named_tag) 0 0 (name_or_none (stands_for R l.first))) l

unfoldable pub resolve : Registry → Ty → Ty
resolve R (leaf l) = leaf (resolve_label R l)
resolve R (one l t) = one (resolve_label R l) (resolve R t)
resolve R (two l t u) = two (resolve_label R l) (resolve R t) (resolve R u)

-- 10 to 15: vec2 vec3 vec4 quat mat3 mat4
unfoldable pub vector : ℕ → Bool
vector tag = leb (number vec2_tag) tag && leb tag (number mat4_tag)

-- "same tag, same codes, same size, same bit names in order"
unfoldable pub same_label : Label → Label → Bool
same_label l m =
    eqb l.tag m.tag && (eqb l.first m.first && (eqb l.second m.second && same_names l.names m.names))

-- "Tags 10 to 15 are never equal, even to themselves."
unfoldable pub equal_label : Label → Label → Bool
equal_label l m = not (vector l.tag) && same_label l m

-- Two trees are equal node by node, their labels by a test.
unfoldable pub same_tree : (Label → Label → Bool) → Ty → Ty → Bool
same_tree same (leaf l) (leaf m) = same l m
same_tree same (leaf l) (one m u) = false
same_tree same (leaf l) (two m u v) = false
same_tree same (one l t) (leaf m) = false
same_tree same (one l t) (one m u) = same l m && same_tree same t u
same_tree same (one l t) (two m u v) = false
same_tree same (two l t w) (leaf m) = false
same_tree same (two l t w) (one m u) = false
same_tree same (two l t w) (two m u v) = same l m && (same_tree same t u && same_tree same w v)

-- Of resolved types: "inner types equal. Named: both names equal, each from its own registry; two unresolvable ids are equal; an
-- unresolvable one differs from every resolvable one."
unfoldable pub same_type : Ty → Ty → Bool
same_type t u = same_tree equal_label t u

-- "a type holds every node of its tree, the root included, and a named node is not entered": whether one is a vector, quaternion or matrix
unfoldable pub holds_vector : Ty → Bool
holds_vector (leaf l) = vector l.tag
holds_vector (one l t) = vector l.tag || holds_vector t
holds_vector (two l t u) = vector l.tag || (holds_vector t || holds_vector u)
