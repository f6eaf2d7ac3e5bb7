-- When two sub-bytes are the same, and what the comparison of two types answers. Assumes nothing.
use Rattle.std.specs.Prelude.{◌≡◌, Bool, ◌&&◌, List, ℕ, eqb, Option, None, Some, IfSome}
use Rattle.image.specs.Schema.{Label}
use Rattle.parts.specs.Promise.{type_end}
use Rattle.parts.specs.declared.handles.TypeRef.{TypeRef}
use Rattle.rules.specs.Mended.{Likeness as Definition, equal, alike, different, likeness}
use Rattle.types.specs.Resolved.{type_in}
use Rattle.types.specs.declared.equal.Compared.{Compared}
use Rattle.types.specs.declared.likeness.Likeness.{Likeness}
use Rattle.types.specs.declared.likeness.Likeness.TheVariants.{Equal, Alike, Different}

-- two sub-bytes are both signed or both not, and have as many bits
abbrev pub same_codes : Label → Label → Bool
same_codes l m = eqb l.first m.first && eqb l.second m.second

-- the answer of R-5, by the code's word for it
unfoldable pub likeness_of : Likeness → Definition
likeness_of Equal = equal
likeness_of Alike = alike
likeness_of Different = different

-- two parts together: different if one of them is, and else alike if one of them is
unfoldable pub joint : Definition → Definition → Definition
joint equal b = b
joint alike equal = alike
joint alike alike = alike
joint alike different = different
joint different b = different

-- after a part, the rest: r is both together
pub record After (before : Definition) (rest r : Compared) : Type 0 where
  pub likeness : likeness_of r.likeness ≡ joint before (likeness_of rest.likeness)
  pub old_end : r.old_end ≡ rest.old_end
  pub new_end : r.new_end ≡ rest.new_end

-- what a comparison comes to: different, if there is nothing to go on with
abbrev pub answer_of : Option Compared → Definition
answer_of None = different
answer_of (Some c) = likeness_of c.likeness

-- of the types at i in s and at j in t
pub record ComparedAt (s : List ℕ) (i : ℕ) (t : List ℕ) (j : ℕ) (r : Option Compared) : Type 0 where
  pub answer : answer_of r ≡ likeness (type_in s i) (type_in t j)
  -- types that are not different come with the places after them
  pub ends : IfSome r (λ c. (c.old_end ≡ type_end s i) × (c.new_end ≡ type_end t j))

-- the same of two types by their handles
abbrev pub Compares : TypeRef → TypeRef → Option Compared → Type 0
Compares t u r = ComparedAt t.image.bytes.now t.at u.image.bytes.now u.at r
