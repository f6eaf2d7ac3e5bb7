-- The declarations that may stand, by their positions: those of a set's ids, by rising id, and after them those listed. What stands is said by
-- `standing_with`; this is how a search meets it. Assumes nothing.
use Rattle.std.specs.Prelude.{◌≡◌, cond, List, [], ◌∷◌, map, ℕ, suc, get_or, Option, None, IfSome}
use Rattle.std.specs.Option.{option_map}
use Rattle.image.specs.Schema.{Decl as Declaration}
use Rattle.parts.specs.Handles.{schema_in, decl_of}
use Rattle.parts.specs.declared.handles.Decl.{Decl}
use Rattle.rules.specs.Survivors.{Registry, stands_for, resolved}
use Rattle.rules.specs.Reached.{IdSet}
use Rattle.survivors.specs.declared.decls.Declarations.{Declarations}

unfoldable pub candidates_from : Registry → ℕ → IdSet → List ℕ → List (Option Declaration)
candidates_from R id [] ids = map (stands_for R) ids
candidates_from R id (m ∷ ms) ids = cond m (stands_for R id) None ∷ candidates_from R (suc id) ms ids

-- what each position stands for: nothing, where the set does not have an id
unfoldable pub candidates : Declarations → List (Option Declaration)
candidates ds = candidates_from (schema_in ds.image).registry 0 ds.reached.now (schema_in ds.image).ids

-- the declaration at a position
pub record Candidate (ds : Declarations) (i : ℕ) (r : Option Decl) : Type 0 where
  pub value : option_map decl_of r ≡ get_or (candidates ds) i None
  pub image : IfSome r (λ d. d.image ≡ ds.image)

-- the declarations among them
unfoldable pub present : List (Option Declaration) → List Declaration
present [] = []
present (o ∷ os) = resolved o (present os)
