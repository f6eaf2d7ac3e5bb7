-- Sets of ids as the code holds them: a mark for each id that an image can have. Assumes nothing.
use Rattle.std.specs.Prelude.{◌≡◌, Bool, true, false, List, ℕ, ◌≤◌, ◌<◌, length, take, Option, None, Some, IfSome}
use Rattle.maps.specs.Keyed.{lookup}
use Rattle.maps.specs.Orders.{before}
use Rattle.maps.specs.Lists.{among}
use Rattle.parts.specs.Promise.{tree_in, type_end}
use Rattle.parts.specs.Handles.{schema_in, decl_of}
use Rattle.parts.specs.declared.handles.Image.{Image}
use Rattle.parts.specs.declared.handles.Decl.{Decl}
use Rattle.rules.specs.Survivors.{name_of, declarations, view_of}
use Rattle.rules.specs.Reached.{named_in, named_from, resolvable, IdSet, has, mark_all, reached_set}
use Rattle.survivors.specs.Answers.{standing_of}
use Rattle.survivors.specs.declared.decls.Declarations.{Declarations}
use Rattle.survivors.specs.declared.decls.StandingDecls.{StandingDecls}
use Rattle.reached.specs.declared.Reached.{Reached}

-- there are marks for all ids of an image
pub record Ready (i : Image) (m : IdSet) : Type 0 where
  pub room : length (schema_in i).registry ≤ length m

-- n has the marks of m, and of those ids that are resolvable
pub record Marked (i : Image) (m : IdSet) (ids : List ℕ) (n : IdSet) : Type 0 where
  pub is : n ≡ mark_all (schema_in i).registry m ids

-- r is the place after the type at a place, and what the type names is marked
pub record TypeMarked (i : Image) (at : ℕ) (m : IdSet) (r : ℕ) (n : IdSet) : Type 0 where
  pub end : r ≡ type_end i.bytes.now at
  pub marks : Marked i m (named_in (tree_in i.bytes.now at)) n

-- what the survivors name is marked
pub record Started (i : Image) (m : IdSet) : Type 0 where
  pub ready : Ready i m
  pub first : (id : ℕ) → among id (named_from (view_of (schema_in i))) ≡ true → resolvable (schema_in i).registry id ≡ true → has m id ≡ true

-- the listed declarations: those that stand among them are the survivors
pub record Listed (i : Image) (ds : Declarations) : Type 0 where
  pub image : ds.image ≡ i
  pub standing : standing_of ds ≡ declarations (schema_in i)

-- a walk over the survivors, at its start
pub record OverSurvivors (i : Image) (w : StandingDecls) : Type 0 where
  pub listed : Listed i w.declarations
  pub after : w.after ≡ None

-- a declaration is the survivor of its name, if the answer is true
pub record StandsAt (d : Decl) (r : Bool) : Type 0 where
  pub stands : r ≡ true → lookup name_of before (decl_of d).name (declarations (schema_in d.image)) ≡ Some (decl_of d)

-- an id below n that is in m and not in f, if there is one
pub record Open (m f : IdSet) (n : ℕ) (r : Option ℕ) : Type 0 where
  pub found : IfSome r (λ id. (id < n) × (has m id ≡ true) × (has f id ≡ false))
  pub none : r ≡ None → (id : ℕ) → id < n → has m id ≡ true → has f id ≡ true

-- the answer: so many marks as the registry has entries, and those of the reached ids
pub record ReachedIn (i : Image) (r : Reached) : Type 0 where
  pub count : r.count ≡ length (schema_in i).registry
  pub marks : take r.count r.marks ≡ reached_set (schema_in i)
  pub few : r.count ≤ 512
  pub room : r.count ≤ length r.marks
