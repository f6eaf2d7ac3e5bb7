-- R-2, "Follow the imports": what is reached through named nodes, as a statement and as something that computes. That the two are the same is
-- proved (`ReachedIs`). Assumes nothing.
use Rattle.std.specs.Prelude.{◌≡◌, ◌↔◌, Bool, true, false, cond, ℕ, zero, suc, eqb, length, get_or, set, replicate, Option, None, Some}
use mathlib.Core.List.{List, [], ◌∷◌, ◌++◌, flat_map}
use Rattle.maps.specs.Lists.{pass, among}
use Rattle.std.specs.Option.{is_some}
use Rattle.image.specs.Schema.{Label, Ty, leaf, one, two, Decl, Schema}
use Rattle.image.specs.Codes.{number, named_tag}
use Rattle.image.specs.Kinds.{kind_of}
use Rattle.rules.specs.Survivors.{Registry, stands_for, View, view_of}
use Rattle.rules.specs.Clauses.{types_of, compared_types}

-- ---- "named nodes, at any depth, in the compared types"

unfoldable pub named_label : Label → List ℕ
named_label l = cond (eqb l.tag (number named_tag)) (l.first ∷ []) []

-- the ids of the named nodes of a type
unfoldable pub named_in : Ty → List ℕ
named_in (leaf l) = named_label l
named_in (one l t) = named_label l ++ named_in t
named_in (two l t u) = named_label l ++ (named_in t ++ named_in u)

-- those of the compared types of a declaration
unfoldable pub named_of : Decl → List ℕ
named_of d = flat_map named_in (types_of (kind_of d.kind) d)

-- those of the compared types of all that stands in a view
unfoldable pub named_from : View → List ℕ
named_from v = flat_map named_in (compared_types v)

-- ---- as a statement

-- not "an id that is N or more, or whose entry is empty"
unfoldable pub resolvable : Registry → ℕ → Bool
resolvable R id = is_some (stands_for R id)

-- "every resolvable entry reached through named nodes, at any depth, in the compared types of the survivors and then of the entries
-- reached, over any number of steps. Every entry reached is followed, also one that does not stand."
pub data Reached (s : Schema) : ℕ → Type 0 where
  by_survivor : {id : ℕ} → among id (named_from (view_of s)) ≡ true → resolvable s.registry id ≡ true → Reached s id
  by_reached : {via id : ℕ} {d : Decl} → Reached s via → stands_for s.registry via ≡ Some d → among id (named_of d) ≡ true
      → resolvable s.registry id ≡ true → Reached s id

-- ---- and computed

-- A set of ids has a mark for each id from 0 on.
abbrev pub IdSet : Type 0
IdSet = List Bool

unfoldable pub has : IdSet → ℕ → Bool
has m id = get_or m id false

-- one id more, if it is resolvable
unfoldable pub mark : Registry → IdSet → ℕ → IdSet
mark R m id = cond (resolvable R id) (set m id true) m

unfoldable pub mark_all : Registry → IdSet → List ℕ → IdSet
mark_all R m ids = pass (mark R) m ids

-- what the entry of an id names; nothing, if it is unresolvable
unfoldable pub named_by : Option Decl → List ℕ
named_by None = []
named_by (Some d) = named_of d

-- an id of the set is followed
unfoldable pub follow : Registry → IdSet → ℕ → IdSet
follow R m id = cond (has m id) (mark_all R m (named_by (stands_for R id))) m

-- so many ids from one on, rising
unfoldable pub up_from : ℕ → ℕ → List ℕ
up_from from zero = []
up_from from (suc n) = from ∷ up_from (suc from) n

-- a round follows every id of the set; and so many rounds
unfoldable pub round : Registry → IdSet → IdSet
round R m = pass (follow R) m (up_from 0 (length R))

unfoldable pub rounds : Registry → ℕ → IdSet → IdSet
rounds R zero m = m
rounds R (suc n) m = rounds R n (round R m)

-- what the survivors name
unfoldable pub first_set : Schema → IdSet
first_set s = mark_all s.registry (replicate (length s.registry) false) (named_from (view_of s))

-- as many rounds as the registry has entries: a round reaches one entry more at least, or it and all after it reach none
unfoldable pub reached_set : Schema → IdSet
reached_set s = rounds s.registry (length s.registry) (first_set s)

-- what is computed is what is reached
pub record ReachedIs (s : Schema) : Type 0 where
  pub exactly : (id : ℕ) → (has (reached_set s) id ≡ true) ↔ Reached s id
  -- a mark for each entry of the registry
  pub length : length (reached_set s) ≡ length s.registry
