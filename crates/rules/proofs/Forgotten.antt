-- Where a part of each declaration is forgotten, what is read of a registry and of a view stays the same if kinds, names and the ids that
-- are named stay. Assumes nothing.
use mathlib.Core.Path.{◌≡◌, refl, sym, ap, ◌∙◌}
use mathlib.Core.Bool.{◌&&◌}
use mathlib.Core.List.{List, [], ◌∷◌, map, flat_map}
use Rattle.std.specs.Prelude.{Option, None, Some, option_map}
use Prim.Native.Nat.{ℕ, zero, suc}
use lib.ListN.{length, get_or-map}
use Rattle.std.proofs.lemmas.List.{length-map}
use Rattle.maps.specs.Orders.{before}
use Rattle.maps.specs.Keyed.{survivors, lookup}
use Rattle.std.specs.Option.{is_some}
use Rattle.maps.proofs.Mapped.{pass_same, survivors_map, lookup_map}
use Rattle.maps.proofs.Any.{any_same, any_map}
use Rattle.image.specs.Schema.{Label, Ty, leaf, one, two, Decl}
use Rattle.rules.specs.Survivors.{Registry, stands_for, resolved, listed, name_of, View}
use Rattle.rules.specs.Types.{name_or_none, resolve_label, resolve}
use Rattle.rules.specs.Verdict.{alias, is_alias, alias_pair}
use Rattle.rules.specs.Reached.{named_of, named_from, resolvable, IdSet, mark, mark_all, named_by, follow, up_from, round, rounds}
use Rattle.rules.proofs.Reached.{named_from_lem}

-- what stays of a declaration
pub record Keeps (g : Decl → Decl) : Type 0 where
  pub kind : (d : Decl) → (g d).kind ≡ d.kind
  pub name : (d : Decl) → (g d).name ≡ d.name
  pub named : (d : Decl) → named_of (g d) ≡ named_of d

-- what is left of a registry, and of a view
module _ (g : Decl → Decl) where
  abbrev pub registry_left : Registry → Registry
  registry_left R = map (option_map g) R

  abbrev pub view_left : View → View
  view_left v = record { namespace = v.namespace; standing = map g v.standing; registry = registry_left v.registry }

module _ {g : Decl → Decl} (k : Keeps g) where
  stands_forgotten : (R : Registry) (id : ℕ) → stands_for (registry_left g R) id ≡ option_map g (stands_for R id)
  unfolding stands_for
  stands_forgotten R id = get_or-map (option_map g) R id None

  -- ---- what is listed, and stands

  pub listed_forgotten : (R : Registry) (ids : List ℕ) → listed (registry_left g R) ids ≡ map g (listed R ids)
  unfolding listed resolved
  listed_forgotten R [] = refl
  listed_forgotten R (id ∷ ids) = rw (stands_forgotten R id, listed_forgotten R ids) (go (stands_for R id))
    where
      go : (o : Option Decl) → resolved (option_map g o) (map g (listed R ids)) ≡ map g (resolved o (listed R ids))
      go None = refl
      go (Some d) = refl

  pub standing_forgotten : (R : Registry) (ids : List ℕ)
      → survivors name_of before (listed (registry_left g R) ids) ≡ map g (survivors name_of before (listed R ids))
  standing_forgotten R ids = ap (survivors name_of before) (listed_forgotten R ids) ∙ survivors_map name_of before g k.name (listed R ids)

  -- ---- types

  name_forgotten : (o : Option Decl) → name_or_none (option_map g o) ≡ name_or_none o
  unfolding name_or_none
  name_forgotten None = refl
  name_forgotten (Some d) = rw (k.name d)

  label_forgotten : (R : Registry) (l : Label) → resolve_label (registry_left g R) l ≡ resolve_label R l
  unfolding resolve_label
  label_forgotten R l = rw (stands_forgotten R l.first, name_forgotten (stands_for R l.first))

  pub resolve_forgotten : (R : Registry) (t : Ty) → resolve (registry_left g R) t ≡ resolve R t
  unfolding resolve
  resolve_forgotten R (leaf l) = rw (label_forgotten R l)
  resolve_forgotten R (one l t) = rw (label_forgotten R l, resolve_forgotten R t)
  resolve_forgotten R (two l t u) = rw (label_forgotten R l, resolve_forgotten R t, resolve_forgotten R u)

  -- ---- refusal 11

  is_alias_forgotten : (o : Option Decl) → is_alias (option_map g o) ≡ is_alias o
  unfolding is_alias alias
  is_alias_forgotten None = refl
  is_alias_forgotten (Some d) = rw (k.kind d)

  pub alias_forgotten : (v w : View) → alias_pair (view_left g v) (view_left g w) ≡ alias_pair v w
  unfolding alias_pair alias
  alias_forgotten v w = any_map _ g v.standing ∙ any_same _ _ same v.standing
    where
      same : (d : Decl) → alias (g d) && is_alias (lookup name_of before (g d).name (map g w.standing))
          ≡ alias d && is_alias (lookup name_of before d.name w.standing)
      same d =
          rw (k.kind d, k.name d, lookup_map name_of before g k.name d.name w.standing, is_alias_forgotten (lookup name_of before d.name w.standing))

  -- ---- what is reached

  named_forgotten : (m : List Decl) → flat_map named_of (map g m) ≡ flat_map named_of m
  unfolding flat_map
  named_forgotten [] = refl
  named_forgotten (d ∷ m) = rw (k.named d, named_forgotten m)

  pub named_from_forgotten : (v : View) → named_from (view_left g v) ≡ named_from v
  named_from_forgotten v = named_from_lem (view_left g v) ∙ named_forgotten v.standing ∙ sym (named_from_lem v)

  named_by_forgotten : (o : Option Decl) → named_by (option_map g o) ≡ named_by o
  unfolding named_by
  named_by_forgotten None = refl
  named_by_forgotten (Some d) = k.named d

  is_some_forgotten : (o : Option Decl) → is_some (option_map g o) ≡ is_some o
  is_some_forgotten None = refl
  is_some_forgotten (Some d) = refl

  module _ (R : Registry) where
    mark_forgotten : (m : IdSet) (id : ℕ) → mark (registry_left g R) m id ≡ mark R m id
    unfolding mark resolvable
    mark_forgotten m id = rw (stands_forgotten R id, is_some_forgotten (stands_for R id))

    pub marks_forgotten : (m : IdSet) (ids : List ℕ) → mark_all (registry_left g R) m ids ≡ mark_all R m ids
    unfolding mark_all
    marks_forgotten m ids = pass_same (mark (registry_left g R)) (mark R) mark_forgotten m ids

    follow_forgotten : (m : IdSet) (id : ℕ) → follow (registry_left g R) m id ≡ follow R m id
    unfolding follow
    follow_forgotten m id =
        rw (stands_forgotten R id, named_by_forgotten (stands_for R id), marks_forgotten m (named_by (stands_for R id)))

    round_forgotten : (m : IdSet) → round (registry_left g R) m ≡ round R m
    unfolding round
    round_forgotten m =
        rw (length-map R (option_map g)) (pass_same (follow (registry_left g R)) (follow R) follow_forgotten m (up_from 0 (length R)))

    pub rounds_forgotten : (n : ℕ) (m : IdSet) → rounds (registry_left g R) n m ≡ rounds R n m
    unfolding rounds
    rounds_forgotten zero m = refl
    rounds_forgotten (suc n) m = rw (round_forgotten m) (rounds_forgotten n (round R m))
