-- What stands with a set of ids: with no id what survives; by rising name; under each name what survives, and else the entry of the highest
-- id of the set. Assumes nothing.
use mathlib.Core.Path.{◌≡◌, refl, sym, ap, ◌∙◌, subst}
use mathlib.Core.Bool.{Bool, true, false, cond}
use mathlib.Core.Logic.{⊎_elim}
use Rattle.std.specs.Prelude.{Option, None, Some}
use Rattle.std.specs.Option.{option_or}
use Rattle.std.proofs.lemmas.Option.{none-some, same_Some}
use mathlib.Core.List.{List, [], ◌∷◌, ◌++◌}
use Prim.Native.Nat.{ℕ, zero, suc, ◌+◌, ◌<◌}
use native.Mathlib.Omega.{arith}
use borrow.Author.Tests.{eq-eqb, ne_eqb, lt-ltb, ltb-true}
use lib.Dec.{eqb, ltb}
use Rattle.maps.specs.Lists.{All, any, among}
use Rattle.maps.specs.Keyed.{lookup}
use Rattle.maps.specs.Orders.{same, before}
use Rattle.maps.specs.Walk.{Rising, seen, latest}
use Rattle.maps.proofs.Names.{by_name}
use Rattle.maps.proofs.Orders.{same_eq, same_ne}
use Rattle.maps.proofs.Searches.{latest_append, lookup_latest}
use Rattle.maps.proofs.Survivors.{rising}
use Rattle.maps.proofs.Reorderings.{all_in}
use Rattle.maps.proofs.Any.{among_found, among_cons, among_here, among_more, among_none}
use Rattle.image.specs.Schema.{Name, Decl, Schema}
use Rattle.rules.specs.Survivors.{Registry, stands_for, resolved, listed, name_of, declarations, view_of}
use Rattle.rules.specs.Reached.{IdSet, has}
use Rattle.rules.specs.Imports.{marked_ids, standing_with, view_with}

-- ---- with no id

pub standing_none : (s : Schema) → standing_with [] s ≡ declarations s
unfolding standing_with declarations marked_ids
standing_none s = refl

pub view_none : (s : Schema) → view_with [] s ≡ view_of s
unfolding view_with view_of
view_none s = rw (standing_none s)

-- ---- by rising name

pub standing_rises : (m : IdSet) (s : Schema) → Rising name_of before (standing_with m s)
unfolding standing_with
standing_rises m s = rising name_of by_name (listed s.registry (marked_ids 0 m ++ s.ids))

pub with_rises : (m : IdSet) (s : Schema) → Rising name_of before (view_with m s).standing
unfolding view_with
with_rises m s = standing_rises m s

pub view_rises : (s : Schema) → Rising name_of before (view_of s).standing
view_rises s = rw (← view_none s) (with_rises [] s)

-- ---- the set before what is listed

listed_append : (R : Registry) (xs ys : List ℕ) → listed R (xs ++ ys) ≡ listed R xs ++ listed R ys
unfolding listed resolved
listed_append R [] ys = refl
listed_append R (id ∷ xs) ys = go (stands_for R id) (listed_append R xs ys)
  where
    go : (o : Option Decl) → listed R (xs ++ ys) ≡ listed R xs ++ listed R ys
        → resolved o (listed R (xs ++ ys)) ≡ resolved o (listed R xs) ++ listed R ys
    go None e = e
    go (Some d) e = ap (λ (l : List Decl). d ∷ l) e

module _ (m : IdSet) (s : Schema) where
  -- the entries of the set, by rising id
  unfoldable pub set_entries : List Decl
  set_entries = listed s.registry (marked_ids 0 m)

  -- what is found is what survives, or else the last of the set
  pub lookup_with : (name : Name) → lookup name_of before name (standing_with m s)
      ≡ option_or (lookup name_of before name (declarations s)) (latest name_of before name set_entries)
  unfolding standing_with declarations set_entries
  lookup_with name =
      lookup_latest name_of by_name name (listed s.registry (marked_ids 0 m ++ s.ids))
      ∙ (ap (latest name_of before name) (listed_append s.registry (marked_ids 0 m) s.ids)
      ∙ (latest_append name_of before name set_entries (listed s.registry s.ids)
      ∙ ap (λ o. option_or o (latest name_of before name set_entries)) (sym (lookup_latest name_of by_name name (listed s.registry s.ids)))))

-- ---- the ids of a set rise, and are those that it has

abbrev pub Rises : List ℕ → Type 0
Rises ids = Rising (λ id. id) ltb ids

ids_after : (id from : ℕ) (m : IdSet) → id < from → All (λ j. ltb id j ≡ true) (marked_ids from m)
unfolding marked_ids All
ids_after id from [] l = tt
ids_after id from (true ∷ m) l = (lt-ltb id from l, ids_after id (suc from) m (omega arith))
ids_after id from (false ∷ m) l = ids_after id (suc from) m (omega arith)

pub ids_rise : (from : ℕ) (m : IdSet) → Rises (marked_ids from m)
unfolding marked_ids Rising
ids_rise from [] = tt
ids_rise from (true ∷ m) = (ids_after from (suc from) m (omega arith), ids_rise (suc from) m)
ids_rise from (false ∷ m) = ids_rise (suc from) m

-- an id before all of some ids is none of them
not_before : (id : ℕ) (ids : List ℕ) → All (λ j. ltb id j ≡ true) ids → among id ids ≡ false
not_before id ids h = go (among id ids) refl
  where
    go : (b : Bool) → among id ids ≡ b → b ≡ false
    go true e = absurd (omega (arith, ltb-true id id (all_in (λ j. ltb id j ≡ true) h (among_found id ids e))))
    go false e = refl

ids_from_lem : (k from : ℕ) (m : IdSet) → among (from + k) (marked_ids from m) ≡ has m k
unfolding marked_ids has among any
ids_from_lem k from [] = refl
ids_from_lem zero from (true ∷ m) = rw (eq-eqb (from + 0) from (omega arith))
ids_from_lem zero from (false ∷ m) = not_before (from + 0) (marked_ids (suc from) m) (ids_after (from + 0) (suc from) m (omega arith))
ids_from_lem (suc k) from (true ∷ m) =
    let n : from + suc k ≡ suc from + k = omega arith in
    let d = ne_eqb (from + suc k) from (λ e. omega arith) in
    simp d (subst (λ j. any (eqb j) (marked_ids (suc from) m) ≡ has m k) (sym n) (ids_from_lem k (suc from) m))
ids_from_lem (suc k) from (false ∷ m) = let n : from + suc k ≡ suc from + k = omega arith in rw n (ids_from_lem k (suc from) m)

pub ids_has : (id : ℕ) (m : IdSet) → among id (marked_ids 0 m) ≡ has m id
ids_has id m = subst (λ j. among j (marked_ids 0 m) ≡ has m id) (omega arith) (ids_from_lem id 0 m)

-- ---- of some rising ids, the entry of a name with the highest

module _ (R : Registry) (name : Name) where
  -- of the ids that have P none has an entry of the name
  abbrev Clear : List ℕ → (ℕ → Type 0) → Type 0
  Clear ids P = (j : ℕ) (e : Decl) → P j → among j ids ≡ true → stands_for R j ≡ Some e → e.name ≡ name → ⊥

  pub data Highest (ids : List ℕ) : Option Decl → Type 0 where
    highest : {id : ℕ} {d : Decl} → among id ids ≡ true → stands_for R id ≡ Some d → d.name ≡ name → Clear ids (λ j. id < j) → Highest ids (Some d)
    nowhere : Clear ids (λ j. Unit {0}) → Highest ids None

  -- one id more in front
  clear_more : (P : ℕ → Type 0) (id : ℕ) (ids : List ℕ) → Clear ids P → ((e : Decl) → P id → stands_for R id ≡ Some e → e.name ≡ name → ⊥)
      → Clear (id ∷ ids) P
  clear_more P id ids c h j e p i g n =
      ⊎_elim (λ q. h e (subst P q p) (subst (λ x. stands_for R x ≡ Some e) q g) n) (λ q. c j e p q g n) (among_cons j id ids i)

  abbrev found : List Decl → Option Decl
  found ds = latest name_of before name ds

  -- what is found is still found
  found_still : (d : Decl) (ds : List Decl) → found ds ≡ Some d → (o : Option Decl) → found (resolved o ds) ≡ Some d
  unfolding resolved latest
  found_still d ds e None = e
  found_still d ds e (Some f) = rw e

  -- nothing was found: the entry of the id in front, if it has the name
  found_first : (id : ℕ) (ids : List ℕ) (ds : List Decl) → found ds ≡ None → Clear ids (λ j. Unit {0}) → (o : Option Decl) → stands_for R id ≡ o
      → Highest (id ∷ ids) (found (resolved o ds))
  unfolding resolved latest seen
  found_first id ids ds e c None v = rw e (nowhere (clear_more _ id ids c (λ f p g n. none-some f (sym v ∙ g))))
  found_first id ids ds e c (Some f) v = rw e (go (same before name f.name) refl)
    where
      go : (b : Bool) → same before name f.name ≡ b → Highest (id ∷ ids) (cond b (Some f) None)
      go true q =
          highest (among_here id ids) v (sym (same_eq by_name name f.name q))
          (clear_more _ id ids (λ j g p. c j g tt) (λ g p. absurd (omega arith)))
      go false q =
          nowhere (clear_more _ id ids c (λ g p w n. same_ne by_name name f.name q (sym (ap name_of (same_Some f g (sym v ∙ w)) ∙ n))))

  pub highest_found : (ids : List ℕ) → Rises ids → Highest ids (found (listed R ids))
  unfolding listed latest Rising
  highest_found [] h = nowhere (λ j e p i. among_none j i)
  highest_found (id ∷ ids) h = go (found (listed R ids)) refl (highest_found ids h.1)
    where
      go : (r : Option Decl) → found (listed R ids) ≡ r → Highest ids r → Highest (id ∷ ids) (found (resolved (stands_for R id) (listed R ids)))
      go (Some d) e (highest {id = top} i g n c) =
          rw (found_still d (listed R ids) e (stands_for R id))
          (highest (among_more top id ids i) g n (clear_more _ id ids c
          (λ f p. absurd (omega (arith, ltb-true id top (all_in (λ j. ltb id j ≡ true) h.0 (among_found top ids i)))))))
      go None e (nowhere c) = found_first id ids (listed R ids) e c (stands_for R id) refl
