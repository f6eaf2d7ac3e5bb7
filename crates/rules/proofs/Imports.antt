-- R-2, the verdict with imports: what stands, each name once; where nothing is imported it is the verdict of document 01; and its refusals,
-- bound and distance rule, by the laws over any view. Assumes nothing.
use mathlib.Core.Path.{◌≡◌, refl, sym, ap, ◌∙◌, subst}
use mathlib.Core.Bool.{Bool, true, false, cond}
use mathlib.Core.Logic.{⊎_elim}
use Rattle.std.specs.Prelude.{Option, None, Some}
use Rattle.std.specs.Option.{option_or}
use Rattle.std.proofs.lemmas.Option.{none-some}
use mathlib.Core.List.Memᴰ
use mathlib.Core.List.{List, [], ◌∷◌}
use Prim.Native.Nat.{ℕ, ◌+◌}
use native.Mathlib.Omega.{arith}
use Rattle.maps.specs.Lists.{total, count, All, among}
use Rattle.maps.specs.Keyed.{lookup}
use Rattle.maps.specs.Orders.{same, before}
use Rattle.maps.specs.Walk.{Rising}
use Rattle.maps.proofs.Alike.{lookup_found, same_found}
use Rattle.maps.proofs.Names.{by_name}
use Rattle.maps.proofs.Orders.{same_eq, same_ne, before_other}
use Rattle.maps.proofs.Reorderings.{In}
use Rattle.maps.proofs.Survivors.{After}
use Rattle.maps.proofs.Tests.{no_both}
use Rattle.maps.proofs.Any.{among_cons, among_none}
use Rattle.image.specs.Schema.{Name, Decl, Schema}
use Rattle.image.specs.Parse.{Parsed, ok, no}
use Rattle.image.specs.Image.{read_image}
use Rattle.rules.specs.Equal.{same_name}
use Rattle.rules.specs.Survivors.{Registry, stands_for, resolved, listed, name_of, declarations, view_of}
use Rattle.rules.specs.Types.{same_type}
use Rattle.rules.specs.Answer.{plain_reading, plain, first_fault, alias_check, compare_pair, accept_new, accept_old, outcome, verdict_by, checked}
use Rattle.rules.specs.Refusals.{Numbered, VerdictRefusals}
use Rattle.rules.specs.Distance.{holds_vectors, DistanceRule}
use Rattle.rules.specs.Reached.{Reached, reached_set}
use Rattle.rules.specs.Imports.{marked_ids, view_with, imports_view, imports, Stands, survivor, imported, absent, OnlyListed, Imported}
use Rattle.rules.proofs.Equal.{names}
use Rattle.rules.proofs.Types.{types}
use Rattle.rules.proofs.Readings.{clauses_lawful}
use Rattle.rules.proofs.Answer.{usual_numbered}
use Rattle.rules.proofs.Weights.{clauses_light}
use Rattle.rules.proofs.Bound.{Bounded, usual_bounded, with_sized}
use Rattle.rules.proofs.Refusals.{verdict_refusals}
use Rattle.rules.proofs.Distance.{vector_distance_rule}
use Rattle.rules.proofs.Reached.{reached_is}
use Rattle.rules.proofs.Standing.{with_rises, view_rises, set_entries, lookup_with, ids_has, ids_rise, Highest, highest, nowhere, highest_found}

-- ---- what stands under each name

module _ (s : Schema) where
  -- the ids of the set are those that are reached
  ids_reached : (id : ℕ) → among id (marked_ids 0 (reached_set s)) ≡ true → Reached s id
  ids_reached id e = ((reached_is s).exactly id).0 (sym (ids_has id (reached_set s)) ∙ e)

  reached_ids : (id : ℕ) → Reached s id → among id (marked_ids 0 (reached_set s)) ≡ true
  reached_ids id r = ids_has id (reached_set s) ∙ ((reached_is s).exactly id).1 r

  -- by what survives, and by the highest of the set
  stands_by : (name : Name) (o : Option Decl) → lookup name_of before name (declarations s) ≡ o
      → (r : Option Decl) → Highest s.registry name (marked_ids 0 (reached_set s)) r → Stands s name (option_or o r)
  stands_by name (Some d) e r t = survivor e
  stands_by name None e r (highest {id = id} i g n c) = imported e (ids_reached id i) g n (λ j f l w. c j f l (reached_ids j w))
  stands_by name None e r (nowhere c) = absent e (λ j f l w. c j f l (reached_ids j w))

  stands : (name : Name) → Stands s name (lookup name_of before name (imports_view s).standing)
  unfolding imports_view view_with set_entries
  stands name =
      subst (Stands s name) (sym (lookup_with (reached_set s) s name))
      (stands_by name (lookup name_of before name (declarations s)) refl _ (highest_found s.registry name (marked_ids 0 (reached_set s)) (ids_rise 0 (reached_set s))))

-- by rising name
pub imports_rise : (s : Schema) → Rising name_of before (imports_view s).standing
unfolding imports_view
imports_rise s = with_rises (reached_set s) s

-- ---- each name once

pub name_test : (a b : Name) → same_name a b ≡ same before a b
name_test a b = go (same_name a b) (same before a b) refl refl
  where
    go : (u v : Bool) → same_name a b ≡ u → same before a b ≡ v → u ≡ v
    go true true p q = refl
    go true false p q = absurd (same_ne by_name a b q (names.equal a b p))
    go false true p q = no_both (subst (λ c. same_name a c ≡ true) (same_eq by_name a b q) (names.self a)) p
    go false false p q = refl

module _ (name : Name) where
  abbrev counted : List Decl → ℕ
  counted m = count (λ e. same_name name e.name) m

  count_after : (m : List Decl) → After name_of before name m → counted m ≡ 0
  unfolding count total All
  count_after [] h = refl
  count_after (f ∷ m) h = rw (name_test name f.name, before_other by_name name f.name h.0) (omega (arith, count_after m h.1))

  count_found : (m : List Decl) (d : Decl) → Rising name_of before m → lookup name_of before name m ≡ Some d → counted m ≡ 1
  unfolding count total lookup Rising
  count_found [] d h e = absurd (none-some d e)
  count_found (f ∷ m) d h e = rw (name_test name f.name) (go (same before name f.name) refl e (count_found m d h.1))
    where
      go : (u : Bool) → same before name f.name ≡ u → cond u (Some f) (lookup name_of before name m) ≡ Some d
          → (lookup name_of before name m ≡ Some d → counted m ≡ 1) → cond u 1 0 + counted m ≡ 1
      go true p q ih = omega (arith, count_after m (subst (λ k. After name_of before k m) (sym (same_eq by_name name f.name p)) h.0))
      go false p q ih = omega (arith, ih q)

once : (s : Schema) (id : ℕ) (d : Decl) → Reached s id → stands_for s.registry id ≡ Some d
    → count (λ e. same_name d.name e.name) (imports_view s).standing ≡ 1
once s id d r g = go (lookup name_of before d.name (imports_view s).standing) refl (stands s d.name)
  where
    go : (o : Option Decl) → lookup name_of before d.name (imports_view s).standing ≡ o → Stands s d.name o
        → count (λ e. same_name d.name e.name) (imports_view s).standing ≡ 1
    go (Some e) p t = count_found d.name (imports_view s).standing e (imports_rise s) p
    go None p (absent e n) = absurd (n id d tt r g refl)

-- ---- where nothing that is not listed is reached

listed_in : (R : Registry) (ids : List ℕ) (id : ℕ) (d : Decl) → among id ids ≡ true → stands_for R id ≡ Some d → In d (listed R ids)
unfolding listed resolved
listed_in R [] id d i g = among_none id i
listed_in R (a ∷ ids) id d i g =
    ⊎_elim (λ q. rw (subst (λ x. stands_for R x ≡ Some d) q g) (Memᴰ.head refl)) (λ q. go (stands_for R a) (listed_in R ids id d q g)) (among_cons id a ids i)
  where
    go : (o : Option Decl) → In d (listed R ids) → In d (resolved o (listed R ids))
    go None j = j
    go (Some e) j = Memᴰ.tail j

module _ (s : Schema) (only : OnlyListed s) where
  found_alike : (name : Name) → lookup name_of before name (imports_view s).standing ≡ lookup name_of before name (declarations s)
  unfolding declarations
  found_alike name = go (lookup name_of before name (imports_view s).standing) (stands s name)
    where
      go : (o : Option Decl) → Stands s name o → o ≡ lookup name_of before name (declarations s)
      go o (survivor e) = sym e
      go o (imported {id = id} {d = d} e r g n c) =
          absurd (lookup_found name_of by_name (listed s.registry s.ids) d (listed_in s.registry s.ids id d (only id r) g) (rw n e))
      go o (absent e c) = sym e

  same_view : imports_view s ≡ view_of s
  unfolding imports_view view_with view_of
  same_view = ap (λ l. record { namespace = s.namespace; standing = l; registry = s.registry })
      (same_found name_of by_name _ _ (imports_rise s) (view_rises s) found_alike)

plain_there : (old new : List ℕ) → ((x : Schema) (n : ℕ) → read_image old ≡ ok x n → OnlyListed x)
    → ((y : Schema) (n : ℕ) → read_image new ≡ ok y n → OnlyListed y) → outcome imports old new ≡ checked old new
unfolding outcome accept_old accept_new compare_pair first_fault alias_check
plain_there old new h k = go (read_image old) (read_image new) refl refl
  where
    go : (r q : Parsed Schema) → read_image old ≡ r → read_image new ≡ q → accept_old imports r q ≡ accept_old plain r q
    go (ok x m) (ok y n) e f = rw (same_view x (h x m e), same_view y (k y n f))
    go (ok x m) (no j) e f = refl
    go (no j) q e f = refl

pub imported_holds : Imported
imported_holds = record { stands = stands; once = once; plain = plain_there }

-- ---- refusals, bound and distance rule

pub imports_numbered : Numbered imports
imports_numbered = usual_numbered imports_view plain_reading

-- at most 512 reached entries and 512 listed ones, of 32,768 bytes each
pub imports_bounded : Bounded imports
unfolding imports_view
imports_bounded =
    usual_bounded imports_view plain_reading (λ x h. with_sized (reached_set x) (omega (arith, (reached_is x).length, h.registry)) x h) (clauses_light same_type)

pub imports_refusals : (old new : List ℕ) → VerdictRefusals imports_view plain_reading old new
imports_refusals = verdict_refusals imports_view imports_rise plain_reading

pub imports_distance_rule : DistanceRule (verdict_by imports) (holds_vectors imports_view)
imports_distance_rule = vector_distance_rule imports imports_numbered imports_rise (clauses_lawful types)
