-- A name that one side alone has, as survivor or reached, is told once as removed or added, and no other name is. Assumes nothing.
use mathlib.Core.Path.{◌≡◌, refl, sym, ap, ap₂, ◌∙◌}
use mathlib.Core.Bool.{Bool, true, false, cond}
use Rattle.std.specs.Prelude.{Option, None, Some}
use Rattle.std.proofs.lemmas.Option.{none-some}
use mathlib.Core.List.{List, [], ◌∷◌, ◌++◌}
use Prim.Native.Nat.{ℕ, ◌+◌}
use native.Mathlib.Omega.{arith}
use lib.Dec.{eqb, ltb}
use borrow.Author.Tests.{ltb-true, ltb-false}
use Rattle.maps.specs.Lists.{total, count, All, any, among}
use Rattle.maps.specs.Orders.{same, before}
use Rattle.maps.specs.Keyed.{lookup}
use Rattle.maps.specs.Compare.{Rules, unmatched, matched, between, compare}
use Rattle.maps.specs.Walk.{Rising}
use Rattle.maps.proofs.Lists.{all, total_same, total_flat_map, count_append}
use Rattle.maps.proofs.Names.{by_name}
use Rattle.maps.proofs.Orders.{same_eq, before_other}
use Rattle.maps.proofs.Survivors.{After}
use Rattle.image.specs.Schema.{Name, Decl, Schema}
use Rattle.rules.specs.Equal.{same_name}
use Rattle.rules.specs.Survivors.{stands_for, name_of, View}
use Rattle.rules.specs.Changes.{Change, kind_at, NamespaceChanged, DeclarationAdded, DeclarationRemoved}
use Rattle.rules.specs.Clauses.{compare_namespaces, Context, context, compare_decls, decl_rules, changes}
use Rattle.rules.specs.Types.{same_type}
use Rattle.rules.specs.Answer.{plain_reading}
use Rattle.rules.specs.Imports.{imports_view, Stands, survivor, imported, absent}
use Rattle.rules.specs.OneSide.{tells, alone, OneSided, OneSide}
use Rattle.rules.proofs.Equal.{names}
use Rattle.rules.proofs.Unreported.{inner_kinds, all_flat_map, only_all, Other, nothing_other, clauses_ordinary, decls_other}
use Rattle.rules.proofs.Imports.{imports_rise, name_test, imported_holds}

-- ---- what stands under a name is one

once : (s : Schema) (name : Name) (o p : Option Decl) → Stands s name o → Stands s name p → o ≡ p
once s name o p (survivor e) (survivor f) = sym e ∙ f
once s name o p (survivor {d = d} e) (imported f r g n c) = absurd (none-some d (sym f ∙ e))
once s name o p (survivor {d = d} e) (absent f c) = absurd (none-some d (sym f ∙ e))
once s name o p (imported e r g n c) (survivor {d = d} f) = absurd (none-some d (sym e ∙ f))
once s name o p (imported {id = i} {d = d} e r g n c) (imported {id = j} {d = f} e' r' g' n' c') = go (ltb i j) (ltb j i) refl refl
  where
    go : (a b : Bool) → ltb i j ≡ a → ltb j i ≡ b → Some d ≡ Some f
    go true b p q = absurd (c j f (ltb-true i j p) r' g' n')
    go false true p q = absurd (c' i d (ltb-true j i q) r g n)
    go false false p q =
        let h : i ≡ j = omega (arith, ltb-false i j p, ltb-false j i q) in
        sym g ∙ ap (stands_for s.registry) h ∙ g'
once s name o p (imported {id = i} {d = d} e r g n c) (absent f k) = absurd (k i d tt r g n)
once s name o p (absent f k) (survivor {d = d} e) = absurd (none-some d (sym f ∙ e))
once s name o p (absent f k) (imported {id = i} {d = d} e r g n c) = absurd (k i d tt r g n)
once s name o p (absent f k) (absent e c) = refl

-- ---- a sum over a map of which one entry counts

-- v, if there is an entry
abbrev if_there : ℕ → Option Decl → ℕ
if_there v None = 0
if_there v (Some d) = v

module _ (name : Name) where
  abbrev own : ℕ → Decl → ℕ
  own v d = cond (same_name name d.name) v 0

  total_after : (v : ℕ) (m : List Decl) → After name_of before name m → total (own v) m ≡ 0
  unfolding total All
  total_after v [] h = refl
  total_after v (d ∷ m) h = rw (name_test name d.name, before_other by_name name d.name h.0) (omega (arith, total_after v m h.1))

  total_own : (v : ℕ) (m : List Decl) → Rising name_of before m → total (own v) m ≡ if_there v (lookup name_of before name m)
  unfolding total lookup Rising
  total_own v [] h = refl
  total_own v (d ∷ m) h = rw (name_test name d.name) (go (same before name d.name) refl (total_own v m h.1))
    where
      go : (a : Bool) → same before name d.name ≡ a → total (own v) m ≡ if_there v (lookup name_of before name m)
          → cond a v 0 + total (own v) m ≡ if_there v (cond a (Some d) (lookup name_of before name m))
      go true p ih = omega (arith, total_after v m (rw (same_eq by_name name d.name p) h.0))
      go false p ih = omega (arith, ih)

-- ---- what is told of one side

-- how often a name is told so
abbrev times : ℕ → Name → List Change → ℕ
times kind name cs = count (tells kind name) cs

-- never by changes of other kinds
untold : (kind : ℕ) (name : Name) (cs : List Change) → All (Other kind) cs → times kind name cs ≡ 0
unfolding count total tells All
untold kind name [] h = refl
untold kind name (c ∷ cs) h = rw h.0 (omega (arith, untold kind name cs h.1))

-- 1 where there is none
abbrev if_none : Option Decl → ℕ
if_none None = 1
if_none (Some d) = 0

-- what is told of a declaration that the other side lacks, if that is told under its own name alone
module _ (kind : ℕ) (name : Name) (c : Decl → List Change) (one : (d : Decl) → times kind name (c d) ≡ own name 1 d) where
  lone : (d : Decl) (n : List Decl) → times kind name (unmatched c (Some d) (lookup name_of before d.name n)) ≡ own name (if_none (lookup name_of before name n)) d
  unfolding unmatched count total
  lone d n =
      go (lookup name_of before d.name n) (lookup name_of before name n) (same_name name d.name) refl
      (λ p. ap (λ k. lookup name_of before k n) (sym (names.equal name d.name p)))
    where
      go : (o u : Option Decl) (a : Bool) → same_name name d.name ≡ a → (a ≡ true → o ≡ u) → times kind name (unmatched c (Some d) o) ≡ cond a (if_none u) 0
      go None u true p h = one d ∙ rw (p, ← h refl) refl
      go None u false p h = one d ∙ rw p refl
      go (Some e) u true p h = rw (← h refl) refl
      go (Some e) u false p h = refl

  lone_times : (m n : List Decl) → Rising name_of before m
      → times kind name (between name_of before (unmatched c) m n) ≡ alone (lookup name_of before name m) (lookup name_of before name n)
  unfolding between count
  lone_times m n h =
      total_flat_map (λ d. unmatched c (Some d) (lookup name_of before d.name n)) (λ x. cond (tells kind name x) 1 0) m
      ∙ total_same _ _ m (all (λ d. lone d n) m)
      ∙ total_own name (if_none (lookup name_of before name n)) m h
      ∙ there (lookup name_of before name m) (lookup name_of before name n)
    where
      there : (o u : Option Decl) → if_there (if_none u) o ≡ alone o u
      there None u = refl
      there (Some d) None = refl
      there (Some d) (Some e) = refl

-- ---- all that is reported of two views that rise by name

module _ (x y : View) (rises : Rising name_of before x.standing) (rises' : Rising name_of before y.standing) (name : Name) where
  abbrev ours : Context
  ours = context plain_reading x.registry y.registry

  abbrev rules : Rules Decl Change
  rules = decl_rules ours

  -- a name that is gone is told so, and one that came
  gone_one : (d : Decl) → times (kind_at DeclarationRemoved) name (rules.gone d) ≡ own name 1 d
  unfolding decl_rules count total tells
  gone_one d = omega arith

  came_one : (d : Decl) → times (kind_at DeclarationAdded) name (rules.came d) ≡ own name 1 d
  unfolding decl_rules count total tells
  came_one d = omega arith

  -- and in no other part
  module _ (kind : ℕ) where
    part_other : (c : Decl → List Change) → ((d : Decl) → All (Other kind) (c d)) → (m n : List Decl)
        → times kind name (between name_of before (unmatched c) m n) ≡ 0
    unfolding between unmatched All
    part_other c h m n = untold kind name _ (all_flat_map (Other kind) _ (λ d. go d (lookup name_of before d.name n)) m)
      where
        go : (d : Decl) (o : Option Decl) → All (Other kind) (unmatched c (Some d) o)
        go d None = h d
        go d (Some e) = tt

    kept_other : among kind inner_kinds ≡ false → times kind name (between name_of before (matched rules.kept) x.standing y.standing) ≡ 0
    unfolding between matched decl_rules
    kept_other out = untold kind name _ (all_flat_map (Other kind) _ (λ d. go d (lookup name_of before d.name y.standing)) x.standing)
      where
        go : (d : Decl) (o : Option Decl) → All (Other kind) (matched (compare_decls ours) (Some d) o)
        go d None = nothing_other kind
        go d (Some e) = decls_other kind out ours (clauses_ordinary same_type kind) d e

    parts : times kind name (changes plain_reading x y)
        ≡ times kind name (compare_namespaces x.namespace y.namespace)
        + (times kind name (between name_of before (unmatched rules.gone) x.standing y.standing)
        + (times kind name (between name_of before (unmatched rules.came) y.standing x.standing)
        + times kind name (between name_of before (matched rules.kept) x.standing y.standing)))
    unfolding changes compare
    parts =
        let g = between name_of before (unmatched rules.gone) x.standing y.standing in
        let c = between name_of before (unmatched rules.came) y.standing x.standing in
        let k = between name_of before (matched rules.kept) x.standing y.standing in
        omega (
          arith,
          count_append (tells kind name) (compare_namespaces x.namespace y.namespace) (g ++ (c ++ k)),
          count_append (tells kind name) g (c ++ k),
          count_append (tells kind name) c k,
        )

    spaces_other : eqb (kind_at NamespaceChanged) kind ≡ false → times kind name (compare_namespaces x.namespace y.namespace) ≡ 0
    unfolding compare_namespaces
    spaces_other e = untold kind name _ (only_all (Other kind) _ _ e)

  removed_times : times (kind_at DeclarationRemoved) name (changes plain_reading x y)
      ≡ alone (lookup name_of before name x.standing) (lookup name_of before name y.standing)
  unfolding among any decl_rules All
  removed_times =
      omega (
        arith,
        parts (kind_at DeclarationRemoved),
        spaces_other (kind_at DeclarationRemoved) refl,
        lone_times (kind_at DeclarationRemoved) name rules.gone gone_one x.standing y.standing rises,
        part_other (kind_at DeclarationRemoved) rules.came (λ d. (refl, tt)) y.standing x.standing,
        kept_other (kind_at DeclarationRemoved) refl,
      )

  added_times : times (kind_at DeclarationAdded) name (changes plain_reading x y)
      ≡ alone (lookup name_of before name y.standing) (lookup name_of before name x.standing)
  unfolding among any decl_rules All
  added_times =
      omega (
        arith,
        parts (kind_at DeclarationAdded),
        spaces_other (kind_at DeclarationAdded) refl,
        part_other (kind_at DeclarationAdded) rules.gone (λ d. (refl, tt)) x.standing y.standing,
        lone_times (kind_at DeclarationAdded) name rules.came came_one y.standing x.standing rises',
        kept_other (kind_at DeclarationAdded) refl,
      )

-- ---- with imports

-- what stands is what is found
found : (s : Schema) (name : Name) (o : Option Decl) → Stands s name o → lookup name_of before name (imports_view s).standing ≡ o
found s name o t = once s name (lookup name_of before name (imports_view s).standing) o (imported_holds.stands s name) t

told : (old new : Schema) (name : Name) (was is : Option Decl) → Stands old name was → Stands new name is → OneSided old new name was is
told old new name was is t u = record {
  removed =
      removed_times (imports_view old) (imports_view new) (imports_rise old) (imports_rise new) name
      ∙ ap₂ alone (found old name was t) (found new name is u);
  added =
      added_times (imports_view old) (imports_view new) (imports_rise old) (imports_rise new) name
      ∙ ap₂ alone (found new name is u) (found old name was t);
}

pub one_side : OneSide
one_side = record { once = once; told = told }
