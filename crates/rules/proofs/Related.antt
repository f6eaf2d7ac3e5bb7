-- Two readings of the same two views: where what they report of types, and besides the clauses, goes together, all that they report does. What
-- goes together is any relation that a list has to itself, and that lists put together have if their parts do. Assumes nothing.
use mathlib.Core.Path.{◌≡◌, refl}
use mathlib.Core.Bool.{Bool, true, false, cond, not}
use Rattle.std.specs.Prelude.{Option, None, Some}
use mathlib.Core.List.{List, [], ◌∷◌, ◌++◌, flat_map}
use Prim.Native.Nat.{ℕ}
use lib.Dec.{eqb, ltb}
use Rattle.maps.specs.Orders.{before}
use Rattle.maps.specs.Keyed.{lookup}
use Rattle.maps.specs.Compare.{Rules, unmatched, matched, between, compare}
use Rattle.image.specs.Schema.{Name, Ty, Field, Variant, Decl}
use Rattle.image.specs.Kinds.{Kind, kind_of, message, enum, flags, union, newtype, config, alias, trait, impl, other}
use Rattle.rules.specs.Survivors.{Registry, name_of, ordinal_of, field_map, variant_ordinal, variant_map, View}
use Rattle.rules.specs.Types.{resolve}
use Rattle.rules.specs.Changes.{Change, only, kind_at, FieldTypeChanged}
use Rattle.rules.specs.Clauses.{Reading, Context, context, compare_types, compare_fields, field_rules, compare_field_sets, compare_messages, variant_decl, union_rules, compare_unions, compare_newtypes, compare_kind, kind_changed, compare_alike, compare_decls, decl_rules, changes}

pub record Joins (R : List Change → List Change → Type 0) : Type 0 where
  pub same : (cs : List Change) → R cs cs
  pub both : (a b c d : List Change) → R a b → R c d → R (a ++ c) (b ++ d)

-- what two readings report of types, and besides the clauses
pub record Together (R : List Change → List Change → Type 0) (r s : Reading) : Type 0 where
  pub types : (t u : Ty) (c : Change) → c.kind ≡ kind_at FieldTypeChanged → R (only (not (r.same t u)) c) (only (not (s.same t u)) c)
  pub first : (x y : Decl) → R (r.first x y) (s.first x y)
  pub last : (x y : Decl) → R (r.last x y) (s.last x y)
  pub last_in : (d : Name) (v w : Variant) → R (r.last_in d v w) (s.last_in d v w)

module _ (R : List Change → List Change → Type 0) (joins : Joins R) where
  maps_together : {A : Type 0} (f g : A → List Change) → ((a : A) → R (f a) (g a)) → (l : List A) → R (flat_map f l) (flat_map g l)
  unfolding flat_map
  maps_together f g h [] = joins.same []
  maps_together f g h (a ∷ l) = joins.both (f a) (g a) (flat_map f l) (flat_map g l) (h a) (maps_together f g h l)

  module _ {K E : Type 0} (key : E → K) (lt : K → K → Bool) (r s : Rules E Change) (gone : r.gone ≡ s.gone) (came : r.came ≡ s.came)
      (kept : (e f : E) → R (r.kept e f) (s.kept e f)) where
    matched_together : (e : E) (o : Option E) → R (matched r.kept (Some e) o) (matched s.kept (Some e) o)
    unfolding matched
    matched_together e None = joins.same []
    matched_together e (Some f) = kept e f

    compare_together : (m n : List E) → R (compare key lt r m n) (compare key lt s m n)
    unfolding compare between
    compare_together m n =
        rw (gone, came)
        (joins.both _ _ _ _ (joins.same (between key lt (unmatched s.gone) m n))
        (joins.both _ _ _ _ (joins.same (between key lt (unmatched s.came) n m))
        (maps_together _ _ (λ e. matched_together e (lookup key lt (key e) n)) m)))

  module _ (r s : Reading) (h : Together R r s) where
    module _ (A B : Registry) where
      abbrev this : Context
      this = context r A B

      abbrev that : Context
      that = context s A B

      types_together : (d : Name) (field : Option Name) (what : List ℕ) (t u : Ty) → R (compare_types this d field what t u) (compare_types that d field what t u)
      unfolding compare_types
      types_together d field what t u = h.types (resolve A t) (resolve B u) _ refl

      fields_together : (d : Name) (f g : Field) → R (compare_fields this d f g) (compare_fields that d f g)
      unfolding compare_fields
      fields_together d f g =
          joins.both _ _ _ _ (joins.same _) (joins.both _ _ _ _ (types_together d _ _ f.type g.type) (joins.same _))

      sets_together : (d : Name) (m n : List Field) → R (compare_field_sets this d m n) (compare_field_sets that d m n)
      unfolding compare_field_sets field_rules
      sets_together d m n =
          compare_together ordinal_of ltb (field_rules this d) (field_rules that d) refl refl (fields_together d) (field_map m) (field_map n)

      unions_together : (d : Name) (x y : Decl) → R (compare_unions this d x y) (compare_unions that d x y)
      unfolding compare_unions union_rules
      unions_together d x y =
          compare_together variant_ordinal ltb (union_rules this d) (union_rules that d) refl refl
          (λ v w. joins.both _ _ _ _ (sets_together (variant_decl d v) v.fields w.fields) (h.last_in (variant_decl d v) v w))
          (variant_map x.variants) (variant_map y.variants)

      kinds_together : (k : Kind) (x y : Decl) → R (compare_kind k this x y) (compare_kind k that x y)
      unfolding compare_kind compare_messages compare_newtypes
      kinds_together message x y = joins.both _ _ _ _ (sets_together x.name x.fields y.fields) (joins.same _)
      kinds_together enum x y = joins.same _
      kinds_together flags x y = joins.same _
      kinds_together union x y = unions_together x.name x y
      kinds_together newtype x y = types_together x.name None _ x.inner y.inner
      kinds_together config x y = joins.same _
      kinds_together alias x y = joins.same _
      kinds_together trait x y = joins.same _
      kinds_together impl x y = joins.same _
      kinds_together other x y = joins.same _

      decls_together : (x y : Decl) → R (compare_decls this x y) (compare_decls that x y)
      unfolding compare_decls compare_alike
      decls_together x y = go (eqb x.kind y.kind)
        where
          go : (b : Bool) → R (cond b (compare_alike this x y) (kind_changed x y)) (cond b (compare_alike that x y) (kind_changed x y))
          go true = joins.both _ _ _ _ (h.first x y) (joins.both _ _ _ _ (kinds_together (kind_of x.kind) x y) (h.last x y))
          go false = joins.same _

    pub changes_together : (x y : View) → R (changes r x y) (changes s x y)
    unfolding changes decl_rules
    changes_together x y =
        joins.both _ _ _ _ (joins.same _)
        (compare_together name_of before (decl_rules (context r x.registry y.registry)) (decl_rules (context s x.registry y.registry))
        refl refl (decls_together x.registry y.registry) x.standing y.standing)
