-- Two readings that report the clauses alone and agree on the types that are compared report the same. Assumes nothing.
use mathlib.Core.Path.{◌≡◌, refl, sym, ap, ◌∙◌, subst}
use mathlib.Core.Bool.{Bool, true, false}
use mathlib.Core.List.Memᴰ
use mathlib.Core.List.{List, [], ◌∷◌, ◌++◌, flat_map, Forall₂}
use lib.Dec.{eqb, ltb}
use borrow.Author.Tests.{eqb-true}
use Rattle.maps.specs.Lists.{All}
use Rattle.maps.specs.Compare.{Rules, compare}
use Rattle.maps.specs.Orders.{before}
use Rattle.maps.proofs.Alike.{compare_alike_lem}
use Rattle.maps.proofs.Reorderings.{In, all_listed}
use Rattle.image.specs.Schema.{Name, Ty, Field, Decl}
use Rattle.image.specs.Kinds.{Kind, kind_of, message, enum, flags, union, newtype, config, alias, trait, impl, other}
use Rattle.rules.specs.Survivors.{Registry, name_of, ordinal_of, field_map, variant_ordinal, variant_map, View}
use Rattle.rules.specs.Types.{resolve}
use Rattle.rules.specs.Clauses.{clauses_by, Context, context, compare_types, compare_fields, field_rules, compare_field_sets, compare_messages, union_rules, compare_unions, compare_newtypes, compare_kind, compare_alike, compare_decls, decl_rules, changes, field_types, variant_types, types_of, compared_types}

-- ---- what is listed

in_flat_map : {A B : Type 0} (f : A → List B) {a : A} {b : B} {l : List A} → In a l → In b (f a) → In b (flat_map f l)
unfolding flat_map
in_flat_map {A = A} {B = B} f {a = a} {b = b} {l = []} x5 m = elim x5 [ ]
in_flat_map f {b = b} {l = c ∷ l} (Memᴰ.head e) m = Memᴰ.append_left (flat_map f l) (subst (λ x. In b (f x)) e m)
in_flat_map f {l = c ∷ l} (Memᴰ.tail n) m = Memᴰ.append_right (f c) (in_flat_map f n m)

-- each with itself
each_self : {A : Type 0} {P : A → Type 0} (l : List A) → All P l → Forall₂ (λ a b. (a ≡ b) × P a) l l
unfolding All
each_self [] h = Forall₂.nil
each_self (a ∷ l) h = Forall₂.cons (refl, h.0) (each_self l h.1)

-- comparisons by rules that give the same of what is listed
compare_same : {K E C : Type 0} (key : E → K) (lt : K → K → Bool) (r s : Rules E C) → ((e : E) → r.gone e ≡ s.gone e)
    → ((e : E) → r.came e ≡ s.came e) → (m n : List E) → ((e f : E) → In e m → In f n → r.kept e f ≡ s.kept e f)
    → compare key lt r m n ≡ compare key lt s m n
compare_same {E = E} key lt r s gone came m n kept =
    compare_alike_lem key lt {P = λ e f. (e ≡ f) × In e m} {Q = λ e f. (e ≡ f) × In e n} (λ e f p. ap key p.0) (λ e f p. ap key p.0) r s
    (λ e f p. gone e ∙ ap s.gone p.0) (λ e f p. came e ∙ ap s.came p.0)
    (λ d e f g p q. kept d f p.1 q.1 ∙ ap (λ x. s.kept x f) p.0 ∙ ap (s.kept e) q.0)
    (each_self m (all_listed m)) (each_self n (all_listed n))

-- ---- the clauses

module _ (same same' : Ty → Ty → Bool) (R S : Registry) where
  -- of every two types that are listed
  AgreeOn : List Ty → List Ty → Type 0
  AgreeOn ts us = (t u : Ty) → In t ts → In u us → same (resolve R t) (resolve S u) ≡ same' (resolve R t) (resolve S u)

  abbrev this : Context
  this = context (clauses_by same) R S

  abbrev that : Context
  that = context (clauses_by same') R S

  fields_agree : (d : Name) (f g : Field) → same (resolve R f.type) (resolve S g.type) ≡ same' (resolve R f.type) (resolve S g.type)
      → compare_fields this d f g ≡ compare_fields that d f g
  unfolding compare_fields compare_types
  fields_agree d f g e = rw e

  sets_agree : (d : Name) (l m : List Field) → AgreeOn (field_types l) (field_types m) → compare_field_sets this d l m ≡ compare_field_sets that d l m
  unfolding compare_field_sets field_rules field_types AgreeOn
  sets_agree d l m h =
      compare_same ordinal_of ltb (field_rules this d) (field_rules that d) (λ e. refl) (λ e. refl) (field_map l) (field_map m)
      (λ f g i j. fields_agree d f g (h f.type g.type (in_flat_map _ i (Memᴰ.head refl)) (in_flat_map _ j (Memᴰ.head refl))))

  unions_agree : (d : Name) (x y : Decl) → AgreeOn (variant_types x.variants) (variant_types y.variants) → compare_unions this d x y ≡ compare_unions that d x y
  unfolding compare_unions union_rules variant_types AgreeOn
  unions_agree d x y h =
      compare_same variant_ordinal ltb (union_rules this d) (union_rules that d) (λ e. refl) (λ e. refl) (variant_map x.variants) (variant_map y.variants)
      (λ v w i j. ap (λ cs. cs ++ []) (sets_agree _ v.fields w.fields (λ t u k l. h t u (in_flat_map _ i k) (in_flat_map _ j l))))

  kinds_agree : (k : Kind) (x y : Decl) → AgreeOn (types_of k x) (types_of k y) → compare_kind k this x y ≡ compare_kind k that x y
  unfolding compare_kind compare_messages compare_newtypes compare_types types_of AgreeOn
  kinds_agree message x y h = rw (sets_agree x.name x.fields y.fields h)
  kinds_agree enum x y h = refl
  kinds_agree flags x y h = refl
  kinds_agree union x y h = unions_agree x.name x y h
  kinds_agree newtype x y h = rw (h x.inner y.inner (Memᴰ.head refl) (Memᴰ.head refl))
  kinds_agree config x y h = refl
  kinds_agree alias x y h = refl
  kinds_agree trait x y h = refl
  kinds_agree impl x y h = refl
  kinds_agree other x y h = refl

  decls_agree : (x y : Decl) → AgreeOn (types_of (kind_of x.kind) x) (types_of (kind_of y.kind) y) → compare_decls this x y ≡ compare_decls that x y
  unfolding compare_decls compare_alike
  decls_agree x y h = go (eqb x.kind y.kind) refl
    where
      go : (b : Bool) → eqb x.kind y.kind ≡ b → compare_decls this x y ≡ compare_decls that x y
      go true p =
          let k = subst (λ z. AgreeOn (types_of (kind_of x.kind) x) (types_of (kind_of z) y)) (sym (eqb-true x.kind y.kind p)) h in
          rw (p, kinds_agree (kind_of x.kind) x y k)
      go false p = rw p

-- where they agree on the types compared in two views
pub changes_agree : (same same' : Ty → Ty → Bool) (x y : View)
    → ((t u : Ty) → In t (compared_types x) → In u (compared_types y)
    → same (resolve x.registry t) (resolve y.registry u) ≡ same' (resolve x.registry t) (resolve y.registry u))
    → changes (clauses_by same) x y ≡ changes (clauses_by same') x y
unfolding changes decl_rules compared_types AgreeOn
changes_agree same same' x y h =
    rw (compare_same name_of before (decl_rules (context (clauses_by same) x.registry y.registry)) (decl_rules (context (clauses_by same') x.registry y.registry))
    (λ e. refl) (λ e. refl) x.standing y.standing
    (λ d e i j. decls_agree same same' x.registry y.registry d e (λ t u k l. h t u (in_flat_map _ i k) (in_flat_map _ j l))))
