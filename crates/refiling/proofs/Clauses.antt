-- The clauses, of an old and of a new side that are each filed anew: declarations that are alike have the same changes. Assumes nothing.
use mathlib.Core.Path.{◌≡◌, refl, sym, ap, ◌∙◌}
use mathlib.Core.Bool.{Bool, true, false, cond}
use Rattle.std.specs.Prelude.{Option, None, Some}
use mathlib.Core.List.{List, [], ◌++◌, Forall₂}
use Prim.Native.Nat.{ℕ}
use lib.Dec.{eqb, ltb}
use borrow.Author.Tests.{eqb-true}
use Rattle.maps.specs.Orders.{before}
use Rattle.maps.specs.Compare.{Rules, compare}
use Rattle.maps.specs.Reordered.{Reordered, Once}
use Rattle.maps.proofs.Orders.{by_number}
use Rattle.maps.proofs.Reorderings.{reordered_all}
use Rattle.maps.proofs.Alike.{survivors_once, compare_alike_lem}
use Rattle.image.specs.Schema.{Name, Label, label, Ty, Field, Variant, Decl}
use Rattle.image.specs.Kinds.{Kind, kind_of, message, enum, flags, union, newtype, config, alias, trait, impl, other}
use Rattle.image.specs.Codes.{number, impl_kind}
use Rattle.rules.specs.Survivors.{Registry, stands_for, name_of, ordinal_of, field_map, variant_ordinal, variant_map}
use Rattle.rules.specs.Types.{name_or_none, resolve_label, resolve}
use Rattle.rules.specs.Changes.{Bump, Change}
use Rattle.rules.specs.Clauses.{clauses_by, Context, context, compare_types, field_text, compare_field_names, compare_encodings, compare_deprecated, compare_fields, field_rules, compare_field_sets, compare_messages, variant_text, variant_gone, variant_came, enum_rules, compare_enums, bit_text, flags_rules, compare_flags, variant_decl, union_rules, compare_unions, compare_newtypes, compare_kind, kind_changed, compare_alike, compare_decls, decl_text, decl_rules}
use Rattle.refiling.specs.Refiling.{Impls, NumbersOnce, Unresolvable, Resolvable, RefiledId, renumbered, unresolvable, RefiledLabel, named, other, RefiledType, a_leaf, a_one, a_two, RefiledField, RefiledVariant, RefiledDecl, Renumbered}

-- ---- ids, types

-- by what entry an id stands for
pub by_entry : (R : Registry) (i : ℕ) {A : Type 0} → Resolvable R i → ((d : Decl) → stands_for R i ≡ Some d → A) → A
unfolding Resolvable Unresolvable
by_entry R i {A} r f = go (stands_for R i) refl
  where
    go : (o : Option Decl) → stands_for R i ≡ o → A
    go None p = absurd (r p)
    go (Some d) p = f d p

-- the entry of an id, and that of its new number
pub record Moved (R S : Registry) (to : ℕ → ℕ) (i : ℕ) : Type 0 where
  pub before : Decl
  pub after : Decl
  pub stood : stands_for R i ≡ Some before
  pub stands : stands_for S (to i) ≡ Some after
  pub anew : RefiledDecl R S to before after

-- of a node that is not named nothing is looked up
not_named : (R : Registry) (l : Label) → (l.tag ≡ 3 → ⊥) → resolve_label R l ≡ l
unfolding resolve_label
not_named R l n = go (eqb l.tag 3) refl
  where
    go : (b : Bool) → eqb l.tag 3 ≡ b → resolve_label R l ≡ l
    go true p = absurd (n (eqb-true l.tag 3 p))
    go false p = rw p

module _ {R S : Registry} {to from : ℕ → ℕ} (N : Renumbered R S to from) where
  pub moved : (i : ℕ) → Resolvable R i → Moved R S to i
  moved i r =
      by_entry R i r (λ d a.
      by_entry S (to i) (N.there i r).0 (λ e b.
      record { before = d; after = e; stood = a; stands = b; anew = N.entry i d e a b }))

  name_refiled : {i j : ℕ} → RefiledId R S to i j → name_or_none (stands_for R i) ≡ name_or_none (stands_for S j)
  unfolding name_or_none Unresolvable
  name_refiled {i} (renumbered r e) = let x = moved i r in rw (e, x.stood, x.stands, x.anew.name)
  name_refiled (unresolvable a b) = rw (a, b)

  label_refiled : {l m : Label} → RefiledLabel R S to l m → resolve_label R l ≡ resolve_label S m
  unfolding resolve_label
  label_refiled (named r) = ap (λ n. label 3 0 0 n) (name_refiled r)
  label_refiled (other n e) = not_named R _ n ∙ (ap (label _ _ _) e ∙ sym (not_named S _ n))

  type_refiled : {t u : Ty} → RefiledType R S to t u → resolve R t ≡ resolve S u
  unfolding resolve
  type_refiled (a_leaf l) = rw (label_refiled l)
  type_refiled (a_one l t) = rw (label_refiled l, type_refiled t)
  type_refiled (a_two l t u) = rw (label_refiled l, type_refiled t, type_refiled u)

-- ---- what becomes of a variant, and of a declaration, of which no number repeats

pub impls_turn : (d e : Decl) → Impls d e → Impls e d
unfolding Impls
impls_turn d e i = (i.1, i.0)

module _ (R S : Registry) (to : ℕ → ℕ) where
  abbrev LikeVariant : Variant → Variant → Type 0
  LikeVariant v w = RefiledVariant R S to v w × Once ordinal_of v.fields

  -- of two impls of one name either may stand
  pub data LikeDecl (d e : Decl) : Type 0 where
    refiled : RefiledDecl R S to d e → NumbersOnce d → LikeDecl d e
    impls : Impls d e → d.name ≡ e.name → LikeDecl d e

  variants_alike : (d e : Decl) → NumbersOnce d → RefiledDecl R S to d e → Forall₂ LikeVariant (variant_map d.variants) (variant_map e.variants)
  unfolding variant_map
  variants_alike d e n r =
      survivors_once variant_ordinal by_number LikeVariant (λ v w a. a.0.ordinal) d.variants e.variants n.variants
      (reordered_all (λ v. Once ordinal_of v.fields) n.variant_fields r.variants)

module _ {R S : Registry} {to : ℕ → ℕ} {d e : Decl} where
  pub like_name : LikeDecl R S to d e → d.name ≡ e.name
  like_name (refiled r n) = r.name
  like_name (impls k n) = n

  pub like_kind : LikeDecl R S to d e → d.kind ≡ e.kind
  unfolding Impls
  like_kind (refiled r n) = r.kind
  like_kind (impls k n) = k.0 ∙ sym k.1

-- ---- the clauses, of an old and of a new side that are each filed anew

module _ (same : Ty → Ty → Bool) {R R' S S' : Registry} {to from to' from' : ℕ → ℕ} (M : Renumbered R R' to from) (N : Renumbered S S' to' from') where
  -- before and after
  abbrev first : Context
  first = context (clauses_by same) R S

  abbrev second : Context
  second = context (clauses_by same) R' S'

  -- what became what, on the old side and on the new
  abbrev OldField : Field → Field → Type 0
  OldField = RefiledField R R' to

  abbrev NewField : Field → Field → Type 0
  NewField = RefiledField S S' to'

  types_same : (d : Name) (field : Option Name) (what : List ℕ) (t t' u u' : Ty) → RefiledType R R' to t t' → RefiledType S S' to' u u'
      → compare_types first d field what t u ≡ compare_types second d field what t' u'
  unfolding compare_types
  types_same d field what t t' u u' a b = rw (type_refiled M a, type_refiled N b)

  fields_same : (d : Name) (f f' g g' : Field) → OldField f f' → NewField g g' → compare_fields first d f g ≡ compare_fields second d f' g'
  unfolding compare_fields compare_field_names compare_encodings compare_deprecated field_text
  fields_same d f f' g g' a b =
      cc (types_same d (Some g.name) (field_text g) f.type f'.type g.type g'.type a.type b.type)

  field_gone : (d : Name) (f f' : Field) → OldField f f' → (field_rules first d).gone f ≡ (field_rules second d).gone f'
  unfolding field_rules field_text
  field_gone d f f' a = cc

  field_came : (d : Name) (g g' : Field) → NewField g g' → (field_rules first d).came g ≡ (field_rules second d).came g'
  unfolding field_rules field_text
  field_came d g g' b = cc

  field_sets_same : (d : Name) (fs fs' gs gs' : List Field) → Once ordinal_of fs → Once ordinal_of gs
      → Reordered OldField fs fs' → Reordered NewField gs gs' → compare_field_sets first d fs gs ≡ compare_field_sets second d fs' gs'
  unfolding compare_field_sets field_map field_rules
  field_sets_same d fs fs' gs gs' p q v w =
      compare_alike_lem ordinal_of ltb (λ f g a. a.ordinal) (λ f g a. a.ordinal) (field_rules first d) (field_rules second d)
      (field_gone d) (field_came d) (fields_same d)
      (survivors_once ordinal_of by_number OldField (λ f g a. a.ordinal) fs fs' p v)
      (survivors_once ordinal_of by_number NewField (λ f g a. a.ordinal) gs gs' q w)

  -- ---- two declarations of one kind

  abbrev OldVariant : Variant → Variant → Type 0
  OldVariant = LikeVariant R R' to

  abbrev NewVariant : Variant → Variant → Type 0
  NewVariant = LikeVariant S S' to'

  variants_same : (r s : Rules Variant Change) → ((v w : Variant) → OldVariant v w → r.gone v ≡ s.gone w)
      → ((v w : Variant) → NewVariant v w → r.came v ≡ s.came w)
      → ((v v' w w' : Variant) → OldVariant v v' → NewVariant w w' → r.kept v w ≡ s.kept v' w')
      → (d d' e e' : Decl) → NumbersOnce d → NumbersOnce e → RefiledDecl R R' to d d' → RefiledDecl S S' to' e e'
      → compare variant_ordinal ltb r (variant_map d.variants) (variant_map e.variants)
      ≡ compare variant_ordinal ltb s (variant_map d'.variants) (variant_map e'.variants)
  variants_same r s gone came kept d d' e e' m n a b =
      compare_alike_lem variant_ordinal ltb (λ v w x. x.0.ordinal) (λ v w x. x.0.ordinal) r s gone came kept
      (variants_alike R R' to d d' m a) (variants_alike S S' to' e e' n b)

  variant_gone_lem : (n : Name) (v w : Variant) → OldVariant v w → variant_gone n v ≡ variant_gone n w
  unfolding variant_gone variant_text
  variant_gone_lem n v w a = cc

  variant_came_lem : (b : Bump) (n : Name) (v w : Variant) → NewVariant v w → variant_came b n v ≡ variant_came b n w
  unfolding variant_came variant_text
  variant_came_lem b n v w a = cc

  variant_decl_lem : (n : Name) (v w : Variant) → OldVariant v w → variant_decl n v ≡ variant_decl n w
  unfolding variant_decl
  variant_decl_lem n v w a = cc

  module _ (d d' e e' : Decl) (m : NumbersOnce d) (n : NumbersOnce e) (a : RefiledDecl R R' to d d') (b : RefiledDecl S S' to' e e') (name : Name) where
    messages_same : compare_messages first name d e ≡ compare_messages second name d' e'
    unfolding compare_messages
    messages_same = cc (field_sets_same name d.fields d'.fields e.fields e'.fields m.fields n.fields a.fields b.fields)

    enums_same : compare_enums name d e ≡ compare_enums name d' e'
    unfolding compare_enums enum_rules
    enums_same =
        cc
        (variants_same (enum_rules name e.marks) (enum_rules name e.marks) (variant_gone_lem name) (variant_came_lem _ name)
        (λ v v' w w' x y. refl) d d' e e' m n a b)

    flags_same : compare_flags name d e ≡ compare_flags name d' e'
    unfolding compare_flags flags_rules bit_text
    flags_same = variants_same (flags_rules name) (flags_rules name) (λ v w x. cc) (λ v w x. cc) (λ v v' w w' x y. refl) d d' e e' m n a b

    unions_same : compare_unions first name d e ≡ compare_unions second name d' e'
    unfolding compare_unions union_rules
    unions_same =
        variants_same (union_rules first name) (union_rules second name) (variant_gone_lem name) (variant_came_lem _ name)
        (λ v v' w w' x y.
        ap (λ (z : List Change). z ++ []) (field_sets_same (variant_decl name v) v.fields v'.fields w.fields w'.fields x.1 y.1
        x.0.fields y.0.fields
        ∙ ap (λ z. compare_field_sets second z v'.fields w'.fields) (variant_decl_lem name v v' x)))
        d d' e e' m n a b

    newtypes_same : compare_newtypes first name d e ≡ compare_newtypes second name d' e'
    unfolding compare_newtypes
    newtypes_same = types_same name None _ d.inner d'.inner e.inner e'.inner a.inner b.inner

  kinds_same : (k : Kind) (d d' e e' : Decl) → NumbersOnce d → NumbersOnce e → RefiledDecl R R' to d d' → RefiledDecl S S' to' e e'
      → compare_kind k first d e ≡ compare_kind k second d' e'
  unfolding compare_kind
  kinds_same message d d' e e' m n a b = messages_same d d' e e' m n a b d.name ∙ ap (λ x. compare_messages second x d' e') a.name
  kinds_same enum d d' e e' m n a b = enums_same d d' e e' m n a b d.name ∙ ap (λ x. compare_enums x d' e') a.name
  kinds_same flags d d' e e' m n a b = flags_same d d' e e' m n a b d.name ∙ ap (λ x. compare_flags x d' e') a.name
  kinds_same union d d' e e' m n a b =
      unions_same d d' e e' m n a b d.name ∙ ap (λ x. compare_unions second x d' e') a.name
  kinds_same newtype d d' e e' m n a b =
      newtypes_same d d' e e' m n a b d.name ∙ ap (λ x. compare_newtypes second x d' e') a.name
  kinds_same config d d' e e' m n a b = refl
  kinds_same alias d d' e e' m n a b = refl
  kinds_same trait d d' e e' m n a b = refl
  kinds_same impl d d' e e' m n a b = refl
  kinds_same other d d' e e' m n a b = refl

  -- ---- two declarations of one name

  abbrev OldDecl : Decl → Decl → Type 0
  OldDecl = LikeDecl R R' to

  abbrev NewDecl : Decl → Decl → Type 0
  NewDecl = LikeDecl S S' to'

  -- impls are silent
  impl_silent : (r : Context) (d e : Decl) (k : ℕ) → k ≡ number impl_kind → compare_kind (kind_of k) r d e ≡ []
  unfolding compare_kind kind_of
  impl_silent r d e k p = rw p

  kind_same : (d d' e e' : Decl) → OldDecl d d' → NewDecl e e' → d.kind ≡ e.kind
      → compare_kind (kind_of d.kind) first d e ≡ compare_kind (kind_of d.kind) second d' e'
  unfolding Impls
  kind_same d d' e e' (refiled a m) (refiled b n) k = kinds_same (kind_of d.kind) d d' e e' m n a b
  kind_same d d' e e' (refiled a m) (impls i x) k =
      impl_silent first d e d.kind (k ∙ i.0) ∙ sym (impl_silent second d' e' d.kind (k ∙ i.0))
  kind_same d d' e e' (impls i x) b k = impl_silent first d e d.kind i.0 ∙ sym (impl_silent second d' e' d.kind i.0)

  changed_same : (d d' e e' : Decl) → OldDecl d d' → NewDecl e e' → kind_changed d e ≡ kind_changed d' e'
  unfolding kind_changed
  changed_same d d' e e' a b = cc (like_name a, like_kind a, like_kind b)

  decls_same : (d d' e e' : Decl) → OldDecl d d' → NewDecl e e' → compare_decls first d e ≡ compare_decls second d' e'
  unfolding compare_decls compare_alike
  decls_same d d' e e' a b =
      ap (cond (eqb d.kind e.kind) (compare_kind (kind_of d.kind) first d e ++ [])) (changed_same d d' e e' a b)
      ∙ go (eqb d.kind e.kind) refl
      ∙ cc (like_kind a, like_kind b)
    where
      go : (t : Bool) → eqb d.kind e.kind ≡ t
          → cond t (compare_kind (kind_of d.kind) first d e ++ []) (kind_changed d' e')
          ≡ cond t (compare_kind (kind_of d.kind) second d' e' ++ []) (kind_changed d' e')
      go true p = ap (λ (z : List Change). z ++ []) (kind_same d d' e e' a b (eqb-true d.kind e.kind p))
      go false p = refl

  decl_gone : (d d' : Decl) → OldDecl d d' → (decl_rules first).gone d ≡ (decl_rules second).gone d'
  unfolding decl_rules decl_text
  decl_gone d d' a = cc (like_name a, like_kind a)

  decl_came : (e e' : Decl) → NewDecl e e' → (decl_rules first).came e ≡ (decl_rules second).came e'
  unfolding decl_rules decl_text
  decl_came e e' b = cc (like_name b, like_kind b)

  pub all_same : {m m' n n' : List Decl} → Forall₂ OldDecl m m' → Forall₂ NewDecl n n'
      → compare name_of before (decl_rules first) m n ≡ compare name_of before (decl_rules second) m' n'
  unfolding decl_rules
  all_same v w =
      compare_alike_lem name_of before (λ d e x. like_name x) (λ d e x. like_name x) (decl_rules first) (decl_rules second) decl_gone decl_came
      decls_same v w
