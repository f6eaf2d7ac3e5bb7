-- Every schema is itself filed anew; what was filed anew can be filed back, and further. Assumes nothing.
use mathlib.Core.Path.{◌≡◌, refl, sym, ap, ◌∙◌, subst}
use mathlib.Core.Bool.{Bool, true, false}
use Rattle.std.specs.Prelude.{Option, None, Some}
use Rattle.std.proofs.lemmas.Option.{none-some}
use mathlib.Core.List.{List}
use Prim.Native.Nat.{ℕ}
use lib.Dec.{eqb}
use borrow.Author.Tests.{eqb-true, eq-eqb}
use Rattle.maps.specs.Reordered.{Reordered}
use Rattle.maps.proofs.Tests.{no_both}
use Rattle.maps.proofs.Reorderings.{reordered_self, reordered_back, reordered_map, reordered_then}
use Rattle.image.specs.Schema.{Label, label, Ty, leaf, one, two, Field, Variant, Decl, Schema}
use Rattle.rules.specs.Survivors.{Registry, stands_for}
use Rattle.refiling.specs.Refiling.{Unresolvable, Resolvable, RefiledId, renumbered, unresolvable, RefiledLabel, named, other, RefiledType, a_leaf, a_one, a_two, RefiledField, RefiledVariant, RefiledDecl, Renumbered, Refiled, Refilings}
use Rattle.refiling.proofs.Clauses.{moved}
use Rattle.refiling.proofs.Repeats.{entry_resolvable, no_repeats_refiled}

-- ---- the same numbers, the same order

module _ (R : Registry) where
  abbrev same : ℕ → ℕ
  same i = i

  id_self : (i : ℕ) → RefiledId R R same i i
  unfolding Resolvable Unresolvable
  id_self i = go (stands_for R i) refl
    where
      go : (o : Option Decl) → stands_for R i ≡ o → RefiledId R R same i i
      go None p = unresolvable p p
      go (Some d) p = renumbered (λ q. none-some d (sym q ∙ p)) refl

  label_self : (l : Label) → RefiledLabel R R same l l
  label_self l = go (eqb l.tag 3) refl
    where
      at : (tag : ℕ) → 3 ≡ tag → RefiledLabel R R same (label tag l.first l.second l.names) (label tag l.first l.second l.names)
      at tag e =
          subst (λ t. RefiledLabel R R same (label t l.first l.second l.names) (label t l.first l.second l.names)) e
          (named (id_self l.first))

      go : (b : Bool) → eqb l.tag 3 ≡ b → RefiledLabel R R same l l
      go true p = at l.tag (sym (eqb-true l.tag 3 p))
      go false p = other (λ e. no_both (eq-eqb l.tag 3 e) p) refl

  type_self : (t : Ty) → RefiledType R R same t t
  type_self (leaf l) = a_leaf (label_self l)
  type_self (one l t) = a_one (label_self l) (type_self t)
  type_self (two l t u) = a_two (label_self l) (type_self t) (type_self u)

  field_self : (f : Field) → RefiledField R R same f f
  field_self f = record { ordinal = refl; name = refl; marks = refl; encoding = refl; limit = refl; type = type_self f.type }

  variant_self : (v : Variant) → RefiledVariant R R same v v
  variant_self v = record { ordinal = refl; name = refl; fields = reordered_self field_self v.fields }

  decl_self : (d e : Decl) → d ≡ e → RefiledDecl R R same d e
  decl_self d e p = subst (RefiledDecl R R same d) p own
    where
      own : RefiledDecl R R same d d
      own = record {
        kind = refl;
        name = refl;
        marks = refl;
        fields = reordered_self field_self d.fields;
        variants = reordered_self variant_self d.variants;
        inner = type_self d.inner;
      }

refiled_self : (s : Schema) → Refiled s s
refiled_self s = record {
  to = λ i. i;
  from = λ i. i;
  registry = record {
    there = λ i r. (r, refl);
    back = λ j r. (r, refl);
    entry = λ i d e p q. decl_self s.registry d e (cc);
  };
  ids = reordered_self (id_self s.registry) s.ids;
  namespace = refl;
}

-- ---- back

module _ {R S : Registry} {to from : ℕ → ℕ} (N : Renumbered R S to from) where
  id_back : {i j : ℕ} → RefiledId R S to i j → RefiledId S R from j i
  id_back {i} {j} (renumbered r e) =
      renumbered (subst (Resolvable S) (sym e) (N.there i r).0) (sym (N.there i r).1 ∙ ap from (sym e))
  id_back (unresolvable p q) = unresolvable q p

  label_back : {l m : Label} → RefiledLabel R S to l m → RefiledLabel S R from m l
  label_back (named r) = named (id_back r)
  label_back (other n e) = other n (sym e)

  type_back : {t u : Ty} → RefiledType R S to t u → RefiledType S R from u t
  type_back (a_leaf l) = a_leaf (label_back l)
  type_back (a_one l t) = a_one (label_back l) (type_back t)
  type_back (a_two l t u) = a_two (label_back l) (type_back t) (type_back u)

  field_back : (g f : Field) → RefiledField R S to f g → RefiledField S R from g f
  field_back g f r = record {
    ordinal = sym r.ordinal;
    name = sym r.name;
    marks = sym r.marks;
    encoding = sym r.encoding;
    limit = sym r.limit;
    type = type_back r.type;
  }

  fields_back : {fs gs : List Field} → Reordered (RefiledField R S to) fs gs → Reordered (RefiledField S R from) gs fs
  fields_back w = reordered_map field_back (reordered_back w)

  variant_back : (w v : Variant) → RefiledVariant R S to v w → RefiledVariant S R from w v
  variant_back w v r = record { ordinal = sym r.ordinal; name = sym r.name; fields = fields_back r.fields }

  decl_back : (e d : Decl) → RefiledDecl R S to d e → RefiledDecl S R from e d
  decl_back e d r = record {
    kind = sym r.kind;
    name = sym r.name;
    marks = sym r.marks;
    fields = fields_back r.fields;
    variants = reordered_map variant_back (reordered_back r.variants);
    inner = type_back r.inner;
  }

  renumbered_back : Renumbered S R from to
  renumbered_back = record {
    there = N.back;
    back = N.there;
    entry = λ j e d p q.
        decl_back e d (N.entry (from j) d e q (ap (stands_for S) (N.back j (entry_resolvable S j e p)).1 ∙ p));
  }

refiled_back : (s t : Schema) → Refiled s t → Refiled t s
refiled_back s t r = record {
  to = r.from;
  from = r.to;
  registry = renumbered_back r.registry;
  ids = reordered_map (λ j i x. id_back r.registry x) (reordered_back r.ids);
  namespace = sym r.namespace;
}

-- ---- further

module _ {R S T : Registry} {to from to' from' : ℕ → ℕ} (M : Renumbered R S to from) (N : Renumbered S T to' from') where
  abbrev on : ℕ → ℕ
  on i = to' (to i)

  id_further : {i j k : ℕ} → RefiledId R S to i j → RefiledId S T to' j k → RefiledId R T on i k
  unfolding Resolvable Unresolvable
  id_further (renumbered r e) (renumbered q d) = renumbered r (d ∙ ap to' e)
  id_further {i} (renumbered r e) (unresolvable p q) = absurd ((M.there i r).0 (ap (stands_for S) (sym e) ∙ p))
  id_further (unresolvable p q) (renumbered r e) = absurd (r q)
  id_further (unresolvable p q) (unresolvable r u) = unresolvable p u

  label_further : {l m n : Label} → RefiledLabel R S to l m → RefiledLabel S T to' m n → RefiledLabel R T on l n
  label_further (named r) (named q) = named (id_further r q)
  label_further (named r) (other n e) = absurd (n refl)
  label_further (other n e) (named q) = absurd (n refl)
  label_further (other n e) (other m d) = other n (e ∙ d)

  type_further : {t u v : Ty} → RefiledType R S to t u → RefiledType S T to' u v → RefiledType R T on t v
  type_further (a_leaf l) (a_leaf m) = a_leaf (label_further l m)
  type_further (a_one l t) (a_one m u) = a_one (label_further l m) (type_further t u)
  type_further (a_two l t v) (a_two m u w) = a_two (label_further l m) (type_further t u) (type_further v w)

  field_further : (f h : Field) → (g : Field) × RefiledField R S to f g × RefiledField S T to' g h → RefiledField R T on f h
  field_further f h w = record {
    ordinal = w.1.ordinal ∙ w.2.ordinal;
    name = w.1.name ∙ w.2.name;
    marks = w.1.marks ∙ w.2.marks;
    encoding = w.1.encoding ∙ w.2.encoding;
    limit = w.1.limit ∙ w.2.limit;
    type = type_further w.1.type w.2.type;
  }

  fields_further : {fs gs hs : List Field} → Reordered (RefiledField R S to) fs gs → Reordered (RefiledField S T to') gs hs
      → Reordered (RefiledField R T on) fs hs
  fields_further v w = reordered_map field_further (reordered_then v w)

  variant_further : (v x : Variant) → (w : Variant) × RefiledVariant R S to v w × RefiledVariant S T to' w x → RefiledVariant R T on v x
  variant_further v x w = record {
    ordinal = w.1.ordinal ∙ w.2.ordinal;
    name = w.1.name ∙ w.2.name;
    fields = fields_further w.1.fields w.2.fields;
  }

  decl_further : {d e f : Decl} → RefiledDecl R S to d e → RefiledDecl S T to' e f → RefiledDecl R T on d f
  decl_further r q = record {
    kind = r.kind ∙ q.kind;
    name = r.name ∙ q.name;
    marks = r.marks ∙ q.marks;
    fields = fields_further r.fields q.fields;
    variants = reordered_map variant_further (reordered_then r.variants q.variants);
    inner = type_further r.inner q.inner;
  }

  renumbered_further : Renumbered R T on (λ k. from (from' k))
  renumbered_further = record {
    there = λ i r.
        let x = M.there i r in let y = N.there (to i) x.0 in (y.0, ap from y.1 ∙ x.1);
    back = λ k r.
        let y = N.back k r in let x = M.back (from' k) y.0 in (x.0, ap to' x.1 ∙ y.1);
    entry = λ i d f p q.
        let m = moved M i (entry_resolvable R i d p) in
        let r : RefiledDecl R S to d m.after = M.entry i d m.after p m.stands in
        decl_further r (N.entry (to i) m.after f m.stands q);
  }

refiled_further : (s t u : Schema) → Refiled s t → Refiled t u → Refiled s u
refiled_further s t u r q = record {
  to = λ i. q.to (r.to i);
  from = λ k. r.from (q.from k);
  registry = renumbered_further r.registry q.registry;
  ids = reordered_map (λ i k w. id_further r.registry q.registry w.1 w.2) (reordered_then r.ids q.ids);
  namespace = r.namespace ∙ q.namespace;
}

pub refilings : Refilings
refilings = record { itself = refiled_self; back = refiled_back; further = refiled_further; no_repeats = no_repeats_refiled }
