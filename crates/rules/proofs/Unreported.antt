-- "The three `..OrdinalChanged` counts are 0.", and so are those of R-6 and R-10 "in the earlier verdicts": the clauses report no such change,
-- whatever they compare, and so does no verdict that reports none besides. Assumes nothing.
use mathlib.Core.Path.{◌≡◌, refl, ◌∙◌, subst}
use mathlib.Core.Bool.{Bool, true, false, cond, not, ◌&&◌, ◌||◌}
use Rattle.std.specs.Prelude.{Option, None, Some}
use mathlib.Core.List.{List, [], ◌∷◌, ◌++◌, flat_map}
use Prim.Native.Nat.{ℕ, ◌+◌, ◌<◌}
use native.Mathlib.Omega.{arith}
use borrow.Author.Tests.{eqb-true, ltb-true, not-true}
use lib.Dec.{eqb, ltb}
use Rattle.std.proofs.lemmas.Bool.{false_from_ne_true}
use Rattle.maps.proofs.Lists.{all_map}
use Rattle.maps.proofs.Tests.{no_both, both}
use Rattle.maps.specs.Lists.{total, count, All, among, any}
use Rattle.maps.specs.Orders.{before}
use Rattle.maps.specs.Keyed.{lookup}
use Rattle.maps.specs.Compare.{Rules, unmatched, matched, between, compare}
use Rattle.image.specs.Schema.{Name, Marks, Ty, Field, Variant, Decl, Schema}
use Rattle.image.specs.Kinds.{Kind, kind_of, message, enum, flags, union, newtype, config, alias, trait, impl, other}
use Rattle.rules.specs.Survivors.{name_of, ordinal_of, field_map, variant_ordinal, variant_map, View}
use Rattle.rules.specs.Changes.{Bump, Change, only, kind_count, kind_at, ordinal_kinds, FieldAdded, FieldRemoved, FieldTypeChanged, FieldOrdinalChanged, FieldRenamed, FieldDeprecated, FieldEncodingChanged, VariantAdded, VariantRemoved, VariantOrdinalChanged, DeclarationAdded, DeclarationRemoved, DeclarationKindChanged, NamespaceChanged, NonExhaustiveChanged, FlagsBitAdded, FlagsBitRemoved, FlagsBitOrdinalChanged}
use Rattle.rules.specs.Clauses.{compare_namespaces, Reading, clauses_by, Context, context, compare_types, compare_field_names, compare_encodings, compare_deprecated, compare_fields, field_rules, compare_field_sets, compare_messages, variant_gone, variant_came, enum_rules, compare_non_exhaustive, compare_enums, flags_rules, compare_flags, union_rules, compare_unions, compare_newtypes, compare_kind, kind_changed, compare_alike, compare_decls, decl_rules, changes}
use Rattle.rules.specs.Verdict.{count_of}
use Rattle.rules.specs.Outcome.{Outcome, select}
use Rattle.rules.specs.Answer.{Policy, verdict_by, usual}
use Rattle.rules.specs.Refusals.{Decided, old_refused, old_alone, new_refused, new_alone, pair_refused, verdict}
use Rattle.rules.specs.Mended.{mended_kinds}
use Rattle.rules.specs.Distance.{count_between}
use Rattle.rules.proofs.Outcomes.{refusal_is}
use Rattle.rules.proofs.Answer.{decided, count_selected}

-- ---- what all reported changes have

module _ {C : Type 0} (P : C → Type 0) where
  pub all_append : (xs ys : List C) → All P xs → All P ys → All P (xs ++ ys)
  unfolding All
  all_append [] ys h k = k
  all_append (x ∷ xs) ys h k = (h.0, all_append xs ys h.1 k)

  -- and what both of two lists have
  pub all_parts : (xs ys : List C) → All P (xs ++ ys) → All P xs × All P ys
  unfolding All
  all_parts [] ys h = (tt, h)
  all_parts (x ∷ xs) ys h = let t = all_parts xs ys h.1 in ((h.0, t.0), t.1)

  pub all_flat_map : {A : Type 0} (f : A → List C) → ((a : A) → All P (f a)) → (l : List A) → All P (flat_map f l)
  unfolding All flat_map
  all_flat_map f h [] = tt
  all_flat_map f h (a ∷ l) = all_append (f a) (flat_map f l) (h a) (all_flat_map f h l)

  module _ {K E : Type 0} (key : E → K) (lt : K → K → Bool) (r : Rules E C)
      (gone : (e : E) → All P (r.gone e)) (came : (f : E) → All P (r.came f)) (kept : (e f : E) → All P (r.kept e f)) where
    all_unmatched : (c : E → List C) → ((e : E) → All P (c e)) → (e : E) (o : Option E) → All P (unmatched c (Some e) o)
    unfolding unmatched All
    all_unmatched c h e None = h e
    all_unmatched c h e (Some f) = tt

    all_matched : (e : E) (o : Option E) → All P (matched r.kept (Some e) o)
    unfolding matched All
    all_matched e None = tt
    all_matched e (Some f) = kept e f

    all_compare : (m n : List E) → All P (compare key lt r m n)
    unfolding compare between
    all_compare m n =
        all_append _ _ (all_flat_map _ (λ e. all_unmatched r.gone gone e (lookup key lt (key e) n)) m)
        (all_append _ _ (all_flat_map _ (λ f. all_unmatched r.came came f (lookup key lt (key f) m)) n)
        (all_flat_map _ (λ e. all_matched e (lookup key lt (key e) n)) m))

-- of a change that is reported if a test passes
pub only_all : (P : Change → Type 0) (test : Bool) (c : Change) → P c → All P (only test c)
unfolding only All
only_all P true c h = (h, tt)
only_all P false c h = tt

-- ---- the clauses

-- the kinds that the clauses report of two declarations under one name, and all that they report; the others are the three, and those of R-6
-- and R-10
abbrev pub inner_kinds : List ℕ
inner_kinds =
    (kind_at FieldAdded) ∷ kind_at FieldRemoved ∷ kind_at FieldTypeChanged ∷ kind_at FieldRenamed ∷ kind_at FieldDeprecated ∷ kind_at FieldEncodingChanged
    ∷ kind_at VariantAdded ∷ kind_at VariantRemoved ∷ kind_at DeclarationKindChanged ∷ kind_at NonExhaustiveChanged ∷ kind_at FlagsBitAdded
    ∷ kind_at FlagsBitRemoved ∷ []

abbrev pub clause_kinds : List ℕ
clause_kinds = kind_at NamespaceChanged ∷ kind_at DeclarationRemoved ∷ kind_at DeclarationAdded ∷ inner_kinds

-- a kind that is in a list is another than one that is not
pub another : (kinds : List ℕ) (j k : ℕ) → among j kinds ≡ false → among k kinds ≡ true → eqb k j ≡ false
another kinds j k n i = false_from_ne_true (eqb k j) (λ p. no_both (subst (λ m. among m kinds ≡ true) (eqb-true k j p) i) n)

-- a change of another kind than j
abbrev pub Other : ℕ → Change → Type 0
Other j c = eqb c.kind j ≡ false

module _ (j : ℕ) where
  pub nothing_other : All (Other j) []
  unfolding All
  nothing_other = tt

  pub none_counted : (cs : List Change) → All (Other j) cs → count_of j cs ≡ 0
  unfolding count_of count total All
  none_counted [] h = refl
  none_counted (c ∷ cs) h = rw h.0 (omega (arith, none_counted cs h.1))

-- of these kinds; and what a reading reports besides the clauses is of them
abbrev pub Of : List ℕ → Change → Type 0
Of kinds c = among c.kind kinds ≡ true

pub record Adds (kinds : List ℕ) (r : Reading) : Type 0 where
  pub first : (x y : Decl) → All (Of kinds) (r.first x y)
  pub last : (x y : Decl) → All (Of kinds) (r.last x y)
  pub last_in : (d : Name) (v w : Variant) → All (Of kinds) (r.last_in d v w)

-- no such change is reported besides
pub record Ordinary (j : ℕ) (r : Reading) : Type 0 where
  pub first : (x y : Decl) → All (Other j) (r.first x y)
  pub last : (x y : Decl) → All (Other j) (r.last x y)
  pub last_in : (d : Name) (v w : Variant) → All (Other j) (r.last_in d v w)

pub clauses_ordinary : (same : Ty → Ty → Bool) (j : ℕ) → Ordinary j (clauses_by same)
clauses_ordinary same j = record { first = λ x y. nothing_other j; last = λ x y. nothing_other j; last_in = λ d v w. nothing_other j }

-- a kind that is not among those of what is reported besides
pub adds_ordinary : {kinds : List ℕ} {r : Reading} → Adds kinds r → (j : ℕ) → among j kinds ≡ false → Ordinary j r
adds_ordinary {kinds = kinds} a j e = record {
  first = λ x y. all_map other _ (a.first x y);
  last = λ x y. all_map other _ (a.last x y);
  last_in = λ d v w. all_map other _ (a.last_in d v w);
}
  where
    other : (c : Change) → Of kinds c → Other j c
    other c o = go (eqb c.kind j) refl
      where
        go : (b : Bool) → eqb c.kind j ≡ b → b ≡ false
        go true p = no_both (rw (eqb-true c.kind j p) at o) e
        go false p = refl

inner_other : (j : ℕ) → among j clause_kinds ≡ false → among j inner_kinds ≡ false
unfolding among any
inner_other j = go (eqb j (kind_at NamespaceChanged)) (eqb j (kind_at DeclarationRemoved)) (eqb j (kind_at DeclarationAdded)) (among j inner_kinds)
  where
    go : (a b c d : Bool) → (a || (b || (c || d))) ≡ false → d ≡ false
    go false false false d e = e
    go true b c d e = no_both refl e
    go false true c d e = no_both refl e
    go false false true d e = no_both refl e

module _ (j : ℕ) (out : among j inner_kinds ≡ false) where
  test_other : (test : Bool) (c : Change) → among c.kind inner_kinds ≡ true → All (Other j) (only test c)
  test_other test c e = only_all (Other j) test c (another inner_kinds j c.kind out e)

  one_other : (c : Change) → among c.kind inner_kinds ≡ true → All (Other j) (c ∷ [])
  unfolding All
  one_other c e = (another inner_kinds j c.kind out e, tt)

  deprecated_other : (d : Name) (field : Option Name) (target : List ℕ) (m n : Marks) → All (Other j) (compare_deprecated d field target m n)
  unfolding compare_deprecated among any
  deprecated_other d field target m n = test_other _ _ refl

  types_other : (r : Context) (d : Name) (field : Option Name) (what : List ℕ) (t u : Ty) → All (Other j) (compare_types r d field what t u)
  unfolding compare_types among any
  types_other r d field what t u = test_other _ _ refl

  fields_other : (r : Context) (d : Name) (f g : Field) → All (Other j) (compare_fields r d f g)
  unfolding compare_fields compare_field_names compare_encodings among any
  fields_other r d f g =
      all_append (Other j) _ _ (test_other _ _ refl)
      (all_append (Other j) _ _ (types_other r d _ _ f.type g.type)
      (all_append (Other j) _ _ (test_other _ _ refl) (deprecated_other d _ _ f.marks g.marks)))

  sets_other : (r : Context) (d : Name) (m n : List Field) → All (Other j) (compare_field_sets r d m n)
  unfolding compare_field_sets field_rules among any
  sets_other r d m n =
      all_compare (Other j) ordinal_of ltb (field_rules r d) (λ f. one_other _ refl) (λ f. one_other _ refl) (fields_other r d) (field_map m)
      (field_map n)

  variants_other : (r : Rules Variant Change) → ((v : Variant) → All (Other j) (r.gone v)) → ((v : Variant) → All (Other j) (r.came v))
      → ((v w : Variant) → All (Other j) (r.kept v w))
      → (m n : List Variant) → All (Other j) (compare variant_ordinal ltb r (variant_map m) (variant_map n))
  variants_other r gone came kept m n = all_compare (Other j) variant_ordinal ltb r gone came kept (variant_map m) (variant_map n)

  gone_other : (d : Name) (v : Variant) → All (Other j) (variant_gone d v)
  unfolding variant_gone among any
  gone_other d v = one_other _ refl

  came_other : (b : Bump) (d : Name) (v : Variant) → All (Other j) (variant_came b d v)
  unfolding variant_came among any
  came_other b d v = one_other _ refl

  module _ (r : Context) (o : Ordinary j r.reading) where
    kinds_other : (k : Kind) (x y : Decl) → All (Other j) (compare_kind k r x y)
    unfolding compare_kind compare_messages compare_enums enum_rules compare_non_exhaustive compare_flags flags_rules compare_unions union_rules compare_newtypes among any
    kinds_other message x y =
        all_append (Other j) _ _ (sets_other r x.name x.fields y.fields) (deprecated_other x.name _ _ x.marks y.marks)
    kinds_other enum x y =
        all_append (Other j) _ _ (test_other _ _ refl)
        (variants_other (enum_rules x.name y.marks) (gone_other x.name) (came_other _ x.name) (λ v w. nothing_other j) x.variants
        y.variants)
    kinds_other flags x y =
        variants_other (flags_rules x.name) (λ v. one_other _ refl) (λ v. one_other _ refl) (λ v w. nothing_other j) x.variants
        y.variants
    kinds_other union x y =
        variants_other (union_rules r x.name) (gone_other x.name) (came_other _ x.name) (λ v w. all_append (Other j) _ _ (sets_other r _ v.fields w.fields) (o.last_in _ v w))
        x.variants y.variants
    kinds_other newtype x y = types_other r x.name None _ x.inner y.inner
    kinds_other config x y = nothing_other j
    kinds_other alias x y = nothing_other j
    kinds_other trait x y = nothing_other j
    kinds_other impl x y = nothing_other j
    kinds_other other x y = nothing_other j

    pub decls_other : (x y : Decl) → All (Other j) (compare_decls r x y)
    unfolding compare_decls compare_alike kind_changed among any
    decls_other x y = go (eqb x.kind y.kind)
      where
        go : (u : Bool) → All (Other j) (cond u (compare_alike r x y) (kind_changed x y))
        go true = all_append (Other j) _ _ (o.first x y) (all_append (Other j) _ _ (kinds_other (kind_of x.kind) x y) (o.last x y))
        go false = one_other _ refl

-- of a kind that they do not report at all
module _ (j : ℕ) (out : among j clause_kinds ≡ false) where
  pub changes_other : (r : Reading) → Ordinary j r → (x y : View) → All (Other j) (changes r x y)
  unfolding changes compare_namespaces decl_rules among any All
  changes_other r o x y =
      all_append (Other j) _ _ (only_all (Other j) _ _ (another clause_kinds j _ out refl))
      (all_compare (Other j) name_of before (decl_rules (context r x.registry y.registry))
      (λ d. (another clause_kinds j _ out refl, tt)) (λ d. (another clause_kinds j _ out refl, tt))
      (decls_other j (inner_other j out) (context r x.registry y.registry) o) x.standing y.standing)

  -- ---- the counts, of any verdict

  pub none_selected : j < kind_count → (p : Policy) → Ordinary j p.reading → (old new : List ℕ) → count_between (verdict_by p) j old new ≡ 0
  unfolding count_between verdict_by
  none_selected l p o old new = go (decided p old new)
    where
      go : {u : Outcome} → Decided p old new u → select u (5 + j) ≡ 0
      go (old_refused l q) = (refusal_is _ _).rest (5 + j) (omega arith)
      go (old_alone q i) = (refusal_is _ _).rest (5 + j) (omega arith)
      go (new_refused a l q) = (refusal_is _ _).rest (5 + j) (omega arith)
      go (new_alone a q i) = (refusal_is _ _).rest (5 + j) (omega arith)
      go (pair_refused a b i) = (refusal_is _ _).rest (5 + j) (omega arith)
      go (verdict {x = x} {y = y} a b i) =
          count_selected j l (changes p.reading (p.view x) (p.view y)) ∙ none_counted j _ (changes_other p.reading o (p.view x) (p.view y))

-- the three, of any verdict that reports none of them besides
pub no_ordinal_changed : (p : Policy) → All (λ j. Ordinary j p.reading) ordinal_kinds → (old new : List ℕ)
    → All (λ kind. count_between (verdict_by p) kind old new ≡ 0) ordinal_kinds
unfolding All among any
no_ordinal_changed p o old new = (
  none_selected (kind_at FieldOrdinalChanged) refl (omega arith) p o.0 old new,
  (
    none_selected (kind_at VariantOrdinalChanged) refl (omega arith) p o.1.0 old new,
    (none_selected (kind_at FlagsBitOrdinalChanged) refl (omega arith) p o.1.1.0 old new, tt),
  ),
)

-- "always 0 in the earlier verdicts", which report the clauses alone, over any view and however types are read
pub no_mended_changed : (view : Schema → View) (same : Ty → Ty → Bool) (old new : List ℕ)
    → All (λ kind. count_between (verdict_by (usual view (clauses_by same))) kind old new ≡ 0) mended_kinds
unfolding All among any
no_mended_changed view same old new = all_map none mended_kinds (refl, (refl, (refl, tt)))
  where
    none : (j : ℕ) → (not (among j clause_kinds) && ltb j kind_count) ≡ true → count_between (verdict_by (usual view (clauses_by same))) j old new ≡ 0
    none j e =
        let h = both (not (among j clause_kinds)) (ltb j kind_count) e in
        none_selected j (not-true (among j clause_kinds) h.0) (ltb-true j kind_count h.1) (usual view (clauses_by same)) (clauses_ordinary same j) old new
