-- The chain rule of three views: what the clauses report from the first to the third is at most the larger of what they report to and from
-- the second. Over any views whose standing declarations rise by name, and any lawful reading. Assumes nothing.
use mathlib.Core.Path.{◌≡◌, refl, ap, subst}
use mathlib.Core.Bool.{Bool, true, false, cond, not}
use Rattle.std.specs.Prelude.{Option, Some}
use mathlib.Core.List.{List}
use Prim.Native.Nat.{ℕ, ◌≤◌, max}
use native.Mathlib.Omega.{arith}
use lib.Dec.{eqb, ltb}
use borrow.Author.Tests.{eqb-true}
use Rattle.maps.specs.Lists.{largest}
use Rattle.maps.specs.Compare.{Rules, compare}
use Rattle.maps.specs.Orders.{before}
use Rattle.maps.specs.Walk.{Rising}
use Rattle.maps.proofs.Lists.{all, largest_bound}
use Rattle.maps.proofs.Orders.{by_number}
use Rattle.maps.proofs.Names.{by_name}
use Rattle.maps.proofs.Survivors.{rising}
use Rattle.maps.proofs.Levels.{Chained, chained, chained_small, chained_append, chained_lead, Links, chain_links}
use Rattle.image.specs.Schema.{Name, Marks, Ty, Field, Variant, Decl}
use Rattle.image.specs.Kinds.{Kind, kind_of, message, enum, flags, union, newtype, config, alias, trait, impl, other}
use Rattle.rules.specs.Equal.{Sound}
use Rattle.rules.specs.Survivors.{Registry, name_of, ordinal_of, field_map, variant_ordinal, variant_map, View}
use Rattle.rules.specs.Types.{resolve}
use Rattle.rules.specs.Changes.{Bump, patch, minor, major, level, Change, only}
use Rattle.rules.specs.Clauses.{compare_namespaces, Reading, Context, context, compare_types, field_text, compare_field_names, compare_encodings, compare_deprecated, compare_fields, field_rules, compare_field_sets, compare_messages, variant_gone, variant_came, enum_bump, enum_rules, compare_non_exhaustive, compare_enums, flags_rules, compare_flags, union_rules, compare_unions, compare_newtypes, compare_kind, kind_changed, compare_alike, compare_decls, decl_rules, changes}
use Rattle.rules.proofs.Equal.{same_trans, pairs, numbers, marks, options, name_lists}
use Rattle.rules.proofs.Types.{encodings}
use Rattle.rules.proofs.Readings.{level_of, Odd, Lawful}

-- nothing is worse than Major
pub bump_bound : (b : Bump) → level b ≤ 2
unfolding level
bump_bound patch = omega arith
bump_bound minor = omega arith
bump_bound major = omega arith

pub largest_two : (cs : List Change) → largest level_of cs ≤ 2
largest_two cs = largest_bound level_of 2 cs (all (λ c. bump_bound c.bump) cs)

-- a change of bump Major in one of the first two is enough
pub first_major : {b : ℕ} {xs ys zs : List Change} → 2 ≤ largest level_of xs → Chained level_of b xs ys zs
first_major {zs = zs} h = chained (λ κ i j l. omega (arith, largest_two zs))

pub second_major : {b : ℕ} {xs ys zs : List Change} → 2 ≤ largest level_of ys → Chained level_of b xs ys zs
second_major {zs = zs} h = chained (λ κ i j l. omega (arith, largest_two zs))

-- ---- a test that reports a change

-- of bump Major: if the test passes for two pairs it passes for the first and the third
pub test_chained : {A : Type 0} {same : A → A → Bool} {odd : A → Bool} → Sound same odd → (b : ℕ) (x y z : A) (c d e : Change)
    → c.bump ≡ major → d.bump ≡ major → Chained level_of b (only (not (same x y)) c) (only (not (same y z)) d) (only (not (same x z)) e)
unfolding only largest level
test_chained {same = same} S b x y z c d e m n = go (same x y) (same y z) refl refl
  where
    go : (p q : Bool) → same x y ≡ p → same y z ≡ q → Chained level_of b (only (not p) c) (only (not q) d) (only (not (same x z)) e)
    go false q u v = first_major (omega (arith, ap level m))
    go true false u v = second_major (omega (arith, ap level n))
    go true true u v = chained_small (rw (same_trans S x y z u v) (omega arith))

-- then what depends on the tested thing alone is no worse, or the change is the worst
test_slack : {A : Type 0} {same : A → A → Bool} {odd : A → Bool} → Sound same odd → (x y : A) (w : A → Bump) (c : Change)
    → c.bump ≡ major → level (w y) ≤ max (largest level_of (only (not (same x y)) c)) (level (w x))
unfolding only largest level
test_slack {same = same} S x y w c m = go (same x y) refl
  where
    go : (p : Bool) → same x y ≡ p → level (w y) ≤ max (largest level_of (only (not p) c)) (level (w x))
    go true u = omega (arith, ap (λ a. level (w a)) (S.equal x y u))
    go false u = omega (arith, bump_bound (w y), ap level m)

-- of bump Patch: whatever the tests say
slight : (b : ℕ) (xs ys : List Change) (test : Bool) (c : Change) → c.bump ≡ patch → Chained level_of b xs ys (only test c)
unfolding only largest level
slight b xs ys true c m = chained_small (omega (arith, ap level m))
slight b xs ys false c m = chained_small (omega arith)

-- ---- rules of which a removal is Major

module _ {K E : Type 0} (key : E → K) (b : ℕ) (r s t : Rules E Change) where
  links : ((e : E) → 2 ≤ largest level_of (r.gone e)) → ((f : E) → 2 ≤ largest level_of (s.gone f))
      → ((g : E) → largest level_of (t.came g) ≤ largest level_of (s.came g))
      → ((f g : E) → largest level_of (t.came g) ≤ max b (largest level_of (r.came f)))
      → ((e f g : E) → key e ≡ key f → key f ≡ key g → Chained level_of b (r.kept e f) (s.kept f g) (t.kept e g))
      → Links key level_of b r s t
  links p q u v k = record {
    gone_first = λ e c. omega (arith, p e, bump_bound c.bump);
    gone_second = λ f c. omega (arith, q f, bump_bound c.bump);
    came_last = λ g. chained (λ κ i j l. omega (arith, u g));
    came_first = λ f g h. chained (λ κ i j l. omega (arith, v f g));
    kept_both = k;
  }

-- ---- clauses that read no types

namespaces_chained : (b : ℕ) (l m n : List Name) → Chained level_of b (compare_namespaces l m) (compare_namespaces m n) (compare_namespaces l n)
unfolding compare_namespaces
namespaces_chained b l m n = test_chained name_lists b l m n _ _ _ refl refl

names_chained : (b : ℕ) (xs ys : List Change) (d : Name) (f g : Field) → Chained level_of b xs ys (compare_field_names d f g)
unfolding compare_field_names
names_chained b xs ys d f g = slight b xs ys _ _ refl

encodings_chained : (b : ℕ) (d₁ d₂ d₃ : Name) (f g h : Field)
    → Chained level_of b (compare_encodings d₁ f g) (compare_encodings d₂ g h) (compare_encodings d₃ f h)
unfolding compare_encodings
encodings_chained b d₁ d₂ d₃ f g h =
    test_chained (pairs encodings (options numbers)) b (f.encoding, f.limit) (g.encoding, g.limit)
    (h.encoding, h.limit) _ _ _ refl refl

deprecated_chained : (b : ℕ) (xs ys : List Change) (d : Name) (field : Option Name) (target : List ℕ) (m n : Marks)
    → Chained level_of b xs ys (compare_deprecated d field target m n)
unfolding compare_deprecated
deprecated_chained b xs ys d field target m n = slight b xs ys _ _ refl

variants_chained : (b : ℕ) (r s t : Rules Variant Change) → Links variant_ordinal level_of b r s t → (l m n : List Variant)
    → Chained level_of b (compare variant_ordinal ltb r (variant_map l) (variant_map m))
    (compare variant_ordinal ltb s (variant_map m) (variant_map n)) (compare variant_ordinal ltb t (variant_map l) (variant_map n))
unfolding variant_map
variants_chained b r s t h l m n =
    chain_links variant_ordinal by_number level_of b r s t h (variant_map l) (variant_map m) (variant_map n) (rising variant_ordinal by_number l)
    (rising variant_ordinal by_number n)

flags_chained : (b : ℕ) (d₁ d₂ d₃ : Name) (x y z : Decl)
    → Chained level_of b (compare_flags d₁ x y) (compare_flags d₂ y z) (compare_flags d₃ x z)
unfolding compare_flags flags_rules largest level
flags_chained b d₁ d₂ d₃ x y z =
    variants_chained b (flags_rules d₁) (flags_rules d₂) (flags_rules d₃)
    (links variant_ordinal b _ _ _ (λ e. omega arith) (λ f. omega arith) (λ g. omega arith) (λ f g. omega arith)
    (λ e f g u v. chained_small (omega arith)))
    x.variants y.variants z.variants

openness_chained : (b : ℕ) (d₁ d₂ d₃ : Name) (l m n : Marks)
    → Chained level_of b (compare_non_exhaustive d₁ l m) (compare_non_exhaustive d₂ m n) (compare_non_exhaustive d₃ l n)
unfolding compare_non_exhaustive
openness_chained b d₁ d₂ d₃ l m n = test_chained marks b l.non_exhaustive m.non_exhaustive n.non_exhaustive _ _ _ refl refl

-- where the openness changed that is Major, and where not a variant that came is as bad as before
openness_slack : (d : Name) (m n : Marks) → level (enum_bump n) ≤ max (largest level_of (compare_non_exhaustive d m n)) (level (enum_bump m))
unfolding compare_non_exhaustive enum_bump
openness_slack d m n = test_slack marks m.non_exhaustive n.non_exhaustive (λ u. cond u minor major) _ refl

enums_chained : (b : ℕ) (d₁ d₂ d₃ : Name) (x y z : Decl)
    → Chained level_of b (compare_enums d₁ x y) (compare_enums d₂ y z) (compare_enums d₃ x z)
unfolding compare_enums enum_rules variant_gone variant_came largest level
enums_chained b d₁ d₂ d₃ x y z =
    chained_lead (openness_chained b d₁ d₂ d₃ x.marks y.marks z.marks)
    (variants_chained _ (enum_rules d₁ y.marks) (enum_rules d₂ z.marks) (enum_rules d₃ z.marks)
    (links variant_ordinal _ _ _ _ (λ e. omega arith) (λ f. omega arith) (λ g. omega arith)
    (λ f g. omega (arith, openness_slack d₂ y.marks z.marks)) (λ e f g u v. chained_small (omega arith)))
    x.variants y.variants z.variants)

-- ---- the clauses, over any lawful reading

module _ {r : Reading} {odd : Odd} (lawful : Lawful r odd) (P Q R : Registry) where
  -- to the second view, from it, and past it
  abbrev to : Context
  to = context r P Q

  abbrev from : Context
  from = context r Q R

  abbrev past : Context
  past = context r P R

  types_chained : (b : ℕ) (d₁ d₂ d₃ : Name) (n₁ n₂ n₃ : Option Name) (w₁ w₂ w₃ : List ℕ) (t u v : Ty)
      → Chained level_of b (compare_types to d₁ n₁ w₁ t u) (compare_types from d₂ n₂ w₂ u v) (compare_types past d₃ n₃ w₃ t v)
  unfolding compare_types
  types_chained b d₁ d₂ d₃ n₁ n₂ n₃ w₁ w₂ w₃ t u v = test_chained lawful.types b (resolve P t) (resolve Q u) (resolve R v) _ _ _ refl refl

  fields_chained : (b : ℕ) (d₁ d₂ d₃ : Name) (f g h : Field)
      → Chained level_of b (compare_fields to d₁ f g) (compare_fields from d₂ g h) (compare_fields past d₃ f h)
  unfolding compare_fields
  fields_chained b d₁ d₂ d₃ f g h =
      chained_append (names_chained b (compare_field_names d₁ f g) (compare_field_names d₂ g h) d₃ f h)
      (chained_append (types_chained b d₁ d₂ d₃ (Some g.name) (Some h.name) (Some h.name) (field_text g) (field_text h) (field_text h)
      f.type g.type h.type)
      (chained_append (encodings_chained b d₁ d₂ d₃ f g h)
      (deprecated_chained b _ _ d₃ _ _ f.marks h.marks)))

  sets_chained : (b : ℕ) (d₁ d₂ d₃ : Name) (l m n : List Field)
      → Chained level_of b (compare_field_sets to d₁ l m) (compare_field_sets from d₂ m n) (compare_field_sets past d₃ l n)
  unfolding compare_field_sets field_rules field_map largest level
  sets_chained b d₁ d₂ d₃ l m n =
      chain_links ordinal_of by_number level_of b (field_rules to d₁) (field_rules from d₂) (field_rules past d₃)
      (links ordinal_of b _ _ _ (λ e. omega arith) (λ f. omega arith) (λ g. omega arith) (λ f g. omega arith)
      (λ f g h u v. fields_chained b d₁ d₂ d₃ f g h))
      (field_map l) (field_map m) (field_map n) (rising ordinal_of by_number l) (rising ordinal_of by_number n)

  module _ (b : ℕ) (x y z : Decl) where
    messages_chained : Chained level_of b (compare_messages to x.name x y) (compare_messages from y.name y z)
        (compare_messages past x.name x z)
    unfolding compare_messages
    messages_chained =
        chained_append (sets_chained b x.name y.name x.name x.fields y.fields z.fields)
        (deprecated_chained b _ _ x.name _ _ x.marks z.marks)

    unions_chained : Chained level_of b (compare_unions to x.name x y) (compare_unions from y.name y z)
        (compare_unions past x.name x z)
    unfolding compare_unions union_rules variant_gone variant_came largest level
    unions_chained =
        variants_chained b (union_rules to x.name) (union_rules from y.name) (union_rules past x.name)
        (links variant_ordinal b _ _ _ (λ e. omega arith) (λ f. omega arith) (λ g. omega arith) (λ f g. omega arith)
        (λ e f g u v. chained_append (sets_chained b _ _ _ e.fields f.fields g.fields) (lawful.last_in.chained b _ _ _ e f g tt tt)))
        x.variants y.variants z.variants

    newtypes_chained : Chained level_of b (compare_newtypes to x.name x y) (compare_newtypes from y.name y z)
        (compare_newtypes past x.name x z)
    unfolding compare_newtypes
    newtypes_chained = types_chained b _ _ _ _ _ _ _ _ _ x.inner y.inner z.inner

    kinds_chained : (k : Kind) → Chained level_of b (compare_kind k to x y) (compare_kind k from y z) (compare_kind k past x z)
    unfolding compare_kind largest
    kinds_chained message = messages_chained
    kinds_chained enum = enums_chained b x.name y.name x.name x y z
    kinds_chained flags = flags_chained b x.name y.name x.name x y z
    kinds_chained union = unions_chained
    kinds_chained newtype = newtypes_chained
    kinds_chained config = chained_small (omega arith)
    kinds_chained alias = chained_small (omega arith)
    kinds_chained trait = chained_small (omega arith)
    kinds_chained impl = chained_small (omega arith)
    kinds_chained other = chained_small (omega arith)

    alike_chained : x.kind ≡ y.kind → y.kind ≡ z.kind → Chained level_of b (compare_alike to x y) (compare_alike from y z) (compare_alike past x z)
    unfolding compare_alike
    alike_chained p q =
        chained_append (lawful.first.chained b x.name y.name x.name x y z p q)
        (chained_append
        (subst (λ k. Chained level_of b (compare_kind (kind_of x.kind) to x y) (compare_kind (kind_of k) from y z) (compare_kind (kind_of x.kind) past x z)) p
        (kinds_chained (kind_of x.kind)))
        (lawful.last.chained b x.name y.name x.name x y z p q))

    decls_chained : Chained level_of b (compare_decls to x y) (compare_decls from y z) (compare_decls past x z)
    unfolding compare_decls kind_changed largest level
    decls_chained = go (eqb x.kind y.kind) (eqb y.kind z.kind) refl refl
      where
        go : (p q : Bool) → eqb x.kind y.kind ≡ p → eqb y.kind z.kind ≡ q
            → Chained level_of b (cond p (compare_alike to x y) (kind_changed x y)) (cond q (compare_alike from y z) (kind_changed y z))
            (compare_decls past x z)
        go false q u v = first_major (omega arith)
        go true false u v = second_major (omega arith)
        go true true u v =
            rw (same_trans numbers x.kind y.kind z.kind u v)
            (alike_chained (eqb-true x.kind y.kind u) (eqb-true y.kind z.kind v))

-- ---- all clauses

pub changes_chained : {r : Reading} {odd : Odd} → Lawful r odd → (x y z : View) → Rising name_of before x.standing
    → Rising name_of before z.standing
    → Chained level_of 0 (changes r x y) (changes r y z) (changes r x z)
unfolding changes decl_rules largest level
changes_chained {r = r} lawful x y z p q =
    chained_append (namespaces_chained 0 x.namespace y.namespace z.namespace)
    (chain_links name_of by_name level_of 0
    (decl_rules (context r x.registry y.registry)) (decl_rules (context r y.registry z.registry))
    (decl_rules (context r x.registry z.registry))
    (links name_of 0 _ _ _ (λ e. omega arith) (λ f. omega arith) (λ g. omega arith) (λ f g. omega arith)
    (λ d e f u v. decls_chained lawful x.registry y.registry z.registry 0 d e f))
    x.standing y.standing z.standing p q)
