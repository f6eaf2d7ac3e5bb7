-- A view against itself: Major if something compared is odd, and no change but of level Patch otherwise. Over any view whose standing
-- declarations rise by name, and any lawful reading. Assumes nothing.
use mathlib.Core.Path.{◌≡◌, refl, sym, ap, ◌∙◌}
use mathlib.Core.Bool.{Bool, true, false, cond, not, ◌&&◌, ◌||◌, or-true, or-false}
use Rattle.std.specs.Prelude.{Option, Some, None}
use mathlib.Core.List.{List, [], ◌∷◌, ◌++◌}
use Prim.Native.Nat.{ℕ, max}
use native.Mathlib.Omega.{arith}
use lib.Dec.{ltb}
use Rattle.maps.specs.Lists.{largest, any}
use Rattle.maps.specs.Compare.{Rules, compare}
use Rattle.maps.specs.Orders.{Strict, before}
use Rattle.maps.specs.Walk.{Rising}
use Rattle.maps.proofs.Lists.{all, largest_append, largest_same}
use Rattle.maps.proofs.Orders.{by_number}
use Rattle.maps.proofs.Names.{by_name}
use Rattle.maps.proofs.Survivors.{rising}
use Rattle.maps.proofs.Levels.{self_largest, self_none}
use Rattle.maps.proofs.Any.{any_same, any_never, any_or, any_flat_map, largest_any}
use Rattle.image.specs.Schema.{Name, Marks, Ty, Field, Variant, Decl}
use Rattle.image.specs.Kinds.{Kind, kind_of, message, enum, flags, union, newtype, config, alias, trait, impl, other}
use Rattle.rules.specs.Equal.{Sound, never}
use Rattle.rules.specs.Survivors.{Registry, name_of, ordinal_of, field_map, variant_ordinal, variant_map, union_variants, View}
use Rattle.rules.specs.Types.{resolve}
use Rattle.rules.specs.Changes.{level, Change, only}
use Rattle.rules.specs.Clauses.{compare_namespaces, Reading, Context, context, compare_types, field_text, compare_field_names, compare_encodings, compare_deprecated, compare_fields, field_rules, compare_field_sets, compare_messages, enum_rules, compare_non_exhaustive, compare_enums, flags_rules, compare_flags, union_rules, compare_unions, compare_newtypes, compare_kind, compare_alike, compare_decls, decl_rules, changes, field_types, variant_types, types_of, compared_types}
use Rattle.rules.proofs.Equal.{pairs, numbers, marks, options, names, name_lists}
use Rattle.rules.proofs.Types.{encodings}
use Rattle.rules.proofs.Readings.{level_of, Odd, odd_types, Lawful}

-- 2 where a test passes, and the largest of two such
abbrev pub score : Bool → ℕ
score b = cond b 2 0

pub then_score : (a b : Bool) (xs ys : List Change) → largest level_of xs ≡ score a → largest level_of ys ≡ score b
    → largest level_of (xs ++ ys) ≡ score (a || b)
then_score a b xs ys p q = largest_append level_of xs ys ∙ cc (p, q) ∙ go a b
  where
    go : (u v : Bool) → max (score u) (score v) ≡ score (u || v)
    go true true = omega arith
    go true false = omega arith
    go false v = omega arith

-- a part that reports nothing worth counting, before or after another
nothing_then : (b : Bool) (xs ys : List Change) → largest level_of xs ≡ 0 → largest level_of ys ≡ score b → largest level_of (xs ++ ys) ≡ score b
nothing_then b xs ys p q = then_score false b xs ys p q

then_nothing : (b : Bool) (xs ys : List Change) → largest level_of xs ≡ score b → largest level_of ys ≡ 0 → largest level_of (xs ++ ys) ≡ score b
then_nothing b xs ys p q = then_score b false xs ys p q ∙ ap score (or-false b)

-- a map against itself, if each of its entries scores by a test
map_self : {K E : Type 0} {lt : K → K → Bool} (key : E → K) → Strict K lt → (r : Rules E Change) (odd : E → Bool) (m : List E) → Rising key lt m
    → ((e : E) → largest level_of (r.kept e e) ≡ score (odd e)) → largest level_of (compare key lt r m m) ≡ score (any odd m)
map_self key S r odd m R h = self_largest key S m R r level_of ∙ largest_same _ _ m (all h m) ∙ largest_any odd m

-- ---- a test of a thing against itself

pub test_self : {A : Type 0} {same : A → A → Bool} {odd : A → Bool} → Sound same odd → (a : A) (c : Change)
    → largest level_of (only (not (same a a)) c) ≡ cond (odd a) (level_of c) 0
unfolding only largest
test_self {odd = odd} S a c = rw (S.self a) (go (odd a))
  where
    go : (u : Bool) → largest level_of (only (not (not u)) c) ≡ cond u (level_of c) 0
    go true = omega arith
    go false = refl

-- ---- clauses that read no types

namespaces_self : (n : List Name) → largest level_of (compare_namespaces n n) ≡ 0
unfolding compare_namespaces
namespaces_self n = test_self name_lists n _

names_self : (d : Name) (f : Field) → largest level_of (compare_field_names d f f) ≡ 0
unfolding compare_field_names
names_self d f = test_self names f.name _

encodings_self : (d : Name) (f : Field) → largest level_of (compare_encodings d f f) ≡ 0
unfolding compare_encodings
encodings_self d f = test_self (pairs encodings (options numbers)) (f.encoding, f.limit) _

deprecated_self : (d : Name) (field : Option Name) (target : List ℕ) (m : Marks)
    → largest level_of (compare_deprecated d field target m m) ≡ 0
unfolding compare_deprecated only largest
deprecated_self d field target m = go m.deprecated _
  where
    go : (u : Bool) (c : Change) → largest level_of (only (not u && u) c) ≡ 0
    go true c = refl
    go false c = refl

openness_self : (d : Name) (m : Marks) → largest level_of (compare_non_exhaustive d m m) ≡ 0
unfolding compare_non_exhaustive
openness_self d m = test_self marks m.non_exhaustive _

-- rules that keep nothing of an entry
variants_self : (r : Rules Variant Change) → ((v w : Variant) → r.kept v w ≡ []) → (vs : List Variant)
    → largest level_of (compare variant_ordinal ltb r (variant_map vs) (variant_map vs)) ≡ 0
unfolding variant_map largest
variants_self r h vs =
    self_none variant_ordinal by_number (variant_map vs) (rising variant_ordinal by_number vs) r level_of
    (all (λ v. ap (largest level_of) (h v v)) (variant_map vs))

enums_self : (d : Name) (x : Decl) → largest level_of (compare_enums d x x) ≡ 0
unfolding compare_enums enum_rules
enums_self d x =
    nothing_then false (compare_non_exhaustive d x.marks x.marks) _ (openness_self d x.marks)
    (variants_self (enum_rules d x.marks) (λ v w. refl) x.variants)

flags_self : (d : Name) (x : Decl) → largest level_of (compare_flags d x x) ≡ 0
unfolding compare_flags flags_rules
flags_self d x = variants_self (flags_rules d) (λ v w. refl) x.variants

-- ---- what is odd in a view

module _ (odd : Odd) where
  -- in variants that are compared
  unfoldable pub odd_variants : Kind → Decl → Bool
  odd_variants k d = any odd.last_in (union_variants k d)

  -- in a declaration besides its types
  unfoldable pub odd_decl : Decl → Bool
  odd_decl d = odd.first d || (odd.last d || odd_variants (kind_of d.kind) d)

  unfoldable pub odd_view : View → Bool
  odd_view v = any (λ t. odd.types (resolve v.registry t)) (compared_types v) || any odd_decl v.standing

-- if types alone are odd, that is all
pub odd_view_types : (odd : Ty → Bool) (v : View) → odd_view (odd_types odd) v ≡ any (λ t. odd (resolve v.registry t)) (compared_types v)
unfolding odd_view odd_decl odd_variants
odd_view_types odd v =
    ap (λ b. any (λ t. odd (resolve v.registry t)) (compared_types v) || b)
    (any_same _ never (λ d. any_never (union_variants (kind_of d.kind) d)) v.standing ∙ any_never v.standing)
    ∙ or-false _

-- ---- the clauses, over any lawful reading

-- in the order of the report, and types before the rest
arrange : (a t v b : Bool) → (a || ((t || v) || b)) ≡ (t || (a || (b || v)))
arrange a true v b = or-true a
arrange true false v b = refl
arrange false false true b = sym (or-true b)
arrange false false false b = sym (or-false b)

module _ {r : Reading} {odd : Odd} (lawful : Lawful r odd) (R : Registry) where
  abbrev own : Context
  own = context r R R

  odd_type : Ty → Bool
  odd_type t = odd.types (resolve R t)

  types_self : (d : Name) (field : Option Name) (what : List ℕ) (t : Ty)
      → largest level_of (compare_types own d field what t t) ≡ score (any odd_type (t ∷ []))
  unfolding compare_types odd_type level any
  types_self d field what t = test_self lawful.types (resolve R t) _ ∙ ap score (sym (or-false (odd.types (resolve R t))))

  fields_self : (d : Name) (f : Field) → largest level_of (compare_fields own d f f) ≡ score (any odd_type (f.type ∷ []))
  unfolding compare_fields
  fields_self d f =
      nothing_then _ (compare_field_names d f f) _ (names_self d f)
      (then_nothing _ (compare_types own d (Some f.name) (field_text f) f.type f.type) _
      (types_self d (Some f.name) (field_text f) f.type)
      (nothing_then false (compare_encodings d f f) _ (encodings_self d f) (deprecated_self d _ _ f.marks)))

  sets_self : (d : Name) (fs : List Field) → largest level_of (compare_field_sets own d fs fs) ≡ score (any odd_type (field_types fs))
  unfolding compare_field_sets field_rules field_types field_map
  sets_self d fs =
      map_self ordinal_of by_number (field_rules own d) (λ f. any odd_type (f.type ∷ [])) (field_map fs) (rising ordinal_of by_number fs) (fields_self d)
      ∙ ap score (sym (any_flat_map odd_type (λ f. f.type ∷ []) (field_map fs)))

  module _ (x : Decl) where
    messages_self : largest level_of (compare_messages own x.name x x) ≡ score (any odd_type (field_types x.fields))
    unfolding compare_messages
    messages_self =
        then_nothing _ (compare_field_sets own x.name x.fields x.fields) _ (sets_self x.name x.fields)
        (deprecated_self x.name _ _ x.marks)

    unions_self : largest level_of (compare_unions own x.name x x)
        ≡ score (any odd_type (variant_types x.variants) || any odd.last_in (variant_map x.variants))
    unfolding compare_unions union_rules variant_types variant_map
    unions_self =
        map_self variant_ordinal by_number (union_rules own x.name) (λ v. any odd_type (field_types v.fields) || odd.last_in v) (variant_map x.variants)
        (rising variant_ordinal by_number x.variants)
        (λ v. then_score _ (odd.last_in v) (compare_field_sets own _ v.fields v.fields) _ (sets_self _ v.fields) (lawful.last_in.self _ v))
        ∙ ap score
        (any_or _ odd.last_in (variant_map x.variants)
        ∙ ap (λ b. b || any odd.last_in (variant_map x.variants)) (sym (any_flat_map odd_type (λ v. field_types v.fields) (variant_map x.variants))))

    kinds_self : (k : Kind) → largest level_of (compare_kind k own x x) ≡ score (any odd_type (types_of k x) || odd_variants odd k x)
    unfolding compare_kind types_of compare_newtypes odd_variants union_variants any largest
    kinds_self message = messages_self ∙ ap score (sym (or-false _))
    kinds_self enum = enums_self x.name x
    kinds_self flags = flags_self x.name x
    kinds_self union = unions_self
    kinds_self newtype = types_self x.name None _ x.inner ∙ ap score (sym (or-false _))
    kinds_self config = refl
    kinds_self alias = refl
    kinds_self trait = refl
    kinds_self impl = refl
    kinds_self other = refl

    decls_self : largest level_of (compare_decls own x x) ≡ score (any odd_type (types_of (kind_of x.kind) x) || odd_decl odd x)
    unfolding compare_decls compare_alike odd_decl
    decls_self =
        rw (numbers.self x.kind)
        (then_score (odd.first x) _ (r.first x x) _ (lawful.first.self x.name x)
        (then_score _ (odd.last x) (compare_kind (kind_of x.kind) own x x) _ (kinds_self (kind_of x.kind)) (lawful.last.self x.name x))
        ∙ ap score (arrange (odd.first x) (any odd_type (types_of (kind_of x.kind) x)) (odd_variants odd (kind_of x.kind) x) (odd.last x)))

-- ---- all clauses

pub changes_self : {r : Reading} {odd : Odd} → Lawful r odd → (v : View) → Rising name_of before v.standing
    → largest level_of (changes r v v) ≡ cond (odd_view odd v) 2 0
unfolding changes decl_rules compared_types odd_type odd_view
changes_self {r = r} {odd = odd} lawful v p =
    nothing_then _ (compare_namespaces v.namespace v.namespace) _ (namespaces_self v.namespace)
    (map_self name_of by_name (decl_rules (context r v.registry v.registry))
    (λ d. any (odd_type lawful v.registry) (types_of (kind_of d.kind) d) || odd_decl odd d) v.standing p
    (decls_self lawful v.registry))
    ∙ ap score
    (any_or _ (odd_decl odd) v.standing
    ∙ ap (λ b. b || any (odd_decl odd) v.standing) (sym (any_flat_map (odd_type lawful v.registry) (λ d. types_of (kind_of d.kind) d) v.standing)))
