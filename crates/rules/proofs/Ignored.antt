-- R-6 and R-10: the earlier verdicts ignore the format, widths and tombstones. Assumes nothing.
use mathlib.Core.Path.{◌≡◌, refl, sym, ap, ap₂, ◌∙◌}
use mathlib.Core.List.{List, [], ◌∷◌, ◌++◌, map, flat_map}
use Rattle.std.specs.Prelude.{Option}
use Prim.Native.Nat.{ℕ}
use lib.Dec.{ltb}
use lib.ListN.{length}
use Rattle.std.proofs.lemmas.List.{length-map}
use Rattle.maps.specs.Compare.{Rules, compare}
use Rattle.maps.specs.Orders.{before}
use Rattle.maps.proofs.Mapped.{survivors_map, compare_map, compare_rules}
use Rattle.image.specs.Schema.{Name, Ty, Field, Variant, Decl, Schema}
use Rattle.image.specs.Kinds.{Kind, kind_of, message, enum, flags, union, newtype, config, alias, trait, impl, other}
use Rattle.image.specs.Parse.{Parsed, ok, no}
use Rattle.image.specs.Image.{read_image}
use Rattle.rules.specs.Survivors.{Registry, name_of, ordinal_of, field_map, variant_ordinal, variant_map, declarations, View, view_of}
use Rattle.rules.specs.Clauses.{Reading, Context, context, compare_types, compare_fields, field_rules, compare_field_sets, compare_messages, variant_text, variant_gone, variant_came, enum_rules, compare_non_exhaustive, compare_enums, bit_text, flags_rules, compare_flags, variant_decl, union_rules, compare_unions, compare_newtypes, compare_kind, kind_changed, compare_alike, compare_decls, decl_text, decl_rules, changes, field_types, variant_types, types_of}
use Rattle.rules.specs.Changes.{Change}
use Rattle.rules.specs.Answer.{Policy, judged, on_side, first_fault, alias_check, usual, plain_reading, compare_pair, accept_new, accept_old, outcome}
use Rattle.rules.specs.Reached.{named_of, named_from, first_set, reached_set}
use Rattle.rules.specs.Imports.{standing_with, view_with, imports_view}
use Rattle.rules.specs.Ignored.{stripped_variant, stripped, stripped_schema, SameStripped, Ignores, EarlierIgnore}
use Rattle.rules.proofs.Forgotten.{Keeps, registry_left, view_left, standing_forgotten, resolve_forgotten, alias_forgotten, named_from_forgotten, marks_forgotten, rounds_forgotten}

-- ---- what is left of a declaration

flat_map_map : {A B C : Type 0} (g : A → B) (f : B → List C) (l : List A) → flat_map f (map g l) ≡ flat_map (λ a. f (g a)) l
unfolding flat_map
flat_map_map g f [] = refl
flat_map_map g f (a ∷ l) = ap (λ x. f (g a) ++ x) (flat_map_map g f l)

-- variants survive as they did
variants_kept : (vs : List Variant) → variant_map (map stripped_variant vs) ≡ map stripped_variant (variant_map vs)
unfolding variant_map stripped_variant
variants_kept vs = survivors_map variant_ordinal ltb stripped_variant (λ v. refl) vs

types_kept : (k : Kind) (d : Decl) → types_of k (stripped d) ≡ types_of k d
unfolding types_of variant_types stripped stripped_variant
types_kept message d = refl
types_kept enum d = refl
types_kept flags d = refl
types_kept union d = rw (variants_kept d.variants) (flat_map_map stripped_variant (λ v. field_types v.fields) (variant_map d.variants))
types_kept newtype d = refl
types_kept config d = refl
types_kept alias d = refl
types_kept trait d = refl
types_kept impl d = refl
types_kept other d = refl

named_kept : (d : Decl) → named_of (stripped d) ≡ named_of d
unfolding named_of stripped
named_kept d = rw (types_kept (kind_of d.kind) d)

pub kept : Keeps stripped
unfolding stripped
kept = record { kind = λ d. refl; name = λ d. refl; named = named_kept }

-- ---- the clauses

-- what a reading reports besides them does not rest on widths or tombstones
pub record Skips (reading : Reading) : Type 0 where
  pub first : (d e : Decl) → reading.first (stripped d) (stripped e) ≡ reading.first d e
  pub last : (d e : Decl) → reading.last (stripped d) (stripped e) ≡ reading.last d e
  pub last_in : (n : Name) (v w : Variant) → reading.last_in n (stripped_variant v) (stripped_variant w) ≡ reading.last_in n v w

module _ (reading : Reading) (R S : Registry) where
  -- without widths and tombstones, and with them
  abbrev without : Context
  without = context reading (registry_left stripped R) (registry_left stripped S)

  abbrev with : Context
  with = context reading R S

  types_ignore : (n : Name) (field : Option Name) (what : List ℕ) (t u : Ty)
      → compare_types without n field what t u ≡ compare_types with n field what t u
  unfolding compare_types
  types_ignore n field what t u = rw (resolve_forgotten kept R t, resolve_forgotten kept S u)

  fields_ignore : (n : Name) (f g : Field) → compare_fields without n f g ≡ compare_fields with n f g
  unfolding compare_fields
  fields_ignore n f g = rw (types_ignore n _ _ f.type g.type)

  sets_ignore : (n : Name) (l m : List Field) → compare_field_sets without n l m ≡ compare_field_sets with n l m
  unfolding compare_field_sets field_rules
  sets_ignore n l m =
      compare_rules ordinal_of ltb (field_rules without n) (field_rules with n) (λ f. refl) (λ f. refl) (fields_ignore n) (field_map l) (field_map m)

  -- variants of which what is kept is told the same
  variants_ignore : (r s : Rules Variant Change) → ((v : Variant) → r.gone (stripped_variant v) ≡ s.gone v) → ((v : Variant) → r.came (stripped_variant v) ≡ s.came v)
      → ((v w : Variant) → r.kept (stripped_variant v) (stripped_variant w) ≡ s.kept v w) → (l m : List Variant)
      → compare variant_ordinal ltb r (variant_map (map stripped_variant l)) (variant_map (map stripped_variant m))
      ≡ compare variant_ordinal ltb s (variant_map l) (variant_map m)
  unfolding stripped_variant
  variants_ignore r s gone came kept l m =
      rw (variants_kept l, variants_kept m)
      (compare_map variant_ordinal ltb stripped_variant (λ v. refl) r s gone came kept (variant_map l) (variant_map m))

  enums_ignore : (n : Name) (d e : Decl) → compare_enums n (stripped d) (stripped e) ≡ compare_enums n d e
  unfolding compare_enums enum_rules variant_gone variant_came variant_text stripped stripped_variant
  enums_ignore n d e =
      ap (λ cs. compare_non_exhaustive n d.marks e.marks ++ cs)
      (variants_ignore (enum_rules n e.marks) (enum_rules n e.marks) (λ v. refl) (λ v. refl) (λ v w. refl) d.variants e.variants)

  flags_ignore : (n : Name) (d e : Decl) → compare_flags n (stripped d) (stripped e) ≡ compare_flags n d e
  unfolding compare_flags flags_rules bit_text stripped stripped_variant
  flags_ignore n d e = variants_ignore (flags_rules n) (flags_rules n) (λ v. refl) (λ v. refl) (λ v w. refl) d.variants e.variants

  module _ (h : Skips reading) where
    unions_ignore : (n : Name) (d e : Decl) → compare_unions without n (stripped d) (stripped e) ≡ compare_unions with n d e
    unfolding compare_unions union_rules variant_decl variant_gone variant_came variant_text stripped stripped_variant
    unions_ignore n d e =
        variants_ignore (union_rules without n) (union_rules with n) (λ v. refl) (λ v. refl)
        (λ v w. ap₂ ◌++◌ (sets_ignore _ v.fields w.fields) (h.last_in _ v w)) d.variants e.variants

    kinds_ignore : (k : Kind) (d e : Decl) → compare_kind k without (stripped d) (stripped e) ≡ compare_kind k with d e
    unfolding compare_kind compare_messages compare_newtypes stripped
    kinds_ignore message d e = rw (sets_ignore d.name d.fields e.fields)
    kinds_ignore enum d e = enums_ignore d.name d e
    kinds_ignore flags d e = flags_ignore d.name d e
    kinds_ignore union d e = unions_ignore d.name d e
    kinds_ignore newtype d e = types_ignore d.name _ _ d.inner e.inner
    kinds_ignore config d e = refl
    kinds_ignore alias d e = refl
    kinds_ignore trait d e = refl
    kinds_ignore impl d e = refl
    kinds_ignore other d e = refl

    decls_ignore : (d e : Decl) → compare_decls without (stripped d) (stripped e) ≡ compare_decls with d e
    unfolding compare_decls compare_alike kind_changed stripped
    decls_ignore d e = rw (h.first d e, h.last d e, kinds_ignore (kind_of d.kind) d e)

    all_ignore : (m n : List Decl)
        → compare name_of before (decl_rules without) (map stripped m) (map stripped n) ≡ compare name_of before (decl_rules with) m n
    unfolding decl_rules decl_text stripped
    all_ignore m n = compare_map name_of before stripped kept.name (decl_rules without) (decl_rules with) (λ d. refl) (λ d. refl) decls_ignore m n

pub changes_ignore : (reading : Reading) → Skips reading → (v w : View)
    → changes reading (view_left stripped v) (view_left stripped w) ≡ changes reading v w
unfolding changes
changes_ignore reading h v w = rw (all_ignore reading v.registry w.registry h v.standing w.standing)

-- ---- a verdict whose one check is 11

module _ (view : Schema → View) (views : (s : Schema) → view (stripped_schema s) ≡ view_left stripped (view s)) (reading : Reading) (h : Skips reading) where
  abbrev policy : Policy
  policy = usual view reading

  pair_ignores : (x y : Schema) → compare_pair policy (stripped_schema x) (stripped_schema y) ≡ compare_pair policy x y
  unfolding compare_pair first_fault alias_check
  pair_ignores x y =
      rw (views x, views y, alias_forgotten kept (view x) (view y), changes_ignore reading h (view x) (view y))

  -- of schemas that are the same without them, on the old side and on the new
  pair_same : (x x′ y y′ : Schema) → stripped_schema x ≡ stripped_schema x′ → stripped_schema y ≡ stripped_schema y′
      → compare_pair policy x y ≡ compare_pair policy x′ y′
  pair_same x x′ y y′ p q = sym (pair_ignores x y) ∙ (cc (p, q) ∙ pair_ignores x′ y′)

  ignores_old : (a b : List ℕ) → SameStripped a b → (c : List ℕ) → outcome policy a c ≡ outcome policy b c
  unfolding outcome accept_old accept_new judged on_side
  ignores_old a b s c = rw (s.old_read, s.new_read) (go (read_image c))
    where
      go : (r : Parsed Schema) → accept_new policy s.old_schema r ≡ accept_new policy s.new_schema r
      go (ok z n) = pair_same s.old_schema s.new_schema z z s.holds refl
      go (no k) = refl

  ignores_new : (a b : List ℕ) → SameStripped a b → (c : List ℕ) → outcome policy c a ≡ outcome policy c b
  unfolding outcome accept_old accept_new judged on_side
  ignores_new a b s c = rw (s.old_read, s.new_read) (go (read_image c))
    where
      go : (r : Parsed Schema) → accept_old policy r (ok s.old_schema s.old_end) ≡ accept_old policy r (ok s.new_schema s.new_end)
      go (ok z n) = pair_same z z s.old_schema s.new_schema refl s.holds
      go (no k) = refl

  pub ignores : Ignores (outcome policy)
  ignores = record { old = ignores_old; new = ignores_new }

-- ---- the verdict of document 01, and that with imports

plain_skips : Skips plain_reading
plain_skips = record { first = λ d e. refl; last = λ d e. refl; last_in = λ n v w. refl }

standing_view : (s : Schema) → view_of (stripped_schema s) ≡ view_left stripped (view_of s)
unfolding view_of declarations stripped_schema
standing_view s = rw (standing_forgotten kept s.registry s.ids)

reached_same : (s : Schema) → reached_set (stripped_schema s) ≡ reached_set s
unfolding reached_set first_set stripped_schema
reached_same s =
    rw (length-map s.registry, ap named_from (standing_view s), named_from_forgotten kept (view_of s), marks_forgotten kept s.registry _ (named_from (view_of s)))
    (rounds_forgotten kept s.registry (length s.registry) _)

imports_view_lem : (s : Schema) → imports_view (stripped_schema s) ≡ view_left stripped (imports_view s)
unfolding imports_view view_with standing_with stripped_schema
imports_view_lem s = rw (reached_same s, standing_forgotten kept s.registry _)

pub earlier_ignore : EarlierIgnore
earlier_ignore = record {
  plain = ignores view_of standing_view plain_reading plain_skips;
  imports = ignores imports_view imports_view_lem plain_reading plain_skips;
}
