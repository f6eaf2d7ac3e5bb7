-- How long the lines of the clauses are in all: linear in the sizes of what is compared, since each entry is met once. Assumes nothing.
use mathlib.Core.Path.{◌≡◌, refl}
use mathlib.Core.Bool.{Bool, true, false, cond}
use Rattle.std.specs.Prelude.{Option, None, Some}
use mathlib.Core.List.{List, [], ◌∷◌, ◌++◌}
use Prim.Native.Nat.{ℕ, ◌+◌, ◌*◌, ◌≤◌}
use native.Mathlib.Nat.{le_trans}
use native.Mathlib.Omega.{arith}
use borrow.Author.Tests.{leb-true, le-leb}
use lib.Dec.{eqb, ltb, leb}
use lib.ListN.{length, length-append}
use Rattle.maps.specs.Lists.{total, All}
use Rattle.maps.specs.Orders.{before}
use Rattle.maps.specs.Compare.{Rules, compare}
use Rattle.maps.specs.Walk.{Rising}
use Rattle.maps.proofs.Lists.{all_map, total_append}
use Rattle.maps.proofs.Orders.{by_number}
use Rattle.maps.proofs.Names.{by_name}
use Rattle.maps.proofs.Survivors.{rising, all_survivors}
use Rattle.maps.proofs.Sums.{compare_weight}
use Rattle.image.specs.Schema.{Name, Marks, Ty, Field, Variant, Decl}
use Rattle.image.specs.Words.{bytes}
use Rattle.image.specs.Kinds.{Kind, kind_of, message, enum, flags, union, newtype, config, alias, trait, impl, other}
use Rattle.rules.specs.Survivors.{name_of, ordinal_of, field_map, variant_ordinal, variant_map, View}
use Rattle.rules.specs.Text.{joined}
use Rattle.rules.specs.Changes.{Bump, Change, change, quoted, numbered}
use Rattle.rules.specs.Clauses.{show_namespace, compare_namespaces, Reading, clauses_by, Context, context, compare_types, field_text, compare_field_names, compare_encodings, compare_deprecated, compare_fields, field_rules, compare_field_sets, compare_messages, variant_text, variant_gone, variant_came, enum_rules, compare_non_exhaustive, compare_enums, bit_text, flags_rules, compare_flags, variant_decl, union_rules, compare_unions, compare_newtypes, compare_kind, kind_changed, compare_alike, compare_decls, decl_text, decl_rules, changes}
use Rattle.rules.proofs.Sizes.{names_size, type_size, field_size, variant_size, decl_size}
use Rattle.text.proofs.Numbers.{decimal_length}
use Rattle.rules.proofs.Scales.{fine_weight, heavy, total_heavy, twice, total_twice, total_each, survivors_heavy, type_one, line_length, single_weight, only_weight}
use Rattle.rules.proofs.Texts.{kind_length, bool_length, joined_length, encoding_length, Short, type_length, quoted_length, numbered_length, from_to_length, option_length}

-- ---- clauses that show no types

namespace_length : (l : List Name) → length (show_namespace l) ≤ 2 + 2 * names_size l
unfolding show_namespace bytes
namespace_length l = omega (arith, quoted_length (joined (bytes ".") l), joined_length (bytes ".") (omega arith) l)

namespaces_weight : (m n : List Name) → total line_length (compare_namespaces m n) ≤ 100 + (2 * names_size m + 2 * names_size n)
unfolding compare_namespaces bytes option_length
namespaces_weight m n =
    le_trans (only_weight _ _) (simp from_to_length (omega (arith, namespace_length m, namespace_length n)))

names_weight : (d : Name) (f g : Field)
    → total line_length (compare_field_names d f g) ≤ 100 + (length d + (length f.name + 2 * length g.name))
unfolding compare_field_names bytes option_length
names_weight d f g =
    le_trans (only_weight _ _) (simp (length-append, from_to_length, quoted_length) (omega (arith, decimal_length g.ordinal)))

field_length : (f : Field) → length (field_text f) ≤ 30 + length f.name
unfolding field_text bytes
field_length f = omega (arith, numbered_length (bytes "field") f.name f.ordinal)

encodings_weight : (d : Name) (f g : Field)
    → total line_length (compare_encodings d f g)
    ≤ 150 + (length d + (2 * length g.name + 7 * (f.encoding.deltas + g.encoding.deltas)))
unfolding compare_encodings bytes option_length
encodings_weight d f g =
    le_trans (only_weight _ _)
    (simp (length-append, from_to_length) (omega (arith, field_length g, encoding_length f.encoding, encoding_length g.encoding)))

deprecated_weight : (d : Name) (field : Option Name) (target : List ℕ) (m n : Marks)
    → total line_length (compare_deprecated d field target m n) ≤ 100 + (length d + (option_length field + length target))
unfolding compare_deprecated bytes
deprecated_weight d field target m n = le_trans (only_weight _ _) (simp length-append (omega arith))

openness_weight : (d : Name) (m n : Marks) → total line_length (compare_non_exhaustive d m n) ≤ 100 + length d
unfolding compare_non_exhaustive bytes option_length
openness_weight d m n =
    le_trans (only_weight _ _) (simp from_to_length (omega (arith, bool_length m.non_exhaustive, bool_length n.non_exhaustive)))

-- an item that is gone or came
item_weight : (kind : ℕ) (bump : Bump) (d : Name) (what : List ℕ) (n : Name) (o : ℕ) (text : List ℕ)
    → total line_length (change kind bump d (Some n) (numbered what n o ++ text) ∷ [])
    ≤ 65 + (length d + (2 * length n + (length what + length text)))
unfolding option_length
item_weight kind bump d what n o text = le_trans (single_weight _) (simp length-append (omega (arith, numbered_length what n o)))

-- ---- variants and bits

module _ (d : Name) (h : length d ≤ 32768) where
  gone_weight : (v : Variant) → total line_length (variant_gone d v) ≤ heavy variant_size v
  unfolding variant_gone variant_text bytes heavy variant_size
  gone_weight v = le_trans (item_weight _ _ d (bytes "variant") v.name v.ordinal (bytes " was removed")) (omega arith)

  came_weight : (b : Bump) (v : Variant) → total line_length (variant_came b d v) ≤ heavy variant_size v
  unfolding variant_came variant_text bytes heavy variant_size
  came_weight b v = le_trans (item_weight _ _ d (bytes "variant") v.name v.ordinal (bytes " was added")) (omega arith)

  -- rules that keep nothing of an entry
  variants_weight : (r : Rules Variant Change) → ((v : Variant) → total line_length (r.gone v) ≤ heavy variant_size v)
      → ((v : Variant) → total line_length (r.came v) ≤ heavy variant_size v) → ((v w : Variant) → r.kept v w ≡ []) → (l m : List Variant)
      → total line_length (compare variant_ordinal ltb r (variant_map l) (variant_map m)) ≤ 200000 * (total variant_size l + total variant_size m)
  unfolding variant_map total
  variants_weight r p q k l m =
      omega (
        arith,
        compare_weight variant_ordinal by_number line_length (heavy variant_size) (heavy variant_size) (variant_map l) (variant_map m)
            (rising variant_ordinal by_number l) (rising variant_ordinal by_number m) r p q (λ v w e. rw (k v w) (omega arith)),
        survivors_heavy variant_ordinal ltb variant_size l,
        survivors_heavy variant_ordinal ltb variant_size m,
      )

  flags_weight : (x y : Decl)
      → total line_length (compare_flags d x y) ≤ 200000 * (total variant_size x.variants + total variant_size y.variants)
  unfolding compare_flags flags_rules bit_text bytes heavy variant_size
  flags_weight x y =
      variants_weight (flags_rules d)
      (λ v. le_trans (item_weight _ _ d (bytes "bit") v.name v.ordinal (bytes " was removed")) (omega arith))
      (λ v. le_trans (item_weight _ _ d (bytes "bit") v.name v.ordinal (bytes " was added")) (omega arith))
      (λ v w. refl) x.variants y.variants

  enums_weight : (x y : Decl)
      → total line_length (compare_enums d x y) ≤ 33000 + 200000 * (total variant_size x.variants + total variant_size y.variants)
  unfolding compare_enums enum_rules
  enums_weight x y =
      simp (total_append line_length)
      (omega (
        arith,
        openness_weight d x.marks y.marks,
        variants_weight (enum_rules d y.marks) gone_weight (came_weight _)
            (λ v w. refl) x.variants y.variants,
      ))

-- ---- what is reported besides

-- it is no longer than what a clause may report
pub record Light (r : Reading) : Type 0 where
  pub decls : (x y : Decl) → decl_size x ≤ 32768
      → total line_length (r.first x y) + total line_length (r.last x y) ≤ heavy decl_size x + heavy decl_size y
  pub variants : (d : Name) → length d ≤ 65538 → (v w : Variant)
      → total line_length (r.last_in d v w) ≤ heavy variant_size v + heavy variant_size w

pub clauses_light : (same : Ty → Ty → Bool) → Light (clauses_by same)
unfolding total
clauses_light same = record { decls = λ x y h. omega arith; variants = λ d h v w. omega arith }

-- ---- clauses that show types

module _ (r : Context) (light : Light r.reading) (S : Short r.old) (T : Short r.new) where
  types_weight : (d : Name) (field : Option Name) (what : List ℕ) (t u : Ty)
      → total line_length (compare_types r d field what t u)
      ≤ 100 + (length d + (option_length field + (length what + 66000 * (type_size t + type_size u))))
  unfolding compare_types bytes
  types_weight d field what t u =
      le_trans (only_weight _ _) (simp (length-append, from_to_length) (omega (arith, type_length r.old S t, type_length r.new T u)))

  fields_weight : (d : Name) → length d ≤ 65538 → (f g : Field)
      → total line_length (compare_fields r d f g) ≤ heavy field_size f + heavy field_size g
  unfolding compare_fields bytes option_length heavy field_size
  fields_weight d h f g =
      simp (total_append line_length)
      (omega (
        arith,
        names_weight d f g,
        types_weight d (Some g.name) (field_text g) f.type g.type,
        field_length g,
        encodings_weight d f g,
        deprecated_weight d (Some g.name) (bytes "field " ++ quoted g.name) f.marks g.marks,
        length-append (bytes "field ") (quoted g.name),
        quoted_length g.name,
        type_one f.type,
        type_one g.type,
      ))

  sets_weight : (d : Name) → length d ≤ 65538 → (l m : List Field)
      → total line_length (compare_field_sets r d l m) ≤ 200000 * (total field_size l + total field_size m)
  unfolding compare_field_sets field_rules field_map field_text bytes heavy field_size
  sets_weight d h l m =
      omega (
        arith,
        compare_weight ordinal_of by_number line_length (heavy field_size) (heavy field_size) (field_map l) (field_map m)
            (rising ordinal_of by_number l) (rising ordinal_of by_number m) (field_rules r d)
            (λ f. le_trans (item_weight _ _ d (bytes "field") f.name f.ordinal (bytes " was removed"))
            (omega (arith, type_one f.type)))
            (λ f. le_trans (item_weight _ _ d (bytes "field") f.name f.ordinal (bytes " was added"))
            (omega (arith, type_one f.type)))
            (λ f g e. fields_weight d h f g),
        survivors_heavy ordinal_of ltb field_size l,
        survivors_heavy ordinal_of ltb field_size m,
      )

  -- of an old declaration that an image can hold
  module _ (x y : Decl) (h : decl_size x ≤ 32768) where
    name_short : length x.name ≤ 32768
    unfolding decl_size
    name_short = omega arith

    messages_weight : total line_length (compare_messages r x.name x y) ≤ heavy decl_size x + heavy decl_size y
    unfolding compare_messages bytes option_length heavy decl_size
    messages_weight =
        simp (total_append line_length)
        (omega (
          arith,
          sets_weight x.name (omega (arith, name_short)) x.fields y.fields,
          deprecated_weight x.name None
              (bytes "declaration") x.marks y.marks,
          name_short,
          type_one x.inner,
        ))

    variants_short : All (λ v. leb (length v.name) 32768 ≡ true) (variant_map x.variants)
    unfolding variant_map decl_size variant_size
    variants_short =
        all_survivors variant_ordinal ltb _ x.variants
        (all_map {P = λ v. variant_size v ≤ total variant_size x.variants} (λ v p. le-leb (length v.name) 32768 (omega (arith, p)))
        x.variants (total_each variant_size x.variants))

    variant_short : (v : Variant) → leb (length v.name) 32768 ≡ true → length (variant_decl x.name v) ≤ 65538
    unfolding variant_decl bytes
    variant_short v p = simp length-append (omega (arith, name_short, leb-true (length v.name) 32768 p))

    variant_weight : (v w : Variant) → leb (length v.name) 32768 ≡ true
        → total line_length ((union_rules r x.name).kept v w) ≤ heavy (twice variant_size) v + heavy (twice variant_size) w
    unfolding union_rules heavy twice variant_size
    variant_weight v w p =
        simp (total_append line_length)
        (omega (
          arith,
          sets_weight (variant_decl x.name v) (variant_short v p) v.fields w.fields,
          light.variants (variant_decl x.name v) (variant_short v p) v w,
        ))

    gone_twice : (v : Variant) → total line_length (variant_gone x.name v) ≤ heavy (twice variant_size) v
    unfolding heavy twice
    gone_twice v = omega (arith, gone_weight x.name name_short v)

    came_twice : (b : Bump) (v : Variant) → total line_length (variant_came b x.name v) ≤ heavy (twice variant_size) v
    unfolding heavy twice
    came_twice b v = omega (arith, came_weight x.name name_short b v)

    unions_weight : total line_length (compare_unions r x.name x y)
        ≤ 400000 * (total variant_size x.variants + total variant_size y.variants)
    unfolding compare_unions union_rules variant_map
    unions_weight =
        omega (
          arith,
          fine_weight variant_ordinal by_number line_length (λ v. leb (length v.name) 32768) (heavy (twice variant_size))
              (heavy (twice variant_size)) (variant_map x.variants) (variant_map y.variants) (rising variant_ordinal by_number x.variants)
              (rising variant_ordinal by_number y.variants) variants_short
              (union_rules r x.name) gone_twice (came_twice _) variant_weight,
          survivors_heavy variant_ordinal ltb (twice variant_size) x.variants,
          survivors_heavy variant_ordinal ltb (twice variant_size) y.variants,
          total_twice variant_size x.variants,
          total_twice variant_size y.variants,
        )

    newtypes_weight : total line_length (compare_newtypes r x.name x y) ≤ heavy decl_size x + heavy decl_size y
    unfolding compare_newtypes bytes option_length heavy decl_size
    newtypes_weight =
        omega (
          arith,
          types_weight x.name None (bytes "newtype " ++ (quoted x.name ++ bytes " inner")) x.inner y.inner,
          length-append (bytes "newtype ") (quoted x.name ++ bytes " inner"),
          length-append (quoted x.name) (bytes " inner"),
          quoted_length x.name,
          type_one x.inner,
        )

    kinds_weight : (k : Kind) → total line_length (compare_kind k r x y) ≤ 2 * (heavy decl_size x + heavy decl_size y)
    unfolding compare_kind heavy decl_size total
    kinds_weight message = omega (arith, messages_weight)
    kinds_weight enum = omega (arith, enums_weight x.name name_short x y, type_one x.inner)
    kinds_weight flags = omega (arith, flags_weight x.name name_short x y)
    kinds_weight union = omega (arith, unions_weight)
    kinds_weight newtype = omega (arith, newtypes_weight)
    kinds_weight config = omega arith
    kinds_weight alias = omega arith
    kinds_weight trait = omega arith
    kinds_weight impl = omega arith
    kinds_weight other = omega arith

    changed_weight : total line_length (kind_changed x y) ≤ heavy decl_size x + heavy decl_size y
    unfolding kind_changed bytes option_length heavy decl_size
    changed_weight =
        le_trans (single_weight _)
        (simp (length-append, from_to_length, quoted_length)
        (omega (arith, kind_length x.kind, kind_length y.kind, name_short, type_one x.inner)))

    decls_weight : total line_length (compare_decls r x y) ≤ heavy (twice (twice decl_size)) x + heavy (twice (twice decl_size)) y
    unfolding compare_decls compare_alike heavy twice
    decls_weight = go (eqb x.kind y.kind)
      where
        go : (u : Bool) → total line_length (cond u (compare_alike r x y) (kind_changed x y))
            ≤ heavy (twice (twice decl_size)) x + heavy (twice (twice decl_size)) y
        go true = simp (total_append line_length) (omega (arith, kinds_weight (kind_of x.kind), light.decls x y h))
        go false = omega (arith, changed_weight)

-- ---- all clauses

-- of views whose declarations an image can hold
module _ (r : Reading) (light : Light r) (x y : View) (S : Short x.registry) (T : Short y.registry)
    (R : Rising name_of before x.standing) (Q : Rising name_of before y.standing)
    (h : All (λ d. decl_size d ≤ 32768) x.standing) where
  abbrev between_views : Context
  between_views = context r x.registry y.registry

  -- a declaration that is gone or came
  decl_weight : (kind : ℕ) (bump : Bump) (d : Decl) (text : List ℕ) → length text ≤ 12
      → total line_length (change kind bump d.name None (decl_text d ++ text) ∷ []) ≤ heavy (twice (twice decl_size)) d
  unfolding decl_text bytes option_length heavy twice decl_size
  decl_weight kind bump d text l =
      le_trans (single_weight _) (simp (length-append, quoted_length) (omega (arith, kind_length d.kind, type_one d.inner)))

  pub changes_weight : total line_length (changes r x y)
      ≤ 100 + (2 * names_size x.namespace + 2 * names_size y.namespace) + 800000 * (total decl_size x.standing + total decl_size
      y.standing)
  unfolding changes decl_rules bytes
  changes_weight =
      simp (total_append line_length)
      (omega (
        arith,
        namespaces_weight x.namespace y.namespace,
        fine_weight name_of by_name line_length (λ d. leb (decl_size d) 32768) (heavy (twice (twice decl_size))) (heavy (twice (twice decl_size)))
            x.standing y.standing R Q (all_map (λ d p. le-leb (decl_size d) 32768 p) x.standing h) (decl_rules between_views)
            (λ d. decl_weight _ _ d _ (omega arith)) (λ d. decl_weight _ _ d _ (omega arith))
            (λ d e p. decls_weight between_views light S T d e (leb-true (decl_size d) 32768 p)),
        total_heavy (twice (twice decl_size)) x.standing,
        total_heavy (twice (twice decl_size)) y.standing,
        total_twice (twice decl_size) x.standing,
        total_twice (twice decl_size) y.standing,
        total_twice decl_size x.standing,
        total_twice decl_size y.standing,
      ))
