-- R-10: repeated tombstones count as one, and no chain of images hides a reuse. Assumes nothing.
use mathlib.Core.Path.{◌≡◌, refl, sym, ap, ◌∙◌, subst}
use mathlib.Core.Bool.{Bool, true, false, cond, ◌||◌}
use Rattle.std.specs.Prelude.{None, Some}
use mathlib.Core.List.{List, [], ◌∷◌, ◌++◌, flat_map}
use Prim.Native.Nat.{ℕ, ◌≤◌}
use native.Mathlib.Omega.{arith}
use lib.Dec.{eqb, ltb}
use borrow.Author.Tests.{eqb-true, eq-eqb}
use Rattle.maps.specs.Lists.{largest, any, among}
use Rattle.maps.specs.Orders.{same, before}
use Rattle.maps.specs.Keyed.{lookup}
use Rattle.maps.specs.Compare.{compare}
use Rattle.maps.proofs.Lists.{all, largest_append, flat_map_same}
use Rattle.maps.proofs.Names.{by_name}
use Rattle.maps.proofs.Orders.{by_number, same_self, same_eq}
use Rattle.maps.proofs.Survivors.{rising}
use Rattle.maps.proofs.Alike.{same_found}
use Rattle.maps.proofs.Tests.{no_both}
use Rattle.maps.proofs.Levels.{report_at, compare_reach}
use Rattle.image.specs.Schema.{Name, Schema}
use Rattle.image.specs.Kinds.{kind_of}
use Rattle.image.specs.Codes.{number, union_kind}
use Rattle.rules.specs.Survivors.{name_of, declarations, variant_ordinal, variant_map, view_of}
use Rattle.rules.specs.Changes.{level, Change}
use Rattle.rules.specs.Clauses.{compare_namespaces, Context, context, compare_field_sets, variant_decl, union_rules, compare_unions, compare_kind, compare_alike, compare_decls, decl_rules, changes}
use Rattle.rules.specs.Verdict.{bump_of}
use Rattle.rules.specs.Answer.{verdict_by}
use Rattle.rules.specs.Distance.{Image, Verdict, distance, Steps, largest_step}
use Rattle.rules.specs.Widths.{compare_widths}
use Rattle.rules.specs.Tombstones.{rising_numbers, used_by_fields, used, reused, dropped, compare_struck, compare_last, compare_last_in}
use Rattle.rules.specs.Mended.{mended_reading, mended}
use Rattle.rules.specs.Reuse.{SameNumbers, CountAsOne, SharedDecl, SharedVariant, Reuses, in_declaration, in_variant, NoneHidden, NoReuseHidden}
use Rattle.rules.proofs.Readings.{level_of}
use Rattle.rules.proofs.Chain.{largest_two}
use Rattle.rules.proofs.Answer.{schema_of, changes_of}
use Rattle.rules.proofs.Standing.{view_rises}
use Rattle.rules.proofs.Distance.{distance_is, reach}
use Rattle.rules.proofs.Tombstones.{struck_off, reuse_breaks}
use Rattle.rules.proofs.MendedRefusals.{mended_numbered}
use Rattle.rules.proofs.Mended.{mended_lawful}

-- ---- repeated tombstones count as one

among_lookup : (n : ℕ) (l : List ℕ) → lookup (λ m. m) ltb n l ≡ cond (among n l) (Some n) None
unfolding lookup among any
among_lookup n [] = refl
among_lookup n (m ∷ l) = go (same ltb n m) (eqb n m) refl refl (among_lookup n l)
  where
    go : (a b : Bool) → same ltb n m ≡ a → eqb n m ≡ b → lookup (λ k. k) ltb n l ≡ cond (among n l) (Some n) None
        → cond a (Some m) (lookup (λ k. k) ltb n l) ≡ cond (b || among n l) (Some n) None
    go true true p q ih = ap (λ k. Some k) (sym (eqb-true n m q))
    go true false p q ih = no_both (eq-eqb n m (same_eq by_number n m p)) q
    go false true p q ih = no_both (subst (λ k. same ltb n k ≡ true) (eqb-true n m q) (same_self by_number n)) p
    go false false p q ih = ih

rising_same : (s s' : List ℕ) → SameNumbers s s' → rising_numbers s ≡ rising_numbers s'
unfolding rising_numbers
rising_same s s' h =
    same_found (λ n. n) by_number (rising_numbers s) (rising_numbers s') (rising (λ n. n) by_number s) (rising (λ n. n) by_number s')
    (λ n.
    among_lookup n (rising_numbers s)
    ∙ ap (λ b. cond b (Some n) None) (struck_off.listed n s ∙ h n ∙ sym (struck_off.listed n s'))
    ∙ sym (among_lookup n (rising_numbers s')))

reused_same : (d : Name) (u u' : List ℕ) → SameNumbers u u' → (n : ℕ) → reused d u n ≡ reused d u' n
unfolding reused
reused_same d u u' h n = rw (h n) refl

dropped_same : (d : Name) (u t u' t' : List ℕ) → SameNumbers u u' → SameNumbers t t' → (n : ℕ) → dropped d u t n ≡ dropped d u' t' n
unfolding dropped
dropped_same d u t u' t' h k n = rw (h n, k n) refl

count_as_one : CountAsOne
unfolding compare_struck
count_as_one d s u t s' u' t' h i j =
    rw (rising_same s s' h, flat_map_same (reused d u) (reused d u') (rising_numbers s') (all (reused_same d u u' i) (rising_numbers s')))
    (ap (λ l. flat_map (reused d u') (rising_numbers s') ++ l)
    (flat_map_same (dropped d u t) (dropped d u' t') (rising_numbers s') (all (dropped_same d u t u' t' i j) (rising_numbers s'))))

-- ---- what is reported of two schemas of which the second uses what the first strikes off

module _ (x y : Schema) where
  abbrev between : Context
  between = context mended_reading x.registry y.registry

  abbrev all_changes : List Change
  all_changes = changes mended_reading (view_of x) (view_of y)

  -- of two that are shared, it is part of all that is reported
  shared_reach : (d : SharedDecl x y) → largest level_of (compare_alike between d.old d.new) ≤ bump_of all_changes
  unfolding bump_of changes view_of decl_rules compare_decls report_at
  shared_reach d =
      let q = compare_reach name_of by_name level_of (decl_rules between) (declarations x) (declarations y) d.name in
      let n = compare_namespaces x.namespace y.namespace in
      omega (
        arith,
        largest_append level_of n (compare name_of before (decl_rules between) (declarations x) (declarations y)),
        rw (d.in_old, d.in_new, eq-eqb d.old.kind d.new.kind d.kind) at q,
      )

  declaration_reach : (d : SharedDecl x y) → largest level_of (compare_last d.old d.new) ≤ bump_of all_changes
  unfolding compare_alike
  declaration_reach d =
      let b = compare_kind (kind_of d.old.kind) between d.old d.new in
      omega (
        arith,
        shared_reach d,
        largest_append level_of (compare_widths d.old d.new) (b ++ compare_last d.old d.new),
        largest_append level_of b (compare_last d.old d.new),
      )

  union_reach : (d : SharedDecl x y) → d.old.kind ≡ number union_kind → largest level_of (compare_unions between d.old.name d.old d.new) ≤ bump_of all_changes
  unfolding compare_alike kind_of compare_kind
  union_reach d k =
      let b = compare_kind (kind_of d.old.kind) between d.old d.new in
      omega (
        arith,
        shared_reach d,
        largest_append level_of (compare_widths d.old d.new) (b ++ compare_last d.old d.new),
        largest_append level_of b (compare_last d.old d.new),
        ap (λ n. largest level_of (compare_kind (kind_of n) between d.old d.new)) k,
      )

  variant_reach : (d : SharedDecl x y) (v : SharedVariant d.old d.new)
      → largest level_of (compare_last_in (variant_decl d.old.name v.old) v.old v.new) ≤ bump_of all_changes
  unfolding compare_unions union_rules report_at
  variant_reach d v =
      let q = compare_reach variant_ordinal by_number level_of (union_rules between d.old.name) (variant_map d.old.variants) (variant_map d.new.variants) v.ordinal in
      let f = compare_field_sets between (variant_decl d.old.name v.old) v.old.fields v.new.fields in
      omega (
        arith,
        union_reach d v.kind,
        rw (v.in_old, v.in_new) at q,
        largest_append level_of f (compare_last_in (variant_decl d.old.name v.old) v.old v.new),
      )

  reuse_major : Reuses x y → 2 ≤ bump_of all_changes
  unfolding compare_last compare_last_in level bump_of
  reuse_major (in_declaration d r) =
      omega (arith, declaration_reach d, reuse_breaks d.old.name d.old.tombstones (used d.new) d.new.tombstones r.number r.is_struck r.is_used)
  reuse_major (in_variant d v r) =
      omega (
        arith,
        variant_reach d v,
        reuse_breaks (variant_decl d.old.name v.old) v.old.tombstones (used_by_fields v.new.fields) v.new.tombstones r.number r.is_struck r.is_used,
      )

-- ---- a chain of images

-- no step is further than 2
step_two : (a b : Image) → Verdict (verdict_by mended) a b → distance (verdict_by mended) a b ≤ 2
unfolding bump_of
step_two a b v = omega (arith, distance_is mended mended_numbered view_rises mended_lawful a b v, largest_two (changes_of mended a b))

steps_two : (a : Image) (l : List Image) → Steps (verdict_by mended) a l → largest_step (verdict_by mended) a l ≤ 2
unfolding Steps largest_step
steps_two a [] s = omega arith
steps_two a (b ∷ l) s = omega (arith, step_two a b s.0, steps_two b l s.1)

none_hidden : NoneHidden
unfolding changes_of schema_of
none_hidden first second rest s a =
    let r = reach mended mended_numbered view_rises mended_lawful first second rest s in
    omega (arith, steps_two first (second ∷ rest) s, reuse_major a.old_schema a.new_schema a.holds, rw (a.old_read, a.new_read) at r)

pub no_reuse_hidden : NoReuseHidden
no_reuse_hidden = record { repeats = count_as_one; chains = none_hidden }
