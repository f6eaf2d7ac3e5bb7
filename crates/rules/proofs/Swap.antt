-- The counts of a comparison and of the opposite one: what is removed one way is added the other way, and all else but what need not be is
-- counted alike. Over any views whose standing declarations rise by name, and any lawful reading. Assumes nothing.
use mathlib.Core.Path.{◌≡◌, refl, sym, ap, ◌∙◌}
use mathlib.Core.Bool.{Bool, true, false, cond, not}
use Rattle.std.specs.Prelude.{Option, Some, None}
use mathlib.Core.List.{List, [], ◌∷◌, ◌++◌}
use Prim.Native.Nat.{ℕ}
use native.Mathlib.Omega.{arith}
use lib.Dec.{eqb, ltb}
use borrow.Author.Tests.{eqb-true}
use Rattle.maps.specs.Lists.{total, count}
use Rattle.maps.specs.Compare.{Rules, compare}
use Rattle.maps.specs.Orders.{Strict, before}
use Rattle.maps.specs.Walk.{Rising}
use Rattle.maps.proofs.Lists.{count_append}
use Rattle.maps.proofs.Orders.{by_number}
use Rattle.maps.proofs.Names.{by_name}
use Rattle.maps.proofs.Survivors.{rising}
use Rattle.maps.proofs.Sums.{swap}
use Rattle.image.specs.Schema.{Name, Marks, Ty, Field, Variant, Decl}
use Rattle.image.specs.Kinds.{Kind, kind_of, message, enum, flags, union, newtype, config, alias, trait, impl, other}
use Rattle.rules.specs.Equal.{Sound}
use Rattle.rules.specs.Survivors.{Registry, name_of, ordinal_of, field_map, variant_ordinal, variant_map, View}
use Rattle.rules.specs.Types.{resolve}
use Rattle.rules.specs.Changes.{Change, only, kind_at, FieldDeprecated}
use Rattle.rules.specs.Clauses.{compare_namespaces, Reading, Context, context, compare_types, field_text, compare_field_names, compare_encodings, compare_deprecated, compare_fields, field_rules, compare_field_sets, compare_messages, variant_gone, variant_came, enum_rules, compare_non_exhaustive, compare_enums, flags_rules, compare_flags, union_rules, compare_unions, compare_newtypes, compare_kind, kind_changed, compare_alike, compare_decls, decl_rules, changes}
use Rattle.rules.specs.Verdict.{count_of}
use Rattle.rules.proofs.Equal.{same_sym, pairs, numbers, marks, options, names, name_lists}
use Rattle.rules.proofs.Types.{encodings}
use Rattle.rules.proofs.Mirror.{exchange, mirror, mirror_test, one_way, apart}
use Rattle.rules.proofs.Readings.{Odd, Lawful}

module _ (j : ℕ) where
  -- xs one way counts under j what ys the other way counts under its mirror
  abbrev Opposed : List Change → List Change → Type 0
  Opposed xs ys = count_of j xs ≡ count_of (mirror j) ys

  append_swap : (xs xs' ys ys' : List Change) → Opposed xs ys → Opposed xs' ys' → Opposed (xs ++ xs') (ys ++ ys')
  unfolding count_of
  append_swap xs xs' ys ys' p q =
      omega (arith, count_append (λ c. eqb c.kind j) xs xs', count_append (λ c. eqb c.kind (mirror j)) ys ys')

  nothing_swap : Opposed [] []
  unfolding count_of count total
  nothing_swap = refl

  -- a change is counted as one of the mirrored kind
  single_swap : (c d : Change) → mirror c.kind ≡ d.kind → Opposed (c ∷ []) (d ∷ [])
  unfolding count_of count total
  single_swap c d m = rw (mirror_test c.kind j, m)

  pub test_swap : {A : Type 0} {same : A → A → Bool} {odd : A → Bool} → Sound same odd → (x y : A) (c d : Change) → mirror c.kind ≡ d.kind
      → Opposed (only (not (same x y)) c) (only (not (same y x)) d)
  unfolding only count_of count total
  test_swap {same = same} S x y c d m = rw (same_sym S y x) (go (same x y))
    where
      go : (u : Bool) → Opposed (only (not u) c) (only (not u) d)
      go true = refl
      go false = single_swap c d m

  maps_swap : {K E : Type 0} {lt : K → K → Bool} (key : E → K) → Strict K lt → (r s : Rules E Change)
      → ((e : E) → Opposed (r.gone e) (s.came e)) → ((e : E) → Opposed (r.came e) (s.gone e))
      → ((e f : E) → key e ≡ key f → Opposed (r.kept e f) (s.kept f e))
      → (m n : List E) → Rising key lt m → Rising key lt n → Opposed (compare key lt r m n) (compare key lt s n m)
  unfolding count_of
  maps_swap key S r s p q k = swap S (record { gone_came = p; came_gone = q; kept_kept = k })

  -- ---- clauses that read no types

  namespaces_swap : (m n : List Name) → Opposed (compare_namespaces m n) (compare_namespaces n m)
  unfolding compare_namespaces mirror exchange
  namespaces_swap m n = test_swap name_lists m n _ _ refl

  names_swap : (d e : Name) (f g : Field) → Opposed (compare_field_names d f g) (compare_field_names e g f)
  unfolding compare_field_names mirror exchange
  names_swap d e f g = test_swap names f.name g.name _ _ refl

  encodings_swap : (d e : Name) (f g : Field) → Opposed (compare_encodings d f g) (compare_encodings e g f)
  unfolding compare_encodings mirror exchange
  encodings_swap d e f g = test_swap (pairs encodings (options numbers)) (f.encoding, f.limit) (g.encoding, g.limit) _ _ refl

  openness_swap : (d e : Name) (m n : Marks) → Opposed (compare_non_exhaustive d m n) (compare_non_exhaustive e n m)
  unfolding compare_non_exhaustive mirror exchange
  openness_swap d e m n = test_swap marks m.non_exhaustive n.non_exhaustive _ _ refl

  variants_swap : (r s : Rules Variant Change) → ((v : Variant) → Opposed (r.gone v) (s.came v))
      → ((v : Variant) → Opposed (r.came v) (s.gone v))
      → ((v w : Variant) → Opposed (r.kept v w) (s.kept w v)) → (m n : List Variant)
      → Opposed (compare variant_ordinal ltb r (variant_map m) (variant_map n)) (compare variant_ordinal ltb s (variant_map n) (variant_map m))
  unfolding variant_map
  variants_swap r s p q k m n =
      maps_swap variant_ordinal by_number r s p q (λ v w e. k v w) (variant_map m) (variant_map n) (rising variant_ordinal by_number m)
      (rising variant_ordinal by_number n)

  flags_swap : (d e : Name) (x y : Decl) → Opposed (compare_flags d x y) (compare_flags e y x)
  unfolding compare_flags flags_rules mirror exchange
  flags_swap d e x y =
      variants_swap (flags_rules d) (flags_rules e) (λ v. single_swap _ _ refl) (λ v. single_swap _ _ refl) (λ v w. nothing_swap)
      x.variants y.variants

  enums_swap : (d e : Name) (x y : Decl) → Opposed (compare_enums d x y) (compare_enums e y x)
  unfolding compare_enums enum_rules variant_gone variant_came mirror exchange
  enums_swap d e x y =
      append_swap (compare_non_exhaustive d x.marks y.marks) _ (compare_non_exhaustive e y.marks x.marks) _
      (openness_swap d e x.marks y.marks)
      (variants_swap (enum_rules d y.marks) (enum_rules e x.marks) (λ v. single_swap _ _ refl) (λ v. single_swap _ _ refl)
      (λ v w. nothing_swap) x.variants y.variants)

  -- ---- where deprecations are counted under neither

  module _ (both : one_way j ≡ false) where
    none_of : (i : ℕ) (test : Bool) (c : Change) → eqb c.kind i ≡ false → count_of i (only test c) ≡ 0
    unfolding count_of count total only
    none_of i true c h = rw h
    none_of i false c h = refl

    deprecated_swap : (d e : Name) (n o : Option Name) (t u : List ℕ) (l m : Marks)
        → Opposed (compare_deprecated d n t l m) (compare_deprecated e o u m l)
    unfolding compare_deprecated mirror exchange one_way
    deprecated_swap d e n o t u l m =
        let p : eqb (kind_at FieldDeprecated) j ≡ false = apart j (kind_at FieldDeprecated) both refl in
        none_of j _ _ p ∙ sym (none_of (mirror j) _ _ (sym (mirror_test (kind_at FieldDeprecated) j) ∙ p))

    -- ---- the clauses, over any lawful reading

    module _ {r : Reading} {odd : Odd} (lawful : Lawful r odd) (P Q : Registry) where
      -- one way and the other
      abbrev there : Context
      there = context r P Q

      abbrev back : Context
      back = context r Q P

      types_swap : (d e : Name) (n o : Option Name) (v w : List ℕ) (t u : Ty)
          → Opposed (compare_types there d n v t u) (compare_types back e o w u t)
      unfolding compare_types mirror exchange
      types_swap d e n o v w t u = test_swap lawful.types (resolve P t) (resolve Q u) _ _ refl

      fields_swap : (d e : Name) (f g : Field) → Opposed (compare_fields there d f g) (compare_fields back e g f)
      unfolding compare_fields
      fields_swap d e f g =
          append_swap (compare_field_names d f g) _ (compare_field_names e g f) _ (names_swap d e f g)
          (append_swap (compare_types there d (Some g.name) (field_text g) f.type g.type) _
          (compare_types back e (Some f.name) (field_text f) g.type f.type) _
          (types_swap d e (Some g.name) (Some f.name) (field_text g) (field_text f) f.type g.type)
          (append_swap (compare_encodings d f g) _ (compare_encodings e g f) _ (encodings_swap d e f g)
          (deprecated_swap d e _ _ _ _ f.marks g.marks)))

      sets_swap : (d e : Name) (m n : List Field) → Opposed (compare_field_sets there d m n) (compare_field_sets back e n m)
      unfolding compare_field_sets field_rules field_map mirror exchange
      sets_swap d e m n =
          maps_swap ordinal_of by_number (field_rules there d) (field_rules back e) (λ f. single_swap _ _ refl) (λ f. single_swap _ _ refl)
          (λ f g p. fields_swap d e f g)
          (field_map m) (field_map n) (rising ordinal_of by_number m) (rising ordinal_of by_number n)

      module _ (x y : Decl) where
        messages_swap : Opposed (compare_messages there x.name x y) (compare_messages back y.name y x)
        unfolding compare_messages
        messages_swap =
            append_swap (compare_field_sets there x.name x.fields y.fields) _
            (compare_field_sets back y.name y.fields x.fields) _
            (sets_swap x.name y.name x.fields y.fields) (deprecated_swap x.name y.name _ _ _ _ x.marks y.marks)

        unions_swap : Opposed (compare_unions there x.name x y) (compare_unions back y.name y x)
        unfolding compare_unions union_rules variant_gone variant_came mirror exchange
        unions_swap =
            variants_swap (union_rules there x.name) (union_rules back y.name) (λ v. single_swap _ _ refl) (λ v. single_swap _ _ refl)
            (λ v w. append_swap (compare_field_sets there _ v.fields w.fields) _ (compare_field_sets back _ w.fields v.fields) _
            (sets_swap _ _ v.fields w.fields) (lawful.last_in.swap j both _ _ v w tt)) x.variants y.variants

        kinds_swap : (k : Kind) → Opposed (compare_kind k there x y) (compare_kind k back y x)
        unfolding compare_kind compare_newtypes
        kinds_swap message = messages_swap
        kinds_swap enum = enums_swap x.name y.name x y
        kinds_swap flags = flags_swap x.name y.name x y
        kinds_swap union = unions_swap
        kinds_swap newtype = types_swap x.name y.name None None _ _ x.inner y.inner
        kinds_swap config = nothing_swap
        kinds_swap alias = nothing_swap
        kinds_swap trait = nothing_swap
        kinds_swap impl = nothing_swap
        kinds_swap other = nothing_swap

        alike_swap : x.kind ≡ y.kind → Opposed (compare_alike there x y) (compare_alike back y x)
        unfolding compare_alike
        alike_swap p =
            append_swap (r.first x y) _ (r.first y x) _ (lawful.first.swap j both x.name y.name x y p)
            (append_swap (compare_kind (kind_of x.kind) there x y) _ (compare_kind (kind_of y.kind) back y x) _
            (kinds_swap (kind_of x.kind) ∙ ap (λ k. count_of (mirror j) (compare_kind (kind_of k) back y x)) p)
            (lawful.last.swap j both x.name y.name x y p))

        decls_swap : Opposed (compare_decls there x y) (compare_decls back y x)
        unfolding compare_decls kind_changed mirror exchange
        decls_swap = rw (same_sym numbers y.kind x.kind) (go (eqb x.kind y.kind) refl)
          where
            go : (u : Bool) → eqb x.kind y.kind ≡ u
                → Opposed (cond u (compare_alike there x y) (kind_changed x y)) (cond u (compare_alike back y x) (kind_changed y x))
            go true p = alike_swap (eqb-true x.kind y.kind p)
            go false p = single_swap _ _ refl

-- ---- all clauses

pub changes_swap : {r : Reading} {odd : Odd} → Lawful r odd → (j : ℕ) → one_way j ≡ false → (x y : View)
    → Rising name_of before x.standing → Rising name_of before y.standing
    → count_of j (changes r x y) ≡ count_of (mirror j) (changes r y x)
unfolding changes decl_rules mirror exchange
changes_swap {r = r} lawful j both x y p q =
    append_swap j (compare_namespaces x.namespace y.namespace) _ (compare_namespaces y.namespace x.namespace) _
    (namespaces_swap j x.namespace y.namespace)
    (maps_swap j name_of by_name (decl_rules (context r x.registry y.registry)) (decl_rules (context r y.registry x.registry))
    (λ d. single_swap j _ _ refl) (λ d. single_swap j _ _ refl) (λ d e k. decls_swap j both lawful x.registry y.registry d e)
    x.standing y.standing p q)
