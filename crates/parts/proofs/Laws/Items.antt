-- Items at places of the image: ordinal and name, and what each shape has after them. Assumes nothing.
use mathlib.Core.Path.{◌≡◌, refl, sym, ap, ap₂, ◌∙◌}
use mathlib.Core.Bool.{true, false≢true}
use Rattle.std.specs.Prelude.{None}
use mathlib.Core.List.{List, []}
use Prim.Native.Nat.{ℕ, ◌+◌, ◌-◌, ◌≤◌, ◌<◌}
use native.Mathlib.Omega.{arith}
use lib.ListN.{length, get_or, drop}
use Rattle.image.specs.Schema.{Name, no_type, Field, Variant}
use Rattle.image.specs.Parse.{Parsed, ok, bind, little_endian, number_at, many, counted}
use Rattle.image.specs.Names.{name_at}
use Rattle.image.specs.Types.{type_of, type_at}
use Rattle.image.specs.Tombstones.{tombstones_at}
use Rattle.image.specs.Image.{format}
use Rattle.image.specs.Fields.{marks_of, marks_at, plain, encoding_at, limit_at, field_at, bare_at, variant_at}
use Rattle.image.specs.WellFormed.{Good, value_or, end_of}
use Rattle.image.proofs.Laws.Good.{good_first, within_good, within_value, within_end, many_first, many_rest}
use Rattle.parts.specs.Promise.{no_field, no_variant, NameHere, name_in, name_end, TypeHere, tree_in, type_end, ItemOf, item_at, ItemHere, item_end, ItemsHere, ItemsListed, items_end, places_from, items_at, bare_in, ordinal_in, is_named, item_name, number_in, Closed, tombstones_in, tombstones_end, variant_tombstones, variant_in, variant_items, field_in, marks_place, encoding_place, limit_place, type_place}
use Rattle.parts.specs.declared.Run.{Run}
use Rattle.parts.specs.declared.Shape.{Shape}
use Rattle.parts.specs.declared.Shape.TheVariants as shape
use Rattle.parts.proofs.Laws.Steps.{good_is, then_is, then_good, number_is, number_there, marks_is, name_is}
use Rattle.parts.proofs.Laws.Places.{many_places, many_turn, many_done}

-- a type at a place
module _ (s : List ℕ) (at : ℕ) (g : Good (type_at s at)) where
  pub type_here : TypeHere 32 s at
  unfolding type_at
  type_here = record { few = omega arith; good = within_good no_type (type_of 32) s at g }

  pub type_at_is : type_at s at ≡ ok (tree_in s at) (type_end s at)
  unfolding type_at tree_in type_end
  type_at_is = good_is no_type (type_at s at) g ∙ ap₂ ok (within_value no_type (type_of 32) s at) (within_end no_type (type_of 32) s at g)

-- an ordinal and a name, and what follows them
module _ {A : Type 0} (s : List ℕ) (at : ℕ) (f : ℕ → Name → ℕ → Parsed A) where
  keyed : Parsed A
  keyed = bind (number_at 4 s at) (λ o n. bind (name_at 8 s n) (λ x m. f o x m))

  module _ (g : Good keyed) where
    key_inside : at + 4 ≤ length s
    unfolding keyed
    key_inside = (number_is s at 4 (good_first 0 (number_at 4 s at) _ g)).1

    key_name : NameHere s (at + 4)
    unfolding keyed NameHere
    key_name = good_first [] (name_at 8 s (at + 4)) _ (then_good _ (number_is s at 4 (good_first 0 (number_at 4 s at) _ g)).0 g)

    key_is : keyed ≡ f (little_endian 4 (drop at s)) (name_in s (at + 4)) (name_end s (at + 4))
    unfolding keyed
    key_is = then_is _ (number_is s at 4 (good_first 0 (number_at 4 s at) _ g)).0 ∙ then_is _ (name_is s (at + 4) key_name)

-- the parts of a field
pub record FieldParts (s : List ℕ) (at : ℕ) : Type 0 where
  pub inside : at + 4 ≤ length s
  pub name : NameHere s (at + 4)
  pub marks : marks_place s at < length s
  pub encoding : Good (encoding_at s (encoding_place s at))
  pub limit : Good (limit_at s (limit_place s at))
  pub type : TypeHere 32 s (type_place s at)
  pub value : field_in s at ≡ record {
    ordinal = little_endian 4 (drop at s);
    name = name_in s (at + 4);
    marks = marks_of (get_or s (marks_place s at) 0);
    encoding = value_or (plain 0) (encoding_at s (encoding_place s at));
    limit = value_or None (limit_at s (limit_place s at));
    type = tree_in s (type_place s at);
  }
  pub end : item_end shape.Field s at ≡ type_end s (type_place s at)

after_name : List ℕ → ℕ → Name → ℕ → Parsed Field
after_name s o x n₂ =
    bind (marks_at s n₂) (λ m n₃.
    bind (encoding_at s n₃) (λ e n₄.
    bind (limit_at s n₄) (λ l n₅.
    bind (type_at s n₅) (λ t n₆.
    ok (record { ordinal = o; name = x; marks = m; encoding = e; limit = l; type = t }) n₆))))

pub field_parts_lem : (s : List ℕ) (at : ℕ) → ItemHere shape.Field s at → FieldParts s at
unfolding ItemHere item_at item_end field_in value_or end_of field_at keyed after_name marks_place encoding_place limit_place type_place
field_parts_lem s at g =
    let k = key_is s at (after_name s) g in
    let g₂ : Good (after_name s (little_endian 4 (drop at s)) (name_in s (at + 4)) (name_end s (at + 4))) = rw k at g in
    let m = marks_is s (marks_place s at) (good_first (marks_of 0) (marks_at s (marks_place s at)) _ g₂) in
    let g₃ = then_good _ m.0 g₂ in
    let e = good_first (plain 0) (encoding_at s (encoding_place s at)) _ g₃ in
    let g₄ = then_good _ (good_is (plain 0) _ e) g₃ in
    let l = good_first None (limit_at s (limit_place s at)) _ g₄ in
    let g₅ = then_good _ (good_is None _ l) g₄ in
    let t = good_first no_type (type_at s (type_place s at)) _ g₅ in
    let e₆ = k ∙ then_is _ m.0 ∙ then_is _ (good_is (plain 0) _ e) ∙ then_is _ (good_is None _ l) ∙ then_is _ (type_at_is s (type_place s at) t) in
    record {
      inside = key_inside s at (after_name s) g;
      name = key_name s at (after_name s) g;
      marks = m.1;
      encoding = e;
      limit = l;
      type = type_here s (type_place s at) t;
      value = ap (value_or no_field) e₆;
      end = ap end_of e₆;
    }

-- a count, and as many
module _ {A : Type 0} (p : List ℕ → ℕ → Parsed A) (s : List ℕ) (at : ℕ) (g : Good (counted p s at)) where
  number : (number_at 2 s at ≡ ok (little_endian 2 (drop at s)) (at + 2)) × (at + 2 ≤ length s)
  unfolding counted
  number = number_is s at 2 (good_first 0 (number_at 2 s at) _ g)

  pub count_inside : at + 2 ≤ length s
  count_inside = number.1

  pub counted_is : counted p s at ≡ many p (items_at s at).count s (items_at s at).start
  unfolding counted items_at
  counted_is = then_is _ number.0

  pub counted_good : Good (many p (items_at s at).count s (items_at s at).start)
  counted_good = rw counted_is at g

-- a bare item
pub record BareParts (s : List ℕ) (at : ℕ) : Type 0 where
  pub inside : at + 4 ≤ length s
  pub name : NameHere s (at + 4)
  pub value : bare_in s at ≡ record { ordinal = little_endian 4 (drop at s); name = name_in s (at + 4); fields = []; tombstones = [] }
  pub end : item_end shape.Bare s at ≡ name_end s (at + 4)

pub bare_parts : (s : List ℕ) (at : ℕ) → ItemHere shape.Bare s at → BareParts s at
unfolding ItemHere item_at item_end bare_in value_or end_of bare_at keyed
bare_parts s at g =
    let e = key_is s at _ g in
    record { inside = key_inside s at _ g; name = key_name s at _ g; value = ap (value_or no_variant) e; end = ap end_of e }

-- an ordinal and a name are all that it needs
bare_there : (s : List ℕ) (at : ℕ) → at + 4 ≤ length s → NameHere s (at + 4)
    → bare_at s at ≡ ok (record { ordinal = little_endian 4 (drop at s); name = name_in s (at + 4); fields = []; tombstones = [] }) (name_end s (at + 4))
unfolding bare_at
bare_there s at l n = then_is _ (number_there s at 4 l) ∙ then_is _ (name_is s (at + 4) n)

bare_good : (s : List ℕ) (at : ℕ) → at + 4 ≤ length s → NameHere s (at + 4) → Good (bare_at s at)
unfolding Good
bare_good s at l n = rw (bare_there s at l n) tt

-- a variant of a union: its fields, and after them its tombstones
pub record VariantParts (s : List ℕ) (at : ℕ) : Type 0 where
  pub inside : at + 4 ≤ length s
  pub name : NameHere s (at + 4)
  pub count : name_end s (at + 4) + 2 ≤ length s
  pub items : ItemsHere shape.Field s (variant_items s at).count (variant_items s at).start
  pub closed : Closed s (variant_tombstones s at)
  pub value : variant_in s at ≡ record {
    ordinal = little_endian 4 (drop at s);
    name = name_in s (at + 4);
    fields = value_or [] (many field_at (variant_items s at).count s (variant_items s at).start);
    tombstones = tombstones_in s (variant_tombstones s at);
  }
  pub end : item_end shape.Variant s at ≡ tombstones_end s (variant_tombstones s at)

pub variant_parts : (s : List ℕ) (at : ℕ) → ItemHere shape.Variant s at → VariantParts s at
unfolding ItemHere ItemsHere item_at item_end items_end variant_in value_or end_of variant_at keyed variant_items Closed tombstones_in tombstones_end variant_tombstones
variant_parts s at g =
    let c = name_end s (at + 4) in
    let f = format s in
    let rest = λ (o : ℕ) (x : Name) (fs : List Field) (n : ℕ). bind (tombstones_at f s n) (λ ts m. ok (record { ordinal = o; name = x; fields = fs; tombstones = ts }) m) in
    let k = key_is s at (λ o x n. bind (counted field_at s n) (λ fs m. rest o x fs m)) g in
    let g₂ = rw k at g in
    let b = good_first [] (counted field_at s c) _ g₂ in
    let e = counted_is field_at s c b ∙ good_is [] _ (counted_good field_at s c b) in
    let t = good_first [] (tombstones_at f s _) _ (then_good _ e g₂) in
    let d = k ∙ then_is _ e ∙ then_is _ (good_is [] _ t) in
    record {
      inside = key_inside s at _ g;
      name = key_name s at _ g;
      count = count_inside field_at s c b;
      items = counted_good field_at s c b;
      closed = t;
      value = ap (value_or no_variant) d;
      end = ap end_of d;
    }

-- every item starts with a number, and its key is a bare one's
module _ (s : List ℕ) (at : ℕ) where
  number_good : at + 4 ≤ length s → ItemHere shape.Number s at
  unfolding ItemHere item_at Good
  number_good l = rw (number_there s at 4 l) tt

  pub item_number : (h : Shape) → ItemHere h s at → ItemHere shape.Number s at
  item_number shape.Field g = number_good (field_parts_lem s at g).inside
  item_number shape.Bare g = number_good (bare_parts s at g).inside
  item_number shape.Variant g = number_good (variant_parts s at g).inside
  item_number shape.Number g = g

  pub number_inside : ItemHere shape.Number s at → at + 4 ≤ length s
  unfolding ItemHere item_at
  number_inside g = (number_is s at 4 g).1

  pub number_ordinal : ItemHere shape.Number s at → number_in s at ≡ ordinal_in s at
  unfolding ItemHere item_at number_in ordinal_in value_or
  number_ordinal g = ap (value_or 0) (number_is s at 4 g).0

  pub number_end : ItemHere shape.Number s at → item_end shape.Number s at ≡ at + 4
  unfolding ItemHere item_at item_end end_of
  number_end g = ap end_of (number_is s at 4 g).0

  -- of a shape that has a name
  pub item_bare : (h : Shape) → is_named h ≡ true → ItemHere h s at → ItemHere shape.Bare s at
  unfolding ItemHere item_at
  item_bare shape.Field e g = let p = field_parts_lem s at g in bare_good s at p.inside p.name
  item_bare shape.Bare e g = g
  item_bare shape.Variant e g = let p = variant_parts s at g in bare_good s at p.inside p.name
  item_bare shape.Number e g = absurd (false≢true e)

  pub bare_ordinal : ItemHere shape.Bare s at → (bare_in s at).ordinal ≡ ordinal_in s at
  unfolding ordinal_in
  bare_ordinal g = ap (λ (v : Variant). v.ordinal) (bare_parts s at g).value

  pub name_is_bare : ItemHere shape.Bare s at → item_name s at ≡ name_in s (at + 4)
  name_is_bare g = ap (λ (v : Variant). v.name) (bare_parts s at g).value

  -- the values of a field's parts, and of a variant's
  module _ (g : ItemHere shape.Field s at) where
    pub field_ordinal : (field_in s at).ordinal ≡ ordinal_in s at
    unfolding ordinal_in
    field_ordinal = ap (λ (f : Field). f.ordinal) (field_parts_lem s at g).value

    pub field_name : (field_in s at).name ≡ item_name s at
    field_name = ap (λ (f : Field). f.name) (field_parts_lem s at g).value ∙ sym (name_is_bare (item_bare shape.Field refl g))

    pub field_type : (field_in s at).type ≡ tree_in s (type_place s at)
    field_type = ap (λ (f : Field). f.type) (field_parts_lem s at g).value

    pub field_type_here : TypeHere 32 s (type_place s at)
    field_type_here = (field_parts_lem s at g).type

  module _ (g : ItemHere shape.Variant s at) where
    pub variant_ordinal_lem : (variant_in s at).ordinal ≡ ordinal_in s at
    unfolding ordinal_in
    variant_ordinal_lem = ap (λ (v : Variant). v.ordinal) (variant_parts s at g).value

    pub variant_name_lem : (variant_in s at).name ≡ item_name s at
    variant_name_lem = ap (λ (v : Variant). v.name) (variant_parts s at g).value ∙ sym (name_is_bare (item_bare shape.Variant refl g))

    pub variant_closed : Closed s (variant_tombstones s at)
    variant_closed = (variant_parts s at g).closed

    -- as the code finds their place
    module _ {r : Run} {n : ℕ} (e : r ≡ variant_items s at) (q : n ≡ items_end shape.Field s r.count r.start) where
      place_is : n ≡ variant_tombstones s at
      unfolding variant_tombstones
      place_is = rw e at q

      pub place_closed : Closed s n
      place_closed = rw place_is variant_closed

      pub place_end : {m : ℕ} → m ≡ tombstones_end s n → m ≡ item_end shape.Variant s at
      place_end u = rw place_is at u ∙ sym (variant_parts s at g).end

    pub variant_struck : (variant_in s at).tombstones ≡ tombstones_in s (variant_tombstones s at)
    variant_struck = ap (λ (v : Variant). v.tombstones) (variant_parts s at g).value

    pub variant_listed : ItemsListed shape.Field s (variant_items s at) (field_in s) (variant_in s at).fields
    unfolding ItemsHere field_in places_from item_end item_at
    variant_listed =
        let p = variant_parts s at g in
        record { here = p.items; are = ap (λ (v : Variant). v.fields) p.value ∙ many_places no_field field_at s _ _ p.items }

no_item : (h : Shape) → ItemOf h
no_item shape.Field = no_field
no_item shape.Bare = no_variant
no_item shape.Variant = no_variant
no_item shape.Number = 0

-- so many items: the first, and the rest
module _ (h : Shape) (s : List ℕ) (c at : ℕ) (l : 0 < c) (g : ItemsHere h s c at) where
  pub items_first : ItemHere h s at
  unfolding ItemHere ItemsHere
  items_first = many_first (no_item h) (item_at h (format s)) c s at l g

  pub items_rest : ItemsHere h s (c - 1) (item_end h s at)
  unfolding ItemsHere item_end
  items_rest = many_rest (no_item h) (item_at h (format s)) c s at l g

  pub items_turn : (d n : ℕ) → d + 1 ≡ c → n ≡ item_end h s at → ItemsHere h s d n × (items_end h s d n ≡ items_end h s c at)
  unfolding ItemsHere item_end items_end
  items_turn d n q e =
      let z : d ≡ c - 1 = omega arith in
      rw z (many_turn (no_item h) (item_at h (format s)) s c at n l g e)

pub items_done : (h : Shape) (s : List ℕ) (c at : ℕ) → c ≤ 0 → items_end h s c at ≡ at
unfolding items_end
items_done h s c at l = many_done (no_item h) (item_at h (format s)) s c at l

-- what the code needs
pub ruleset numbers = (number_inside, number_end)

pub ruleset bares = (bare_parts, name_is_bare)

pub ruleset variants = (variant_parts, variant_listed, place_closed, place_end)

pub ruleset runs = (items_first, items_turn, items_done)
