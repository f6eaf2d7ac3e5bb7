-- What follows the head of a declaration: a count and its items, by its kind, and its tombstones, or a newtype's type. Assumes nothing.
use mathlib.Core.Path.{◌≡◌, refl, sym, ap, ◌∙◌}
use mathlib.Core.Bool.{true, false, cond}
use Rattle.std.specs.Prelude.{None}
use mathlib.Core.List.{List, []}
use Prim.Native.Nat.{ℕ, zero, suc, ◌+◌, ◌≤◌, ◌<◌}
use native.Mathlib.Omega.{arith}
use lib.ListN.{length}
use Rattle.image.specs.Kinds.{kind_of}
use Rattle.image.specs.Codes.{number, message_kind, enum_kind, flags_kind, union_kind, newtype_kind}
use Rattle.image.specs.Schema.{unmarked, no_type, Field, Variant, Decl, decl, struck}
use Rattle.image.specs.Parse.{Parsed, ok, bind}
use Rattle.image.specs.Names.{name_at}
use Rattle.image.specs.Types.{type_at}
use Rattle.image.specs.Fields.{field_at, bare_at, variant_at}
use Rattle.image.specs.Formats.{has_widths}
use Rattle.image.specs.Image.{format}
use Rattle.image.specs.Bodies.{message_at, enum_at, flags_at, union_at, newtype_at, decl_at}
use Rattle.image.specs.WellFormed.{Good, value_or}
use Rattle.image.proofs.Laws.Good.{good_first}
use Rattle.parts.specs.Promise.{no_field, no_variant, no_decl, NameHere, name_in, name_end, TypeHere, tree_in, item_at, item_end, ItemsHere, ItemsListed, items_end, places_from, Closed, tombstones_in, shape_by, tombstones_place, items_at, bare_in, variant_in, field_in, DeclHere, decl_in, width_place, measured, stores_width, width_size, items_in, inner_place}
use Rattle.parts.specs.declared.Shape.TheVariants as shape
use Rattle.parts.specs.declared.Run.{Run}
use Rattle.parts.proofs.Laws.Steps.{then_is, then_good, name_is}
use Rattle.parts.proofs.Laws.Places.{many_places}
use Rattle.parts.proofs.Laws.Widths.{stores, stores_not, place_marked, place_plain, items_plain, items_wide}
use Rattle.parts.proofs.Laws.Decls.{kind_good, kind_value, decl_head, decl_kind}
use Rattle.parts.proofs.Laws.Counts.{Counted, closing, closed_is, closing_first, listed, listed_counted, message_listing, enum_listing, flags_listing, union_listing}
use Rattle.parts.proofs.Laws.Items.{type_here, type_at_is}

-- the items of each kind
module _ (s : List ℕ) (at : ℕ) (g : DeclHere s at) where
  -- of a kind, at the place that its listing says
  module _ {A : Type 0} (p : List ℕ → ℕ → Parsed A) (k : ℕ) (e : (decl_in s at).kind ≡ k) (list : Decl → List A) where
    counted_of : (d : List A → Decl) (n : ℕ) → ((xs : List A) (numbers : List ℕ) → list (struck (d xs) numbers) ≡ xs) → items_in s at ≡ items_at s n
        → {q : Parsed Decl} → decl_at (format s) (kind_of k) s (at + 1) ≡ closing s q → (Good q → q ≡ listed p s d n)
        → Counted p s (items_in s at) (list (decl_in s at)) (decl_in s at).tombstones
    counted_of d n l r {q} c h =
        let b = rw c at (kind_good s at g k e) in
        rw (r, kind_value s at g k e, c) (listed_counted p s d n list l (h (closing_first s q b)) b)

  message_counted : (decl_in s at).kind ≡ number message_kind → Counted field_at s (items_in s at) (decl_in s at).fields (decl_in s at).tombstones
  unfolding kind_of decl_at measured
  message_counted e =
      counted_of field_at (number message_kind) e (λ d. d.fields) _ _ (λ fs ts. refl)
      (items_plain s at (stores_not (format s) _ (ap measured e)) ∙ ap (items_at s) (place_marked s at (omega arith)))
      (closed_is message_at s (at + 1)) (message_listing (format s) s (at + 1))

  enum_counted : (decl_in s at).kind ≡ number enum_kind → Counted bare_at s (items_in s at) (decl_in s at).variants (decl_in s at).tombstones
  unfolding kind_of decl_at measured
  enum_counted e =
      counted_of bare_at (number enum_kind) e (λ d. d.variants) _ _ (λ vs ts. refl)
      (items_wide s at (stores (format s) _ (ap measured e)) ∙ ap (λ (n : ℕ). items_at s (n + cond (has_widths (format s)) 1 0)) (place_marked s at (omega arith)))
      (closed_is (enum_at (format s)) s (at + 1)) (enum_listing (format s) s (at + 1))

  flags_counted : (decl_in s at).kind ≡ number flags_kind → Counted bare_at s (items_in s at) (decl_in s at).variants (decl_in s at).tombstones
  unfolding kind_of decl_at measured
  flags_counted e =
      counted_of bare_at (number flags_kind) e (λ d. d.variants) _ _ (λ vs ts. refl)
      (items_wide s at (stores (format s) _ (ap measured e)) ∙ ap (λ (n : ℕ). items_at s (n + cond (has_widths (format s)) 1 0)) (place_plain s at (omega arith)))
      (closed_is (flags_at (format s)) s (at + 1)) (flags_listing (format s) s (at + 1))

  union_counted : (decl_in s at).kind ≡ number union_kind → Counted (variant_at (format s)) s (items_in s at) (decl_in s at).variants (decl_in s at).tombstones
  unfolding kind_of decl_at measured
  union_counted e =
      counted_of (variant_at (format s)) (number union_kind) e (λ d. d.variants) _ _ (λ vs ts. refl)
      (items_plain s at (stores_not (format s) _ (ap measured e)) ∙ ap (items_at s) (place_plain s at (omega arith)))
      (closed_is (union_at (format s)) s (at + 1)) (union_listing (format s) s (at + 1))

  items_inside : (decl_in s at).kind ≤ number union_kind → (items_in s at).start ≤ length s
  items_inside l = go (decl_in s at).kind refl l
    where
      go : (k : ℕ) → (decl_in s at).kind ≡ k → k ≤ 3 → (items_in s at).start ≤ length s
      go zero e l = (message_counted e).inside
      go (suc zero) e l = (enum_counted e).inside
      go (suc (suc zero)) e l = (flags_counted e).inside
      go (suc (suc (suc zero))) e l = (union_counted e).inside
      go (suc (suc (suc (suc k)))) e l = absurd (omega arith)

  -- where the code reads the count, after the place of the width
  module _ (l : (decl_in s at).kind ≤ number union_kind) where
    count_there : (n : ℕ) → items_at s n ≡ items_in s at → n + 2 ≤ length s
    unfolding items_at
    count_there n y =
        let x = ap (λ (r : Run). r.start) y in
        let w = items_inside l in
        omega arith

    module _ {p : ℕ} (q : p ≡ width_place s at) where
      pub items_after : stores_width (format s) (decl_in s at).kind ≡ false → (p + 2 ≤ length s) × (items_at s p ≡ items_in s at)
      items_after e =
          let y = ap (items_at s) q ∙ sym (items_plain s at e) in
          (count_there p y, y)

      pub items_after_width : stores_width (format s) (decl_in s at).kind ≡ true → (p + 1 + 2 ≤ length s) × (items_at s (p + 1) ≡ items_in s at)
      unfolding items_in width_size
      items_after_width e =
          let y : items_at s (p + 1) ≡ items_in s at = rw (q, e) in
          (count_there (p + 1) y, y)

-- the same, said of the shapes
module _ (s : List ℕ) (n : Run) {ts : List ℕ} where
  fields_are : {xs : List Field} → Counted field_at s n xs ts → ItemsListed shape.Field s n (field_in s) xs
  unfolding ItemsHere item_at item_end places_from field_in
  fields_are l = record { here = l.good; are = l.are ∙ many_places no_field field_at s _ _ l.good }

  bares_are : {xs : List Variant} → Counted bare_at s n xs ts → ItemsListed shape.Bare s n (bare_in s) xs
  unfolding ItemsHere item_at item_end places_from bare_in
  bares_are l = record { here = l.good; are = l.are ∙ many_places no_variant bare_at s _ _ l.good }

  variants_are : {xs : List Variant} → Counted (variant_at (format s)) s n xs ts → ItemsListed shape.Variant s n (variant_in s) xs
  unfolding ItemsHere item_at item_end places_from variant_in
  variants_are l = record { here = l.good; are = l.are ∙ many_places no_variant (variant_at (format s)) s _ _ l.good }

module _ (s : List ℕ) (at : ℕ) (g : DeclHere s at) where
  pub message_listed : (decl_in s at).kind ≡ number message_kind → ItemsListed shape.Field s (items_in s at) (field_in s) (decl_in s at).fields
  message_listed e = fields_are s (items_in s at) (message_counted s at g e)

  pub enum_listed : (decl_in s at).kind ≡ number enum_kind → ItemsListed shape.Bare s (items_in s at) (bare_in s) (decl_in s at).variants
  enum_listed e = bares_are s (items_in s at) (enum_counted s at g e)

  pub flags_listed : (decl_in s at).kind ≡ number flags_kind → ItemsListed shape.Bare s (items_in s at) (bare_in s) (decl_in s at).variants
  flags_listed e = bares_are s (items_in s at) (flags_counted s at g e)

  pub union_listed : (decl_in s at).kind ≡ number union_kind → ItemsListed shape.Variant s (items_in s at) (variant_in s) (decl_in s at).variants
  union_listed e = variants_are s (items_in s at) (union_counted s at g e)

  -- the tombstones after its items
  after_items : (k : ℕ) → (decl_in s at).kind ≡ k → k ≤ number union_kind
      → Closed s (tombstones_place s at) × ((decl_in s at).tombstones ≡ tombstones_in s (tombstones_place s at))
  unfolding tombstones_place items_end item_at shape_by kind_of
  after_items zero e l = let c = message_counted s at g e in rw e (c.closed, c.struck)
  after_items (suc zero) e l = let c = enum_counted s at g e in rw e (c.closed, c.struck)
  after_items (suc (suc zero)) e l = let c = flags_counted s at g e in rw e (c.closed, c.struck)
  after_items (suc (suc (suc zero))) e l = let c = union_counted s at g e in rw e (c.closed, c.struck)
  after_items (suc (suc (suc (suc k)))) e l = absurd (omega arith)

  module _ (l : (decl_in s at).kind ≤ number union_kind) where
    pub decl_closed : Closed s (tombstones_place s at)
    decl_closed = (after_items (decl_in s at).kind refl l).0

    pub decl_struck : (decl_in s at).tombstones ≡ tombstones_in s (tombstones_place s at)
    decl_struck = (after_items (decl_in s at).kind refl l).1

  pub decl_unclosed : (number union_kind) < (decl_in s at).kind → (decl_in s at).tombstones ≡ []
  decl_unclosed l = (decl_head s at g).unclosed (omega (arith, decl_kind s at g))

  -- a newtype's type
  module _ (e : (decl_in s at).kind ≡ number newtype_kind) where
    newtype_parts : (Good (type_at s (inner_place s at))) × (newtype_at s (at + 1) ≡ bind (type_at s (inner_place s at)) (λ t n. ok (decl (number newtype_kind) (name_in s (at + 1)) unmarked None [] [] t) n))
    unfolding kind_of decl_at newtype_at NameHere inner_place
    newtype_parts =
        let b = kind_good s at g (number newtype_kind) e in
        let n = name_is s (at + 1) (good_first [] (name_at 8 s (at + 1)) _ b) in
        (good_first no_type (type_at s (name_end s (at + 1))) _ (then_good _ n b), then_is _ n)

    pub inner_here : TypeHere 32 s (inner_place s at)
    inner_here = type_here s (inner_place s at) newtype_parts.0

    pub inner_tree : (decl_in s at).inner ≡ tree_in s (inner_place s at)
    unfolding kind_of decl_at value_or
    inner_tree =
        ap (λ (d : Decl). d.inner) (kind_value s at g (number newtype_kind) e)
        ∙ ap (λ (q : Parsed Decl). (value_or no_decl q).inner) (newtype_parts.1 ∙ then_is _ (type_at_is s (inner_place s at) newtype_parts.0))

-- what the code needs
pub ruleset counts = (items_after, items_after_width)
