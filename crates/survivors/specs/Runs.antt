-- The items of a declaration or of a variant, or its tombstones, as the values that the rules speak of, and the items that hold them. Assumes nothing.
use Rattle.std.specs.Prelude.{◌≡◌, List, map, ℕ}
use Rattle.parts.specs.Promise.{ItemOf, places_from, field_in, bare_in, variant_in, number_in}
use Rattle.parts.specs.declared.Shape.{Shape}
use Rattle.parts.specs.declared.Shape.TheVariants as shape
use Rattle.members.specs.declared.handles.Items.{Items}
use Rattle.members.specs.declared.handles.Item.{Item}
use Rattle.rules.specs.Survivors.{ordinal_of, field_map, variant_ordinal, variant_map}
use Rattle.rules.specs.Tombstones.{rising_numbers}

-- the item at a place
abbrev pub item_in : (h : Shape) → List ℕ → ℕ → ItemOf h
item_in shape.Field = field_in
item_in shape.Bare = bare_in
item_in shape.Variant = variant_in
item_in shape.Number = number_in

abbrev pub item_ordinal : (h : Shape) → ItemOf h → ℕ
item_ordinal shape.Field = ordinal_of
item_ordinal shape.Bare = variant_ordinal
item_ordinal shape.Variant = variant_ordinal
item_ordinal shape.Number = λ n. n

-- the items that stand
abbrev pub item_map : (h : Shape) → List (ItemOf h) → List (ItemOf h)
item_map shape.Field = field_map
item_map shape.Bare = variant_map
item_map shape.Variant = variant_map
item_map shape.Number = rising_numbers

-- an item, read as one of a shape
abbrev pub item_of : (h : Shape) → Item → ItemOf h
item_of h i = item_in h i.image.bytes.now i.at

-- so many items, read as those of a shape
unfoldable pub items_of : (h : Shape) → Items → List (ItemOf h)
items_of h x = map (item_in h x.image.bytes.now) (places_from h x.image.bytes.now x.run.count x.run.start)

-- they are of a shape, and are these
pub record Holds (h : Shape) (x : Items) (xs : List (ItemOf h)) : Type 0 where
  pub shape : x.shape ≡ h
  pub are : xs ≡ items_of h x

-- the ordinals of those that stand
unfoldable pub ordinals_of : Items → List ℕ
ordinals_of x = map (item_ordinal x.shape) (item_map x.shape (items_of x.shape x))
