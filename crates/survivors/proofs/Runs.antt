-- What the searches over items say of the items that stand: for a walk over them by rising ordinal. Assumes nothing.
use mathlib.Core.Path.{◌≡◌, refl, sym, ap, ◌∙◌}
use mathlib.Core.Bool.{Bool}
use Rattle.std.specs.Prelude.{Option, None, Some}
use mathlib.Core.List.{List}
use Prim.Native.Nat.{ℕ, zero, suc, ◌<◌}
use native.Mathlib.Omega.{arith}
use native.Mathlib.Numerals.{sub-one}
use lib.Dec.{ltb}
use Rattle.maps.specs.Lists.{All}
use Rattle.maps.specs.Keyed.{survivors, lookup}
use Rattle.std.specs.Option.{option_map, is_some}
use Rattle.maps.specs.Walk.{Rising, following}
use Rattle.maps.proofs.Orders.{by_number}
use Rattle.maps.proofs.Survivors.{rising}
use Rattle.maps.proofs.Places.{Placed, lookup_placed, following_placed}
use Rattle.parts.specs.Promise.{ItemOf, ItemHere, item_end, ItemsHere, ItemsListed, places_from, ordinal_in}
use Rattle.parts.specs.declared.Shape.{Shape}
use Rattle.parts.specs.declared.Shape.TheVariants as shape
use Rattle.parts.specs.declared.Run.{Run}
use Rattle.parts.specs.declared.handles.Image.{Image}
use Rattle.parts.proofs.Promise.{places_none, places_more, items_first, items_rest, number_ordinal, bare_ordinal, field_ordinal, variant_ordinal_lem}
use Rattle.members.specs.Handles.{ItemsAt, places_of}
use Rattle.members.specs.declared.handles.Items.{Items}
use Rattle.members.specs.declared.handles.Item.{Item}
use Rattle.rules.specs.Survivors.{field_map, variant_map}
use Rattle.rules.specs.Tombstones.{rising_numbers}
use Rattle.survivors.proofs.Laws.Better.{some_map}
use Rattle.survivors.specs.Items.{place_map}
use Rattle.survivors.specs.Answers.{ordinal_at, place_of, Among, ItemAt, StandsUnder, StandsNext}
use Rattle.survivors.specs.Runs.{item_in, item_ordinal, item_map, item_of, items_of, Holds}

-- items hold what they are, and those that were found in a run what stands there
pub items_hold : (h : Shape) (x : Items) → x.shape ≡ h → Holds h x (items_of h x)
items_hold h x e = record { shape = e; are = refl }

pub listed_hold : {h : Shape} {i : Image} {n : Run} {x : Items} → ItemsAt i h n x → {xs : List (ItemOf h)} → ItemsListed h i.bytes.now n (item_in h i.bytes.now) xs
    → Holds h x xs
unfolding items_of
listed_hold a l = record { shape = a.shape; are = rw (a.image, a.run) l.are }

-- ---- items by rising ordinal

stands : (h : Shape) (xs : List (ItemOf h)) → item_map h xs ≡ survivors (item_ordinal h) ltb xs
unfolding field_map variant_map rising_numbers
stands shape.Field xs = refl
stands shape.Bare xs = refl
stands shape.Variant xs = refl
stands shape.Number xs = refl

pub items_rising : (h : Shape) (xs : List (ItemOf h)) → Rising (item_ordinal h) ltb (item_map h xs)
items_rising h xs = rw (stands h xs) (rising (item_ordinal h) by_number xs)

-- ---- items at their places

-- the ordinal at an item's place is its own
ordinal_is : (h : Shape) (s : List ℕ) (at : ℕ) → ItemHere h s at → item_ordinal h (item_in h s at) ≡ ordinal_in s at
ordinal_is shape.Field s at g = field_ordinal s at g
ordinal_is shape.Bare s at g = bare_ordinal s at g
ordinal_is shape.Variant s at g = variant_ordinal_lem s at g
ordinal_is shape.Number s at g = number_ordinal s at g

pub item_ordinal_lem : (h : Shape) (i : Item) → i.shape ≡ h → item_ordinal h (item_of h i) ≡ ordinal_at i
item_ordinal_lem h i e = rw (← e) (ordinal_is i.shape i.image.bytes.now i.at i.here)

placed : (h : Shape) (s : List ℕ) (c at : ℕ) → ItemsHere h s c at → Placed (item_ordinal h) ltb (item_in h s) (ordinal_in s) (places_from h s c at)
unfolding All
placed h s zero at g = rw (places_none s 0 at h refl) tt
placed h s (suc c) at g =
    let l : 0 < suc c = omega arith in
    rw (places_more s (suc c) at h l, sub-one)
    (ordinal_is h s at (items_first h s (suc c) at l g), placed h s c (item_end h s at) (rw sub-one at (items_rest h s (suc c) at l g)))

module _ {h : Shape} {x : Items} {xs : List (ItemOf h)} (r : Holds h x xs) where
  here : ItemsHere h x.image.bytes.now x.run.count x.run.start
  here = rw r.shape at x.here

  -- what stands is at the places that stand
  pub holds_lookup : (k : ℕ)
      → lookup (item_ordinal h) ltb k (item_map h xs) ≡ option_map (item_in h x.image.bytes.now) (lookup (ordinal_in x.image.bytes.now) ltb k (place_map (places_of x)))
  unfolding items_of place_map
  holds_lookup k = rw (stands h xs, r.are, r.shape) (lookup_placed (item_ordinal h) ltb _ (ordinal_in x.image.bytes.now) k _ (placed h x.image.bytes.now _ _ here))

  pub holds_following : (b : Option ℕ)
      → following (item_ordinal h) ltb b (item_map h xs)
      ≡ option_map (item_in h x.image.bytes.now) (following (ordinal_in x.image.bytes.now) ltb b (place_map (places_of x)))
  unfolding items_of place_map
  holds_following b = rw (stands h xs, r.are, r.shape) (following_placed (item_ordinal h) ltb _ (ordinal_in x.image.bytes.now) b _ (placed h x.image.bytes.now _ _ here))

  -- an item that was found among them
  module _ {i : Item} (a : Among x i) where
    pub among_shape : i.shape ≡ h
    among_shape = a.shape ∙ r.shape

    pub among_item : item_in h x.image.bytes.now i.at ≡ item_of h i
    among_item = ap (λ s. item_in h s.bytes.now i.at) (sym a.image)

    pub among_ordinal : item_ordinal h (item_of h i) ≡ ordinal_at i
    among_ordinal = item_ordinal_lem h i among_shape

  -- what was found at a place of theirs
  module _ {at : Option ℕ} {o : Option Item} (a : ItemAt x at o) where
    at_none : o ≡ None → option_map (item_in h x.image.bytes.now) at ≡ None
    at_none e = ap (option_map (item_in h x.image.bytes.now)) (sym a.place ∙ ap (option_map place_of) e)

    module _ {i : Item} (e : o ≡ Some i) where
      at_among : Among x i
      at_among = rw e at a.among

      at_item : option_map (item_in h x.image.bytes.now) at ≡ Some (item_of h i)
      at_item = ap (option_map (item_in h x.image.bytes.now)) (sym a.place ∙ ap (option_map place_of) e) ∙ ap Some (among_item at_among)

  -- the answers of `standing_item`
  module _ {k : ℕ} {o : Option Item} (a : StandsUnder x k o) where
    pub found_none : o ≡ None → lookup (item_ordinal h) ltb k (item_map h xs) ≡ None
    found_none e = holds_lookup k ∙ at_none a.item e

    module _ {i : Item} (e : o ≡ Some i) where
      pub found_among : Among x i
      found_among = at_among a.item e

      pub found_item : lookup (item_ordinal h) ltb k (item_map h xs) ≡ Some (item_of h i)
      found_item = holds_lookup k ∙ at_item a.item e

  -- the answers of `has_item`, asked of their places
  pub has_stands : (k : ℕ) {t : Bool} → t ≡ is_some (lookup (ordinal_in x.image.bytes.now) ltb k (place_map (places_of x)))
      → t ≡ is_some (lookup (item_ordinal h) ltb k (item_map h xs))
  has_stands k a = a ∙ some_map (item_in h x.image.bytes.now) _ ∙ ap is_some (sym (holds_lookup k))

  -- a step over those that stand
  module _ {after : Option ℕ} {o : Option Item} (a : StandsNext x after o) where
    pub next_none : o ≡ None → following (item_ordinal h) ltb after (item_map h xs) ≡ None
    next_none e = holds_following after ∙ at_none a.item e

    module _ {i : Item} (e : o ≡ Some i) where
      pub next_among : Among x i
      next_among = at_among a.item e

      pub next_item : following (item_ordinal h) ltb after (item_map h xs) ≡ Some (item_of h i)
      next_item = holds_following after ∙ at_item a.item e

      pub next_ordinal : item_ordinal h (item_of h i) ≡ ordinal_at i
      next_ordinal = among_ordinal next_among
