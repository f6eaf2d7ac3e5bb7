-- The ordinals that items use, and the numbers that a body strikes off. Assumes nothing.
use mathlib.Core.Path.{◌≡◌, refl, sym, ap, ◌∙◌}
use mathlib.Core.Bool.{Bool, true, false}
use mathlib.Core.List.{List, [], ◌∷◌, map}
use Prim.Native.Nat.{ℕ}
use borrow.Author.Tests.{eqb-true, eqb-false}
use lib.Dec.{eqb, ltb}
use Rattle.std.specs.Option.{is_some}
use Rattle.maps.specs.Keyed.{lookup}
use Rattle.maps.proofs.Orders.{by_number, eq_same, ne_same}
use Rattle.maps.specs.Lists.{any, among}
use Rattle.parts.specs.Promise.{ItemOf, ordinal_in, tombstone_items}
use Rattle.parts.specs.declared.Shape.{Shape}
use Rattle.parts.specs.declared.Shape.TheVariants as shape
use Rattle.parts.proofs.Promise.{closed_listed}
use Rattle.members.specs.Handles.{ItemsAt, place_after, places_of}
use Rattle.members.specs.Bodies.{struck_in}
use Rattle.members.specs.declared.handles.Items.{Items}
use Rattle.members.specs.declared.handles.Body.{Body}
use Rattle.rules.specs.Tombstones.{rising_numbers}
use Rattle.rules.proofs.Tombstones.{struck_off}
use Rattle.survivors.specs.Items.{place_map}
use Rattle.survivors.specs.Runs.{item_ordinal, item_map, items_of, ordinals_of, Holds}
use Rattle.survivors.proofs.Runs.{items_hold, listed_hold, has_stands}

-- what stands under a number is told by the numbers alone
found_among : {E : Type 0} (key : E → ℕ) (k : ℕ) (m : List E) → is_some (lookup key ltb k m) ≡ among k (map key m)
unfolding lookup among any
found_among key k [] = refl
found_among key k (e ∷ m) = go (eqb k (key e)) refl (found_among key k m)
  where
    go : (b : Bool) → eqb k (key e) ≡ b → is_some (lookup key ltb k m) ≡ among k (map key m)
        → is_some (lookup key ltb k (e ∷ m)) ≡ among k (map key (e ∷ m))
    go true q ih = rw (eq_same by_number k (key e) (eqb-true k (key e) q), q) refl
    go false q ih = rw (ne_same by_number k (key e) (eqb-false k (key e) q), q) ih

-- the answer of `has_item`
pub has_among : (x : Items) (k : ℕ) {t : Bool} → t ≡ is_some (lookup (ordinal_in x.image.bytes.now) ltb k (place_map (places_of x))) → t ≡ among k (ordinals_of x)
unfolding ordinals_of
has_among x k a = has_stands (items_hold x.shape x refl) k a ∙ found_among (item_ordinal x.shape) k (item_map x.shape (items_of x.shape x))

-- of items that are known
pub holds_ordinals : {h : Shape} {x : Items} {xs : List (ItemOf h)} → Holds h x xs → ordinals_of x ≡ map (item_ordinal h) (item_map h xs)
unfolding ordinals_of
holds_ordinals {h} {x} r =
    ap (λ (g : Shape). map (item_ordinal g) (item_map g (items_of g x))) r.shape ∙ ap (λ ys. map (item_ordinal h) (item_map h ys)) (sym r.are)

-- the numbers that a body strikes off
module _ (b : Body) {x : Items} (a : ItemsAt b.items.image shape.Number (tombstone_items b.items.image.bytes.now (place_after b.items)) x) where
  pub tombstones_hold : Holds shape.Number x (struck_in b)
  tombstones_hold = listed_hold a (closed_listed b.items.image.bytes.now (place_after b.items) b.closed)

  -- each is among them exactly if it is struck off
  pub still_among : (k : ℕ) → among k (ordinals_of x) ≡ among k (struck_in b)
  still_among k = ap (among k) (holds_ordinals tombstones_hold ∙ map_same (rising_numbers (struck_in b))) ∙ struck_off.listed k (struck_in b)
    where
      map_same : (l : List ℕ) → map (λ n. n) l ≡ l
      map_same [] = refl
      map_same (n ∷ l) = ap (λ m. n ∷ m) (map_same l)
