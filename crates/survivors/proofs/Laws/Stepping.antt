-- From the place of an item that stands to the item, and a step of a walk over those that stand. Assumes nothing.
use mathlib.Core.Path.{◌≡◌, sym, ap, ◌∙◌}
use Rattle.std.specs.Prelude.{Option, None, Some}
use Prim.Native.Nat.{ℕ, ◌<◌}
use Rattle.maps.proofs.Orders.{by_number}
use Rattle.maps.proofs.Survivors.{rising}
use Rattle.maps.proofs.Walking.{left_less}
use Rattle.parts.specs.Promise.{ItemHere, ordinal_in}
use Rattle.members.specs.Handles.{places_of}
use Rattle.members.specs.declared.places.Places.{Places}
use Rattle.members.specs.declared.handles.Items.{Items}
use Rattle.members.specs.declared.handles.Item.{Item}
use Rattle.survivors.specs.Items.{place_map, ItemSurvives, ItemFollows}
use Rattle.survivors.specs.Answers.{ordinal_at, ItemAt, StandsUnder, StandsNext, items_left}

at_none : (x : Items) {at : Option ℕ} → None ≡ at → ItemAt x at None
at_none x s = record { place = s; among = tt }

at_some : (x : Items) {at : Option ℕ} {n : ℕ} → Some n ≡ at → {i : Item} → i.image ≡ x.image → i.shape ≡ x.shape → i.at ≡ n → ItemAt x at (Some i)
at_some x s m h q = record { place = ap Some q ∙ s; among = record { image = m; shape = h } }

module _ (x : Items) {p : Places} (w : p ≡ places_of x) where
  -- the item that stands under an ordinal
  module _ {k : ℕ} {r : Option ℕ} (h : ItemSurvives p k r) where
    pub stands_none : r ≡ None → StandsUnder x k None
    stands_none e = record { item = at_none x (rw (e, w) at h.place) }

    module _ {at : ℕ} (e : r ≡ Some at) where
      pub stands_here : ItemHere x.shape x.image.bytes.now at
      stands_here = rw (e, w) at h.here

      pub stands_some : {i : Item} → i.image ≡ x.image → i.shape ≡ x.shape → i.at ≡ at → StandsUnder x k (Some i)
      stands_some m n q = record { item = at_some x (rw (e, w) at h.place) m n q }

  -- a step
  module _ {after : Option ℕ} {r : Option (ℕ × ℕ)} (h : ItemFollows p after r) where
    pub step_none : r ≡ None → StandsNext x after None
    step_none e = record { item = at_none x (rw (e, w) at h.place) }

    module _ {k at : ℕ} (e : r ≡ Some (k, at)) where
      pub step_here : ItemHere x.shape x.image.bytes.now at
      step_here = (rw (e, w) at h.placed).here

      ordinal : k ≡ ordinal_in x.image.bytes.now at
      ordinal = (rw (e, w) at h.placed).ordinal

      pub step_fewer : items_left x (Some k) < items_left x after
      unfolding items_left place_map
      step_fewer =
          rw ordinal
          (left_less (ordinal_in x.image.bytes.now) by_number (place_map (places_of x)) after at (rising (ordinal_in x.image.bytes.now) by_number _) (sym (rw (e, w) at h.place)))

      module _ (i : Item) (m : i.image ≡ x.image) (n : i.shape ≡ x.shape) (q : i.at ≡ at) where
        pub step_follows : StandsNext x after (Some i)
        step_follows = record { item = at_some x (rw (e, w) at h.place) m n q }

        pub step_ordinal : k ≡ ordinal_at i
        step_ordinal = rw (m, q) ordinal

-- what the code needs
pub ruleset standing = (stands_none, stands_here, stands_some)

pub ruleset stepping = (step_none, step_here, step_fewer, step_follows, step_ordinal)
