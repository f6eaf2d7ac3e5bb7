-- What is reported of the numbers that a body strikes off, number by number, as what happened to them is told. Assumes nothing.
use mathlib.Core.Path.{◌≡◌, refl, sym, ap, ◌∙◌}
use mathlib.Core.Bool.{Bool, true, false, cond}
use mathlib.Core.List.{List, [], ◌∷◌, ◌++◌, flat_map}
use Prim.Native.Nat.{ℕ}
use Rattle.std.specs.Prelude.{Option, None, Some}
use Rattle.maps.specs.Lists.{among, pass}
use Rattle.maps.specs.Keyed.{survivors}
use Rattle.maps.specs.Compare.{between}
use Rattle.maps.proofs.Lists.{all, flat_map_same}
use Rattle.image.specs.Schema.{Name}
use Rattle.parts.specs.Promise.{items_at, places_by, places_from, tombstone_items}
use Rattle.parts.proofs.Promise.{closed_listed}
use Rattle.parts.specs.declared.Shape.TheVariants as shape
use Rattle.members.specs.Handles.{ItemsAt, place_after}
use Rattle.members.specs.Bodies.{struck_in}
use Rattle.members.specs.declared.handles.Items.{Items}
use Rattle.members.specs.declared.handles.Item.{Item}
use Rattle.members.specs.declared.handles.Body.{Body}
use Rattle.rules.specs.Changes.{Change, only}
use Rattle.rules.specs.Tombstones.{rising_numbers, reused, dropped, compare_struck}
use Rattle.survivors.specs.Answers.{ordinal_at, StandsIn, NextItem}
use Rattle.survivors.specs.declared.standing.StandingItems.{StandingItems}
use Rattle.survivors.specs.Runs.{items_of, ordinals_of}
use Rattle.survivors.proofs.Runs.{items_hold, next_ordinal}
use Rattle.survivors.proofs.Walks.{each, rest_items, items_start, items_done, items_turn}
use Rattle.survivors.proofs.Used.{tombstones_hold, still_among}
use Rattle.lines.specs.Reports.{Reports}
use Rattle.lines.specs.declared.Report.{Report}
use Rattle.lines.proofs.Reports.{reports_as, reports_more, Left, left_start, left_turn, left_done}
use Rattle.clauses.specs.Tombstones.{tombstone_change, happened, told_of, all_told, of_bodies}
use Rattle.clauses.specs.declared.tombstones.TombstoneChange.{TombstoneChange}
use Rattle.clauses.specs.declared.tombstones.TombstoneChange.TheVariants as happens
use Rattle.clauses.proofs.Told.{silent, told}

-- ---- what the rules report of a number is its change, if that happened to it

told_if : (f : TombstoneChange) (d : Name) (new_used new_struck : List ℕ) (n : ℕ)
    → told_of f d new_used new_struck n ≡ only (happened f new_used new_struck n) (tombstone_change f d n)
unfolding reused dropped
told_if happens.Reused d new_used new_struck n = refl
told_if happens.Dropped d new_used new_struck n = refl

-- ---- a number: t says whether that happened to it

module _ (f : TombstoneChange) (d : Name) (new still : Items) (n : ℕ) {t : Bool} (e : t ≡ happened f (ordinals_of new) (ordinals_of still) n) where
  pub number_silent : t ≡ false → {r : Report} → Reports r (told_of f d (ordinals_of new) (ordinals_of still) n) r
  number_silent q = reports_as (told_if f d _ _ n) (silent _ (sym e ∙ q))

  pub number_told : t ≡ true → {c : Change} → c ≡ tombstone_change f d n → {r r' : Report} → Reports r (c ∷ []) r'
      → Reports r (told_of f d (ordinals_of new) (ordinals_of still) n) r'
  number_told q s h = reports_as (told_if f d _ _ n) (told _ (sym e ∙ q) s h)

-- ---- all of them, in a walk by rising number

module _ (f : TombstoneChange) (d : Name) (x new still : Items) where
  abbrev told_each : ℕ → List Change
  told_each = told_of f d (ordinals_of new) (ordinals_of still)

  -- what is left past a number
  abbrev left_past : Option ℕ → List Change
  left_past after = rest_items shape.Number (each told_each) (items_of shape.Number x) [] after

  pub record Telling (a b : Report) (w : StandingItems) : Type 0 where
    pub items : w.items ≡ x
    pub left : Left a (all_told f d x new still) b (left_past w.after)

  pub telling_start : {a : Report} {w : StandingItems} → StandsIn x w → Telling a a w
  unfolding all_told between each
  telling_start s = record {
    items = s.items;
    left = rw s.after (left_start (sym (items_start shape.Number (each told_each) (items_of shape.Number x) [])));
  }

  module _ (h : x.shape ≡ shape.Number) {a b : Report} {w : StandingItems} (v : Telling a b w) {w' : StandingItems} where
    pub telling_turn : {j : Item} → NextItem w (Some j) w' → {c : Report} → Reports b (told_of f d (ordinals_of new) (ordinals_of still) (ordinal_at j)) c
        → Telling a c w'
    unfolding each
    telling_turn {j} n {c} r =
        let s = rw v.items at n.follows in
        let y = items_hold shape.Number x h in
        record {
          items = n.items ∙ v.items;
          left =
              rw n.after
              (left_turn v.left (items_turn shape.Number (each told_each) (items_of shape.Number x) [] y s refl)
              (reports_as (ap told_each (next_ordinal y s refl)) r));
        }

    pub telling_end : NextItem w None w' → Reports a (all_told f d x new still) b
    telling_end n = left_done v.left (items_done shape.Number (each told_each) (items_of shape.Number x) [] (items_hold shape.Number x h) (rw v.items at n.follows) refl)

-- ---- two bodies

-- nothing, if the old one strikes nothing off: t says whether its tombstones are stored
module _ (d : Name) (old new : Body) {t : Bool}
    (e : tombstone_items old.items.image.bytes.now (place_after old.items)
    ≡ cond t (items_at old.items.image.bytes.now (place_after old.items)) (record { start = place_after old.items; count = 0 })) where
  none_struck : t ≡ false → struck_in old ≡ []
  unfolding places_from places_by
  none_struck f = (rw (e, f) at (closed_listed old.items.image.bytes.now (place_after old.items) old.closed)).are

  pub bodies_silent : t ≡ false → of_bodies d old new ≡ []
  unfolding compare_struck rising_numbers survivors pass flat_map
  bodies_silent f = rw (none_struck f) refl

-- numbers that are still struck off, said by their items
dropped_same : (d : Name) (u s t : List ℕ) (n : ℕ) → among n s ≡ among n t → dropped d u s n ≡ dropped d u t n
unfolding dropped
dropped_same d u s t n e = rw e

all_dropped : (d : Name) (u s t : List ℕ) → ((n : ℕ) → among n s ≡ among n t) → (l : List ℕ) → flat_map (dropped d u s) l ≡ flat_map (dropped d u t) l
all_dropped d u s t e l = flat_map_same (dropped d u s) (dropped d u t) l (all (λ n. dropped_same d u s t n (e n)) l)

module _ (d : Name) (old new : Body) {x y : Items} (p : ItemsAt old.items.image shape.Number (tombstone_items old.items.image.bytes.now (place_after old.items)) x)
    (q : ItemsAt new.items.image shape.Number (tombstone_items new.items.image.bytes.now (place_after new.items)) y) where
  abbrev u : List ℕ
  u = ordinals_of new.items

  abbrev l : List ℕ
  l = rising_numbers (items_of shape.Number x)

  both : of_bodies d old new ≡ flat_map (reused d u) l ++ flat_map (dropped d u (ordinals_of y)) l
  unfolding compare_struck
  both =
      ap (λ ns. flat_map (reused d u) (rising_numbers ns) ++ flat_map (dropped d u (struck_in new)) (rising_numbers ns)) (tombstones_hold old p).are
      ∙ ap (λ cs. flat_map (reused d u) l ++ cs) (all_dropped d u (struck_in new) (ordinals_of y) (λ n. sym (still_among new q n)) l)

  pub bodies_told : {a b c : Report} → Reports a (all_told happens.Reused d x new.items y) b → Reports b (all_told happens.Dropped d x new.items y) c
      → Reports a (of_bodies d old new) c
  unfolding all_told
  bodies_told h k = reports_as both (reports_more h k)

-- what the code needs
pub ruleset telling = (telling_start, telling_turn, telling_end)
