-- A pass over the places of items, from the front: a turn, the end, and what its start is. Assumes nothing.
use mathlib.Core.Path.{◌≡◌, refl, sym, ap, ◌∙◌}
use mathlib.Core.Bool.{Bool, true, false, not, ◌&&◌}
use Rattle.std.specs.Prelude.{Option, None, Some, IfSome}
use mathlib.Core.List.{List, [], ◌∷◌}
use Prim.Native.Nat.{ℕ, ◌-◌, ◌≤◌, ◌<◌}
use borrow.Author.Tests.{lt-ltb, le-ltb}
use lib.Dec.{ltb}
use Rattle.maps.specs.Lists.{pass}
use Rattle.maps.specs.Keyed.{lookup}
use Rattle.std.specs.Option.{option_map, is_some}
use Rattle.maps.specs.Walk.{past, following, nearer, better, least, has, seen, last_seen}
use Rattle.maps.proofs.Orders.{by_number, eq_same, ne_same}
use Rattle.maps.proofs.Survivors.{lookup_last_seen}
use Rattle.maps.proofs.Walking.{following_least}
use Rattle.maps.proofs.Searches.{seen_here, seen_other, has_here, has_other, has_nil, lookup_has}
use Rattle.parts.specs.Promise.{ItemHere, item_end, places_from, ordinal_in}
use Rattle.parts.specs.declared.Shape.TheVariants as shape
use Rattle.parts.proofs.Promise.{places_none, places_more, items_first, item_number}
use Rattle.members.specs.Places.{First, Others}
use Rattle.members.specs.declared.places.Places.{Places}
use Rattle.survivors.specs.Items.{nearer_ordinal, place_map, ItemSurvives, Placed, ItemFollows}
use Rattle.survivors.proofs.Laws.Better.{nearer_first, nearer_past, nearer_before, better_taken, better_left}

-- the places that a walk meets, as a list
abbrev pub places_in : Places → List ℕ
places_in x = places_from x.shape x.bytes.now x.run.count x.run.start

-- some of the places of x, in its bytes and of items of its shape
pub record Part (x y : Places) : Type 0 where
  pub bytes : y.bytes ≡ x.bytes
  pub shape : y.shape ≡ x.shape

pub part_whole : {x : Places} → Part x x
part_whole = record { bytes = refl; shape = refl }

module _ {x y : Places} (p : Part x y) where
  module _ {at : ℕ} (f : First y at) where
    pub part_here : ItemHere x.shape x.bytes.now at
    part_here = rw (← p.shape, ← p.bytes, f.is) (items_first y.shape y.bytes.now y.run.count y.run.start f.some y.here)

    pub part_number : ItemHere shape.Number x.bytes.now at
    part_number = item_number x.bytes.now at x.shape part_here

  pub part_others : {z : Places} → Others y z → Part x z
  part_others o = record { bytes = o.bytes ∙ p.bytes; shape = o.shape ∙ p.shape }

none_left : (y : Places) → y.run.count ≡ 0 → places_in y ≡ []
none_left y e = places_none y.bytes.now y.run.count y.run.start y.shape e

-- what comes after the first of them
abbrev places_after : Places → List ℕ
places_after y = places_from y.shape y.bytes.now (y.run.count - 1) (item_end y.shape y.bytes.now y.run.start)

first_left : {y : Places} {at : ℕ} → First y at → places_in y ≡ at ∷ places_after y
first_left {y} f = rw f.is (places_more y.bytes.now y.run.count y.run.start y.shape f.some)

module _ {y : Places} {at : ℕ} (f : First y at) {z : Places} (o : Others y z) where
  some_left : places_in y ≡ at ∷ places_in z
  some_left = rw (o.run, o.bytes, o.shape) (first_left f)

  -- a turn of a pass
  turn : {S : Type 0} (step : S → ℕ → S) (a a' : S) → a' ≡ step a at → {b : S} → pass step a (places_in y) ≡ b → pass step a' (places_in z) ≡ b
  unfolding pass
  turn step a a' q e = rw q (sym (ap (pass step a) some_left) ∙ e)

-- ---- the last one under an ordinal

-- what was found so far, and what is left, come to what stands under the ordinal
pub record Found (x : Places) (k : ℕ) (found : Option ℕ) (y : Places) : Type 0 where
  pub part : Part x y
  pub place : pass (seen (ordinal_in x.bytes.now) ltb k) found (places_in y) ≡ lookup (ordinal_in x.bytes.now) ltb k (place_map x)
  pub here : IfSome found (ItemHere x.shape x.bytes.now)

module _ {x : Places} {k : ℕ} where
  pub found_start : Found x k None x
  unfolding last_seen place_map
  found_start = record { part = part_whole; place = sym (lookup_last_seen (ordinal_in x.bytes.now) by_number k _); here = tt }

  module _ {found : Option ℕ} {y : Places} (v : Found x k found y) where
    pub found_end : y.run.count ≡ 0 → ItemSurvives x k found
    unfolding pass
    found_end e = record { place = rw (none_left y e) at v.place; here = v.here }

    module _ {at : ℕ} (f : First y at) where
      pub found_number : ItemHere shape.Number x.bytes.now at
      found_number = part_number v.part f

      module _ {z : Places} (o : Others y z) {n : ℕ} (e : n ≡ ordinal_in x.bytes.now at) where
        pub found_same : n ≡ k → Found x k (Some at) z
        found_same q = record {
          part = part_others v.part o;
          place = turn f o _ _ _ (sym (seen_here (ordinal_in x.bytes.now) ltb k found at (eq_same by_number k _ (sym q ∙ e)))) v.place;
          here = part_here v.part f;
        }

        pub found_other : (n ≡ k → ⊥) → Found x k found z
        found_other q = record {
          part = part_others v.part o;
          place = turn f o _ _ _ (sym (seen_other (ordinal_in x.bytes.now) ltb k found at (ne_same by_number k _ (λ r. q (e ∙ sym r))))) v.place;
          here = v.here;
        }

-- ---- whether one has an ordinal

-- one of those left has it if one stands under it
pub record Having (x : Places) (k : ℕ) (y : Places) : Type 0 where
  pub part : Part x y
  pub rest : has (ordinal_in x.bytes.now) ltb k (places_in y) ≡ is_some (lookup (ordinal_in x.bytes.now) ltb k (place_map x))

module _ {x : Places} {k : ℕ} where
  pub having_start : Having x k x
  unfolding place_map
  having_start = record { part = part_whole; rest = sym (lookup_has (ordinal_in x.bytes.now) by_number k _) }

  module _ {y : Places} (v : Having x k y) where
    pub having_end : y.run.count ≡ 0 → false ≡ is_some (lookup (ordinal_in x.bytes.now) ltb k (place_map x))
    having_end e = sym (has_nil (ordinal_in x.bytes.now) ltb k) ∙ (rw (none_left y e) at v.rest)

    module _ {at : ℕ} (f : First y at) where
      pub having_number : ItemHere shape.Number x.bytes.now at
      having_number = part_number v.part f

      module _ {n : ℕ} (e : n ≡ ordinal_in x.bytes.now at) where
        pub having_found : n ≡ k → true ≡ is_some (lookup (ordinal_in x.bytes.now) ltb k (place_map x))
        having_found q = sym (has_here (ordinal_in x.bytes.now) ltb k at _ (eq_same by_number k _ (sym q ∙ e))) ∙ (rw (first_left f) at v.rest)

        pub having_turn : (n ≡ k → ⊥) → {z : Places} → Others y z → Having x k z
        having_turn q o = record {
          part = part_others v.part o;
          rest = sym (has_other (ordinal_in x.bytes.now) ltb k at _ (ne_same by_number k _ (λ r. q (e ∙ sym r)))) ∙ (rw (some_left f o) at v.rest);
        }

-- ---- the next one

-- whether an item takes the place of the best so far, by the two ordinals
module _ (after : Option ℕ) (i : ℕ) {best : Option (ℕ × ℕ)} where
  pub item_first : best ≡ None → nearer_ordinal after (option_map (λ b. b.0) best) i ≡ past ltb after i
  unfolding nearer_ordinal
  item_first f = sym (nearer_first (λ k. k) ltb _ _ _ refl (ap (option_map (λ b. b.0)) f))

  module _ {b : ℕ × ℕ} (f : best ≡ Some b) where
    pub item_past : i ≤ b.0 → nearer_ordinal after (option_map (λ b. b.0) best) i ≡ past ltb after i
    unfolding nearer_ordinal
    item_past l = sym (nearer_past (λ k. k) ltb _ _ _ refl (ap (option_map (λ b. b.0)) f) (le-ltb b.0 i l))

    pub item_before : b.0 < i → nearer_ordinal after (option_map (λ b. b.0) best) i ≡ false
    unfolding nearer_ordinal
    item_before l = sym (nearer_before (λ k. k) ltb _ _ _ (ap (option_map (λ b. b.0)) f) (lt-ltb b.0 i l))

-- the same by their places
by_places : (x : Places) (after : Option ℕ) (best : Option (ℕ × ℕ)) → IfSome best (Placed x) → (at : ℕ)
    → nearer_ordinal after (option_map (λ b. b.0) best) (ordinal_in x.bytes.now at)
    ≡ nearer (ordinal_in x.bytes.now) ltb after (option_map (λ b. b.1) best) at
unfolding nearer_ordinal nearer
by_places x after None a at = refl
by_places x after (Some b) a at = ap (λ (k : ℕ). not (ltb k (ordinal_in x.bytes.now at)) && past ltb after (ordinal_in x.bytes.now at)) a.ordinal

-- the best item so far, and what is left, come to what stands under the next ordinal
pub record Nearing (x : Places) (after : Option ℕ) (best : Option (ℕ × ℕ)) (y : Places) : Type 0 where
  pub part : Part x y
  pub place : pass (better (ordinal_in x.bytes.now) ltb after) (option_map (λ b. b.1) best) (places_in y) ≡ following (ordinal_in x.bytes.now) ltb after (place_map x)
  pub placed : IfSome best (Placed x)

module _ {x : Places} {after : Option ℕ} where
  pub nearing_start : Nearing x after None x
  unfolding least place_map
  nearing_start = record { part = part_whole; place = sym (following_least (ordinal_in x.bytes.now) by_number after _); placed = tt }

  module _ {best : Option (ℕ × ℕ)} {y : Places} (v : Nearing x after best y) where
    pub nearing_end : y.run.count ≡ 0 → ItemFollows x after best
    unfolding pass
    nearing_end e = record { place = rw (none_left y e) at v.place; placed = v.placed }

    module _ {at : ℕ} (f : First y at) where
      pub nearing_number : ItemHere shape.Number x.bytes.now at
      nearing_number = part_number v.part f

      -- t: the item takes its place
      module _ {z : Places} (o : Others y z) {n : ℕ} (e : n ≡ ordinal_in x.bytes.now at)
          {t : Bool} (p : t ≡ nearer_ordinal after (option_map (λ b. b.0) best) n) where
        told : t ≡ nearer (ordinal_in x.bytes.now) ltb after (option_map (λ b. b.1) best) at
        told = p ∙ ap (nearer_ordinal after (option_map (λ b. b.0) best)) e ∙ by_places x after best v.placed at

        pub nearing_taken : t ≡ true → Nearing x after (Some (n, at)) z
        nearing_taken q = record {
          part = part_others v.part o;
          place = turn f o _ _ _ (better_taken (ordinal_in x.bytes.now) ltb after (option_map (λ b. b.1) best) at told q) v.place;
          placed = record { here = part_here v.part f; ordinal = e };
        }

        pub nearing_left : t ≡ false → Nearing x after best z
        nearing_left q = record {
          part = part_others v.part o;
          place = turn f o _ _ _ (better_left (ordinal_in x.bytes.now) ltb after (option_map (λ b. b.1) best) at told q) v.place;
          placed = v.placed;
        }

-- what the code needs
pub ruleset founds = (found_start, found_end, found_number, found_other)

pub ruleset havings = (having_start, having_end, having_number, having_found, having_turn)

pub ruleset nearings = (nearing_start, nearing_end, nearing_number)
