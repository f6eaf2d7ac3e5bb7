-- The tombstones that stand at a place: a count and as many numbers of four bytes in a format that stores them, and nothing in another one.
-- Assumes nothing.
use mathlib.Core.Path.{◌≡◌, sym, ap, ◌∙◌}
use mathlib.Core.Bool.{Bool, true, false, cond, false≢true}
use mathlib.Core.List.{List, []}
use Prim.Native.Nat.{ℕ, zero, suc, ◌+◌, ◌*◌, ◌≤◌, ◌<◌}
use native.Mathlib.Omega.{arith}
use native.Mathlib.Numerals.{sub-one}
use lib.ListN.{length, drop}
use Rattle.image.specs.Formats.{has_tombstones, stored}
use Rattle.image.specs.Parse.{Parsed, ok, pick, little_endian, number_at, many, counted}
use Rattle.image.specs.Tombstones.{tombstones_at}
use Rattle.image.specs.Image.{format}
use Rattle.image.specs.WellFormed.{Good, value_or, end_of}
use Rattle.image.proofs.Laws.Good.{many_first, many_rest, many_end}
use Rattle.parts.specs.Promise.{item_at, item_end, ItemsHere, ItemsListed, places_from, items_at, number_in, Closed, tombstones_in, tombstones_end, tombstone_items}
use Rattle.parts.specs.declared.Run.{Run}
use Rattle.parts.specs.declared.Shape.TheVariants as shape
use Rattle.parts.proofs.Laws.Steps.{number_is}
use Rattle.parts.proofs.Laws.Places.{many_none, many_places}
use Rattle.parts.proofs.Laws.Items.{count_inside, counted_is, counted_good}

-- so many numbers take four bytes each
numbers_end : (s : List ℕ) (c at : ℕ) → Good (many (number_at 4) c s at) → end_of (many (number_at 4) c s at) ≡ at + 4 * c
unfolding end_of
numbers_end s zero at g = ap end_of (many_none 0 (number_at 4) s at) ∙ (let z : at ≡ at + 4 * 0 = omega arith in z)
numbers_end s (suc c) at g =
    let l : 0 < suc c = omega arith in
    let f = many_first 0 (number_at 4) (suc c) s at l g in
    let n : end_of (number_at 4 s at) ≡ at + 4 = ap end_of (number_is s at 4 f).0 in
    let e : end_of (many (number_at 4) (suc c) s at) ≡ end_of (many (number_at 4) c s (at + 4)) = rw (sub-one, n) at (many_end 0 (number_at 4) (suc c) s at l g) in
    let r : end_of (many (number_at 4) c s (at + 4)) ≡ at + 4 + 4 * c = numbers_end s c (at + 4) (rw (sub-one, n) at (many_rest 0 (number_at 4) (suc c) s at l g)) in
    omega (arith, e, r)

module _ (s : List ℕ) (at : ℕ) where
  -- by whether they are stored
  numbers : Bool → Parsed (List ℕ)
  numbers stores = pick stores (counted (number_at 4) s at) (ok [] at)

  abbrev run : Bool → Run
  run stores = cond stores (items_at s at) (record { start = at; count = 0 })

  record Standing (stores : Bool) : Type 0 where
    listed : ItemsListed shape.Number s (run stores) (number_in s) (value_or [] (numbers stores))
    end : end_of (numbers stores) ≡ (run stores).start + 4 * (run stores).count
    count : stores ≡ true → at + 2 ≤ length s

  standing : (stores : Bool) → Good (numbers stores) → Standing stores
  unfolding numbers pick ItemsHere item_at item_end places_from number_in value_or end_of Good
  standing true b =
      let r = counted_is (number_at 4) s at b in
      let m = counted_good (number_at 4) s at b in
      record {
        listed = record { here = m; are = ap (value_or []) r ∙ many_places 0 (number_at 4) s _ _ m };
        end = ap end_of r ∙ numbers_end s _ _ m;
        count = λ _. count_inside (number_at 4) s at b;
      }
  standing false b =
      let n = many_none 0 (number_at 4) s at in
      record {
        listed = record { here = rw n tt; are = ap (value_or []) (sym n) ∙ many_places 0 (number_at 4) s 0 at (rw n tt) };
        end = omega arith;
        count = λ z. absurd (false≢true z);
      }

  module _ (g : Closed s at) where
    pub closed_listed : ItemsListed shape.Number s (tombstone_items s at) (number_in s) (tombstones_in s at)
    unfolding Closed tombstone_items tombstones_in tombstones_at stored numbers
    closed_listed = (standing (has_tombstones (format s)) g).listed

    pub closed_end : tombstones_end s at ≡ (tombstone_items s at).start + 4 * (tombstone_items s at).count
    unfolding Closed tombstone_items tombstones_end tombstones_at stored numbers
    closed_end = (standing (has_tombstones (format s)) g).end

    pub closed_count : has_tombstones (format s) ≡ true → at + 2 ≤ length s
    unfolding Closed tombstones_at stored numbers
    closed_count e = (standing (has_tombstones (format s)) g).count e

    -- as the code finds it
    pub stored_end : {n : ℕ} → true ≡ has_tombstones (format s) → n ≡ little_endian 2 (drop at s) → at + 2 + 4 * n ≡ tombstones_end s at
    unfolding tombstone_items items_at
    stored_end e q = rw q (sym (rw (sym e) at closed_end))

    pub absent_end : false ≡ has_tombstones (format s) → at ≡ tombstones_end s at
    unfolding tombstone_items
    absent_end e = let z : at ≡ at + 4 * 0 = omega arith in z ∙ sym (rw (sym e) at closed_end)

-- what the code needs
pub ruleset closes = (closed_count, stored_end, absent_end)
