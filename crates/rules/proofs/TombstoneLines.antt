-- R-10: how long the lines are that are told of the numbers struck off: linear in how many these are. Assumes nothing.
use mathlib.Core.List.{List, [], ◌∷◌, flat_map}
use Prim.Native.Nat.{ℕ, ◌*◌, ◌≤◌}
use native.Mathlib.Nat.{le_trans}
use native.Mathlib.Omega.{arith}
use lib.Dec.{ltb}
use lib.ListN.{length, length-append}
use Rattle.maps.specs.Lists.{total}
use Rattle.maps.proofs.Lists.{total_append}
use Rattle.maps.proofs.Sums.{total_survivors}
use Rattle.image.specs.Schema.{Name, Variant, Decl}
use Rattle.image.specs.Words.{bytes}
use Rattle.text.proofs.Numbers.{decimal_length}
use Rattle.rules.specs.Changes.{Change}
use Rattle.rules.specs.Tombstones.{rising_numbers, used_by_fields, used, reused, dropped, compare_struck, compare_last, compare_last_in}
use Rattle.rules.proofs.Sizes.{numbers_size}
use Rattle.rules.proofs.Texts.{option_length}
use Rattle.rules.proofs.Scales.{line_length, only_weight}

module _ (d : Name) (h : length d ≤ 65538) where
  reused_weight : (u : List ℕ) (n : ℕ) → total line_length (reused d u n) ≤ 66000
  unfolding reused bytes option_length
  reused_weight u n = le_trans (only_weight _ _) (simp length-append (omega (arith, decimal_length n)))

  dropped_weight : (u t : List ℕ) (n : ℕ) → total line_length (dropped d u t n) ≤ 66000
  unfolding dropped bytes option_length
  dropped_weight u t n = le_trans (only_weight _ _) (simp length-append (omega (arith, decimal_length n)))

  each_weight : (f : ℕ → List Change) → ((n : ℕ) → total line_length (f n) ≤ 66000) → (l : List ℕ) → total line_length (flat_map f l) ≤ 66000 * numbers_size l
  unfolding flat_map numbers_size total
  each_weight f w [] = omega arith
  each_weight f w (n ∷ l) = omega (arith, total_append line_length (f n) (flat_map f l), w n, each_weight f w l)

  -- a number is told once at most as reused and once as dropped, however often it is listed
  struck_weight : (s u t : List ℕ) → total line_length (compare_struck d s u t) ≤ 132000 * numbers_size s
  unfolding compare_struck rising_numbers numbers_size
  struck_weight s u t =
      simp (total_append line_length)
      (omega (
        arith,
        each_weight (reused d u) (reused_weight u) (rising_numbers s),
        each_weight (dropped d u t) (dropped_weight u t) (rising_numbers s),
        total_survivors (λ n. n) ltb (λ n. 1) s,
      ))

pub last_weight : (x y : Decl) → length x.name ≤ 65538 → total line_length (compare_last x y) ≤ 132000 * numbers_size x.tombstones
unfolding compare_last
last_weight x y h = struck_weight x.name h x.tombstones (used y) y.tombstones

pub last_in_weight : (d : Name) → length d ≤ 65538 → (v w : Variant) → total line_length (compare_last_in d v w) ≤ 132000 * numbers_size v.tombstones
unfolding compare_last_in
last_in_weight d h v w = struck_weight d h v.tombstones (used_by_fields w.fields) w.tombstones
