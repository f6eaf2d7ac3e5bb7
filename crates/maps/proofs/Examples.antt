-- Worked examples of the definitions, by computation from them alone.
-- Assumes nothing.
use mathlib.Core.Path.{◌≡◌, refl}
use mathlib.Core.Bool.{true, false}
use mathlib.Core.List.{List, [], ◌∷◌, flat_map}
use Rattle.std.specs.Prelude.{None, Some}
use Prim.Native.Nat.{ℕ}
use lib.Dec.{ltb}
use Rattle.maps.specs.Lists.{pass, largest, total, count}
use Rattle.maps.specs.Orders.{same, order_of, before}
use Rattle.maps.specs.Keyed.{insert, survivors, lookup}
use Rattle.maps.specs.Compare.{Rules, unmatched, matched, between, compare}

-- entries with a number as key, and a value
pub record Entry : Type 0 where
  pub number : ℕ
  pub value : ℕ

abbrev entry : ℕ → ℕ → Entry
entry k v = record { number = k; value = v }

abbrev number : Entry → ℕ
number e = e.number

-- ---- survivors

-- of two entries under 3 the last stands, after the one under 1
last_stands : survivors number ltb (entry 3 10 ∷ entry 1 20 ∷ entry 3 30 ∷ []) ≡ entry 1 20 ∷ entry 3 30 ∷ []
unfolding survivors pass insert
last_stands = refl

-- numbers rise as numbers, not as their digits
rises : survivors number ltb (entry 10 0 ∷ entry 9 1 ∷ entry 100 2 ∷ []) ≡ entry 9 1 ∷ entry 10 0 ∷ entry 100 2 ∷ []
unfolding survivors pass insert
rises = refl

found : lookup number ltb 3 (entry 1 20 ∷ entry 3 30 ∷ []) ≡ Some (entry 3 30)
unfolding lookup same
found = refl

not_found : lookup number ltb 2 (entry 1 20 ∷ entry 3 30 ∷ []) ≡ None
unfolding lookup same
not_found = refl

-- ---- names: `a` is 97, `b` is 98, `B` is 66

-- the empty name before every other, and a name before its extensions
empty_first : before [] (97 ∷ []) ≡ true
unfolding before order_of
empty_first = refl

name_first : before (97 ∷ []) (97 ∷ 98 ∷ []) ≡ true
unfolding before order_of
name_first = refl

extension_not : before (97 ∷ 98 ∷ []) (97 ∷ []) ≡ false
unfolding before order_of
extension_not = refl

-- by the first difference, not by length
by_byte : before (97 ∷ 98 ∷ []) (98 ∷ []) ≡ true
unfolding before order_of
by_byte = refl

-- capital letters first, as their bytes are
by_case : before (66 ∷ []) (97 ∷ []) ≡ true
unfolding before order_of
by_case = refl

-- ---- two maps compared: gone is told by 1 and the number, came by 2, kept by 3 and the two values

abbrev told : Rules Entry (List ℕ)
told = record {
  gone = λ e. (1 ∷ e.number ∷ []) ∷ [];
  came = λ e. (2 ∷ e.number ∷ []) ∷ [];
  kept = λ e f. (3 ∷ e.value ∷ f.value ∷ []) ∷ [];
}

gone_came_kept : compare number ltb told (entry 1 10 ∷ entry 3 30 ∷ entry 5 50 ∷ []) (entry 2 20 ∷ entry 3 31 ∷ entry 4 40 ∷ [])
    ≡ (1 ∷ 1 ∷ []) ∷ (1 ∷ 5 ∷ []) ∷ (2 ∷ 2 ∷ []) ∷ (2 ∷ 4 ∷ []) ∷ (3 ∷ 30 ∷ 31 ∷ []) ∷ []
unfolding compare between flat_map unmatched matched lookup same
gone_came_kept = refl

-- all are kept by rising key, the entry of the old map first
all_kept : compare number ltb told (entry 1 10 ∷ entry 3 30 ∷ []) (entry 1 11 ∷ entry 3 31 ∷ []) ≡ (3 ∷ 10 ∷ 11 ∷ []) ∷ (3 ∷ 30 ∷ 31 ∷ []) ∷ []
unfolding compare between flat_map unmatched matched lookup same
all_kept = refl

-- ---- the largest, the sum and the number

abbrev itself : ℕ → ℕ
itself n = n

largest_of : largest itself (1 ∷ 7 ∷ 2 ∷ []) ≡ 7
unfolding largest
largest_of = refl

sum_of : total itself (1 ∷ 7 ∷ 2 ∷ []) ≡ 10
unfolding total
sum_of = refl

number_of : count (ltb 1) (1 ∷ 7 ∷ 2 ∷ []) ≡ 2
unfolding count total
number_of = refl
