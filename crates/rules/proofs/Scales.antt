-- What the lines of a report are weighed with: sums over maps, so many bytes for each byte of size, and the line of one change. Assumes nothing.
use mathlib.Core.Path.{◌≡◌, refl}
use mathlib.Core.Bool.{Bool, true, false, cond}
use Rattle.std.specs.Prelude.{Option, None, Some}
use mathlib.Core.List.{List, [], ◌∷◌}
use Prim.Native.Nat.{ℕ, ◌+◌, ◌*◌, ◌≤◌}
use native.Mathlib.Omega.{arith}
use lib.ListN.{length}
use Rattle.maps.specs.Lists.{total, All}
use Rattle.maps.specs.Orders.{Strict}
use Rattle.maps.specs.Keyed.{survivors, lookup}
use Rattle.maps.specs.Compare.{Rules, matched, between, compare}
use Rattle.maps.specs.Walk.{Rising}
use Rattle.maps.proofs.Lists.{all_map, flat_map_same}
use Rattle.maps.proofs.Sums.{total_survivors, compare_weight}
use Rattle.image.specs.Schema.{Ty, leaf, one, two}
use Rattle.rules.specs.Changes.{Change, only}
use Rattle.rules.specs.Report.{change_line}
use Rattle.rules.proofs.Sizes.{type_size}
use Rattle.rules.proofs.Texts.{option_length, line_length_lem}

-- ---- sums over maps, of which only the entries of the first that are fine count

module _ {K E C : Type 0} {lt : K → K → Bool} (key : E → K) (S : Strict K lt) (w : C → ℕ) (fine : E → Bool) where
  -- nothing is reported of a kept entry that is not fine
  guarded : Rules E C → Rules E C
  guarded r = record { gone = r.gone; came = r.came; kept = λ e f. cond (fine e) (r.kept e f) [] }

  same_guarded : (r : Rules E C) (m n : List E) → All (λ e. fine e ≡ true) m → compare key lt r m n ≡ compare key lt (guarded r) m n
  unfolding compare between matched guarded
  same_guarded r m n h =
      rw (flat_map_same _ (λ e. matched (guarded r).kept (Some e) (lookup key lt (key e) n)) m
      (all_map (λ e p. go e p (lookup key lt (key e) n)) m h))
    where
      go : (e : E) → fine e ≡ true → (o : Option E) → matched r.kept (Some e) o ≡ matched (guarded r).kept (Some e) o
      go e p None = refl
      go e p (Some f) = rw p

  pub fine_weight : (a b : E → ℕ) (m n : List E) → Rising key lt m → Rising key lt n → All (λ e. fine e ≡ true) m → (r : Rules E C)
      → ((e : E) → total w (r.gone e) ≤ a e) → ((f : E) → total w (r.came f) ≤ b f)
      → ((e f : E) → fine e ≡ true → total w (r.kept e f) ≤ a e + b f)
      → total w (compare key lt r m n) ≤ total a m + total b n
  unfolding guarded total
  fine_weight a b m n R Q h r p q k =
      rw (same_guarded r m n h) (compare_weight key S w a b m n R Q (guarded r) p q (λ e f i. go e f (fine e) refl))
    where
      go : (e f : E) (u : Bool) → fine e ≡ u → total w (cond u (r.kept e f) []) ≤ a e + b f
      go e f true i = k e f i
      go e f false i = omega arith

-- ---- so many bytes for each byte of size

unfoldable pub heavy : {A : Type 0} → (A → ℕ) → A → ℕ
heavy size a = 200000 * size a

pub total_heavy : {A : Type 0} (size : A → ℕ) (l : List A) → total (heavy size) l ≡ 200000 * total size l
unfolding heavy total
total_heavy size [] = refl
total_heavy size (a ∷ l) = omega (arith, total_heavy size l)

-- with as much again for what is reported besides
unfoldable pub twice : {A : Type 0} → (A → ℕ) → A → ℕ
twice size a = 2 * size a

pub total_twice : {A : Type 0} (size : A → ℕ) (l : List A) → total (twice size) l ≡ 2 * total size l
unfolding twice total
total_twice size [] = refl
total_twice size (a ∷ l) = omega (arith, total_twice size l)

pub total_each : {A : Type 0} (w : A → ℕ) (l : List A) → All (λ a. w a ≤ total w l) l
unfolding total All
total_each w [] = tt
total_each w (a ∷ l) = (omega arith, all_map (λ b h. omega (arith, h)) l (total_each w l))

-- what stands weighs no more than what is listed
pub survivors_heavy : {K E : Type 0} (key : E → K) (lt : K → K → Bool) (size : E → ℕ) (l : List E)
    → total (heavy size) (survivors key lt l) ≤ 200000 * total size l
survivors_heavy key lt size l = omega (arith, total_heavy size (survivors key lt l), total_survivors key lt size l)

pub type_one : (t : Ty) → 1 ≤ type_size t
unfolding type_size
type_one (leaf l) = omega arith
type_one (one l t) = omega arith
type_one (two l t u) = omega arith

-- ---- one change

abbrev pub line_length : Change → ℕ
line_length c = length (change_line c)

pub single_weight : (c : Change) → total line_length (c ∷ []) ≤ 40 + (length c.declaration + (option_length c.field + length c.detail))
unfolding total
single_weight c = omega (arith, line_length_lem c)

pub only_weight : (test : Bool) (c : Change)
    → total line_length (only test c) ≤ 40 + (length c.declaration + (option_length c.field + length c.detail))
unfolding only total
only_weight true c = single_weight c
only_weight false c = omega arith
