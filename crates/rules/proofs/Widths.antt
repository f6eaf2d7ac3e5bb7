-- R-6: of widths as what a reading reports besides the clauses: the laws of the distance rule, the one kind, and how long the lines are.
-- Assumes nothing.
use mathlib.Core.Path.{◌≡◌, refl}
use mathlib.Core.Bool.{true}
use Rattle.std.specs.Prelude.{Option, None, Some}
use mathlib.Core.List.{List}
use Prim.Native.Nat.{ℕ, ◌+◌, ◌≤◌}
use native.Mathlib.Nat.{le_trans}
use native.Mathlib.Omega.{arith}
use lib.ListN.{length}
use Rattle.maps.specs.Lists.{total, All, among}
use Rattle.image.specs.Schema.{Decl}
use Rattle.image.specs.Words.{bytes}
use Rattle.rules.specs.Equal.{never}
use Rattle.rules.specs.Changes.{kind_at, WidthChanged}
use Rattle.rules.specs.Widths.{show_width, compare_widths}
use Rattle.text.proofs.Numbers.{decimal_length}
use Rattle.rules.proofs.Equal.{numbers, options}
use Rattle.rules.proofs.Mirror.{exchange, mirror}
use Rattle.rules.proofs.Readings.{Besides, OneKind}
use Rattle.rules.proofs.Chain.{test_chained}
use Rattle.rules.proofs.Self.{test_self}
use Rattle.rules.proofs.Swap.{test_swap}
use Rattle.rules.proofs.Unreported.{only_all, Of}
use Rattle.rules.proofs.Texts.{option_length, from_to_length}
use Rattle.rules.proofs.Scales.{line_length, only_weight}

-- ---- the distance rule: a test of equality, whose change is Major and its own mirror

pub widths_besides : Besides OneKind (λ d. compare_widths) never
unfolding compare_widths mirror exchange
widths_besides = record {
  chained = λ b c d e x y z p q. test_chained (options numbers) b x.width y.width z.width _ _ _ refl refl;
  self = λ d x. test_self (options numbers) x.width _;
  swap = λ j o d e x y p. test_swap j (options numbers) x.width y.width _ _ refl;
}

-- ---- the counts: of the one kind

pub widths_of : (kinds : List ℕ) → among (kind_at WidthChanged) kinds ≡ true → (x y : Decl) → All (Of kinds) (compare_widths x y)
unfolding compare_widths
widths_of kinds e x y = only_all (Of kinds) _ _ e

-- ---- the report's length

width_length : (w : Option ℕ) → length (show_width w) ≤ 20
unfolding show_width
width_length None = omega arith
width_length (Some w) = decimal_length w

pub widths_weight : (x y : Decl) → total line_length (compare_widths x y) ≤ 150 + length x.name
unfolding compare_widths bytes option_length
widths_weight x y =
    le_trans (only_weight _ _) (simp (from_to_length) (omega (arith, width_length x.width, width_length y.width)))
