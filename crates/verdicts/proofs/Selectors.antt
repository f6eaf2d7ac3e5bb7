-- What a selector gives of what C is told is what it gives of the outcome, and the length is the text's. Assumes nothing.
use mathlib.Core.Path.{◌≡◌, refl, sym, ap, ◌∙◌}
use mathlib.Core.List.{[], ◌∷◌}
use Prim.Native.Nat.{ℕ, zero, suc, ◌+◌, ◌-◌, ◌≤◌}
use native.Mathlib.Omega.{arith}
use lib.ListN.{length, get_or, replicate, get_or-eq_default}
use lib.Seq.{get_or-append-add}
use Rattle.image.specs.Numbers.{refusal_number}
use Rattle.image.specs.declared.refusals.Refusal.{Refusal}
use Rattle.image.specs.declared.refusals.Refusal.TheVariants as refusal
use Rattle.rules.specs.Changes.{kind_count}
use Rattle.rules.specs.Outcome.{Outcome, refused, answered, selected, select, text_length}
use Rattle.verdicts.specs.Verdicts.{refused_by, outcome_values, select_in}
use Rattle.verdicts.specs.declared.Values.{Values}

-- ---- from 5 on the counts

module _ (v : Values) (n : ℕ) where
  pub select_count : 5 ≤ n → get_or v.counts (n - 5) 0 ≡ select_in v n
  unfolding select_in
  select_count h =
      let e : 5 + (n - 5) ≡ n = omega arith in
      sym (get_or-append-add (v.number ∷ v.side ∷ v.bump ∷ v.result ∷ v.length ∷ []) v.counts (n - 5) 0) ∙ ap (select_in v) e

  -- beyond them
  pub select_beyond : 5 + length v.counts ≤ n → 0 ≡ select_in v n
  select_beyond h = sym (get_or-eq_default v.counts 0 (omega arith)) ∙ select_count (omega arith)

-- ---- of an outcome

zeros : (n k : ℕ) → get_or {A = ℕ} (replicate n 0) k 0 ≡ 0
zeros zero k = refl
zeros (suc n) zero = refl
zeros (suc n) (suc k) = zeros n k

refused_selected : (number side n : ℕ) → select_in (refused_by number side) n ≡ select (refused number side) n
unfolding select_in refused_by select selected
refused_selected number side zero = refl
refused_selected number side (suc zero) = refl
refused_selected number side (suc (suc zero)) = refl
refused_selected number side (suc (suc (suc zero))) = refl
refused_selected number side (suc (suc (suc (suc n)))) = zeros (suc kind_count) n

pub outcome_selected : (o : Outcome) (n : ℕ) → select_in (outcome_values o) n ≡ select o n
unfolding outcome_values select_in select selected
outcome_selected (refused number side) n = refused_selected number side n
outcome_selected (answered a) n = refl

pub outcome_length : (o : Outcome) → (outcome_values o).length ≡ text_length o
unfolding outcome_values refused_by text_length
outcome_length (refused number side) = refl
outcome_length (answered a) = refl

-- ---- of a refusal

-- a refusal has a number
pub refusal_some : (r : Refusal) → refusal_number r ≡ 0 → ⊥
refusal_some refusal.Long e = absurd (omega arith)
refusal_some refusal.ShortHead e = absurd (omega arith)
refusal_some refusal.Format e = absurd (omega arith)
refusal_some refusal.Crowded e = absurd (omega arith)
refusal_some refusal.Contents e = absurd (omega arith)
refusal_some refusal.Kind e = absurd (omega arith)
refusal_some refusal.Name e = absurd (omega arith)
refusal_some refusal.Body e = absurd (omega arith)
refusal_some refusal.Code e = absurd (omega arith)
refusal_some refusal.Deep e = absurd (omega arith)
refusal_some refusal.AliasPair e = absurd (omega arith)
refusal_some refusal.Full e = absurd (omega arith)
refusal_some refusal.Mixed e = absurd (omega arith)
