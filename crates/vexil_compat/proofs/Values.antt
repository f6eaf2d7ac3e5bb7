-- The values of a function from 0 on: how many there are, which stands where, and a buffer that is filled with them from its start. What a
-- selector gives of the verdict on two images. Assumes nothing.
use mathlib.Core.Path.{◌≡◌, refl, sym, ap, ◌∙◌}
use mathlib.Core.Bool.{Bool, true, false}
use mathlib.Core.List.{List, [], ◌∷◌, ◌++◌}
use Prim.Native.Nat.{ℕ, zero, suc, ◌+◌, ◌≤◌, ◌<◌}
use native.Mathlib.Numerals.{add-one}
use native.Mathlib.Omega.{arith}
use borrow.Author.Tests.{leb-true, leb-false}
use lib.Dec.{leb}
use lib.ListN.{length, get_or, take, set, length-set, length-append, get_or-append}
use lib.Seq.{take-suc-set, take-length, get_or_at}
use Rattle.rules.specs.Answer.{Policy, outcome, verdict_by}
use Rattle.verdicts.specs.Verdicts.{outcome_values, select_in}
use Rattle.verdicts.specs.declared.Values.{Values}
use Rattle.verdicts.proofs.Selectors.{outcome_selected}
use Rattle.vexil_compat.specs.Calls.{values_of, Valued}

module _ (f : ℕ → ℕ) where
  pub values_length : (n : ℕ) → length (values_of f n) ≡ n
  unfolding values_of
  values_length zero = refl
  values_length (suc n) = length-append (values_of f n) (f n ∷ []) ∙ ap (λ (k : ℕ). k + 1) (values_length n) ∙ add-one n

  -- the place k holds f k
  pub values_at : (n k : ℕ) → k < n → get_or (values_of f n) k 0 ≡ f k
  unfolding values_of
  values_at zero k h = absurd (omega arith)
  values_at (suc n) k h = go (values_at n k) (leb n k) refl
    where
      go : (k < n → get_or (values_of f n) k 0 ≡ f k) → (b : Bool) → leb n k ≡ b → get_or (values_of f n ++ f n ∷ []) k 0 ≡ f k
      go before true q =
          let e : n ≡ k = omega (arith, leb-true n k q) in
          get_or_at (values_of f n) (f n) [] 0 k (values_length n ∙ e) ∙ ap f e
      go before false q =
          let l : k < n = leb-false n k q in
          get_or-append (values_of f n) (f n ∷ []) 0 k (omega (arith, values_length n)) ∙ before l

  -- the first i places of the buffer hold the first i values; d is the buffer at the start
  pub record Filled (d : List ℕ) (i : ℕ) (d' : List ℕ) : Type 0 where
    pub size : length d' ≡ length d
    pub below : i ≤ length d
    pub first : take i d' ≡ values_of f i

  module _ (d : List ℕ) where
    pub filled_start : Filled d 0 d
    unfolding values_of
    filled_start = record { size = refl; below = omega arith; first = refl }

    pub filled_next : {i : ℕ} {d' : List ℕ} {x : ℕ} → Filled d i d' → i < length d → x ≡ f i → Filled d (i + 1) (set d' i x)
    unfolding values_of
    filled_next {i} {d'} {x} p l e =
        record {
          size = length-set d' i x ∙ p.size;
          below = omega (arith, p.size);
          first = ap (λ (k : ℕ). take k (set d' i x)) (add-one i) ∙ take-suc-set d' i x (omega (arith, p.size)) ∙ rw (p.first, e, add-one i);
        }

    pub filled_end : {i : ℕ} {d' : List ℕ} → Filled d i d' → length d ≤ i → d' ≡ values_of f (length d)
    filled_end {i} {d'} p l =
        let e : i ≡ length d = omega (arith, p.below) in
        let q : length d' ≡ i = omega (arith, p.size, p.below) in
        sym (take-length d') ∙ ap (λ (k : ℕ). take k d') q ∙ p.first ∙ ap (values_of f) e

-- ---- of two images

module _ (p : Policy) (old new : List ℕ) {v : Values} (e : v ≡ outcome_values (outcome p old new)) where
  pub verdict_selected : (n : ℕ) → select_in v n ≡ verdict_by p old new n
  unfolding verdict_by
  verdict_selected n = ap (λ (u : Values). select_in u n) e ∙ outcome_selected (outcome p old new) n

  pub verdict_valued : (d : List ℕ) {d' : List ℕ} → d' ≡ values_of (select_in v) (length d) → Valued (verdict_by p old new) d v.number d'
  unfolding select_in
  verdict_valued d p = (verdict_selected 0, p ∙ (λ i. values_of (λ n. verdict_selected n i) (length d)))
