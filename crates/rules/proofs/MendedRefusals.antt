-- When two images get a mended verdict and when each refusal, exactly as specs/MendedRefusals says. Assumes nothing.
use mathlib.Core.Path.{◌≡◌, refl, sym, ap, ◌∙◌}
use mathlib.Core.Bool.{Bool, true, false, not, ◌||◌, beq, or-true}
use Rattle.std.specs.Prelude.{None, Some}
use Rattle.std.proofs.lemmas.Option.{none-some}
use mathlib.Core.List.{List, [], ◌∷◌}
use mathlib.Core.Logic.{◌⊎◌, inl, inr, ◌↔◌}
use Prim.Native.Nat.{ℕ, ◌≤◌, ◌<◌}
use native.Mathlib.Omega.{arith}
use borrow.Author.Tests.{eqb-true}
use lib.Dec.{eqb}
use Rattle.std.proofs.lemmas.Bool.{false_from_ne_true, ne_eqb}
use Rattle.maps.proofs.Tests.{no_both}
use Rattle.image.specs.Schema.{Schema}
use Rattle.image.specs.Codes.{number, both_sides}
use Rattle.rules.specs.Survivors.{view_of}
use Rattle.rules.specs.Clauses.{changes}
use Rattle.rules.specs.Verdict.{alias_pair}
use Rattle.rules.specs.Answer.{Fault, fault, compared, first_fault, outcome, verdict_by, alias_check}
use Rattle.rules.specs.Refusals.{Numbered, AcceptedPair, AliasPair}
use Rattle.rules.specs.Mended.{mended_reading, mixed, mixed_check, mended}
use Rattle.rules.specs.MendedRefusals.{Mixed, Given, MendedRefusals}
use Rattle.rules.proofs.Answer.{here_or_later, here_found, here_passed, tested, untested, usual_fault, alias_fault_lem}
use Rattle.rules.proofs.Standing.{view_rises}
use Rattle.rules.proofs.Refusals.{pair_found, pair_given, accepted_exactly, Paired, Faultless, Faulty, faultless_told, verdict_exactly, fault_exactly, sided, number_given, number_reported, no_fault}

-- ---- what the checks of the pair find: 16, or 11 of two images that are not mixed

pub data MendedFault (x y : Schema) (f : Fault) : Type 0 where
  sixteen : mixed x y ≡ true → f ≡ fault 16 (number both_sides) → MendedFault x y f
  eleven : mixed x y ≡ false → alias_pair (view_of x) (view_of y) ≡ true → f ≡ fault 11 (number both_sides) → MendedFault x y f

module _ (x y : Schema) where
  pub mended_fault : (f : Fault) → first_fault mended.pair x y ≡ Some f → MendedFault x y f
  unfolding mixed_check
  mended_fault f e = go (here_or_later mixed_check (alias_check view_of ∷ []) x y f e)
    where
      go : (mixed_check x y ≡ Some f) ⊎ ((mixed_check x y ≡ None) × (first_fault (alias_check view_of ∷ []) x y ≡ Some f)) → MendedFault x y f
      go (inl q) = let t = tested (fault 16 (number both_sides)) (mixed x y) f q in sixteen t.0 t.1
      go (inr q) = let t = usual_fault view_of x y f q.1 in eleven (untested (fault 16 (number both_sides)) (mixed x y) q.0) t.0 t.1

  pub mixed_fault : mixed x y ≡ true → first_fault mended.pair x y ≡ Some (fault 16 (number both_sides))
  unfolding mixed_check
  mixed_fault e = here_found mixed_check (alias_check view_of ∷ []) x y (rw e)

  -- of two that are not mixed, the checks are those of the verdict of document 01
  pub unmixed_checks : mixed x y ≡ false → first_fault mended.pair x y ≡ first_fault (alias_check view_of ∷ []) x y
  unfolding mixed_check
  unmixed_checks e = here_passed mixed_check (alias_check view_of ∷ []) x y (rw e)

  pub faultless_unmixed : first_fault mended.pair x y ≡ None → mixed x y ≡ false
  faultless_unmixed e = false_from_ne_true (mixed x y) (λ p. none-some _ (sym e ∙ mixed_fault p))

-- a fault's number, and its side
number_of : {f g : Fault} → f ≡ g → f.number ≡ g.number
number_of e = ap (λ (h : Fault). h.number) e

side_of : {f g : Fault} → f ≡ g → f.side ≡ g.side
side_of e = ap (λ (h : Fault). h.side) e

pub mended_numbers : (x y : Schema) (f : Fault) → first_fault mended.pair x y ≡ Some f
    → ((f.number ≡ 16) ⊎ (f.number ≡ 11)) × (f.side ≡ number both_sides)
mended_numbers x y f e = go (mended_fault x y f e)
  where
    go : MendedFault x y f → ((f.number ≡ 16) ⊎ (f.number ≡ 11)) × (f.side ≡ number both_sides)
    go (sixteen m q) = (inl (number_of q), side_of q)
    go (eleven m a q) = (inr (number_of q), side_of q)

pub mended_numbered : Numbered mended
mended_numbered = record {
  alone = λ x k e. absurd (none-some k e);
  pair = λ x y f e. go f (mended_numbers x y f e).0;
}
  where
    go : (f : Fault) → (f.number ≡ 16) ⊎ (f.number ≡ 11) → (f.number ≡ 0 → ⊥) × (f.number ≡ 12 → ⊥)
    go f (inl q) = (λ z. omega arith, λ z. omega arith)
    go f (inr q) = (λ z. omega arith, λ z. omega arith)

-- ---- both tests are what specs/MendedRefusals says

module _ (x y : Schema) where
  mixed_found : mixed x y ≡ true → Mixed x y
  unfolding mixed
  mixed_found e = go (eqb x.format 1) (eqb y.format 1) (eqb x.format 3) (eqb y.format 3) refl refl refl refl e
    where
      not_three : (s : Schema) → eqb s.format 3 ≡ false → ¬ (s.format ≡ 3)
      not_three s p q = no_both (rw q) p

      go : (a b c d : Bool) → eqb x.format 1 ≡ a → eqb y.format 1 ≡ b → eqb x.format 3 ≡ c → eqb y.format 3 ≡ d → (a || (b || not (beq c d))) ≡ true
          → Mixed x y
      go true b c d p q r s f = Mixed.old (eqb-true x.format 1 p)
      go false true c d p q r s f = Mixed.new (eqb-true y.format 1 q)
      go false false true false p q r s f = Mixed.old_three (eqb-true x.format 3 r) (not_three y s)
      go false false false true p q r s f = Mixed.new_three (eqb-true y.format 3 s) (not_three x r)
      go false false true true p q r s f = no_both f refl
      go false false false false p q r s f = no_both f refl

  mixed_given : Mixed x y → mixed x y ≡ true
  unfolding mixed
  mixed_given (Mixed.old p) = rw p
  mixed_given (Mixed.new p) = rw p (or-true (eqb x.format 1))
  mixed_given (Mixed.old_three p n) = rw (p, ne_eqb y.format 3 n) (or-true (eqb y.format 1))
  mixed_given (Mixed.new_three p n) = rw (p, ne_eqb x.format 3 n) (or-true (eqb x.format 1))

  pub mixed_exactly : Faulty mended 16 x y ↔ Mixed x y
  mixed_exactly = (λ q. go q.0 (mended_fault x y q.0 q.1) q.2, λ m. (fault 16 (number both_sides), mixed_fault x y (mixed_given m), refl))
    where
      go : (f : Fault) → MendedFault x y f → f.number ≡ 16 → Mixed x y
      go f (sixteen m q) z = mixed_found m
      go f (eleven m a q) z = absurd (omega (arith, number_of q))

  unmixed : mixed x y ≡ false → ¬ Mixed x y
  unmixed e m = no_both (mixed_given m) e

  unmixed_is : ¬ Mixed x y → mixed x y ≡ false
  unmixed_is h = false_from_ne_true (mixed x y) (λ p. h (mixed_found p))

  aliased : mixed x y ≡ false → AliasPair view_of x y → first_fault mended.pair x y ≡ Some (fault 11 (number both_sides))
  aliased e a = unmixed_checks x y e ∙ alias_fault_lem view_of x y (pair_given view_of view_rises x y a)

  pub aliased_exactly : Faulty mended 11 x y ↔ (¬ Mixed x y × AliasPair view_of x y)
  aliased_exactly = (λ q. go q.0 (mended_fault x y q.0 q.1) q.2, λ h. (fault 11 (number both_sides), aliased (unmixed_is h.0) h.1, refl))
    where
      go : (f : Fault) → MendedFault x y f → f.number ≡ 11 → ¬ Mixed x y × AliasPair view_of x y
      go f (sixteen m q) z = absurd (omega (arith, number_of q))
      go f (eleven m a q) z = (unmixed m, pair_found view_of view_rises x y a)

  pub faultless_exactly : Faultless mended x y ↔ (¬ Mixed x y × ¬ AliasPair view_of x y)
  faultless_exactly = (
    λ e. (
      unmixed (faultless_unmixed x y e),
      λ a. none-some _ (sym e ∙ aliased (faultless_unmixed x y e) a),
    ),
    λ h. no_fault mended x y (λ f e. go f (mended_fault x y f e) h.0 h.1),
  )
    where
      go : (f : Fault) → MendedFault x y f → ¬ Mixed x y → ¬ AliasPair view_of x y → ⊥
      go f (sixteen m q) h k = h (mixed_found m)
      go f (eleven m a q) h k = k (pair_found view_of view_rises x y a)

-- ---- when each number is given

mended_paired : Paired mended
mended_paired = record {
  alone = λ x. refl;
  beyond = λ x y f e. go f (mended_numbers x y f e).0;
  sides = λ x y f e. (mended_numbers x y f e).1;
}
  where
    go : (f : Fault) → (f.number ≡ 16) ⊎ (f.number ≡ 11) → 10 < f.number
    go f (inl q) = omega arith
    go f (inr q) = omega arith

given_pair : (last : ℕ) → 11 ≤ last → (x y : Schema) (f : Fault) → first_fault mended.pair x y ≡ Some f → Given last f.number
given_pair last h x y f e = go (mended_numbers x y f e).0
  where
    go : (f.number ≡ 16) ⊎ (f.number ≡ 11) → Given last f.number
    go (inl q) = Given.mixed q
    go (inr q) = Given.base (omega arith)

module _ (old new : List ℕ) where
  -- two images that get a verdict get that of the clauses and of their widths
  pub mended_told_lem : (a : AcceptedPair old new (λ x y. ¬ Mixed x y × ¬ AliasPair view_of x y))
      → outcome mended old new ≡ compared (changes mended_reading (view_of a.old_schema) (view_of a.new_schema))
  mended_told_lem a = faultless_told mended mended_paired old new a ((faultless_exactly a.old_schema a.new_schema).1 a.holds)

  pub mended_refusals : MendedRefusals old new
  unfolding verdict_by
  mended_refusals = record {
    verdict = accepted_exactly (verdict_exactly mended mended_paired old new) faultless_exactly;
    mixed = accepted_exactly (fault_exactly mended mended_paired old new 16 (omega arith)) mixed_exactly;
    alias_pair = accepted_exactly (fault_exactly mended mended_paired old new 11 (omega arith)) aliased_exactly;
    sides = sided mended mended_paired old new mended_numbered;
    given = number_given mended mended_paired old new (Given 11) (λ n h. Given.base (omega arith)) (given_pair 11 (omega arith));
    given_reported = λ room.
        number_reported mended mended_paired old new (Given 12) (λ n h. Given.base (omega arith)) (given_pair 12 (omega arith)) room (Given.base (omega arith));
  }
