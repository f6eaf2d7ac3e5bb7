-- Laws of strict orders, and the order of numbers.
-- Assumes nothing.
use mathlib.Core.Path.{◌≡◌, refl, sym}
use mathlib.Core.Bool.{Bool, true, false, not, ◌&&◌}
use Prim.Native.Nat.{ℕ}
use native.Mathlib.Nat.{le_antisymm}
use native.Mathlib.Omega.{arith}
use borrow.Author.Tests.{lt-ltb, le-ltb, ltb-true, ltb-false}
use lib.Dec.{ltb}
use Rattle.maps.specs.Orders.{Strict, same}
use Rattle.maps.proofs.Tests.{no_both}

module _ {K : Type 0} {lt : K → K → Bool} (S : Strict K lt) where
  pub asym : (a b : K) → lt a b ≡ true → lt b a ≡ false
  asym a b p = go (lt b a) refl
    where
      go : (t : Bool) → lt b a ≡ t → lt b a ≡ false
      go true q = no_both (S.trans a b a p q) (S.irrefl a)
      go false q = q

  -- the test of sameness is that of equality
  pub same_self : (a : K) → same lt a a ≡ true
  unfolding same
  same_self a = rw (S.irrefl a)

  pub same_eq : (a b : K) → same lt a b ≡ true → a ≡ b
  unfolding same
  same_eq a b = go (lt a b) (lt b a) refl refl
    where
      go : (u v : Bool) → lt a b ≡ u → lt b a ≡ v → (not u && not v) ≡ true → a ≡ b
      go true v p q e = no_both refl (sym e)
      go false true p q e = no_both refl (sym e)
      go false false p q e = S.total a b p q

  pub eq_same : (a b : K) → a ≡ b → same lt a b ≡ true
  eq_same a b e = rw e (same_self b)

  pub ne_same : (a b : K) → (a ≡ b → ⊥) → same lt a b ≡ false
  ne_same a b n = go (same lt a b) refl
    where
      go : (t : Bool) → same lt a b ≡ t → same lt a b ≡ false
      go true p = absurd (n (same_eq a b p))
      go false p = p

  pub same_ne : (a b : K) → same lt a b ≡ false → a ≡ b → ⊥
  same_ne a b p e = no_both (eq_same a b e) p

  pub before_other : (a b : K) → lt a b ≡ true → same lt a b ≡ false
  unfolding same
  before_other a b p = rw p

  pub after_other : (a b : K) → lt b a ≡ true → same lt a b ≡ false
  after_other a b p = ne_same a b (λ e. no_both (rw e at p) (S.irrefl b))

pub by_number : Strict ℕ ltb
by_number = record {
  irrefl = λ a. le-ltb a a (omega arith);
  trans = λ a b c p q. lt-ltb a c (omega (arith, ltb-true a b p, ltb-true b c q));
  total = λ a b p q. le_antisymm (ltb-false b a q) (ltb-false a b p);
}
