-- The kind under which the same is counted the other way: added for removed and removed for added; and the kinds that need not be counted
-- both ways. Assumes nothing.
use mathlib.Core.Path.{◌≡◌, refl, sym, ap, ◌∙◌}
use mathlib.Core.Bool.{Bool, true, false, cond, ◌||◌}
use Prim.Native.Nat.{ℕ}
use lib.Dec.{eqb}
use borrow.Author.Tests.{eqb-true, eqb-false}
use Rattle.rules.specs.Changes.{kind_at, FieldAdded, FieldRemoved, FieldDeprecated, VariantAdded, VariantRemoved, DeclarationAdded, DeclarationRemoved, FlagsBitAdded, FlagsBitRemoved, TombstoneReused, TombstoneDropped}
use Rattle.maps.proofs.Tests.{no_both}
use Rattle.rules.proofs.Equal.{numbers}

unfoldable pub exchange : ℕ → ℕ → ℕ → ℕ
exchange a b k = cond (eqb k a) b (cond (eqb k b) a k)

exchange_first : (a b : ℕ) → exchange a b a ≡ b
unfolding exchange
exchange_first a b = rw (numbers.self a)

exchange_second : (a b : ℕ) → exchange a b b ≡ a
unfolding exchange
exchange_second a b = go (eqb b a) refl
  where
    go : (x : Bool) → eqb b a ≡ x → cond x b (cond (eqb b b) a b) ≡ a
    go true p = eqb-true b a p
    go false p = rw (numbers.self b)

exchange_twice : (a b k : ℕ) → exchange a b (exchange a b k) ≡ k
unfolding exchange
exchange_twice a b k = go (eqb k a) (eqb k b) refl refl
  where
    go : (x y : Bool) → eqb k a ≡ x → eqb k b ≡ y → exchange a b (cond x b (cond y a k)) ≡ k
    go true y p q = exchange_second a b ∙ sym (eqb-true k a p)
    go false true p q = exchange_first a b ∙ sym (eqb-true k b q)
    go false false p q = rw (p, q)

-- a test between two numbers is that between what they are exchanged for
exchange_test : (a b i j : ℕ) → eqb i j ≡ eqb (exchange a b i) (exchange a b j)
exchange_test a b i j = go (eqb i j) (eqb (exchange a b i) (exchange a b j)) refl refl
  where
    go : (x y : Bool) → eqb i j ≡ x → eqb (exchange a b i) (exchange a b j) ≡ y → x ≡ y
    go true true p q = refl
    go false false p q = refl
    go true false p q = absurd (eqb-false _ _ q (ap (exchange a b) (eqb-true i j p)))
    go false true p q =
        absurd (eqb-false i j p (sym (exchange_twice a b i) ∙ (ap (exchange a b) (eqb-true _ _ q) ∙ exchange_twice a b j)))

-- added for removed and removed for added; any other kind for itself
unfoldable pub mirror : ℕ → ℕ
unfolding exchange
mirror k =
    exchange (kind_at FieldAdded) (kind_at FieldRemoved) (exchange (kind_at VariantAdded) (kind_at VariantRemoved)
    (exchange (kind_at DeclarationAdded) (kind_at DeclarationRemoved) (exchange (kind_at FlagsBitAdded) (kind_at FlagsBitRemoved) k)))

pub mirror_test : (i j : ℕ) → eqb i j ≡ eqb (mirror i) (mirror j)
unfolding mirror
mirror_test i j =
    let f : ℕ → ℕ = exchange (kind_at FlagsBitAdded) (kind_at FlagsBitRemoved) in
    let g : ℕ → ℕ = λ k. exchange (kind_at DeclarationAdded) (kind_at DeclarationRemoved) (f k) in
    let h : ℕ → ℕ = λ k. exchange (kind_at VariantAdded) (kind_at VariantRemoved) (g k) in
    exchange_test (kind_at FlagsBitAdded) (kind_at FlagsBitRemoved) i j ∙ (exchange_test (kind_at DeclarationAdded) (kind_at DeclarationRemoved) (f i) (f j)
    ∙ (exchange_test (kind_at VariantAdded) (kind_at VariantRemoved) (g i) (g j) ∙ exchange_test (kind_at FieldAdded) (kind_at FieldRemoved) (h i) (h j)))

-- deprecations; and R-10: of its two kinds, that they "need not be equal both ways"
unfoldable pub one_way : ℕ → Bool
one_way k = eqb (kind_at FieldDeprecated) k || (eqb (kind_at TombstoneReused) k || eqb (kind_at TombstoneDropped) k)

-- one of them is not a kind that is counted both ways
pub apart : (j k : ℕ) → one_way j ≡ false → one_way k ≡ true → eqb k j ≡ false
apart j k e w = go (eqb k j) refl
  where
    go : (u : Bool) → eqb k j ≡ u → u ≡ false
    go true p = no_both (rw (eqb-true k j p) at w) e
    go false p = refl
