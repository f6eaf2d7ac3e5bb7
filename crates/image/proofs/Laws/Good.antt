-- Answers that are values: what was read before them was a value too, and so on from part to part. Assumes nothing.
use mathlib.Core.Path.{◌≡◌, refl, ap, ◌∙◌}
use mathlib.Core.List.{List, [], ◌∷◌}
use Prim.Native.Nat.{ℕ, zero, suc, ◌+◌, ◌-◌, ◌<◌}
use native.Mathlib.Omega.{arith}
use native.Mathlib.Numerals.{sub-one}
use lib.ListN.{drop}
use Rattle.image.specs.Parse.{Parsed, ok, no, bind, shift, within, many}
use Rattle.image.specs.WellFormed.{Good, value_or, end_of}
use Rattle.image.proofs.Laws.Sure.{Sure, sure_ok, sure_no}

-- what holds of every answer holds of a good one
pub sure_good : {A : Type 0} {P : A → ℕ → Type 0} {p : Parsed A} (d : A) → Sure P p → Good p → P (value_or d p) (end_of p)
unfolding Good value_or end_of
sure_good d (sure_ok q) g = q
sure_good d sure_no g = absurd g

-- a good answer of two parsers: each is good, and the value is the second's
module _ {A B : Type 0} (d : A) (p : Parsed A) (f : A → ℕ → Parsed B) where
  pub good_first : Good (bind p f) → Good p
  unfolding Good bind
  good_first g = go p g
    where
      go : (p : Parsed A) → Good (bind p f) → Good p
      go (ok a n) g = tt
      go (no k) g = g

  pub bind_is : Good p → bind p f ≡ f (value_or d p) (end_of p)
  unfolding Good bind value_or end_of
  bind_is g = go p g
    where
      go : (p : Parsed A) → Good p → bind p f ≡ f (value_or d p) (end_of p)
      go (ok a n) g = refl
      go (no k) g = absurd g

  pub good_second : Good (bind p f) → Good (f (value_or d p) (end_of p))
  good_second g = rw (bind_is (good_first g)) at g

-- a part
module _ {A : Type 0} (d : A) (p : List ℕ → Parsed A) (s : List ℕ) (at : ℕ) where
  pub within_good : Good (within p s at) → Good (p (drop at s))
  unfolding within shift Good
  within_good g = go (p (drop at s)) g
    where
      go : (q : Parsed A) → Good (shift at q) → Good q
      go (ok a n) g = tt
      go (no k) g = g

  pub within_value : value_or d (within p s at) ≡ value_or d (p (drop at s))
  unfolding within shift value_or
  within_value = go (p (drop at s))
    where
      go : (q : Parsed A) → value_or d (shift at q) ≡ value_or d q
      go (ok a n) = refl
      go (no k) = refl

  pub within_end : Good (within p s at) → end_of (within p s at) ≡ at + end_of (p (drop at s))
  unfolding within shift end_of Good
  within_end g = go (p (drop at s)) g
    where
      go : (q : Parsed A) → Good (shift at q) → end_of (shift at q) ≡ at + end_of q
      go (ok a n) g = refl
      go (no k) g = absurd g

-- so many of a kind, at least one: the first, and the rest
module _ {A : Type 0} (d : A) (p : List ℕ → ℕ → Parsed A) where
  module _ (c : ℕ) (s : List ℕ) (at : ℕ) where
    rest : Parsed A → Parsed (List A)
    rest q = bind (many p c s (end_of q)) (λ xs m. ok (value_or d q ∷ xs) m)

    one_more : Good (many p (suc c) s at) → Good (p s at) × Good (many p c s (end_of (p s at))) × (many p (suc c) s at ≡ rest (p s at))
    unfolding many rest
    one_more g =
        let b = good_first d (p s at) _ g in
        (b, good_first [] (many p c s (end_of (p s at))) _ (good_second d (p s at) _ g), bind_is d (p s at) _ b)

    more_are : Good (many p (suc c) s at)
        → many p (suc c) s at ≡ ok (value_or d (p s at) ∷ value_or [] (many p c s (end_of (p s at)))) (end_of (many p c s (end_of (p s at))))
    unfolding rest
    more_are g =
        let (b, r, e) = one_more g in
        e ∙ bind_is [] (many p c s (end_of (p s at))) _ r

  module _ (c : ℕ) (s : List ℕ) (at : ℕ) (h : 0 < c) (g : Good (many p c s at)) where
    pub many_first : Good (p s at)
    many_first = go c h g
      where
        go : (c : ℕ) → 0 < c → Good (many p c s at) → Good (p s at)
        go zero h g = absurd (omega arith)
        go (suc c) h g = (one_more c s at g).0

    pub many_rest : Good (many p (c - 1) s (end_of (p s at)))
    many_rest = go c h g
      where
        go : (c : ℕ) → 0 < c → Good (many p c s at) → Good (many p (c - 1) s (end_of (p s at)))
        go zero h g = absurd (omega arith)
        go (suc c) h g = rw sub-one (one_more c s at g).1

    pub many_are : value_or [] (many p c s at) ≡ value_or d (p s at) ∷ value_or [] (many p (c - 1) s (end_of (p s at)))
    unfolding value_or
    many_are = go c h g
      where
        go : (c : ℕ) → 0 < c → Good (many p c s at)
            → value_or [] (many p c s at) ≡ value_or d (p s at) ∷ value_or [] (many p (c - 1) s (end_of (p s at)))
        go zero h g = absurd (omega arith)
        go (suc c) h g = rw sub-one (ap (value_or []) (more_are c s at g))

    pub many_end : end_of (many p c s at) ≡ end_of (many p (c - 1) s (end_of (p s at)))
    unfolding end_of
    many_end = go c h g
      where
        go : (c : ℕ) → 0 < c → Good (many p c s at) → end_of (many p c s at) ≡ end_of (many p (c - 1) s (end_of (p s at)))
        go zero h g = absurd (omega arith)
        go (suc c) h g = rw sub-one (ap end_of (more_are c s at g))
