-- The byte order of names is a strict order; how a loop over two names finds their order, or whether they are equal.
-- Assumes nothing.
use mathlib.Core.Path.{◌≡◌, refl, sym, ap, ◌∙◌}
use mathlib.Core.Bool.{Bool, true, false, cond, not, ◌&&◌}
use mathlib.Core.List.{List, [], ◌∷◌}
use Prim.Native.Nat.{ℕ, suc, ◌+◌, ◌≤◌, ◌<◌}
use native.Mathlib.Nat.{le_antisymm}
use native.Mathlib.Omega.{arith}
use native.Mathlib.Numerals.{add-one}
use borrow.Author.Tests.{lt-ltb, le-ltb, ltb-true, ltb-false, eq-eqb, ne_eqb}
use lib.Dec.{ltb, eqb}
use lib.ListN.{length, get_or, drop, drop_of_length-le}
use lib.Seq.{drop-cons}
use Rattle.std.specs.declared.cmp.Ordering.{Ordering}
use Rattle.std.specs.declared.cmp.Ordering.TheVariants.{Less, Equal, Greater}
use Rattle.std.specs.Prelude.{Some}
use Rattle.std.specs.Ordering.{is_lt, is_eq, is_some_and, ordering_reverse, ordering_then, nat_cmp}
use Rattle.std.specs.Cmp.Lexicographic.{slice_cmp, slice_partial_cmp, lists_agrees}
use Rattle.maps.specs.Orders.{Strict, same, order_of, before}
use Rattle.maps.proofs.Tests.{no_both}
use Rattle.maps.proofs.Orders.{ne_same}

irrefl : (a : List ℕ) → before a a ≡ false
unfolding before order_of
irrefl [] = refl
irrefl (x ∷ xs) = rw (le-ltb x x (omega arith)) (irrefl xs)

trans : (a b c : List ℕ) → before a b ≡ true → before b c ≡ true → before a c ≡ true
unfolding before order_of
trans [] [] c p q = no_both refl (sym p)
trans [] (y ∷ b) [] p q = no_both refl (sym q)
trans [] (y ∷ b) (z ∷ c) p q = refl
trans (x ∷ a) [] c p q = no_both refl (sym p)
trans (x ∷ a) (y ∷ b) [] p q = no_both refl (sym q)
trans (x ∷ a) (y ∷ b) (z ∷ c) p q = go (ltb x y) (ltb y x) (ltb y z) (ltb z y) refl refl refl refl p q (trans a b c)
  where
    go : (u v s w : Bool) → ltb x y ≡ u → ltb y x ≡ v → ltb y z ≡ s → ltb z y ≡ w
        → is_lt (cond u Less (cond v Greater (order_of a b))) ≡ true → is_lt (cond s Less (cond w Greater (order_of b c))) ≡ true
        → (before a b ≡ true → before b c ≡ true → before a c ≡ true)
        → is_lt (cond (ltb x z) Less (cond (ltb z x) Greater (order_of a c))) ≡ true
    go true v true w pu pv ps pw p q ih = rw (lt-ltb x z (omega (arith, ltb-true x y pu, ltb-true y z ps)))
    go true v false true pu pv ps pw p q ih = no_both refl (sym q)
    go true v false false pu pv ps pw p q ih = rw (lt-ltb x z (omega (arith, ltb-true x y pu, ltb-false z y pw)))
    go false true s w pu pv ps pw p q ih = no_both refl (sym p)
    go false false true w pu pv ps pw p q ih = rw (lt-ltb x z (omega (arith, ltb-false y x pv, ltb-true y z ps)))
    go false false false true pu pv ps pw p q ih = no_both refl (sym q)
    go false false false false pu pv ps pw p q ih =
        let e : x ≡ z = omega (arith, ltb-false x y pu, ltb-false y x pv, ltb-false y z ps, ltb-false z y pw) in
        rw (le-ltb x z (omega arith), le-ltb z x (omega arith)) (ih p q)

total : (a b : List ℕ) → before a b ≡ false → before b a ≡ false → a ≡ b
unfolding before order_of
total [] [] p q = refl
total [] (y ∷ b) p q = no_both refl p
total (x ∷ a) [] p q = no_both refl q
total (x ∷ a) (y ∷ b) p q = go (ltb x y) (ltb y x) refl refl p q (total a b)
  where
    go : (u v : Bool) → ltb x y ≡ u → ltb y x ≡ v → is_lt (cond u Less (cond v Greater (order_of a b))) ≡ false
        → is_lt (cond v Less (cond u Greater (order_of b a))) ≡ false → (before a b ≡ false → before b a ≡ false → a ≡ b) → ◌≡◌ {A = List ℕ} (x ∷ a) (y ∷ b)
    go true v pu pv p q ih = no_both refl p
    go false true pu pv p q ih = no_both refl q
    go false false pu pv p q ih =
        let e : x ≡ y = le_antisymm (ltb-false y x pv) (ltb-false x y pu) in
        rw (e, ih p q)

pub by_name : Strict (List ℕ) before
by_name = record { irrefl = irrefl; trans = trans; total = total }

-- ---- the order as an answer

-- it is that of std's slices
pub slice_order : (a b : List ℕ) → slice_cmp nat_cmp a b ≡ order_of a b
unfolding order_of
slice_order [] [] = refl
slice_order [] (y ∷ b) = refl
slice_order (x ∷ a) [] = refl
slice_order (x ∷ a) (y ∷ b) = go (ltb x y) (ltb y x) refl refl (slice_order a b)
  where
    go : (u v : Bool) → ltb x y ≡ u → ltb y x ≡ v → slice_cmp nat_cmp a b ≡ order_of a b
        → ordering_then (cond u Less (cond (eqb x y) Equal Greater)) (slice_cmp nat_cmp a b) ≡ cond u Less (cond v Greater (order_of a b))
    go true v pu pv ih = refl
    go false true pu pv ih = rw (ne_eqb x y (let h = ltb-true y x pv in omega arith))
    go false false pu pv ih = rw (eq-eqb x y (le_antisymm (ltb-false y x pv) (ltb-false x y pu))) ih

-- and so is `<` of them
pub slice_before : (a b : List ℕ) {t : Bool} → t ≡ is_some_and is_lt (slice_partial_cmp (λ x y. Some (nat_cmp x y)) a b) → t ≡ before a b
unfolding before
slice_before a b p = p ∙ ap (is_some_and is_lt) (lists_agrees {R = nat_cmp} (λ x y. refl) a b) ∙ ap is_lt (slice_order a b)

-- two names the other way round
flipped : (a b : List ℕ) → order_of b a ≡ ordering_reverse (order_of a b)
unfolding order_of
flipped [] [] = refl
flipped [] (y ∷ b) = refl
flipped (x ∷ a) [] = refl
flipped (x ∷ a) (y ∷ b) = go (ltb x y) (ltb y x) refl refl (flipped a b)
  where
    go : (u v : Bool) → ltb x y ≡ u → ltb y x ≡ v → order_of b a ≡ ordering_reverse (order_of a b)
        → cond v Less (cond u Greater (order_of b a)) ≡ ordering_reverse (cond u Less (cond v Greater (order_of a b)))
    go true true pu pv ih = absurd (omega (arith, ltb-true x y pu, ltb-true y x pv))
    go true false pu pv ih = refl
    go false true pu pv ih = refl
    go false false pu pv ih = ih

-- what an answer says of two names
module _ (a b : List ℕ) {o : Ordering} (e : order_of a b ≡ o) where
  pub same_told : same before a b ≡ is_eq o
  unfolding before same
  same_told = rw (flipped a b, e) (go o)
    where
      go : (x : Ordering) → (not (is_lt x) && not (is_lt (ordering_reverse x))) ≡ is_eq x
      go Less = refl
      go Equal = refl
      go Greater = refl

-- ---- a loop over two names: they agree as far as i

module _ (a b : List ℕ) (i : ℕ) (p : order_of a b ≡ order_of (drop i a) (drop i b)) where
  pub ends_same : length a ≤ i → length b ≤ i → Equal ≡ order_of a b
  unfolding order_of
  ends_same h k = sym (p ∙ rw (drop_of_length-le a h, drop_of_length-le b k))

  -- a byte of each
  module _ (h : i < length a) (k : i < length b) where
    turns : order_of a b
        ≡ cond (ltb (get_or a i 0) (get_or b i 0)) Less (cond (ltb (get_or b i 0) (get_or a i 0)) Greater (order_of (drop (suc i) a) (drop (suc i) b)))
    unfolding order_of
    turns = p ∙ rw (drop-cons a i 0 h, drop-cons b i 0 k)

    pub finds_less : get_or a i 0 < get_or b i 0 → Less ≡ order_of a b
    finds_less l = sym (turns ∙ rw (lt-ltb _ _ l))

    pub finds_greater : get_or b i 0 < get_or a i 0 → Greater ≡ order_of a b
    finds_greater l = sym (turns ∙ rw (lt-ltb _ _ l, le-ltb (get_or a i 0) (get_or b i 0) (omega arith)))

    pub goes_on : get_or a i 0 ≡ get_or b i 0 → order_of a b ≡ order_of (drop (i + 1) a) (drop (i + 1) b)
    goes_on e = turns ∙ rw (e, le-ltb (get_or b i 0) (get_or b i 0) (omega arith), add-one)

    pub finds_other : (get_or a i 0 ≡ get_or b i 0 → ⊥) → same before a b ≡ false
    finds_other n = go (ltb (get_or a i 0) (get_or b i 0)) refl
      where
        go : (t : Bool) → ltb (get_or a i 0) (get_or b i 0) ≡ t → same before a b ≡ false
        go true q = same_told a b (sym (finds_less (ltb-true (get_or a i 0) (get_or b i 0) q)))
        go false q = same_told a b (sym (finds_greater (omega (arith, ltb-false (get_or a i 0) (get_or b i 0) q))))

pub other_length : (a b : List ℕ) → (length a ≡ length b → ⊥) → same before a b ≡ false
other_length a b n = ne_same by_name a b (λ e. n (ap length e))
