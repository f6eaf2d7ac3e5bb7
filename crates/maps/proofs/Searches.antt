-- What stands under a key is what a search from the end finds first, and what a pass from the front that keeps the last match finds: the
-- laws of a step of each.
-- Assumes nothing.
use mathlib.Core.Path.{◌≡◌, refl, sym, ap, ◌∙◌}
use mathlib.Core.Bool.{Bool, true, false, cond, ◌||◌}
use mathlib.Core.List.{List, [], ◌∷◌, ◌++◌, flat_map, append-nil}
use Rattle.std.specs.Prelude.{Option, None, Some}
use Rattle.std.specs.Option.{option_or, is_some}
use Prim.Native.Nat.{ℕ, zero, suc, ◌-◌, ◌≤◌, ◌<◌}
use native.Mathlib.Nat.{not-suc-le-zero}
use native.Mathlib.Omega.{arith}
use lib.ListN.{length, get_or, take}
use lib.Seq.{take-suc, take-length}
use Rattle.maps.specs.Lists.{pass}
use Rattle.maps.specs.Orders.{Strict, same}
use Rattle.maps.specs.Keyed.{survivors, lookup}
use Rattle.maps.specs.Walk.{better, least, has, seen, last_seen, latest}
use Rattle.maps.proofs.Lists.{flat_map_append}
use Rattle.maps.proofs.Survivors.{lookup_last_seen}

or_none : {A : Type 0} (o : Option A) → option_or o None ≡ o
or_none None = refl
or_none (Some a) = refl

or_assoc : {A : Type 0} (o p q : Option A) → option_or o (option_or p q) ≡ option_or (option_or o p) q
or_assoc None p q = refl
or_assoc (Some a) p q = refl

module _ {K E : Type 0} (key : E → K) (lt : K → K → Bool) (k : K) where
  pub seen_here : (o : Option E) (e : E) → same lt k (key e) ≡ true → seen key lt k o e ≡ Some e
  unfolding seen
  seen_here o e p = rw p

  pub seen_other : (o : Option E) (e : E) → same lt k (key e) ≡ false → seen key lt k o e ≡ o
  unfolding seen
  seen_other o e p = rw p

  seen_or : (o : Option E) (e : E) → seen key lt k o e ≡ option_or (seen key lt k None e) o
  unfolding seen
  seen_or o e = go (same lt k (key e))
    where
      go : (u : Bool) → cond u (Some e) o ≡ option_or (cond u (Some e) None) o
      go true = refl
      go false = refl

  -- ---- from the front

  pub last_seen_cons : (o : Option E) (e : E) (l : List E) → last_seen key lt k o (e ∷ l) ≡ last_seen key lt k (seen key lt k o e) l
  unfolding last_seen pass
  last_seen_cons o e l = refl

  pub last_seen_nil : (o : Option E) → last_seen key lt k o [] ≡ o
  unfolding last_seen pass
  last_seen_nil o = refl

  pub last_seen_latest : (o : Option E) (l : List E) → last_seen key lt k o l ≡ option_or (latest key lt k l) o
  unfolding latest
  last_seen_latest o [] = last_seen_nil o
  last_seen_latest o (e ∷ l) =
      last_seen_cons o e l
      ∙ last_seen_latest (seen key lt k o e) l
      ∙ ap (option_or (latest key lt k l)) (seen_or o e)
      ∙ or_assoc (latest key lt k l) (seen key lt k None e) o

  -- ---- from the end

  pub latest_append : (xs ys : List E) → latest key lt k (xs ++ ys) ≡ option_or (latest key lt k ys) (latest key lt k xs)
  unfolding latest
  latest_append [] ys = sym (or_none (latest key lt k ys))
  latest_append (e ∷ xs) ys =
      ap (λ o. option_or o (seen key lt k None e)) (latest_append xs ys)
      ∙ sym (or_assoc (latest key lt k ys) (latest key lt k xs) (seen key lt k None e))

  -- A loop that goes back over the positions of a list, each of which stands for some entries: for none, if it is skipped, or for one.
  module _ {A : Type 0} (f : A → List E) (l : List A) where
    pub latest_start : latest key lt k (flat_map f (take (length l) l)) ≡ latest key lt k (flat_map f l)
    latest_start = rw (take-length l)

    pub latest_nothing : (i : ℕ) → i ≡ 0 → latest key lt k (flat_map f (take i l)) ≡ None
    unfolding latest flat_map
    latest_nothing i e = rw e

    module _ (d : A) where
      back : (i : ℕ) → i < length l
          → latest key lt k (flat_map f (take (suc i) l)) ≡ option_or (latest key lt k (f (get_or l i d))) (latest key lt k (flat_map f (take i l)))
      unfolding flat_map
      back i h =
          ap (λ x. latest key lt k (flat_map f x)) (take-suc l i d h)
          ∙ ap (latest key lt k) (flat_map_append f (take i l) (get_or l i d ∷ []))
          ∙ rw (append-nil (f (get_or l i d))) (latest_append (flat_map f (take i l)) (f (get_or l i d)))

      pub latest_back : (i : ℕ) → 0 < i → i ≤ length l
          → latest key lt k (flat_map f (take i l)) ≡ option_or (latest key lt k (f (get_or l (i - 1) d))) (latest key lt k (flat_map f (take (i - 1) l)))
      latest_back zero h b = absurd (not-suc-le-zero h)
      latest_back (suc i) h b = let q : suc i - 1 ≡ i = omega arith in rw q (back i b)

      module _ (i : ℕ) (h : 0 < i) (b : i ≤ length l) where
        pub latest_skips : f (get_or l (i - 1) d) ≡ [] → latest key lt k (flat_map f (take i l)) ≡ latest key lt k (flat_map f (take (i - 1) l))
        unfolding latest
        latest_skips e = latest_back i h b ∙ rw e

        module _ (e : E) (one : f (get_or l (i - 1) d) ≡ e ∷ []) where
          pub latest_other : same lt k (key e) ≡ false → latest key lt k (flat_map f (take i l)) ≡ latest key lt k (flat_map f (take (i - 1) l))
          unfolding latest
          latest_other p = latest_back i h b ∙ rw (one, seen_other None e p)

          pub latest_found : same lt k (key e) ≡ true → latest key lt k (flat_map f (take i l)) ≡ Some e
          unfolding latest
          latest_found p = latest_back i h b ∙ rw (one, seen_here None e p)

-- the two searches find what stands
pub lookup_latest : {K E : Type 0} {lt : K → K → Bool} (key : E → K) (S : Strict K lt) (k : K) (l : List E)
    → lookup key lt k (survivors key lt l) ≡ latest key lt k l
lookup_latest {lt = lt} key S k l = lookup_last_seen key S k l ∙ last_seen_latest key lt k None l ∙ or_none (latest key lt k l)

-- ---- whether an entry is listed, from the front

module _ {K E : Type 0} (key : E → K) (lt : K → K → Bool) (k : K) where
  pub has_here : (e : E) (l : List E) → same lt k (key e) ≡ true → has key lt k (e ∷ l) ≡ true
  unfolding has
  has_here e l p = rw p

  pub has_other : (e : E) (l : List E) → same lt k (key e) ≡ false → has key lt k (e ∷ l) ≡ has key lt k l
  unfolding has
  has_other e l p = rw p

  pub has_nil : has key lt k [] ≡ false
  unfolding has
  has_nil = refl

  seen_has : (o : Option E) (l : List E) → is_some (last_seen key lt k o l) ≡ is_some o || has key lt k l
  unfolding has seen
  seen_has o [] = ap is_some (last_seen_nil key lt k o) ∙ or_false (is_some o)
    where
      or_false : (u : Bool) → u ≡ u || false
      or_false true = refl
      or_false false = refl
  seen_has o (e ∷ l) = ap is_some (last_seen_cons key lt k o e l) ∙ seen_has (seen key lt k o e) l ∙ go (same lt k (key e)) refl (is_some o) refl
    where
      go : (u : Bool) → same lt k (key e) ≡ u → (v : Bool) → is_some o ≡ v → is_some (seen key lt k o e) || has key lt k l ≡ v || (u || has key lt k l)
      go true p true q = rw p
      go true p false q = rw p
      go false p v q = rw (p, q)

-- something stands under a key if something is listed under it
pub lookup_has : {K E : Type 0} {lt : K → K → Bool} (key : E → K) (S : Strict K lt) (k : K) (l : List E)
    → is_some (lookup key lt k (survivors key lt l)) ≡ has key lt k l
lookup_has {lt = lt} key S k l = ap is_some (lookup_last_seen key S k l) ∙ seen_has key lt k None l

-- ---- the best entry, from the front

module _ {K E : Type 0} (key : E → K) (lt : K → K → Bool) (b : Option K) where
  pub least_cons : (o : Option E) (e : E) (l : List E) → least key lt b o (e ∷ l) ≡ least key lt b (better key lt b o e) l
  unfolding least pass
  least_cons o e l = refl

  pub least_nil : (o : Option E) → least key lt b o [] ≡ o
  unfolding least pass
  least_nil o = refl
