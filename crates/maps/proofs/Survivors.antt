-- What stands is in strictly rising order of the keys, was listed, and is under its key the last listed.
-- Assumes nothing.
use mathlib.Core.Path.{◌≡◌, refl, sym, ap, ◌∙◌, subst}
use mathlib.Core.Bool.{Bool, true, false, cond}
use mathlib.Core.List.{List, [], ◌∷◌}
use Rattle.std.specs.Prelude.{Option, None, Some}
use Rattle.std.proofs.lemmas.Option.{same_Some, none-some}
use Rattle.maps.specs.Lists.{All}
use Rattle.maps.specs.Orders.{Strict, same}
use Rattle.maps.specs.Keyed.{insert, survivors, lookup}
use Rattle.maps.specs.Walk.{Rising, seen, last_seen}
use Rattle.maps.proofs.Lists.{all, all_map, pass_keeps, pass_view}
use Rattle.maps.proofs.Tests.{no_both}
use Rattle.maps.proofs.Orders.{same_self, same_eq, before_other, after_other}

-- ---- one entry more

-- before the first entry of a map, after it, or in its stead
pub insert_cases : {K E : Type 0} (key : E → K) (lt : K → K → Bool) (f : E) (m : List E) (e : E) (P : List E → Type 0)
    → (lt (key e) (key f) ≡ true → P (e ∷ f ∷ m))
    → (lt (key e) (key f) ≡ false → lt (key f) (key e) ≡ true → P (f ∷ insert key lt m e))
    → (lt (key e) (key f) ≡ false → lt (key f) (key e) ≡ false → P (e ∷ m))
    → P (insert key lt (f ∷ m) e)
unfolding insert
insert_cases key lt f m e P before after same = go (lt (key e) (key f)) (lt (key f) (key e)) refl refl
  where
    go : (u v : Bool) → lt (key e) (key f) ≡ u → lt (key f) (key e) ≡ v → P (cond u (e ∷ f ∷ m) (cond v (f ∷ insert key lt m e) (e ∷ m)))
    go true v p q = before p
    go false true p q = after p q
    go false false p q = same p q

-- ---- what stands was listed

module _ {K E : Type 0} (key : E → K) (lt : K → K → Bool) (P : E → Type 0) where
  pub all_insert : (m : List E) (e : E) → All P m → P e → All P (insert key lt m e)
  unfolding insert All
  all_insert [] e h p = (p, tt)
  all_insert (f ∷ m) e h p =
      insert_cases key lt f m e (All P) (λ u. (p, h)) (λ u v. (h.0, all_insert m e h.1 p)) (λ u v. (p, h.1))

  pub all_survivors : (l : List E) → All P l → All P (survivors key lt l)
  unfolding survivors All
  all_survivors l h = pass_keeps (insert key lt) (All P) P all_insert [] l tt h

  -- what is found was there
  pub all_lookup : (k : K) (m : List E) (e : E) → All P m → lookup key lt k m ≡ Some e → P e
  unfolding lookup All
  all_lookup k [] e h p = absurd (none-some e p)
  all_lookup k (f ∷ m) e h p = go (same lt k (key f)) p (all_lookup k m e h.1)
    where
      go : (u : Bool) → cond u (Some f) (lookup key lt k m) ≡ Some e → (lookup key lt k m ≡ Some e → P e) → P e
      go true q ih = subst P (same_Some f e q) h.0
      go false q ih = ih q

-- every key of m is after k
abbrev pub After : {K E : Type 0} → (E → K) → (K → K → Bool) → K → List E → Type 0
After key lt k m = All (λ f. lt k (key f) ≡ true) m

module _ {K E : Type 0} {lt : K → K → Bool} (key : E → K) (S : Strict K lt) where
  -- ---- in rising order

  after_trans : (j k : K) (m : List E) → lt j k ≡ true → After key lt k m → After key lt j m
  after_trans j k m p h = all_map (λ f q. S.trans j k (key f) p q) m h

  rising_insert : (m : List E) (e : E) → Rising key lt m → Rising key lt (insert key lt m e)
  unfolding insert Rising All
  rising_insert [] e h = (tt, tt)
  rising_insert (f ∷ m) e h =
      insert_cases key lt f m e (Rising key lt)
      (λ u. ((u, after_trans (key e) (key f) m u h.0), h))
      (λ u v. (all_insert key lt (λ g. lt (key f) (key g) ≡ true) m e h.0 v, rising_insert m e h.1))
      (λ u v. (subst (λ (k : K). After key lt k m) (sym (S.total (key e) (key f) u v)) h.0, h.1))

  pub rising : (l : List E) → Rising key lt (survivors key lt l)
  unfolding survivors Rising
  rising l = pass_keeps (insert key lt) (Rising key lt) (λ e. Unit {0}) (λ m e R q. rising_insert m e R) [] l tt (all (λ e. tt) l)

  -- ---- the last listed

  pub lookup_insert : (k : K) (m : List E) (e : E) → lookup key lt k (insert key lt m e) ≡ seen key lt k (lookup key lt k m) e
  unfolding lookup insert seen
  lookup_insert k [] e = refl
  lookup_insert k (f ∷ m) e =
      insert_cases key lt f m e (λ l. lookup key lt k l ≡ seen key lt k (lookup key lt k (f ∷ m)) e)
      (λ u. refl)
      (λ u v. ap (cond (same lt k (key f)) (Some f)) (lookup_insert k m e) ∙ other v (same lt k (key e)) (same lt k (key f)) refl refl)
      (λ u v. equal (same lt k (key e)) (same lt k (key f)) (ap (same lt k) (S.total (key e) (key f) u v)))
    where
      -- k is the key of one of them at most
      other : lt (key f) (key e) ≡ true → (s t : Bool) → same lt k (key e) ≡ s → same lt k (key f) ≡ t
          → cond t (Some f) (cond s (Some e) (lookup key lt k m)) ≡ cond s (Some e) (cond t (Some f) (lookup key lt k m))
      other v true true p q = no_both q (after_other S k (key f) (rw (same_eq S k (key e) p) v))
      other v true false p q = refl
      other v false t p q = refl

      equal : (s t : Bool) → s ≡ t → cond s (Some e) (lookup key lt k m) ≡ cond s (Some e) (cond t (Some f) (lookup key lt k m))
      equal true t p = refl
      equal false t p = rw (← p)

  -- the search in what stands finds what a pass from the front keeps
  pub lookup_last_seen : (k : K) (l : List E) → lookup key lt k (survivors key lt l) ≡ last_seen key lt k None l
  unfolding survivors lookup last_seen
  lookup_last_seen k l = pass_view (insert key lt) (seen key lt k) (lookup key lt k) (lookup_insert k) [] l

  -- ---- entries under their keys

  pub lookup_key : (k : K) (m : List E) (e : E) → lookup key lt k m ≡ Some e → key e ≡ k
  unfolding lookup
  lookup_key k [] e p = absurd (none-some e p)
  lookup_key k (f ∷ m) e p = go (same lt k (key f)) refl p (lookup_key k m e)
    where
      go : (u : Bool) → same lt k (key f) ≡ u → cond u (Some f) (lookup key lt k m) ≡ Some e → (lookup key lt k m ≡ Some e → key e ≡ k) → key e ≡ k
      go true q r ih = ap key (sym (same_Some f e r)) ∙ sym (same_eq S k (key f) q)
      go false q r ih = ih r

  -- a key before all those of a map is under none of them
  pub lookup_after : (k : K) (m : List E) → After key lt k m → lookup key lt k m ≡ None
  unfolding lookup All
  lookup_after k [] h = refl
  lookup_after k (f ∷ m) h = rw (before_other S k (key f) h.0) (lookup_after k m h.1)

  -- in a rising map each entry is found under its key
  pub lookup_own : (m : List E) → Rising key lt m → All (λ e. lookup key lt (key e) m ≡ Some e) m
  unfolding lookup Rising All
  lookup_own [] R = tt
  lookup_own (f ∷ m) R = (rw (same_self S (key f)), go m R.0 (lookup_own m R.1))
    where
      go : (l : List E) → After key lt (key f) l → All (λ e. lookup key lt (key e) m ≡ Some e) l → All (λ e. lookup key lt (key e) (f ∷ m) ≡ Some e) l
      go [] h q = tt
      go (e ∷ l) h q = (rw (after_other S (key e) (key f) h.0) q.0, go l h.1 q.1)

  -- by what a map has under the key of an entry
  pub lookup_cases : (e : E) (m : List E) (P : Option E → Type 0) → P None → ((f : E) → key e ≡ key f → P (Some f)) → P (lookup key lt (key e) m)
  lookup_cases e m P z h = go (lookup key lt (key e) m) refl
    where
      go : (o : Option E) → lookup key lt (key e) m ≡ o → P o
      go None p = z
      go (Some f) p = h f (sym (lookup_key (key e) m f p))
