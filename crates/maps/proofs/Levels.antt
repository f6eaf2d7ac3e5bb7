-- The largest level of what two maps report: what holds at each key holds of the whole maps. From a first map to a third it is at most the
-- larger of those to and from a second, and from a map to itself it is the largest of what is kept.
-- Assumes nothing.
use mathlib.Core.Path.{◌≡◌, refl, sym, ◌∙◌}
use mathlib.Core.Bool.{Bool}
use mathlib.Core.List.{List, [], ◌++◌, flat_map}
use Rattle.std.specs.Prelude.{Option, None, Some}
use Prim.Native.Nat.{ℕ, ◌≤◌, max}
use native.Mathlib.Nat.{le_refl, le_trans}
use native.Mathlib.Omega.{arith}
use Rattle.maps.specs.Lists.{largest, All}
use Rattle.maps.specs.Orders.{Strict}
use Rattle.maps.specs.Keyed.{lookup}
use Rattle.maps.specs.Compare.{Rules, unmatched, matched, between, compare}
use Rattle.maps.specs.Walk.{Rising}
use Rattle.maps.proofs.Lists.{all, all_map, largest_whole, largest_parts, largest_bound, largest_each, largest_flat_map, flat_map_same, flat_map_none}
use Rattle.maps.proofs.Survivors.{all_lookup, lookup_key, lookup_own}

-- ---- three lists of reports

-- The level of zs, reported from a first thing to a third, is at most the larger of those of xs, from the first to a second, and of ys, from
-- the second to the third; or at most b.
pub record Chained {C : Type 0} (w : C → ℕ) (b : ℕ) (xs ys zs : List C) : Type 0 where
  pub bound : largest w zs ≤ max b (max (largest w xs) (largest w ys))

module _ {C : Type 0} {w : C → ℕ} {b : ℕ} {xs ys zs : List C} where
  -- the same by bounds: what bounds the two, and b, bounds the third
  pub chained : ((κ : ℕ) → b ≤ κ → largest w xs ≤ κ → largest w ys ≤ κ → largest w zs ≤ κ) → Chained w b xs ys zs
  chained h = record { bound = h (max b (max (largest w xs) (largest w ys))) (omega arith) (omega arith) (omega arith) }

  pub within : Chained w b xs ys zs → (κ : ℕ) → b ≤ κ → largest w xs ≤ κ → largest w ys ≤ κ → largest w zs ≤ κ
  within c κ p q r = omega (arith, c.bound)

  pub chained_small : largest w zs ≤ b → Chained w b xs ys zs
  chained_small h = record { bound = omega arith }

module _ {C : Type 0} {w : C → ℕ} {b : ℕ} {xs xs' ys ys' zs zs' : List C} where
  -- what the first parts report is slack for the second parts
  pub chained_lead : Chained w b xs ys zs → Chained w (max b (max (largest w xs) (largest w ys))) xs' ys' zs' → Chained w b (xs ++ xs') (ys ++ ys') (zs ++ zs')
  chained_lead c d =
      chained (λ κ p q r.
      let u = largest_parts w κ xs xs' q in
      let v = largest_parts w κ ys ys' r in
      largest_whole w κ zs zs' (within c κ p u.0 v.0) (within d κ (omega (arith, u.0, v.0)) u.1 v.1))

  pub chained_append : Chained w b xs ys zs → Chained w b xs' ys' zs' → Chained w b (xs ++ xs') (ys ++ ys') (zs ++ zs')
  chained_append c d = chained_lead c (chained (λ κ p q r. within d κ (omega (arith, p)) q r))

-- a level above that of every change is above that of every list of changes
worst : {C : Type 0} (w : C → ℕ) (ws : List C) → ((c : C) → w c ≤ largest w ws) → (cs : List C) → largest w cs ≤ largest w ws
worst w ws h cs = largest_bound w (largest w ws) cs (all h cs)

-- ---- one key

-- what the rules report of a key, by what the two maps have under it
unfoldable pub report_at : {E C : Type 0} → Rules E C → Option E → Option E → List C
report_at r None None = []
report_at r None (Some f) = r.came f
report_at r (Some e) None = r.gone e
report_at r (Some e) (Some f) = r.kept e f

-- an entry, if there is one, has the key k
unfoldable pub Under : {K E : Type 0} → (E → K) → K → Option E → Type 0
Under key k None = Unit {0}
Under key k (Some e) = key e ≡ k

-- what is reported of a key stands in one of the three parts of `compare`
module _ {E C : Type 0} (w : C → ℕ) (r : Rules E C) where
  abbrev AtParts : Option E → Option E → ℕ → Type 0
  AtParts x y b = (largest w (unmatched r.gone x y) ≤ b) × (largest w (unmatched r.came y x) ≤ b) × (largest w (matched r.kept x y) ≤ b)

  at_parts : (x y : Option E) (b : ℕ) → largest w (report_at r x y) ≤ b → AtParts x y b
  unfolding report_at unmatched matched largest
  at_parts None None b h = omega arith
  at_parts None (Some f) b h = omega arith
  at_parts (Some e) None b h = omega arith
  at_parts (Some e) (Some f) b h = omega arith

  at_whole : (x y : Option E) (b : ℕ) → AtParts x y b → largest w (report_at r x y) ≤ b
  unfolding report_at unmatched matched largest
  at_whole None None b h = omega arith
  at_whole None (Some f) b h = h.1
  at_whole (Some e) None b h = h.0
  at_whole (Some e) (Some f) b h = h.2

-- The facts of single entries from which the rules t, from a first map to a third, are chained by r, to a second, and s, from it. An entry
-- that is gone has the highest level.
module _ {K E C : Type 0} (key : E → K) (w : C → ℕ) (b : ℕ) (r s t : Rules E C) where
  pub record Links : Type 0 where
    pub gone_first : (e : E) (c : C) → w c ≤ largest w (r.gone e)
    pub gone_second : (f : E) (c : C) → w c ≤ largest w (s.gone f)
    -- an entry that the third map alone has; that the first lacks; that all have
    pub came_last : (g : E) → Chained w b [] (s.came g) (t.came g)
    pub came_first : (f g : E) → key f ≡ key g → Chained w b (r.came f) (s.kept f g) (t.came g)
    pub kept_both : (e f g : E) → key e ≡ key f → key f ≡ key g → Chained w b (r.kept e f) (s.kept f g) (t.kept e g)

  links_at : Links → (k : K) (x y z : Option E) → Under key k x → Under key k y → Under key k z → Chained w b (report_at r x y) (report_at s y z) (report_at t x z)
  unfolding report_at Under largest
  links_at h k None None None p q u = record { bound = omega arith }
  links_at h k None None (Some g) p q u = h.came_last g
  links_at h k None (Some f) None p q u = record { bound = omega arith }
  links_at h k None (Some f) (Some g) p q u = h.came_first f g (q ∙ sym u)
  links_at h k (Some e) None z p q u = chained (λ κ i j l. le_trans (worst w (r.gone e) (h.gone_first e) (report_at t (Some e) z)) j)
  links_at h k (Some e) (Some f) None p q u = chained (λ κ i j l. le_trans (worst w (s.gone f) (h.gone_second f) (t.gone e)) l)
  links_at h k (Some e) (Some f) (Some g) p q u = h.kept_both e f g (p ∙ sym q) (q ∙ sym u)

module _ {K E : Type 0} {lt : K → K → Bool} (key : E → K) (S : Strict K lt) where
  lookup_under : (k : K) (m : List E) → Under key k (lookup key lt k m)
  unfolding Under
  lookup_under k m = go (lookup key lt k m) refl
    where
      go : (o : Option E) → lookup key lt k m ≡ o → Under key k o
      go None p = tt
      go (Some e) p = lookup_key key S k m e p

  module _ {C : Type 0} (w : C → ℕ) where
    -- ---- whole maps, by what they have under each key

    module _ (g : Option E → Option E → List C) (m n : List E) where
      pub between_reach : ((o : Option E) → largest w (g None o) ≡ 0) → (k : K)
          → largest w (g (lookup key lt k m) (lookup key lt k n)) ≤ largest w (between key lt g m n)
      unfolding between
      between_reach h k = go (lookup key lt k m) refl
        where
          here : E → List C
          here e = g (Some e) (lookup key lt (key e) n)

          go : (o : Option E) → lookup key lt k m ≡ o → largest w (g o (lookup key lt k n)) ≤ largest w (flat_map here m)
          go None p = omega (arith, h (lookup key lt k n))
          go (Some e) p =
              let q : largest w (here e) ≤ largest (λ a. largest w (here a)) m = all_lookup key lt _ k m e (largest_each (λ a. largest w (here a)) m) p in
              rw (← lookup_key key S k m e p, largest_flat_map here w m) q

      pub between_bound : Rising key lt m → (b : ℕ) → ((k : K) → largest w (g (lookup key lt k m) (lookup key lt k n)) ≤ b)
          → largest w (between key lt g m n) ≤ b
      unfolding between
      between_bound R b h =
          rw (largest_flat_map (λ e. g (Some e) (lookup key lt (key e) n)) w m)
          (largest_bound (λ e. largest w (g (Some e) (lookup key lt (key e) n))) b m (all_map {P = λ e. lookup key lt (key e) m ≡ Some e} (λ e p. rw p at (h (key e))) m (lookup_own key S m R)))

    module _ (r : Rules E C) (m n : List E) where
      abbrev Parts : ℕ → Type 0
      Parts b =
          (largest w (between key lt (unmatched r.gone) m n) ≤ b)
          × (largest w (between key lt (unmatched r.came) n m) ≤ b)
          × (largest w (between key lt (matched r.kept) m n) ≤ b)

      parts : (b : ℕ) → largest w (compare key lt r m n) ≤ b → Parts b
      unfolding compare
      parts b h =
          let p = largest_parts w b _ _ h in
          let q = largest_parts w b _ _ p.1 in
          (p.0, q.0, q.1)

      whole : (b : ℕ) → Parts b → largest w (compare key lt r m n) ≤ b
      unfolding compare
      whole b h = largest_whole w b _ _ h.0 (largest_whole w b _ _ h.1 h.2)

      pub compare_reach : (k : K) → largest w (report_at r (lookup key lt k m) (lookup key lt k n)) ≤ largest w (compare key lt r m n)
      unfolding unmatched matched largest
      compare_reach k =
          let p = parts _ (le_refl (largest w (compare key lt r m n))) in
          at_whole w r _ _ _ (
            le_trans (between_reach (unmatched r.gone) m n (λ o. refl) k) p.0,
            le_trans (between_reach (unmatched r.came) n m (λ o. refl) k) p.1,
            le_trans (between_reach (matched r.kept) m n (λ o. refl) k) p.2,
          )

      pub compare_bound : Rising key lt m → Rising key lt n → (b : ℕ)
          → ((k : K) → largest w (report_at r (lookup key lt k m) (lookup key lt k n)) ≤ b) → largest w (compare key lt r m n) ≤ b
      compare_bound R Q b h =
          whole b (
            between_bound (unmatched r.gone) m n R b (λ k. (at_parts w r (lookup key lt k m) (lookup key lt k n) b (h k)).0),
            between_bound (unmatched r.came) n m Q b (λ k. (at_parts w r (lookup key lt k m) (lookup key lt k n) b (h k)).1),
            between_bound (matched r.kept) m n R b (λ k. (at_parts w r (lookup key lt k m) (lookup key lt k n) b (h k)).2),
          )

    -- ---- from a first map to a third

    module _ (b : ℕ) (r s t : Rules E C) where
      -- what is chained at each key is chained between the maps
      pub chain : ((k : K) (x y z : Option E) → Under key k x → Under key k y → Under key k z → Chained w b (report_at r x y) (report_at s y z) (report_at t x z))
          → (l m n : List E) → Rising key lt l → Rising key lt n → Chained w b (compare key lt r l m) (compare key lt s m n) (compare key lt t l n)
      chain h l m n R Q =
          chained (λ κ p u v.
          compare_bound t l n R Q κ (λ k.
          within (h k _ _ _ (lookup_under k l) (lookup_under k m) (lookup_under k n)) κ p (le_trans (compare_reach r l m k) u) (le_trans (compare_reach s m n k) v)))

      pub chain_links : Links key w b r s t → (l m n : List E) → Rising key lt l → Rising key lt n
          → Chained w b (compare key lt r l m) (compare key lt s m n) (compare key lt t l n)
      chain_links h = chain (links_at key w b r s t h)

  -- ---- from a map to itself

  module _ {C : Type 0} (m : List E) (R : Rising key lt m) where
    pub between_self : (g : Option E → Option E → List C) → between key lt g m m ≡ flat_map (λ e. g (Some e) (Some e)) m
    unfolding between
    between_self g = flat_map_same _ _ m (all_map {P = λ e. lookup key lt (key e) m ≡ Some e} (λ e p. rw p) m (lookup_own key S m R))

    module _ (r : Rules E C) where
      -- nothing is gone, nothing came
      pub compare_self : compare key lt r m m ≡ flat_map (λ e. r.kept e e) m
      unfolding compare unmatched matched
      compare_self =
          rw (
            between_self (unmatched r.gone),
            between_self (unmatched r.came),
            between_self (matched r.kept),
            flat_map_none m,
          )

      module _ (w : C → ℕ) where
        pub self_largest : largest w (compare key lt r m m) ≡ largest (λ e. largest w (r.kept e e)) m
        self_largest = rw compare_self (largest_flat_map (λ e. r.kept e e) w m)

        pub self_bound : (b : ℕ) → All (λ e. largest w (r.kept e e) ≤ b) m → largest w (compare key lt r m m) ≤ b
        self_bound b h = rw self_largest (largest_bound (λ e. largest w (r.kept e e)) b m h)

        pub self_none : All (λ e. largest w (r.kept e e) ≡ 0) m → largest w (compare key lt r m m) ≡ 0
        self_none h = omega (arith, self_bound 0 (all_map (λ e p. omega (arith, p)) m h))
