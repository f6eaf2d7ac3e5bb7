-- Sums over what two maps report. Summed over the entries of either map, what is under a key of both is the same: so a comparison and the
-- opposite one count the same, and each entry of either map is met at most once.
-- Assumes nothing.
use mathlib.Core.Path.{◌≡◌, refl, sym}
use mathlib.Core.Bool.{Bool, true, false, cond}
use mathlib.Core.List.{List, [], ◌∷◌, ◌++◌}
use Rattle.std.specs.Prelude.{Option, None, Some}
use Prim.Native.Nat.{ℕ, ◌+◌, ◌≤◌}
use native.Mathlib.Omega.{arith}
use Rattle.maps.specs.Lists.{pass, total, count}
use Rattle.maps.specs.Orders.{Strict, same}
use Rattle.maps.specs.Keyed.{insert, survivors, lookup}
use Rattle.maps.specs.Compare.{Rules, unmatched, matched, between, compare}
use Rattle.maps.specs.Walk.{Rising}
use Rattle.maps.proofs.Lists.{all, total_append, total_same, total_less, total_sum, total_zero, total_flat_map}
use Rattle.maps.proofs.Orders.{same_eq, eq_same, ne_same, same_ne}
use Rattle.maps.proofs.Survivors.{insert_cases, lookup_after, lookup_cases}

-- ---- a map weighs at most as much as the list that it is made of

module _ {K E : Type 0} (key : E → K) (lt : K → K → Bool) (w : E → ℕ) where
  total_insert : (m : List E) (e : E) → total w (insert key lt m e) ≤ total w m + w e
  unfolding total insert
  total_insert [] e = omega arith
  total_insert (f ∷ m) e =
      insert_cases key lt f m e (λ l. total w l ≤ w f + total w m + w e) (λ u. omega arith) (λ u v. omega (arith, total_insert m e)) (λ u v. omega arith)

  inserts : (m l : List E) → total w (pass (insert key lt) m l) ≤ total w m + total w l
  unfolding pass total
  inserts m [] = omega arith
  inserts m (e ∷ l) = omega (arith, inserts (insert key lt m e) l, total_insert m e)

  pub total_survivors : (l : List E) → total w (survivors key lt l) ≤ total w l
  unfolding survivors total
  total_survivors l = omega (arith, inserts [] l)

-- ---- what is under a key of both

-- c of an entry, if there is one
unfoldable if_any : {E : Type 0} → (E → ℕ) → Option E → ℕ
if_any c None = 0
if_any c (Some e) = c e

module _ {K E : Type 0} {lt : K → K → Bool} (key : E → K) (S : Strict K lt) where
  -- the sum of c over the entries of m that n has entries for, with those
  met : (E → E → ℕ) → List E → List E → ℕ
  met c m n = total (λ e. if_any (c e) (lookup key lt (key e) n)) m

  -- one entry more in the second map
  met_more : (c : E → E → ℕ) (f : E) (m : List E) → lookup key lt (key f) m ≡ None → (n : List E) → Rising key lt n
      → met c n (f ∷ m) ≡ if_any (λ e. c e f) (lookup key lt (key f) n) + met c n m
  unfolding met total lookup if_any Rising
  met_more c f m h [] R = refl
  met_more c f m h (e ∷ n) R = go (same lt (key e) (key f)) refl (met_more c f m h n R.1)
    where
      go : (u : Bool) → same lt (key e) (key f) ≡ u → met c n (f ∷ m) ≡ if_any (λ e. c e f) (lookup key lt (key f) n) + met c n m
          → if_any (c e) (cond (same lt (key e) (key f)) (Some f) (lookup key lt (key e) m)) + met c n (f ∷ m)
          ≡ if_any (λ e. c e f) (cond (same lt (key f) (key e)) (Some e) (lookup key lt (key f) n)) + (if_any (c e) (lookup key lt (key e) m) + met c n m)
      go true p ih =
          let q : key e ≡ key f = same_eq S (key e) (key f) p in
          let i : lookup key lt (key e) m ≡ None = rw q h in
          let j : lookup key lt (key f) n ≡ None = rw q at (lookup_after key S (key e) n R.0) in
          let ih' : met c n (f ∷ m) ≡ 0 + met c n m = rw j at ih in
          rw (p, eq_same S (key f) (key e) (sym q), i) (omega (arith, ih'))
      go false p ih = rw (p, ne_same S (key f) (key e) (λ q. same_ne S (key e) (key f) p (sym q))) (omega (arith, ih))

  -- summed over either map it is the same
  met_swap : (c : E → E → ℕ) (m n : List E) → Rising key lt m → Rising key lt n → met c m n ≡ met (λ f e. c e f) n m
  unfolding met total lookup if_any Rising
  met_swap c [] n R Q = sym (total_zero n)
  met_swap c (f ∷ m) n R Q = omega (arith, met_more (λ f e. c e f) f m (lookup_after key S (key f) m R.0) n Q, met_swap c m n R.1 Q)

  met_same : (c d : E → E → ℕ) → ((e f : E) → key e ≡ key f → c e f ≡ d e f) → (m n : List E) → met c m n ≡ met d m n
  unfolding met if_any
  met_same c d h m n = total_same _ _ m (all (λ e. lookup_cases key S e n (λ o. if_any (c e) o ≡ if_any (d e) o) refl (h e)) m)

  module _ {C : Type 0} (w : C → ℕ) where
    -- the weight of what `between` gives, entry by entry
    abbrev sum_of : (Option E → Option E → List C) → List E → List E → ℕ
    sum_of g m n = total (λ e. total w (g (Some e) (lookup key lt (key e) n))) m

    total_between : (g : Option E → Option E → List C) (m n : List E) → total w (between key lt g m n) ≡ sum_of g m n
    unfolding between
    total_between g m n = total_flat_map (λ e. g (Some e) (lookup key lt (key e) n)) w m

    total_compare : (r : Rules E C) (m n : List E) → total w (compare key lt r m n)
        ≡ sum_of (unmatched r.gone) m n + (sum_of (unmatched r.came) n m + sum_of (matched r.kept) m n)
    unfolding compare
    total_compare r m n =
        omega (
          arith,
          total_append w (between key lt (unmatched r.gone) m n) (between key lt (unmatched r.came) n m ++ between key lt (matched r.kept) m n),
          total_append w (between key lt (unmatched r.came) n m) (between key lt (matched r.kept) m n),
          total_between (unmatched r.gone) m n,
          total_between (unmatched r.came) n m,
          total_between (matched r.kept) m n,
        )

    sum_matched : (k : E → E → List C) (m n : List E) → sum_of (matched k) m n ≡ met (λ e f. total w (k e f)) m n
    unfolding met if_any matched total
    sum_matched k m n = total_same _ _ m (all (λ e. lookup_cases key S e n (λ o. total w (matched k (Some e) o) ≡ if_any (λ f. total w (k e f)) o) refl (λ f p. refl)) m)

    -- ---- weights: linear in those of the two maps

    module _ (a b : E → ℕ) (m n : List E) (R : Rising key lt m) (Q : Rising key lt n) where
      -- each entry of n is met at most once
      both : total (λ e. a e + if_any b (lookup key lt (key e) n)) m ≡ total a m + total (λ f. if_any (λ e. b f) (lookup key lt (key f) m)) n
      unfolding met
      both = omega (arith, total_sum a (λ e. if_any b (lookup key lt (key e) n)) m, met_swap (λ e f. b f) m n R Q)

      pub compare_weight : (r : Rules E C) → ((e : E) → total w (r.gone e) ≤ a e) → ((f : E) → total w (r.came f) ≤ b f)
          → ((e f : E) → key e ≡ key f → total w (r.kept e f) ≤ a e + b f) → total w (compare key lt r m n) ≤ total a m + total b n
      unfolding if_any unmatched matched total
      compare_weight r p q k =
          omega (
            arith,
            total_compare r m n,
            total_sum (λ e. total w (unmatched r.gone (Some e) (lookup key lt (key e) n))) (λ e. total w (matched r.kept (Some e) (lookup key lt (key e) n))) m,
            total_less _ (λ e. a e + if_any b (lookup key lt (key e) n)) m (all old m),
            both,
            total_sum (λ f. total w (unmatched r.came (Some f) (lookup key lt (key f) m))) (λ f. if_any (λ e. b f) (lookup key lt (key f) m)) n,
            total_less _ b n (all new n),
          )
        where
          old : (e : E)
              → total w (unmatched r.gone (Some e) (lookup key lt (key e) n)) + total w (matched r.kept (Some e) (lookup key lt (key e) n)) ≤ a e + if_any b (lookup key lt (key e) n)
          old e =
              lookup_cases key S e n (λ o. total w (unmatched r.gone (Some e) o) + total w (matched r.kept (Some e) o) ≤ a e + if_any b o)
              (omega (arith, p e)) (λ f h. omega (arith, k e f h))

          new : (f : E) → total w (unmatched r.came (Some f) (lookup key lt (key f) m)) + if_any (λ e. b f) (lookup key lt (key f) m) ≤ b f
          new f =
              lookup_cases key S f m (λ o. total w (unmatched r.came (Some f) o) + if_any (λ e. b f) o ≤ b f)
              (omega (arith, q f)) (λ e h. omega arith)

  -- ---- the opposite comparison

  module _ {C : Type 0} (v w : C → ℕ) where
    sum_unmatched : (c d : E → List C) → ((e : E) → total v (c e) ≡ total w (d e)) → (m n : List E) → sum_of v (unmatched c) m n ≡ sum_of w (unmatched d) m n
    unfolding unmatched total
    sum_unmatched c d h m n =
        total_same _ _ m (all (λ e. lookup_cases key S e n (λ o. total v (unmatched c (Some e) o) ≡ total w (unmatched d (Some e) o)) (h e) (λ f p. refl)) m)

    -- what r weighs by v from old to new, s weighs by w from new to old
    pub swap_total : (r s : Rules E C) → ((e : E) → total v (r.gone e) ≡ total w (s.came e)) → ((e : E) → total v (r.came e) ≡ total w (s.gone e))
        → ((e f : E) → key e ≡ key f → total v (r.kept e f) ≡ total w (s.kept f e))
        → (m n : List E) → Rising key lt m → Rising key lt n → total v (compare key lt r m n) ≡ total w (compare key lt s n m)
    swap_total r s p q k m n R Q =
        omega (
          arith,
          total_compare v r m n,
          total_compare w s n m,
          sum_unmatched r.gone s.came p m n,
          sum_unmatched r.came s.gone q n m,
          sum_matched v r.kept m n,
          met_swap (λ e f. total v (r.kept e f)) m n R Q,
          met_same (λ f e. total v (r.kept e f)) (λ f e. total w (s.kept f e)) (λ f e h. k e f (sym h)) n m,
          sum_matched w s.kept n m,
        )

-- The facts of single entries from which s counts by q what r counts by p the other way round.
pub record Opposite {K E C : Type 0} (key : E → K) (p q : C → Bool) (r s : Rules E C) : Type 0 where
  pub gone_came : (e : E) → count p (r.gone e) ≡ count q (s.came e)
  pub came_gone : (e : E) → count p (r.came e) ≡ count q (s.gone e)
  pub kept_kept : (e f : E) → key e ≡ key f → count p (r.kept e f) ≡ count q (s.kept f e)

pub swap : {K E C : Type 0} {lt : K → K → Bool} {key : E → K} {p q : C → Bool} {r s : Rules E C} (S : Strict K lt) → Opposite key p q r s
    → (old new : List E) → Rising key lt old → Rising key lt new → count p (compare key lt r old new) ≡ count q (compare key lt s new old)
unfolding count
swap {key = key} {p = p} {q = q} {r = r} {s = s} S o =
    swap_total key S (λ c. cond (p c) 1 0) (λ c. cond (q c) 1 0) r s o.gone_came o.came_gone o.kept_kept
