-- The walk over what stands: what follows a bound is the last listed under the least key past it, and the walk meets each entry once, in
-- rising order.
-- Assumes nothing.
use mathlib.Core.Path.{◌≡◌, refl, sym, ap}
use mathlib.Core.Bool.{Bool, true, false, cond, not, ◌&&◌}
use mathlib.Core.List.{List, [], ◌∷◌, ◌++◌, flat_map}
use Rattle.std.specs.Prelude.{Option, None, Some}
use Rattle.std.proofs.lemmas.Option.{same_Some, none-some}
use Prim.Native.Nat.{◌<◌}
use native.Mathlib.Omega.{arith}
use lib.ListN.{length}
use Rattle.maps.specs.Lists.{All}
use Rattle.maps.specs.Orders.{Strict}
use Rattle.maps.specs.Keyed.{insert, survivors, lookup}
use Rattle.maps.specs.Compare.{unmatched, between}
use Rattle.std.specs.Option.{is_some}
use Rattle.maps.specs.Walk.{past, Rising, above, following, rest, nearer, better, least, covers}
use Rattle.maps.proofs.Lists.{pass_view, every_all}
use Rattle.maps.proofs.Tests.{no_both}
use Rattle.maps.proofs.Orders.{asym, same_self, after_other}
use Rattle.maps.proofs.Survivors.{After, insert_cases, all_survivors}

module _ {K E : Type 0} {lt : K → K → Bool} (key : E → K) (S : Strict K lt) where
  -- ---- the entry that follows

  past_trans : (b : Option K) (j k : K) → past lt b j ≡ true → lt j k ≡ true → past lt b k ≡ true
  unfolding past
  past_trans None j k p q = refl
  past_trans (Some a) j k p q = S.trans a j k p q

  not_past : (b : Option K) (o : Option E) (e : E) → past lt b (key e) ≡ false → nearer key lt b o e ≡ false
  unfolding nearer
  not_past b None e q = q
  not_past b (Some f) e q = rw q (and_false (not (lt (key f) (key e))))
    where
      and_false : (u : Bool) → (u && false) ≡ false
      and_false true = refl
      and_false false = refl

  -- one entry more
  following_insert : (b : Option K) (m : List E) (e : E)
      → following key lt b (insert key lt m e) ≡ better key lt b (following key lt b m) e
  unfolding following insert better nearer
  following_insert b [] e = refl
  following_insert b (f ∷ m) e =
      insert_cases key lt f m e (λ l. following key lt b l ≡ better key lt b (following key lt b (f ∷ m)) e)
      (λ u. first u (past lt b (key f)) (past lt b (key e)) refl refl)
      (λ u v. later v (past lt b (key f)) (following_insert b m e))
      (λ u v. equal v (past lt b (key f)) (past lt b (key e)) refl (ap (past lt b) (S.total (key e) (key f) u v)))
    where
      first : lt (key e) (key f) ≡ true → (w x : Bool) → past lt b (key f) ≡ w → past lt b (key e) ≡ x
          → cond x (Some e) (cond w (Some f) (following key lt b m)) ≡ better key lt b (cond w (Some f) (following key lt b m)) e
      first u true true p q = rw (asym S (key e) (key f) u, q)
      first u false true p q = no_both (past_trans b (key e) (key f) q u) p
      first u w false p q = rw (not_past b (cond w (Some f) (following key lt b m)) e q)

      later : lt (key f) (key e) ≡ true → (w : Bool) → following key lt b (insert key lt m e) ≡ better key lt b (following key lt b m) e
          → cond w (Some f) (following key lt b (insert key lt m e)) ≡ better key lt b (cond w (Some f) (following key lt b m)) e
      later v true ih = rw v
      later v false ih = ih

      equal : lt (key f) (key e) ≡ false → (w x : Bool) → past lt b (key e) ≡ x → past lt b (key e) ≡ w
          → cond x (Some e) (following key lt b m) ≡ better key lt b (cond w (Some f) (following key lt b m)) e
      equal v true true q p = rw (v, q)
      equal v true false q p = no_both p q
      equal v false true q p = no_both q p
      equal v false false q p = rw (not_past b (following key lt b m) e q)

  -- what a pass that keeps the best entry finds
  pub following_least : (b : Option K) (l : List E) → following key lt b (survivors key lt l) ≡ least key lt b None l
  unfolding survivors following least
  following_least b l = pass_view (insert key lt) (better key lt b) (following key lt b) (following_insert b) [] l

  -- ---- a turn

  above_after : (k : K) (m : List E) → After key lt k m → above key lt (Some k) m ≡ m
  unfolding above past All
  above_after k [] h = refl
  above_after k (f ∷ m) h = rw h.0

  above_start : (m : List E) → above key lt None m ≡ m
  unfolding above past
  above_start [] = refl
  above_start (f ∷ m) = refl

  after_following : (j : K) (b : Option K) (m : List E) (e : E) → After key lt j m → following key lt b m ≡ Some e → lt j (key e) ≡ true
  unfolding following All
  after_following j b [] e h p = absurd (none-some e p)
  after_following j b (f ∷ m) e h p = go (past lt b (key f)) p (after_following j b m e h.1)
    where
      go : (u : Bool) → cond u (Some f) (following key lt b m) ≡ Some e → (following key lt b m ≡ Some e → lt j (key e) ≡ true)
          → lt j (key e) ≡ true
      go true q ih = rw (← same_Some f e q) h.0
      go false q ih = ih q

  -- nothing is left
  above_done : (b : Option K) (m : List E) → following key lt b m ≡ None → above key lt b m ≡ []
  unfolding following above
  above_done b [] p = refl
  above_done b (f ∷ m) p = go (past lt b (key f)) p (above_done b m)
    where
      go : (u : Bool) → cond u (Some f) (following key lt b m) ≡ None → (following key lt b m ≡ None → above key lt b m ≡ [])
          → cond u (f ∷ m) (above key lt b m) ≡ []
      go true q ih = absurd (none-some f (sym q))
      go false q ih = ih q

  -- the entry e that follows a bound stands under its key, and this is left after it
  pub record Turn (b : Option K) (e : E) (m : List E) : Type 0 where
    pub found : lookup key lt (key e) m ≡ Some e
    pub split : above key lt b m ≡ e ∷ above key lt (Some (key e)) m

  at_head : (f : E) (m : List E) → After key lt (key f) m
      → (lookup key lt (key f) (f ∷ m) ≡ Some f) × (f ∷ m ≡ f ∷ above key lt (Some (key f)) (f ∷ m))
  unfolding lookup above past
  at_head f m h = (rw (same_self S (key f)), rw (S.irrefl (key f), above_after (key f) m h))

  pub turn : (b : Option K) (e : E) (m : List E) → Rising key lt m → following key lt b m ≡ Some e → Turn b e m
  unfolding following above past lookup Rising
  turn b e [] R p = absurd (none-some e p)
  turn b e (f ∷ m) R p = go (past lt b (key f)) refl p (turn b e m R.1)
    where
      go : (u : Bool) → past lt b (key f) ≡ u → cond u (Some f) (following key lt b m) ≡ Some e → (following key lt b m ≡ Some e → Turn b e m)
          → Turn b e (f ∷ m)
      go true pu q ih =
          let i = same_Some f e q in
          rw (← i) (record { found = (at_head f m R.0).0; split = rw pu (at_head f m R.0).1 })
      go false pu q ih =
          let t : Turn b e m = ih q in
          let v : lt (key f) (key e) ≡ true = after_following (key f) b m e R.0 q in
          record { found = rw (after_other S (key e) (key f) v) t.found; split = rw (pu, asym S (key f) (key e) v) t.split }

  -- ---- the walk

  module _ {C : Type 0} (g : Option E → Option E → List C) (m n : List E) where
    pub rest_start : rest key lt g m n None ≡ between key lt g m n
    unfolding rest
    rest_start = rw (above_start m)

    pub rest_done : (b : Option K) → following key lt b m ≡ None → rest key lt g m n b ≡ []
    unfolding rest between flat_map
    rest_done b p = rw (above_done b m p)

    pub rest_turn : (b : Option K) (e : E) → Rising key lt m → following key lt b m ≡ Some e
        → rest key lt g m n b ≡ g (Some e) (lookup key lt (key e) n) ++ rest key lt g m n (Some (key e))
    unfolding rest between flat_map
    rest_turn b e R p = rw (turn b e m R p).split

  -- the measure of the walk
  pub left_less : (m : List E) (b : Option K) (e : E) → Rising key lt m → following key lt b m ≡ Some e
      → length (above key lt (Some (key e)) m) < length (above key lt b m)
  left_less m b e R p = omega (arith, ap length (turn b e m R p).split)

-- ---- a walk that has nothing to report

module _ {K E C : Type 0} (key : E → K) (lt : K → K → Bool) (c : E → List C) (n : List E) where
  unmatched_has : (e : E) (o : Option E) → is_some o ≡ true → unmatched c (Some e) o ≡ []
  unfolding unmatched
  unmatched_has e None p = no_both p refl
  unmatched_has e (Some f) p = refl

  matched_all : (m : List E) → All (λ e. is_some (lookup key lt (key e) n) ≡ true) m → between key lt (unmatched c) m n ≡ []
  unfolding between flat_map All
  matched_all [] h = refl
  matched_all (e ∷ m) h = rw (unmatched_has e (lookup key lt (key e) n) h.0) (matched_all m h.1)

  -- each key that is listed stands on the other side
  pub covered_none : (l : List E) → covers key lt n l ≡ true → between key lt (unmatched c) (survivors key lt l) n ≡ []
  unfolding covers
  covered_none l p =
      matched_all (survivors key lt l)
      (all_survivors key lt (λ e. is_some (lookup key lt (key e) n) ≡ true) l (every_all (λ e. is_some (lookup key lt (key e) n)) l p))
