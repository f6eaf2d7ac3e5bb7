-- What is computed by rounds is what is reached (specs/Reached): as many rounds as there are entries leave nothing to add; the least set.
-- Assumes nothing.
use mathlib.Core.Path.{◌≡◌, refl, sym, ap, ◌∙◌, subst}
use mathlib.Core.Bool.{Bool, true, false, cond}
use mathlib.Core.Logic.{◌⊎◌, inl, inr, ⊎_elim}
use Rattle.std.specs.Prelude.{Option, None, Some}
use mathlib.Core.List.{flat_map}
use Prim.Native.Nat.{ℕ, zero, suc, ◌+◌, ◌≤◌, ◌<◌}
use native.Mathlib.Omega.{arith}
use borrow.Author.Tests.{ltb-true, ltb-false}
use lib.Dec.{ltb}
use lib.ListN.{length, replicate, length-replicate, get_or-eq_default}
use Rattle.maps.specs.Lists.{among}
use Rattle.maps.specs.Keyed.{lookup}
use Rattle.maps.specs.Orders.{before}
use Rattle.std.specs.Option.{is_some}
use Rattle.maps.proofs.Lists.{all, pass_keeps, flat_map_flat_map}
use Rattle.maps.proofs.Survivors.{all_lookup}
use Rattle.maps.proofs.Reorderings.{In, all_listed}
use Rattle.maps.proofs.Any.{among_none, among_flat_map}
use Rattle.maps.proofs.Tests.{no_both}
use Rattle.image.specs.Schema.{Name, Decl, Schema}
use Rattle.image.specs.Kinds.{kind_of}
use Rattle.rules.specs.Survivors.{Registry, stands_for, name_of, declarations, View, view_of}
use Rattle.rules.specs.Clauses.{types_of, compared_types}
use Rattle.rules.specs.Reached.{named_in, named_of, named_from, resolvable, Reached, by_survivor, by_reached, IdSet, has, mark_all, named_by, follow, up_from, round, rounds, first_set, reached_set, ReachedIs}
use Rattle.rules.proofs.ReachedSets.{among_up, Below, below_refl, below_trans, below_has, below_length, below_in, size, below_same, size_full, no_marks_lem, pass_below, pass_has, mark_all_below, mark_all_has, mark_all_only}

-- what is named, declaration by declaration
pub named_from_lem : (v : View) → named_from v ≡ flat_map named_of v.standing
unfolding named_from compared_types named_of
named_from_lem v = flat_map_flat_map (λ d. types_of (kind_of d.kind) d) named_in v.standing

module _ (R : Registry) where
  -- resolvable ids are of the registry
  pub resolvable_in : (id : ℕ) → resolvable R id ≡ true → id < length R
  unfolding resolvable stands_for
  resolvable_in id e = go (ltb id (length R)) refl
    where
      go : (b : Bool) → ltb id (length R) ≡ b → id < length R
      go true p = ltb-true id (length R) p
      go false p = no_both e (ap is_some (get_or-eq_default R None (ltb-false id (length R) p)))

  -- an id whose entry names something is resolvable
  names_in : (via id : ℕ) → among id (named_by (stands_for R via)) ≡ true → resolvable R via ≡ true
  unfolding resolvable named_by
  names_in via id = go (stands_for R via)
    where
      go : (o : Option Decl) → among id (named_by o) ≡ true → is_some o ≡ true
      go None e = among_none id e
      go (Some d) e = refl

  -- ---- rounds

  follow_below : (m : IdSet) (id : ℕ) → Below m (follow R m id)
  unfolding follow
  follow_below m id = go (has m id)
    where
      go : (b : Bool) → Below m (cond b (mark_all R m (named_by (stands_for R id))) m)
      go true = mark_all_below R m (named_by (stands_for R id))
      go false = below_refl m

  round_below : (m : IdSet) → Below m (round R m)
  unfolding round
  round_below m = pass_below (follow R) follow_below m (up_from 0 (length R))

  rounds_below : (n : ℕ) (m : IdSet) → Below m (rounds R n m)
  unfolding rounds
  rounds_below zero m = below_refl m
  rounds_below (suc n) m = below_trans (round_below m) (rounds_below n (round R m))

  -- what a followed id names is marked
  round_has : (m : IdSet) (via id : ℕ) → has m via ≡ true → among id (named_by (stands_for R via)) ≡ true → resolvable R id ≡ true → id < length m
      → has (round R m) id ≡ true
  unfolding round follow
  round_has m via id h e r l =
      pass_has (follow R) follow_below (λ n. (has n via ≡ true) × (id < length n)) (λ n k p q. (below_has p via q.0, below_in p q.1)) via id
      (λ n q. rw q.0 (mark_all_has R n (named_by (stands_for R via)) id e r q.1)) m (up_from 0 (length R))
      (among_up (length R) 0 via (omega arith) (omega (arith, resolvable_in via (names_in via id e)))) (h, l)

  -- what each id of the set names is in it
  abbrev pub Closed : IdSet → Type 0
  Closed m = (via id : ℕ) → has m via ≡ true → among id (named_by (stands_for R via)) ≡ true → resolvable R id ≡ true → has m id ≡ true

  closed_still : (m : IdSet) → length m ≡ length R → round R m ≡ m → Closed m
  closed_still m l e via id h n r = subst (λ x. has x id ≡ true) e (round_has m via id h n r (omega (arith, resolvable_in id r)))

  closed_full : (m : IdSet) → length m ≡ length R → length R ≤ size m → Closed m
  closed_full m l f via id h n r = size_full m (omega arith) id (omega (arith, resolvable_in id r))

  still : (n : ℕ) (m : IdSet) → round R m ≡ m → rounds R n m ≡ m
  unfolding rounds
  still zero m e = refl
  still (suc n) m e = ap (rounds R n) e ∙ still n m e

  -- after n rounds from a set of k ids: it is closed, or it has n ids more
  grows : (n k : ℕ) (m : IdSet) → length m ≡ length R → k ≤ size m → Closed (rounds R n m) ⊎ (k + n ≤ size (rounds R n m))
  unfolding rounds
  grows zero k m l h = inr (omega arith)
  grows (suc n) k m l h = go (ltb (size m) (size (round R m))) refl (grows n (suc k) (round R m) (sym (below_length (round_below m)) ∙ l))
    where
      go : (b : Bool) → ltb (size m) (size (round R m)) ≡ b
          → (suc k ≤ size (round R m) → Closed (rounds R n (round R m)) ⊎ (suc k + n ≤ size (rounds R n (round R m))))
          → Closed (rounds R n (round R m)) ⊎ (k + suc n ≤ size (rounds R n (round R m)))
      go true e ih =
          ⊎_elim (λ p. inl p) (λ p. inr (omega arith)) (ih (omega (arith, ltb-true (size m) (size (round R m)) e)))
      go false e ih =
          let q : m ≡ round R m = below_same (round_below m) (ltb-false (size m) (size (round R m)) e) in
          inl (subst Closed (sym (ap (rounds R n) (sym q) ∙ still n m (sym q))) (closed_still m l (sym q)))

  length_rounds : (m : IdSet) → length m ≡ length R → length (rounds R (length R) m) ≡ length R
  length_rounds m l = sym (below_length (rounds_below (length R) m)) ∙ l

  closed_rounds : (m : IdSet) → length m ≡ length R → Closed (rounds R (length R) m)
  closed_rounds m l =
      ⊎_elim (λ p. p) (λ p. closed_full (rounds R (length R) m) (length_rounds m l) (omega arith)) (grows (length R) 0 m l (omega arith))

-- ---- what is computed is what is reached

module _ (s : Schema) where
  -- every id of the set is reached
  abbrev pub Within : IdSet → Type 0
  Within m = (id : ℕ) → has m id ≡ true → Reached s id

  -- what the entry of a reached id names is reached
  reached_on : (via id : ℕ) → Reached s via → among id (named_by (stands_for s.registry via)) ≡ true → resolvable s.registry id ≡ true
      → Reached s id
  unfolding named_by
  reached_on via id q = go (stands_for s.registry via) refl
    where
      go : (o : Option Decl) → stands_for s.registry via ≡ o → among id (named_by o) ≡ true → resolvable s.registry id ≡ true → Reached s id
      go None p e r = among_none id e
      go (Some d) p e r = by_reached q p e r

  pub within_marks : (m : IdSet) (via : ℕ) → Within m → Reached s via → Within (mark_all s.registry m (named_by (stands_for s.registry via)))
  within_marks m via w q id h =
      ⊎_elim (λ p. w id p) (λ p. reached_on via id q p.0 p.1) (mark_all_only s.registry m (named_by (stands_for s.registry via)) id h)

  within_follow : (m : IdSet) (via : ℕ) → Within m → Within (follow s.registry m via)
  unfolding follow
  within_follow m via w = go (has m via) refl
    where
      go : (b : Bool) → has m via ≡ b → Within (cond b (mark_all s.registry m (named_by (stands_for s.registry via))) m)
      go true e = within_marks m via w (w via e)
      go false e = w

  within_round : (m : IdSet) → Within m → Within (round s.registry m)
  unfolding round
  within_round m w =
      pass_keeps (follow s.registry) Within (λ id. Unit {0}) (λ n id k u. within_follow n id k) m (up_from 0 (length s.registry)) w (all (λ id. tt) _)

  within_rounds : (n : ℕ) (m : IdSet) → Within m → Within (rounds s.registry n m)
  unfolding rounds
  within_rounds zero m w = w
  within_rounds (suc n) m w = within_rounds n (round s.registry m) (within_round m w)

  -- the ids that the survivors name, marked in a set without marks
  pub within_first : (n : ℕ) → Within (mark_all s.registry (replicate n false) (named_from (view_of s)))
  within_first n id h =
      ⊎_elim (λ p. no_both p (no_marks_lem n id)) (λ p. by_survivor p.0 p.1) (mark_all_only s.registry (replicate n false) (named_from (view_of s)) id h)

  -- what the survivors name is in the set
  abbrev pub First : IdSet → Type 0
  First m = (id : ℕ) → among id (named_from (view_of s)) ≡ true → resolvable s.registry id ≡ true → has m id ≡ true

  -- what a survivor names
  pub survivor_named : (name : Name) (d : Decl) → lookup name_of before name (declarations s) ≡ Some d → (id : ℕ) → among id (named_of d) ≡ true
      → among id (named_from (view_of s)) ≡ true
  unfolding view_of
  survivor_named name d e id h =
      rw (named_from_lem (view_of s))
      (among_flat_map named_of id (all_lookup name_of before (λ b. In b (declarations s)) name (declarations s) d (all_listed (declarations s)) e) h)

  -- A set is the least one: what is in it is reached, what the survivors name is in it, and what is named by what is in it.
  pub record Least (m : IdSet) : Type 0 where
    pub within : Within m
    pub first : First m
    pub closed : Closed s.registry m

  least_has : (m : IdSet) → Least m → {id : ℕ} → Reached s id → has m id ≡ true
  unfolding named_by
  least_has m l (by_survivor e r) = l.first _ e r
  least_has m l (by_reached {via = via} {id = id} {d = d} q p e r) =
      l.closed via id (least_has m l q) (subst (λ o. among id (named_by o) ≡ true) (sym p) e) r

  -- what is marked of the survivors' names, in any set with a mark for each entry
  pub first_marks : (m : IdSet) → length s.registry ≤ length m → First (mark_all s.registry m (named_from (view_of s)))
  first_marks m l id e r = mark_all_has s.registry m (named_from (view_of s)) id e r (omega (arith, resolvable_in s.registry id r))

  length_first : length (first_set s) ≡ length s.registry
  unfolding first_set
  length_first =
      sym (below_length (mark_all_below s.registry (replicate (length s.registry) false) (named_from (view_of s))))
      ∙ length-replicate (length s.registry) false

  least_computed : Least (reached_set s)
  unfolding reached_set first_set
  least_computed = record {
    within = within_rounds (length s.registry) (first_set s) (within_first (length s.registry));
    first = λ id e r.
        below_has (rounds_below s.registry (length s.registry) (first_set s)) id
        (first_marks (replicate (length s.registry) false) (omega (arith, length-replicate (length s.registry) false)) id e r);
    closed = closed_rounds s.registry (first_set s) length_first;
  }

  pub reached_is : ReachedIs s
  unfolding reached_set
  reached_is = record {
    exactly = λ id. (least_computed.within id, least_has (reached_set s) least_computed);
    length = length_rounds s.registry (first_set s) length_first;
  }

  -- a least set is the computed one
  pub least_is : (m : IdSet) → Least m → (id : ℕ) → has m id ≡ has (reached_set s) id
  least_is m l id = go (has m id) (has (reached_set s) id) refl refl
    where
      go : (a b : Bool) → has m id ≡ a → has (reached_set s) id ≡ b → a ≡ b
      go true true p q = refl
      go true false p q = no_both ((reached_is.exactly id).1 (l.within id p)) q
      go false true p q = no_both (least_has m l ((reached_is.exactly id).0 q)) p
      go false false p q = refl

  pub reached_resolvable : {id : ℕ} → Reached s id → resolvable s.registry id ≡ true
  reached_resolvable (by_survivor e r) = r
  reached_resolvable (by_reached q p e r) = r
