-- Laws of sets of ids (specs/Reached): sets that grow, how many ids a set has, passes that mark.
-- Assumes nothing.
use mathlib.Core.Path.{◌≡◌, refl, sym, ap, ◌∙◌, subst}
use mathlib.Core.Bool.{Bool, true, false, cond}
use mathlib.Core.Logic.{◌⊎◌, inl, inr, ⊎_elim}
use mathlib.Core.List.{List, [], ◌∷◌}
use Prim.Native.Nat.{ℕ, zero, suc, ◌+◌, ◌≤◌, ◌<◌}
use native.Mathlib.Omega.{arith}
use borrow.Author.Tests.{eqb-true, eqb-false}
use lib.Dec.{eqb}
use lib.ListN.{length, get_or, set, replicate}
use lib.Seq.{get_or-set_same, get_or-set_other, set-get_or}
use Rattle.maps.specs.Lists.{pass, total, count, among}
use Rattle.maps.proofs.Any.{among_cons, among_here, among_more, among_none}
use Rattle.maps.proofs.Tests.{no_both}
use Rattle.rules.specs.Survivors.{Registry}
use Rattle.rules.specs.Reached.{resolvable, IdSet, has, mark, mark_all, up_from}

-- ---- ids that rise

pub among_up : (n from id : ℕ) → from ≤ id → id < from + n → among id (up_from from n) ≡ true
unfolding up_from
among_up zero from id l h = absurd (omega arith)
among_up (suc n) from id l h = go (eqb id from) refl (among_up n (suc from) id)
  where
    go : (b : Bool) → eqb id from ≡ b → (suc from ≤ id → id < suc from + n → among id (up_from (suc from) n) ≡ true)
        → among id (from ∷ up_from (suc from) n) ≡ true
    go true e ih = rw (eqb-true id from e) (among_here from (up_from (suc from) n))
    go false e ih =
        let d : id ≡ from → ⊥ = eqb-false id from e in
        among_more id from (up_from (suc from) n) (ih (omega arith) (omega arith))

-- ---- sets that grow

-- every mark of the first is one of the second
pub data Below : IdSet → IdSet → Type 0 where
  below_nil : Below [] []
  below_cons : {a b : Bool} {m n : IdSet} → (a ≡ true → b ≡ true) → Below m n → Below (a ∷ m) (b ∷ n)

pub below_refl : (m : IdSet) → Below m m
below_refl [] = below_nil
below_refl (a ∷ m) = below_cons (λ e. e) (below_refl m)

pub below_trans : {l m n : IdSet} → Below l m → Below m n → Below l n
below_trans below_nil q = q
below_trans (below_cons h p) (below_cons k q) = below_cons (λ e. k (h e)) (below_trans p q)

below_set : (m : IdSet) (i : ℕ) → Below m (set m i true)
below_set [] i = below_refl []
below_set (a ∷ m) zero = below_cons (λ e. refl) (below_refl m)
below_set (a ∷ m) (suc i) = below_cons (λ e. e) (below_set m i)

pub below_has : {m n : IdSet} → Below m n → (id : ℕ) → has m id ≡ true → has n id ≡ true
unfolding has
below_has below_nil id e = e
below_has (below_cons h p) zero e = h e
below_has (below_cons h p) (suc id) e = below_has p id e

pub below_length : {m n : IdSet} → Below m n → length m ≡ length n
below_length below_nil = refl
below_length (below_cons h p) = ap suc (below_length p)

-- an id within one set is within a grown one
pub below_in : {m n : IdSet} → Below m n → {id : ℕ} → id < length m → id < length n
below_in p l = omega (arith, below_length p)

-- ---- how many ids a set has

abbrev pub size : IdSet → ℕ
size m = count (λ b. b) m

below_size : {m n : IdSet} → Below m n → size m ≤ size n
unfolding count total
below_size below_nil = omega arith
below_size (below_cons {a = a} {b = b} {m = m} {n = n} h p) = go a b h (below_size p)
  where
    go : (a b : Bool) → (a ≡ true → b ≡ true) → size m ≤ size n → cond a 1 0 + size m ≤ cond b 1 0 + size n
    go true true k q = omega arith
    go true false k q = no_both (k refl) refl
    go false true k q = omega arith
    go false false k q = omega arith

-- a set that grows and has no more ids is the same
pub below_same : {m n : IdSet} → Below m n → size n ≤ size m → m ≡ n
unfolding count total
below_same below_nil q = refl
below_same (below_cons {a = a} {b = b} {m = m} {n = n} h p) q = go a b h (below_size p) (below_same p) q
  where
    go : (a b : Bool) → (a ≡ true → b ≡ true) → size m ≤ size n → (size n ≤ size m → m ≡ n) → cond b 1 0 + size n ≤ cond a 1 0 + size m
        → ◌≡◌ {A = IdSet} (a ∷ m) (b ∷ n)
    go true true k l ih r = ap (λ (x : IdSet). true ∷ x) (ih (omega arith))
    go true false k l ih r = no_both (k refl) refl
    go false true k l ih r = absurd (omega arith)
    go false false k l ih r = ap (λ (x : IdSet). false ∷ x) (ih (omega arith))

size_most : (m : IdSet) → size m ≤ length m
unfolding count total
size_most [] = omega arith
size_most (true ∷ m) = omega (arith, size_most m)
size_most (false ∷ m) = omega (arith, size_most m)

-- a set with as many ids as marks has every one of them
pub size_full : (m : IdSet) → length m ≤ size m → (id : ℕ) → id < length m → has m id ≡ true
unfolding count total has
size_full [] h id l = absurd (omega arith)
size_full (true ∷ m) h zero l = refl
size_full (true ∷ m) h (suc id) l = size_full m (omega arith) id (omega arith)
size_full (false ∷ m) h id l = absurd (omega (arith, size_most m))

pub no_marks_lem : (n id : ℕ) → has (replicate n false) id ≡ false
unfolding has
no_marks_lem zero id = refl
no_marks_lem (suc n) zero = refl
no_marks_lem (suc n) (suc id) = no_marks_lem n id

-- ---- passes whose steps only add

module _ (step : IdSet → ℕ → IdSet) (adds : (m : IdSet) (a : ℕ) → Below m (step m a)) where
  pub pass_below : (m : IdSet) (ids : List ℕ) → Below m (pass step m ids)
  unfolding pass
  pass_below m [] = below_refl m
  pass_below m (a ∷ ids) = below_trans (adds m a) (pass_below (step m a) ids)

  -- what the step of one among adds, where P holds, is there in the end
  pub pass_has : (P : IdSet → Type 0) → ((m n : IdSet) → Below m n → P m → P n) → (a id : ℕ) → ((m : IdSet) → P m → has (step m a) id ≡ true)
      → (m : IdSet) (ids : List ℕ) → among a ids ≡ true → P m → has (pass step m ids) id ≡ true
  unfolding pass
  pass_has P keeps a id puts m [] e h = among_none a e
  pass_has P keeps a id puts m (b ∷ ids) e h =
      ⊎_elim
      (λ p. below_has (pass_below (step m b) ids) id (subst (λ x. has (step m x) id ≡ true) p (puts m h)))
      (λ p. pass_has P keeps a id puts (step m b) ids p (keeps m (step m b) (adds m b) h))
      (among_cons a b ids e)

-- ---- marks

module _ (R : Registry) where
  mark_below : (m : IdSet) (id : ℕ) → Below m (mark R m id)
  unfolding mark
  mark_below m id = go (resolvable R id)
    where
      go : (b : Bool) → Below m (cond b (set m id true) m)
      go true = below_set m id
      go false = below_refl m

  mark_has : (id : ℕ) → resolvable R id ≡ true → (m : IdSet) → id < length m → has (mark R m id) id ≡ true
  unfolding mark has
  mark_has id r m l = rw r (get_or-set_same m id true false l)

  mark_only : (m : IdSet) (id j : ℕ) → has (mark R m id) j ≡ true → (has m j ≡ true) ⊎ ((j ≡ id) × (resolvable R id ≡ true))
  unfolding mark has
  mark_only m id j = go (resolvable R id) (eqb j id) refl refl
    where
      go : (b c : Bool) → resolvable R id ≡ b → eqb j id ≡ c → get_or (cond b (set m id true) m) j false ≡ true
          → (get_or m j false ≡ true) ⊎ ((j ≡ id) × (resolvable R id ≡ true))
      go true true r e h = inr (eqb-true j id e, r)
      go true false r e h = inl (rw (get_or-set_other m id j true false (eqb-false j id e)) at h)
      go false c r e h = inl h

  pub mark_all_below : (m : IdSet) (ids : List ℕ) → Below m (mark_all R m ids)
  unfolding mark_all
  mark_all_below = pass_below (mark R) mark_below

  pub mark_all_has : (m : IdSet) (ids : List ℕ) (id : ℕ) → among id ids ≡ true → resolvable R id ≡ true → id < length m
      → has (mark_all R m ids) id ≡ true
  unfolding mark_all
  mark_all_has m ids id e r l = pass_has (mark R) mark_below (λ n. id < length n) (λ n k p. below_in p) id id (mark_has id r) m ids e l

  -- ids that are in the set
  pub mark_all_kept : (m : IdSet) (ids : List ℕ) → ((id : ℕ) → among id ids ≡ true → resolvable R id ≡ true → has m id ≡ true) → mark_all R m ids ≡ m
  unfolding mark_all pass mark has
  mark_all_kept m [] h = refl
  mark_all_kept m (a ∷ ids) h =
      ap (λ x. pass (mark R) x ids) (go (resolvable R a) refl) ∙ mark_all_kept m ids (λ id e. h id (among_more id a ids e))
    where
      go : (b : Bool) → resolvable R a ≡ b → cond b (set m a true) m ≡ m
      go true r = ap (set m a) (sym (h a (among_here a ids) r)) ∙ set-get_or m a false
      go false r = refl

  pub mark_all_only : (m : IdSet) (ids : List ℕ) (j : ℕ) → has (mark_all R m ids) j ≡ true
      → (has m j ≡ true) ⊎ ((among j ids ≡ true) × (resolvable R j ≡ true))
  unfolding mark_all pass
  mark_all_only m [] j h = inl h
  mark_all_only m (a ∷ ids) j h =
      ⊎_elim
      (λ p. ⊎_elim (λ q. inl q) (λ q. inr (rw q.0 (among_here a ids), rw q.0 q.1)) (mark_only m a j p))
      (λ p. inr (among_more j a ids p.0, p.1))
      (mark_all_only (mark R m a) ids j h)
