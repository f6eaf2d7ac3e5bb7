-- What is marked is followed: the search for an id that is marked and not yet followed, a turn that follows it, and the end, where the marks
-- are the least set and so the computed one. Assumes nothing.
use mathlib.Core.Path.{◌≡◌, refl, sym, ◌∙◌, subst}
use mathlib.Core.Bool.{Bool, true, false, not, ◌&&◌}
use mathlib.Core.List.{[], ◌∷◌}
use Prim.Native.Nat.{ℕ, zero, suc, ◌+◌, ◌≤◌, ◌<◌}
use native.Mathlib.Omega.{arith}
use borrow.Author.Tests.{eqb-true, eqb-false, not-true}
use lib.Dec.{eqb}
use lib.ListN.{length, set, take, replicate, length-replicate, length-set}
use lib.Seq.{length-take-le, get_or-set_other, get_or-take, ext_get_or}
use Rattle.std.specs.Prelude.{Option, None, Some}
use Rattle.maps.specs.Lists.{total, count, among}
use Rattle.maps.proofs.Tests.{no_both, both}
use Rattle.parts.specs.Handles.{schema_in}
use Rattle.parts.specs.declared.handles.Image.{Image}
use Rattle.parts.proofs.Promise.{accepted_read}
use Rattle.rules.specs.Survivors.{stands_for, view_of}
use Rattle.rules.specs.Reached.{named_by, named_from, resolvable, IdSet, has, reached_set}
use Rattle.rules.proofs.Held.{accepted_held}
use Rattle.rules.proofs.ReachedSets.{below_has, no_marks_lem, mark_all_below, mark_all_has}
use Rattle.rules.proofs.Reached.{resolvable_in, Within, within_marks, within_first, first_marks, Least, least_is, reached_is, reached_resolvable}
use Rattle.reached.specs.Marks.{Ready, Started, Marked, Open, ReachedIn}
use Rattle.reached.proofs.Marking.{marked_length, ready_after}

-- ---- the search

module _ (m f : IdSet) where
  -- no id below i is in m and not in f
  unfoldable pub Passed : ℕ → Type 0
  Passed i = (id : ℕ) → id < i → has m id ≡ true → has f id ≡ true

  pub passed_none : Passed 0
  unfolding Passed
  passed_none id l h = absurd (omega arith)

  pub passed_more : (i : ℕ) → Passed i → {b : Bool} → b ≡ (has m i && not (has f i)) → b ≡ false → Passed (i + 1)
  unfolding Passed
  passed_more i p {b} e n id l h = go (eqb id i) refl
    where
      last : (x y : Bool) → x ≡ true → (x && not y) ≡ false → y ≡ true
      last true true u v = u
      last true false u v = no_both u v
      last false y u v = no_both u refl

      go : (c : Bool) → eqb id i ≡ c → has f id ≡ true
      go true q =
          let j : id ≡ i = eqb-true id i q in
          rw j (last (has m i) (has f i) (rw (← j) h) (sym e ∙ n))
      go false q = let d : id ≡ i → ⊥ = eqb-false id i q in p id (omega arith) h

  module _ (n i : ℕ) where
    pub open_here : i < n → {b : Bool} → b ≡ (has m i && not (has f i)) → b ≡ true → Open m f n (Some i)
    open_here l e t =
        let p = both (has m i) (not (has f i)) (sym e ∙ t) in
        record { found = (l, p.0, not-true (has f i) p.1); none = λ k. absurd (let z : ⊥ = cc in z) }

    pub open_none : Passed i → n ≤ i → Open m f n None
    unfolding Passed
    open_none p l = record { found = tt; none = λ k id h. p id (omega arith) }

-- ---- how many ids are not yet followed

abbrev pub unfollowed : IdSet → ℕ
unfollowed f = count not f

fewer : (f : IdSet) (i : ℕ) → has f i ≡ false → i < length f → unfollowed (set f i true) < unfollowed f
unfolding count total has
fewer [] i e l = absurd (omega arith)
fewer (a ∷ f) zero e l = rw e (omega arith)
fewer (a ∷ f) (suc i) e l = omega (arith, fewer f i e (omega arith))

-- the others are followed as before
has_other : (f : IdSet) (i id : ℕ) → eqb id i ≡ false → has (set f i true) id ≡ true → has f id ≡ true
unfolding has
has_other f i id q h = rw (get_or-set_other f i id true false (eqb-false id i q)) at h

-- ---- while entries are followed: m are the marks, f those that are followed

pub record Following (x : Image) (m f : IdSet) : Type 0 where
  pub started : Started x m
  pub marks : length m ≡ 512
  pub follows : length f ≡ 512
  -- all marks are of reached ids
  pub within : Within (schema_in x) m
  -- what is named by a followed entry is marked
  pub closed : (via id : ℕ) → has f via ≡ true → among id (named_by (stands_for (schema_in x).registry via)) ≡ true
      → resolvable (schema_in x).registry id ≡ true → has m id ≡ true

module _ {x : Image} {m f : IdSet} (w : Following x m f) {n : ℕ} (e : n ≡ length (schema_in x).registry) where
  pub following_count : (n ≤ length m) × (n ≤ length f)
  following_count = (omega (arith, w.started.ready.room), omega (arith, w.started.ready.room, w.marks, w.follows))

  module _ {r : Option ℕ} (o : Open m f n r) where
    -- a turn
    module _ {i : ℕ} (is : r ≡ Some i) where
      open_is : (i < n) × (has m i ≡ true) × (has f i ≡ false)
      open_is = rw is at o.found

      pub open_inside : i < 512
      open_inside = omega (arith, open_is.0, following_count.1, w.follows)

      pub turn_less : unfollowed (set f i true) < unfollowed f
      turn_less = fewer f i open_is.2 (omega (arith, open_inside, w.follows))

      pub turn_following : {m' : IdSet} → Marked x m (named_by (stands_for (schema_in x).registry i)) m' → Following x m' (set f i true)
      turn_following {m'} d = record {
        started = record { ready = ready_after d w.started.ready; first = λ id h r. kept id (w.started.first id h r) };
        marks = marked_length d ∙ w.marks;
        follows = length-set f i true ∙ w.follows;
        within = λ id h. within_marks (schema_in x) m i w.within (w.within i open_is.1) id (subst (λ y. has y id ≡ true) d.is h);
        closed = λ via id h k r. closing via id (eqb via i) refl h k r;
      }
        where
          kept : (id : ℕ) → has m id ≡ true → has m' id ≡ true
          kept id h =
              subst (λ y. has y id ≡ true) (sym d.is)
              (below_has (mark_all_below (schema_in x).registry m (named_by (stands_for (schema_in x).registry i))) id h)

          inside : (id : ℕ) → resolvable (schema_in x).registry id ≡ true → id < length m
          inside id r = omega (arith, resolvable_in (schema_in x).registry id r, w.started.ready.room)

          closing : (via id : ℕ) (c : Bool) → eqb via i ≡ c → has (set f i true) via ≡ true
              → among id (named_by (stands_for (schema_in x).registry via)) ≡ true → resolvable (schema_in x).registry id ≡ true → has m' id ≡ true
          closing via id true q h k r =
              subst (λ y. has y id ≡ true) (sym d.is)
              (mark_all_has (schema_in x).registry m (named_by (stands_for (schema_in x).registry i)) id
              (subst (λ y. among id (named_by (stands_for (schema_in x).registry y)) ≡ true) (eqb-true via i q) k) r (inside id r))
          closing via id false q h k r = kept id (w.closed via id (has_other f i via q h) k r)

    -- the end
    module _ (l : r ≡ None) where
      following_least : Least (schema_in x) m
      following_least = record {
        within = w.within;
        first = w.started.first;
        closed = λ via id h k r.
            w.closed via id
            (o.none l via (omega (arith, resolvable_in (schema_in x).registry via (reached_resolvable (schema_in x) (w.within via h)))) h)
            k r;
      }

      marks_are : take n m ≡ reached_set (schema_in x)
      unfolding has
      marks_are =
          let t : length (take n m) ≡ n = length-take-le n m following_count.0 in
          ext_get_or false (take n m) (reached_set (schema_in x)) (t ∙ (e ∙ sym (reached_is (schema_in x)).length))
          (λ j k. get_or-take n m j false (omega arith) ∙ least_is (schema_in x) m following_least j)

      pub following_done : ReachedIn x (record { marks = m; count = n })
      following_done = record { count = e; marks = marks_are; few = omega (arith, following_count.0, w.marks); room = following_count.0 }

-- ---- the start: what the survivors name is marked, and nothing is followed

-- no marks at all
abbrev pub no_marks : IdSet
no_marks = replicate 512 false

module _ (x : Image) where
  few_marks : length (schema_in x).registry ≤ length no_marks
  few_marks = omega (arith, (accepted_held x.bytes.now (accepted_read x.bytes.now x.accepted).1).registry, length-replicate 512 false)

  pub ready_start : Ready x no_marks
  ready_start = record { room = few_marks }

  pub start_following : {m : IdSet} → Marked x no_marks (named_from (view_of (schema_in x))) m → Following x m no_marks
  start_following d = record {
    started = record {
      ready = ready_after d ready_start;
      first = λ id h r. subst (λ y. has y id ≡ true) (sym d.is) (first_marks (schema_in x) no_marks few_marks id h r);
    };
    marks = marked_length d ∙ length-replicate 512 false;
    follows = length-replicate 512 false;
    within = λ id h. within_first (schema_in x) 512 id (subst (λ y. has y id ≡ true) d.is h);
    closed = λ via id h k r. no_both h (no_marks_lem 512 via);
  }

-- what the code needs
pub ruleset searched = (passed_none, passed_more, open_here)

pub ruleset followed = (ready_start, start_following, following_count, open_inside, turn_less, following_done)
