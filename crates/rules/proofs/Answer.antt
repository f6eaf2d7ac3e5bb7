-- Two images by stages: where they are decided, and what a pair with number 0 has. Assumes nothing.
use mathlib.Core.Path.{◌≡◌, refl, sym, ap, ◌∙◌}
use mathlib.Core.Bool.{Bool, true, false, cond}
use Rattle.std.specs.Prelude.{Option, None, Some}
use Rattle.std.specs.Option.{option_or}
use Rattle.std.proofs.lemmas.Option.{none-some, same_Some}
use mathlib.Core.List.{List, [], ◌∷◌}
use mathlib.Core.Logic.{◌⊎◌, inl, inr, ⊎_elim, ◌↔◌}
use Prim.Native.Nat.{ℕ, zero, suc, ◌+◌, ◌<◌}
use native.Mathlib.Omega.{arith}
use lib.ListN.{length, get_or}
use lib.Seq.{get_or-append-add}
use Rattle.image.specs.Schema.{Schema, no_schema}
use Rattle.image.specs.Parse.{Parsed, ok, no}
use Rattle.image.specs.Image.{read_image}
use Rattle.refusals.proofs.Refusals.{only_ten}
use Rattle.rules.specs.Survivors.{View, view_of}
use Rattle.rules.specs.Changes.{Change, kind_count}
use Rattle.rules.specs.Clauses.{Reading, changes}
use Rattle.rules.specs.Verdict.{bump_of, result_of, count_of, alias_pair}
use Rattle.rules.specs.Report.{report}
use Rattle.rules.specs.Outcome.{Outcome, refused, selected, select}
use Rattle.image.specs.Codes.{number, old_side, new_side, both_sides}
use Rattle.rules.specs.Answer.{Fault, fault, Check, Policy, compared, counts, first_fault, judged, on_side, image_fault, fault_in, compare_pair, accept_new, accept_old, outcome, alias_check, usual, plain_reading, plain}
use Rattle.rules.specs.Refusals.{Passes, Decided, old_refused, old_alone, new_refused, new_alone, pair_refused, verdict, Numbered}

-- ---- where they are decided

module _ (p : Policy) (old new : List ℕ) where
  pub decided : Decided p old new (outcome p old new)
  unfolding outcome accept_old accept_new compare_pair on_side judged
  decided = go (read_image old) (read_image new) refl refl
    where
      pair : (x y : Schema) → Passes p old x → Passes p new y → (f : Option Fault) → first_fault p.pair x y ≡ f
          → Decided p old new (judged f (compared (changes p.reading (p.view x) (p.view y))))
      pair x y a b None e = verdict a b e
      pair x y a b (Some f) e = pair_refused a b e

      second : (x : Schema) → Passes p old x → (y : Schema) (n : ℕ) → read_image new ≡ ok y n → (k : Option ℕ) → p.alone y ≡ k
          → Decided p old new (judged (on_side (number new_side) k) (compare_pair p x y))
      second x a y n q None e = pair x y a (record { end = n; read = q; alone = e }) (first_fault p.pair x y) refl
      second x a y n q (Some k) e = new_alone a q e

      first : (x : Schema) (m : ℕ) → read_image old ≡ ok x m → (s : Parsed Schema) → read_image new ≡ s → (k : Option ℕ) → p.alone x ≡ k
          → Decided p old new (judged (on_side (number old_side) k) (accept_new p x s))
      first x m q (ok y n) r None e = second x (record { end = m; read = q; alone = e }) y n r (p.alone y) refl
      first x m q (no k) r None e = new_refused (record { end = m; read = q; alone = e }) (only_ten new k r) r
      first x m q s r (Some k) e = old_alone q e

      go : (r s : Parsed Schema) → read_image old ≡ r → read_image new ≡ s → Decided p old new (accept_old p r s)
      go (ok x m) s q t = first x m q s t (p.alone x) refl
      go (no k) s q t = old_refused (only_ten old k q) q

  -- and in no other way
  pub decides : {o : Outcome} → Decided p old new o → outcome p old new ≡ o
  unfolding outcome accept_old accept_new compare_pair on_side judged
  decides (old_refused l q) = rw q
  decides (old_alone q e) = rw (q, e)
  decides (new_refused a l q) = rw (a.read, a.alone, q)
  decides (new_alone a q e) = rw (a.read, a.alone, q, e)
  decides (pair_refused a b e) = rw (a.read, a.alone, b.read, b.alone, e)
  decides (verdict a b e) = rw (a.read, a.alone, b.read, b.alone, e)

  pub exactly : (o : Outcome) → (outcome p old new ≡ o) ↔ Decided p old new o
  exactly o = (λ e. rw (sym e) decided, decides)

-- ---- by what each image alone is refused by

module _ (p : Policy) where
  module _ (side : ℕ) (s : List ℕ) where
    pub accepted_fault : {x : Schema} {n : ℕ} → read_image s ≡ ok x n → on_side side (p.alone x) ≡ fault_in p side s
    unfolding fault_in image_fault
    accepted_fault e = rw e

    pub rejected_fault : {k : ℕ} → read_image s ≡ no k → Some (fault k side) ≡ fault_in p side s
    unfolding fault_in image_fault
    rejected_fault e = rw e

    -- an image without a fault is accepted, and passes alone
    pub no_fault : fault_in p side s ≡ None → (x : Schema) × Passes p s x
    unfolding fault_in image_fault on_side
    no_fault = go (read_image s) refl
      where
        passes : (x : Schema) (n : ℕ) → read_image s ≡ ok x n → (k : Option ℕ) → p.alone x ≡ k → on_side side k ≡ None → (x : Schema) × Passes p s x
        passes x n q None e z = (x, record { end = n; read = q; alone = e })
        passes x n q (Some k) e z = absurd (none-some (fault k side) (sym z))

        go : (r : Parsed Schema) → read_image s ≡ r → image_fault p side r ≡ None → (x : Schema) × Passes p s x
        go (ok x n) q e = passes x n q (p.alone x) refl e
        go (no k) q e = absurd (none-some (fault k side) (sym e))

  -- what a fault comes to, in each image
  old_stage : (f : Fault) (s r : Parsed Schema) → image_fault p (number old_side) r ≡ Some f → accept_old p r s ≡ refused f.number f.side
  unfolding accept_old image_fault judged
  old_stage f s (ok x n) e = rw e
  old_stage f s (no k) e = rw (← same_Some (fault k (number old_side)) f e)

  new_stage : (f : Fault) (x : Schema) (s : Parsed Schema) → image_fault p (number new_side) s ≡ Some f → accept_new p x s ≡ refused f.number f.side
  unfolding accept_new image_fault judged
  new_stage f x (ok y n) e = rw e
  new_stage f x (no k) e = rw (← same_Some (fault k (number new_side)) f e)

  module _ (old new : List ℕ) where
    -- the old image has a fault, or the new one after it
    pub old_fault : {f : Fault} → fault_in p (number old_side) old ≡ Some f → outcome p old new ≡ refused f.number f.side
    unfolding fault_in outcome
    old_fault {f} e = old_stage f (read_image new) (read_image old) e

    pub new_fault : {x : Schema} → Passes p old x → {f : Fault} → fault_in p (number new_side) new ≡ Some f → outcome p old new ≡ refused f.number f.side
    unfolding fault_in outcome accept_old on_side judged
    new_fault {x} a {f} e = rw (a.read, a.alone) (new_stage f x (read_image new) e)

    -- neither has one
    pub both_pass : {x y : Schema} → Passes p old x → Passes p new y → outcome p old new ≡ compare_pair p x y
    unfolding outcome accept_old accept_new on_side judged
    both_pass a b = rw (a.read, a.alone, b.read, b.alone)

-- ---- a pair with number 0 has the changes of what the two images hold

-- the schema that an image holds; of one that is refused, one that holds nothing
unfoldable pub schema_of : Parsed Schema → Schema
schema_of (ok s n) = s
schema_of (no k) = no_schema

-- two images of which none of the numbers is given
pub record Settled (p : Policy) (a b : List ℕ) : Type 0 where
  pub old_schema : Schema
  pub new_schema : Schema
  pub old : Passes p a old_schema
  pub new : Passes p b new_schema
  pub faultless : first_fault p.pair old_schema new_schema ≡ None

module _ (p : Policy) where
  -- what the clauses report, whether or not the images are refused
  unfoldable pub changes_of : List ℕ → List ℕ → List Change
  changes_of a b = changes p.reading (p.view (schema_of (read_image a))) (p.view (schema_of (read_image b)))

  -- both are accepted, each passes alone, and the pair passes its checks
  pub settled : Numbered p → (a b : List ℕ) → select (outcome p a b) 0 ≡ 0 → Settled p a b
  unfolding select selected
  settled n a b = go (decided p a b)
    where
      go : {o : Outcome} → Decided p a b o → select o 0 ≡ 0 → Settled p a b
      go (old_refused l q) z = absurd (omega arith)
      go (old_alone q e) z = absurd ((n.alone _ _ e).0 z)
      go (new_refused c l q) z = absurd (omega arith)
      go (new_alone c q e) z = absurd ((n.alone _ _ e).0 z)
      go (pair_refused c d e) z = absurd ((n.pair _ _ _ e).0 z)
      go (verdict {x = x} {y = y} c d e) z = record { old_schema = x; new_schema = y; old = c; new = d; faultless = e }

  pub compared_of : Numbered p → (a b : List ℕ) → select (outcome p a b) 0 ≡ 0 → outcome p a b ≡ compared (changes_of a b)
  unfolding changes_of schema_of
  compared_of n a b z =
      let t = settled n a b z in
      rw (t.old.read, t.new.read) (decides p a b (verdict t.old t.new t.faultless))

-- ---- the selectors from 5 on

pub counts_at : (n from k : ℕ) (cs : List Change) → k < n → get_or (counts n from cs) k 0 ≡ count_of (from + k) cs
unfolding counts
counts_at zero from k cs h = absurd (omega arith)
counts_at (suc n) from zero cs h = ap (λ i. count_of i cs) (omega arith)
counts_at (suc n) from (suc k) cs h = counts_at n (suc from) k cs (omega arith) ∙ ap (λ i. count_of i cs) (omega arith)

pub count_selected : (kind : ℕ) → kind < kind_count → (cs : List Change) → select (compared cs) (5 + kind) ≡ count_of kind cs
unfolding select selected
count_selected kind h cs =
    get_or-append-add (0 ∷ 0 ∷ bump_of cs ∷ result_of cs ∷ length (report cs) ∷ []) (counts kind_count 0 cs) kind 0
    ∙ (counts_at kind_count 0 kind cs h ∙ ap (λ i. count_of i cs) (omega arith))

-- ---- the checks of a pair, one after the other

module _ (c : Check) (cs : List Check) (x y : Schema) where
  -- a fault is the first check's, or a later one's where that finds none
  pub here_or_later : (f : Fault) → first_fault (c ∷ cs) x y ≡ Some f → (c x y ≡ Some f) ⊎ ((c x y ≡ None) × (first_fault cs x y ≡ Some f))
  unfolding first_fault
  here_or_later f = go (c x y) refl
    where
      go : (o : Option Fault) → c x y ≡ o → option_or o (first_fault cs x y) ≡ Some f
          → (c x y ≡ Some f) ⊎ ((c x y ≡ None) × (first_fault cs x y ≡ Some f))
      go None p e = inr (p, e)
      go (Some g) p e = inl (p ∙ e)

  pub here_found : {f : Fault} → c x y ≡ Some f → first_fault (c ∷ cs) x y ≡ Some f
  unfolding first_fault
  here_found e = rw e

  pub here_passed : c x y ≡ None → first_fault (c ∷ cs) x y ≡ first_fault cs x y
  unfolding first_fault
  here_passed e = rw e

pub no_checks : {A : Type 0} (x y : Schema) (f : Fault) → first_fault [] x y ≡ Some f → A
unfolding first_fault
no_checks x y f e = absurd (none-some f e)

-- a check that is a test with one fault
pub tested : (g : Fault) (u : Bool) (f : Fault) → cond u (Some g) None ≡ Some f → (u ≡ true) × (f ≡ g)
tested g true f e = (refl, sym (same_Some g f e))
tested g false f e = absurd (none-some f e)

pub untested : (g : Fault) (u : Bool) → ◌≡◌ {A = Option Fault} (cond u (Some g) None) None → u ≡ false
untested g true e = absurd (none-some g (sym e))
untested g false e = refl

-- ---- a verdict whose one check is 11, over any view and by any reading

module _ (view : Schema → View) where
  -- of the pair only 11 is given, to a pair of aliases
  pub usual_fault : (x y : Schema) (f : Fault) → first_fault (alias_check view ∷ []) x y ≡ Some f
      → (alias_pair (view x) (view y) ≡ true) × (f ≡ fault 11 (number both_sides))
  unfolding alias_check
  usual_fault x y f e =
      ⊎_elim (tested (fault 11 (number both_sides)) (alias_pair (view x) (view y)) f) (λ q. no_checks x y f q.1) (here_or_later (alias_check view) [] x y f e)

  pub alias_fault_lem : (x y : Schema) → alias_pair (view x) (view y) ≡ true → first_fault (alias_check view ∷ []) x y ≡ Some (fault 11 (number both_sides))
  unfolding alias_check
  alias_fault_lem x y e = here_found (alias_check view) [] x y (rw e)

pub usual_numbered : (view : Schema → View) (reading : Reading) → Numbered (usual view reading)
usual_numbered view reading = record {
  alone = λ x k e. absurd (none-some k e);
  pair = λ x y f e. let n = ap (λ (g : Fault). g.number) (usual_fault view x y f e).1 in (λ z. omega arith, λ z. omega arith);
}

pub plain_numbered : Numbered plain
plain_numbered = usual_numbered view_of plain_reading
