-- Two images by stages: from what the checks say to the outcome, and what the report call makes of the verdict. Assumes nothing.
use mathlib.Core.Path.{◌≡◌, refl, sym, ap, ◌∙◌}
use Rattle.std.specs.Prelude.{Option, None, Result, Ok, Err, ⊤}
use Rattle.std.specs.Option.{option_or}
use mathlib.Core.List.{List}
use Prim.Native.Nat.{ℕ, ◌^◌, ◌≤◌, ◌<◌}
use native.Mathlib.Nat.{zero-add}
use native.Mathlib.Omega.{arith}
use borrow.Author.Tests.{le-leb, lt-leb}
use lib.ListN.{length}
use lib.Seq.{take_all}
use Rattle.image.specs.Schema.{Schema}
use Rattle.image.specs.declared.refusals.Refusal.{Refusal}
use Rattle.image.specs.declared.sides.Side.{Side}
use Rattle.parts.specs.Codes.{number, old_side, new_side, both_sides}
use Rattle.parts.specs.Numbers.{refusal_number, side_number}
use Rattle.parts.specs.Handles.{schema_in, Reads}
use Rattle.parts.specs.declared.handles.Image.{Image}
use Rattle.parts.proofs.Promise.{accepted_read, read_accepted, read_bytes, read_no}
use Rattle.text.specs.Text.{put}
use Rattle.rules.specs.Report.{report}
use Rattle.rules.specs.Outcome.{Outcome, refused, fit, written}
use Rattle.rules.specs.Answer.{Fault, compared, first_fault, judged, on_side, fault_in, compare_pair, outcome, report_by}
use Rattle.rules.specs.Refusals.{Passes}
use Rattle.rules.proofs.Answer.{no_fault, accepted_fault, rejected_fault, old_fault, new_fault, both_pass}
use Rattle.rules.proofs.Bound.{report_bound}
use Rattle.verdicts.specs.Verdicts.{refused_by, answer_values, outcome_values}
use Rattle.verdicts.specs.declared.Fault.{Fault as Found}
use Rattle.verdicts.specs.declared.Verdict.{Verdict}
use Rattle.verdicts.specs.declared.Values.{Values}
use Rattle.compat.specs.Policies.{policy_of, changes_by, pair_outcome, outcome_by, fault_of, Accepts}
use Rattle.compat.specs.Passes.{Passed, Written, Reported}
use Rattle.compat.specs.declared.policies.Policy.{Policy}
use Rattle.compat.proofs.Kept.{policy_bounded}

-- ---- what a check says

module _ {A : Type 0} {j : Result A Found} {o : Option Fault} (e : fault_of j ≡ o) where
  pub says_none : {a : A} → j ≡ Ok a → o ≡ None
  unfolding fault_of
  says_none p = sym e ∙ ap fault_of p

  -- what comes before another check: it passes, or its fault is told
  pub first_passes : {a : A} → j ≡ Ok a → {B : Type 0} → (k : Result B Found) {q : Option Fault} → fault_of k ≡ q → fault_of k ≡ option_or o q
  first_passes p k r = r ∙ rw (says_none p)

  pub first_told : {f : Found} → j ≡ Err f → (q : Option Fault) → fault_of {A = A} (Err f) ≡ option_or o q
  unfolding fault_of
  first_told p q = rw (sym e ∙ ap fault_of p)

  pub passes_on : {a : A} → j ≡ Ok a → (u : Outcome) → u ≡ judged o u
  unfolding judged
  passes_on p u = rw (says_none p)

  pub says_fault : {f : Found} → j ≡ Err f → (u : Outcome) → judged o u ≡ refused (refusal_number f.refusal) (side_number f.side)
  unfolding fault_of judged
  says_fault p u = rw (sym e ∙ ap fault_of p)

-- ---- one image

module _ (side : Side) (s : List ℕ) {q : Result Image Refusal} (a : Reads s q) where
  module _ {i : Image} (e : q ≡ Ok i) where
    own : i.bytes.now ≡ s
    own = read_bytes a e

    passes : (p : Policy) → None ≡ fault_in (policy_of p) (side_number side) s
    unfolding policy_of on_side
    passes p = rw (← own) (accepted_fault (policy_of p) (side_number side) i.bytes.now (accepted_read i.bytes.now i.accepted).1)

    pub accepts : Accepts (side_number side) s (Ok i)
    unfolding fault_of
    accepts = record { fault = passes; bytes = own }

  pub refuses : {k : Refusal} → q ≡ Err k → Accepts (side_number side) s (Err (record { refusal = k; side = side }))
  unfolding fault_of
  refuses e = record {
    fault = λ p. rejected_fault (policy_of p) (side_number side) s (read_no a e);
    bytes = tt;
  }

-- ---- two images

module _ (p : Policy) (old new : List ℕ) where
  module _ {j : Result Image Found} (a : Accepts (number old_side) old j) where
    pub old_refused_lem : {f : Found} → j ≡ Err f → outcome_by p (Err f) ≡ outcome (policy_of p) old new
    unfolding fault_of
    old_refused_lem q = sym (old_fault (policy_of p) old new (sym (a.fault p) ∙ ap fault_of q))

    module _ {i : Image} (e : j ≡ Ok i) where
      old_passes : (x : Schema) × Passes (policy_of p) old x
      old_passes = no_fault (policy_of p) (number old_side) old (says_none (a.fault p) e)

      old_bytes : i.bytes.now ≡ old
      old_bytes = rw e at a.bytes

      module _ {k : Result Image Found} (b : Accepts (number new_side) new k) where
        pub new_refused_lem : {f : Found} → k ≡ Err f → outcome_by p (Err f) ≡ outcome (policy_of p) old new
        unfolding fault_of
        new_refused_lem q = sym (new_fault (policy_of p) old new old_passes.1 (sym (b.fault p) ∙ ap fault_of q))

        module _ {n : Image} (f : k ≡ Ok n) where
          new_passes : (y : Schema) × Passes (policy_of p) new y
          new_passes = no_fault (policy_of p) (number new_side) new (says_none (b.fault p) f)

          new_bytes : n.bytes.now ≡ new
          new_bytes = rw f at b.bytes

          pub both_outcome : pair_outcome p i n ≡ outcome (policy_of p) old new
          both_outcome =
              rw (old_bytes, new_bytes, (read_accepted old old_passes.1.read).1, (read_accepted new new_passes.1.read).1)
              (sym (both_pass (policy_of p) old new old_passes.1 new_passes.1))

  -- ---- the calls, by what the bytes come to

  module _ {j : Result (Image × Image) Found} (a : outcome_by p j ≡ outcome (policy_of p) old new) where
    refused_told : {f : Found} → j ≡ Err f → refused (refusal_number f.refusal) (side_number f.side) ≡ outcome (policy_of p) old new
    refused_told q = sym (ap (outcome_by p) q) ∙ a

    pub verdict_refused : {f : Found} → j ≡ Err f → answer_values (Err f) ≡ outcome_values (outcome (policy_of p) old new)
    unfolding answer_values outcome_values
    verdict_refused q = ap outcome_values (refused_told q)

    pub report_refused : (d : List ℕ) {f : Found} → j ≡ Err f → Reported p old new d (Err f) d
    unfolding report_by answer_values outcome_values fit written
    report_refused d q = record { verdict = rw (← refused_told q) refl; bytes = rw (← refused_told q) refl }

    module _ {images : Image × Image} (e : j ≡ Ok images) where
      pub images_told : pair_outcome p images.0 images.1 ≡ outcome (policy_of p) old new
      images_told = sym (ap (outcome_by p) e) ∙ a

      pub report_told : {d d' : List ℕ} {r : Result Verdict Found} → Written (pair_outcome p images.0 images.1) d r d' → Reported p old new d r d'
      unfolding report_by
      report_told w = record { verdict = rw images_told at w.verdict; bytes = rw images_told at w.bytes }

-- ---- the checks of the pair

module _ (p : Policy) (old new : Image) where
  module _ {j : Result ⊤ Found} (e : fault_of j ≡ first_fault (policy_of p).pair (schema_in old) (schema_in new)) where
    pub pair_passes : {u : ⊤} → j ≡ Ok u → compared (changes_by p old new) ≡ pair_outcome p old new
    unfolding compare_pair changes_by
    pair_passes q = passes_on e q _

    pair_fault : {f : Found} → j ≡ Err f → pair_outcome p old new ≡ refused (refusal_number f.refusal) (side_number f.side)
    unfolding compare_pair
    pair_fault q = says_fault e q _

    pub pair_refused_lem : {f : Found} → j ≡ Err f → answer_values (Err f) ≡ outcome_values (pair_outcome p old new)
    unfolding answer_values outcome_values
    pair_refused_lem q = rw (pair_fault q)

    pub writes_refused : (d : List ℕ) {f : Found} → j ≡ Err f → Written (pair_outcome p old new) d (Err f) d
    unfolding answer_values outcome_values fit written
    writes_refused d q = record { verdict = rw (pair_fault q); bytes = rw (pair_fault q) }

    -- ---- the report of a pair that passes, whose verdict is v, in the buffer d

    module _ {u : ⊤} (q : j ≡ Ok u) (v : Verdict) (h : answer_values (Ok v) ≡ outcome_values (compared (changes_by p old new))) (d : List ℕ) where
      size : v.length ≡ length (report (changes_by p old new))
      unfolding answer_values outcome_values
      size = ap (λ (x : Values). x.length) h

      -- 12
      pub writes_full : (a : Result Verdict Found) → length d < v.length → answer_values a ≡ refused_by 12 (number both_sides) → Written (pair_outcome p old new) d a d
      unfolding outcome_values fit written
      writes_full a l g =
          let full = lt-leb (length (report (changes_by p old new))) (length d) (omega (arith, size)) in
          record { verdict = g ∙ rw (← pair_passes q, full); bytes = rw (← pair_passes q, full) }

      pub writes : v.length ≤ length d → {w : Verdict} {d' : List ℕ} → Passed d (changes_by p old new) w d' → Written (pair_outcome p old new) d (Ok w) d'
      unfolding fit written put
      writes l w =
          let fits = le-leb (length (report (changes_by p old new))) (length d) (omega (arith, size)) in
          let all = take_all (length d) (report (changes_by p old new)) (omega (arith, size)) in
          record {
            verdict = w.verdict ∙ rw (← pair_passes q, fits);
            bytes = w.bytes ∙ rw (all, ← pair_passes q, fits, zero-add (length (report (changes_by p old new))));
          }

  -- ---- the report's length

  pub report_small : length (report (changes_by p old new)) < 2 ^ 62
  unfolding changes_by
  report_small =
      report_bound (policy_of p) (policy_bounded p) old.bytes.now new.bytes.now _ _ _ _ (accepted_read old.bytes.now old.accepted).1 (accepted_read new.bytes.now new.accepted).1
