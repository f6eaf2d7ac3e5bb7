-- One pass over changes: their lines and the last line are the report, and the tally of the lines gives the verdict. Assumes nothing.
use mathlib.Core.Path.{◌≡◌, sym, ap, ◌∙◌}
use mathlib.Core.List.{List}
use Rattle.std.specs.Prelude.{Ok}
use Prim.Native.Nat.{ℕ, ◌^◌, ◌<◌}
use native.Mathlib.Omega.{arith}
use lib.ListN.{length, length-append}
use Rattle.text.specs.Writers.{after, Adds}
use Rattle.text.proofs.Writers.{adds_more, adds_at, adds_name, fills}
use Rattle.rules.specs.Changes.{Change}
use Rattle.rules.specs.Verdict.{result_of}
use Rattle.rules.specs.Report.{last_line, report}
use Rattle.rules.specs.Answer.{compared}
use Rattle.tally.specs.Tallies.{no_change, lines_of, TallyOf}
use Rattle.tally.specs.declared.Tally.{Tally}
use Rattle.tally.proofs.Totals.{lines_many, tally_of}
use Rattle.lines.specs.declared.Reading.{Reading}
use Rattle.lines.specs.Reports.{writer_of, with_text, reported, Reports, Ends}
use Rattle.lines.specs.declared.Report.{Report}
use Rattle.lines.proofs.Lines.{last_line_lem}
use Rattle.lines.proofs.Reports.{reports_as}
use Rattle.checking.specs.Decls.{all_changes}
use Rattle.verdicts.specs.Verdicts.{answer_values, of_tally, outcome_values}
use Rattle.verdicts.specs.declared.Verdict.{Verdict}
use Rattle.compat.specs.Passes.{Passed}
use Rattle.compat.specs.Pairs.{changes_of}
use Rattle.compat.specs.declared.prepared.Prepared.{Prepared}
use Rattle.compat.proofs.Kept.{policy_changes}
use Rattle.compat.proofs.Outcomes.{report_small}

-- a tally's verdict, with the report's length, is that of its changes
tally_verdict : (cs : List Change) (t : Tally) (n : ℕ) → TallyOf cs t → n ≡ length (report cs) → of_tally t n ≡ outcome_values (compared cs)
unfolding of_tally outcome_values result_of
tally_verdict cs t n o e = rw (o.bump, o.kinds, e)

-- ---- a report of no change, the report of the changes, and it with its last line

module _ {a b : Report} {cs : List Change} (none : a.tally ≡ no_change) (small : length (report cs) < 2 ^ 62) (h : Reports a cs b) where
  few : length cs < 2 ^ 64
  unfolding report lines_of
  few = omega (arith, small, lines_many cs, length-append (lines_of cs) (last_line cs))

  told : TallyOf cs b.tally
  unfolding reported with_text
  told = rw (ap (λ (r : Report). r.tally) h.is, none) (tally_of cs few)

  module _ {c : Report} (k : Ends b c) where
    same_tally : c.tally ≡ b.tally
    unfolding with_text
    same_tally = ap (λ (r : Report). r.tally) k.is

    first : Adds (writer_of a) (lines_of cs) (writer_of b)
    unfolding reported with_text
    first = record { is = ap (λ (r : Report). writer_of r) h.is }

    last : Adds (writer_of b) (last_line cs) (writer_of c)
    unfolding with_text
    last = record { is = ap (λ (r : Report). writer_of r) k.is ∙ ap (after (writer_of b)) (last_line_lem cs b.tally told) }

    whole : Adds (writer_of a) (report cs) (writer_of c)
    unfolding report lines_of
    whole = adds_more first last

-- ---- by the reading of a policy

module _ (k : Prepared) {a b c : Report}
    (e : a.reading ≡ k.policy.reading) (none : a.tally ≡ no_change) (h : Reports a (all_changes a.reading k.old k.new) b) (l : Ends b c) where
  by_policy : Reports a (changes_of k) b
  by_policy = reports_as (sym (policy_changes k) ∙ ap (λ (r : Reading). all_changes r k.old k.new) (sym e)) h

  small : length (report (changes_of k)) < 2 ^ 62
  small = report_small k.policy k.old.image k.new.image

  pub pass_name : c.out.ghost_name ≡ a.out.ghost_name
  pass_name = adds_name (whole none small by_policy l)

  pub passed : a.length ≡ 0 → {d : List ℕ} → a.out.now ≡ d → length d < 2 ^ 64 → {d' : List ℕ} → d' ≡ c.out.now
      → {v : Verdict} → answer_values (Ok v) ≡ of_tally c.tally c.length → Passed d (changes_of k) v d'
  passed z f s q g =
      let adds = whole none small by_policy l in
      let long : c.length ≡ length (report (changes_of k)) = adds_at adds z ∙ omega (arith, small) in
      record {
        verdict = g ∙ ap (λ (t : Tally). of_tally t c.length) (same_tally none small by_policy l) ∙ tally_verdict _ b.tally c.length (told none small by_policy) long;
        bytes = (fills adds z f s q).bytes;
      }
