-- One pass over changes, and the report call. Assumes nothing.
use Rattle.std.specs.Prelude.{◌≡◌, List, ℕ, length, take, Result, Ok}
use Rattle.text.specs.Text.{put}
use Rattle.rules.specs.Changes.{Change}
use Rattle.rules.specs.Report.{report}
use Rattle.parts.specs.Codes.{number, both_sides}
use Rattle.rules.specs.Outcome.{Outcome, fit, written}
use Rattle.rules.specs.Answer.{compared, report_by}
use Rattle.verdicts.specs.Verdicts.{answer_values, outcome_values}
use Rattle.verdicts.specs.declared.Fault.{Fault}
use Rattle.verdicts.specs.declared.Verdict.{Verdict}
use Rattle.compat.specs.Policies.{policy_of}
use Rattle.compat.specs.declared.policies.Policy.{Policy}

-- one pass over the changes cs with the buffer d: the verdict, and the buffer, which has as much of the report as it reaches
pub record Passed (d : List ℕ) (cs : List Change) (r : Verdict) (d' : List ℕ) : Type 0 where
  pub verdict : answer_values (Ok r) ≡ outcome_values (compared cs)
  pub bytes : d' ≡ put d 0 (take (length d) (report cs))

-- an outcome with its text in the buffer d, if that has room: the answer, and the buffer
pub record Written (o : Outcome) (d : List ℕ) (r : Result Verdict Fault) (d' : List ℕ) : Type 0 where
  pub verdict : answer_values r ≡ outcome_values (fit (number both_sides) (length d) o)
  pub bytes : d' ≡ written (fit (number both_sides) (length d) o) d

-- the report call on two images with the buffer d: the answer, and the buffer
pub record Reported (p : Policy) (old new d : List ℕ) (r : Result Verdict Fault) (d' : List ℕ) : Type 0 where
  pub verdict : answer_values r ≡ outcome_values (report_by (policy_of p) old new (length d))
  pub bytes : d' ≡ written (report_by (policy_of p) old new (length d)) d
