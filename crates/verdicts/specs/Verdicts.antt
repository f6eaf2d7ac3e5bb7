-- What C is told of an answer, of a tally's verdict and of an outcome, and the value that a selector gives. Assumes nothing.
use Rattle.std.specs.Prelude.{List, ◌∷◌, ℕ, length, get_or, replicate, Result, Ok, Err}
use Rattle.image.specs.Numbers.{refusal_number, side_number}
use Rattle.rules.specs.Changes.{kind_count}
use Rattle.rules.specs.Verdict.{result_at}
use Rattle.rules.specs.Outcome.{Outcome, refused, answered}
use Rattle.tally.specs.Tallies.{level_of, result_number}
use Rattle.tally.specs.declared.Tally.{Tally}
use Rattle.verdicts.specs.declared.Fault.{Fault}
use Rattle.verdicts.specs.declared.Verdict.{Verdict}
use Rattle.verdicts.specs.declared.Values.{Values}

-- "A refusal is number and side .., with bump Major, result Breaking, all counts and length 0"
unfoldable pub refused_by : ℕ → ℕ → Values
refused_by number side =
    record { number = number; side = side; bump = 2; result = 1; length = 0; counts = replicate kind_count 0 }

-- of a verdict: a bump, a result, the length of the whole text, the counts
abbrev pub told : ℕ → ℕ → ℕ → List ℕ → Values
told bump result length counts = record { number = 0; side = 0; bump = bump; result = result; length = length; counts = counts }

-- what C is told of an answer of the code
unfoldable pub answer_values : Result Verdict Fault → Values
answer_values (Ok v) = told (level_of v.bump) (result_number v.result) v.length v.counts
answer_values (Err f) = refused_by (refusal_number f.refusal) (side_number f.side)

-- of the verdict of a tally
unfoldable pub of_tally : Tally → ℕ → Values
of_tally t n = told (level_of t.bump) (result_at (level_of t.bump)) n t.counts

-- what it is to be told of an outcome
unfoldable pub outcome_values : Outcome → Values
outcome_values (refused number side) = refused_by number side
outcome_values (answered a) = told a.bump a.result (length a.text) a.counts

-- by selector; one beyond them gives 0
unfoldable pub select_in : Values → ℕ → ℕ
select_in v selector = get_or (v.number ∷ v.side ∷ v.bump ∷ v.result ∷ v.length ∷ v.counts) selector 0
