-- `verdicts::Verdict::of_tally` meets its contract. Assumes nothing.
use Rattle.verdicts.specs.Verdicts.{answer_values, of_tally}
use Rattle.verdicts.proofs.Verdict.of_tally.Goals as goal

pub returns : goal.returns
unfolding answer_values of_tally
returns c = rw c.result.ensures
