-- `verdicts::Values::of` meets its contract. Assumes nothing.
use Rattle.verdicts.specs.Verdicts.{refused_by, answer_values}
use Rattle.verdicts.proofs.Values.of.Goals as goal

pub returns-in-Ok : goal.returns-in-Ok
unfolding answer_values
returns-in-Ok c = rw (c.in-Ok.is, c.level.ensures.is, c.number.ensures.is)

pub returns-in-Err : goal.returns-in-Err
unfolding answer_values refused_by
returns-in-Err c = rw (c.in-Err.is, c.number-in-Err.ensures, c.number-in-Err-2.ensures, c.level-in-Err.ensures.is, c.number-in-Err-3.ensures.is)
