-- `listing::checked` meets its contract: the image's refusal, or what is measured. Assumes nothing.
use Rattle.parts.proofs.Promise.{read_bytes, read_no}
use Rattle.rules.specs.Outcome.{fit}
use Rattle.verdicts.specs.Verdicts.{answer_values, outcome_values}
use Rattle.listing.specs.Listing.{accept, outcome}
use Rattle.listing.proofs.checked.Goals as goal

pub returns-in-Ok : goal.returns-in-Ok
returns-in-Ok c = rw (read_bytes c.read.ensures c.in-Ok.is) at c.measured.ensures

pub returns-in-Err : goal.returns-in-Err
unfolding outcome accept fit answer_values outcome_values
returns-in-Err c = rw (read_no c.read.ensures c.in-Err.is)
