-- `lines::Report::put_last_line` meets its contract. Assumes nothing.
use Rattle.lines.proofs.Lending.{ended}
use Rattle.lines.proofs.Report.put_last_line.Goals as goal

pub returns : goal.returns
returns c = ended c.put.ensures
