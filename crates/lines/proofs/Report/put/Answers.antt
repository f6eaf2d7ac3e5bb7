-- `lines::Report::put` meets its contract: the line is written into the part of the buffer after the lines before it. Assumes nothing.
use Rattle.std.proofs.Common.{sym, arith}
use Rattle.lines.proofs.Lending.{lent}
use Rattle.lines.proofs.Report.put.Goals as goal

pub returns : goal.returns
returns g c =
    rw c.saturating_add-self.ensures (sym (lent c.args.self.now _ (omega arith) (omega arith) c.min-done.ensures c.line_into-n.ensures))
