-- `lines::Report::emit` meets its contract: the line is written after those before it, and counted. Assumes nothing.
use Rattle.std.proofs.Common.{sym}
use Rattle.lines.specs.Sites.{change_of}
use Rattle.tally.proofs.Totals.{value_for}
use Rattle.lines.proofs.Lending.{emitted}
use Rattle.lines.proofs.Report.emit.Goals as goal

pub returns : goal.returns
returns c = emitted (change_of c.args.site) c.put.ensures (sym (value_for c.args.site.bump)) c.with_change-self.ensures
