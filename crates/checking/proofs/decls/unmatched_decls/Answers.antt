-- `checking::decls::unmatched_decls` meets its contract: nothing is reported if each name stands on the other side. Assumes nothing.
use Rattle.lines.proofs.Reports.{reports_none}
use Rattle.checking.proofs.Names.{none_unmatched}
use Rattle.checking.proofs.decls.unmatched_decls.Goals as goal

pub returns-then-all_named : goal.returns-then-all_named
returns-then-all_named c = reports_none (none_unmatched _ c.args.old c.args.new c.args.side c.on-own.ensures c.off.ensures c.all_named.ensures c.if-all_named.true)
