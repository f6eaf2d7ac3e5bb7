-- `checking::decls::unmatched_decl` meets its contract: nothing is reported if a declaration stands on the other side, else the change of a
-- site. Assumes nothing.
use Rattle.checking.proofs.Names.{stands_off, stands_alone}
use Rattle.checking.proofs.decls.unmatched_decl.Goals as goal

pub returns-then-is_some : goal.returns-then-is_some
returns-then-is_some c = stands_off c.args.old c.args.new c.args.side c.off-other.ensures c.args.decl c.name.ensures c.survivor.ensures c.is_some.ensures c.if-is_some.true

pub returns : goal.returns
returns c = stands_alone c.args.old c.args.new c.args.side c.off-other.ensures c.args.decl c.name.ensures c.survivor.ensures c.is_some.ensures c.if-is_some.false c.lone.result c.lone.ensures c.emit.ensures
