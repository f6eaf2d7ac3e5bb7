use Rattle.reached.proofs.Declared.{entry_marked}
use Rattle.reached.proofs.decls.mark_entry.Goals as goal

pub returns : goal.returns
returns c = entry_marked c.entry.ensures c.in-Some.is c.mark_decl.ensures
