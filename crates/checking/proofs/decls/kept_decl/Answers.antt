-- `checking::decls::kept_decl` meets its contract: what stands under the name in the new image is compared. Assumes nothing.
use Rattle.checking.proofs.Names.{new_none, both_kept}
use Rattle.checking.proofs.decls.kept_decl.Goals as goal

pub returns-in_default : goal.returns-in_default
returns-in_default c = new_none c.args.new c.args.decl c.name.ensures c.survivor.ensures c.in_default.is

pub returns : goal.returns
returns c = both_kept c.args.new c.args.decl c.name.ensures c.survivor.ensures c.in-Some.is c.compare_decls.ensures
