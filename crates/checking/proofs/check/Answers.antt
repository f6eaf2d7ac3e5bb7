-- `checking::check` meets its contract, part by part. Assumes nothing.
use Rattle.checking.proofs.Whole.{all_reported}
use Rattle.checking.proofs.check.Goals as goal

pub returns : goal.returns
returns c = all_reported _ _ c.compare_namespaces.ensures c.unmatched_decls.ensures c.unmatched_decls-2.ensures c.kept_decls.ensures
