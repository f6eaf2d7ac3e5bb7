-- `compat::report` meets its contract: the fault of an image, or what is written of the pair. Assumes nothing.
use Rattle.std.proofs.lemmas.Result.{err_from_is_err_and}
use Rattle.compat.proofs.Outcomes.{report_refused, report_told}
use Rattle.compat.proofs.report.Goals as goal

pub returns-in_err-first : goal.returns-in_err-first
returns-in_err-first c =
    let p = err_from_is_err_and c.from_residual.result c.from_residual.ensures.1 in
    rw (p.1, p.2) (report_refused c.args.policy c.args.old.now c.args.new.now (c.accept_both.ensures.outcome c.args.policy) _ c.in_err-first.was)

pub returns : goal.returns
returns c = report_told c.args.policy c.args.old.now c.args.new.now (c.accept_both.ensures.outcome c.args.policy) c.in_ok-first.was c.write.ensures
