-- `compat::verdict` meets its contract: the fault of an image, or the comparison. Assumes nothing.
use Rattle.std.proofs.Common.{ap, ◌∙◌}
use Rattle.std.proofs.lemmas.Result.{err_from_is_err_and}
use Rattle.verdicts.specs.Verdicts.{outcome_values}
use Rattle.compat.proofs.Outcomes.{verdict_refused, images_told}
use Rattle.compat.proofs.verdict.Goals as goal

pub returns-in_err-first : goal.returns-in_err-first
returns-in_err-first c =
    let p = err_from_is_err_and c.from_residual.result c.from_residual.ensures.1 in
    rw (p.1, p.2) (verdict_refused c.args.policy c.args.old.now c.args.new.now (c.accept_both.ensures.outcome c.args.policy) c.in_err-first.was)

pub returns : goal.returns
returns c =
    c.compare.ensures ∙ ap outcome_values (images_told c.args.policy c.args.old.now c.args.new.now (c.accept_both.ensures.outcome c.args.policy) c.in_ok-first.was)
