-- `compat::compare_with` meets its contract: the fault of the pair, or what is measured. Assumes nothing.
use Rattle.std.proofs.Common.{ap, ◌∙◌}
use Rattle.std.proofs.lemmas.Result.{err_from_is_err_and}
use Rattle.verdicts.specs.Verdicts.{outcome_values}
use Rattle.compat.proofs.Outcomes.{pair_passes, pair_refused_lem}
use Rattle.compat.proofs.compare_with.Goals as goal

pub returns : goal.returns
returns c = c.measure.ensures ∙ ap outcome_values (pair_passes _ c.args.pair.old.image c.args.pair.new.image c.judge_pair.ensures c.in_ok-judge_pair.was)

pub returns-in_err-judge_pair : goal.returns-in_err-judge_pair
returns-in_err-judge_pair c =
    let p = err_from_is_err_and c.from_residual.result c.from_residual.ensures.1 in
    rw (p.1, p.2) (pair_refused_lem _ c.args.pair.old.image c.args.pair.new.image c.judge_pair.ensures c.in_err-judge_pair.was)
