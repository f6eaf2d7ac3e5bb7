-- `compat::policies::judge_pair` meets its contract: what is said of the formats stands before 11. Assumes nothing.
use Rattle.std.proofs.Common.{refl, ◌∙◌}
use Rattle.std.proofs.lemmas.Result.{err_from_is_err_and}
use Rattle.compat.proofs.Kept.{policy_aliases}
use Rattle.compat.proofs.Outcomes.{first_passes, first_told}
use Rattle.compat.proofs.policies.judge_pair.Goals as goal

pub returns-in_err-judge_formats : goal.returns-in_err-judge_formats
returns-in_err-judge_formats c =
    let p = err_from_is_err_and c.from_residual.result c.from_residual.ensures.1 in
    rw (p.1, p.2) (first_told c.judge_formats.ensures c.in_err-judge_formats.was _ ∙ policy_aliases c.args.pair refl)

pub returns : goal.returns
returns c = first_passes c.judge_formats.ensures c.in_ok-judge_formats.was _ c.judge_aliases.ensures ∙ policy_aliases c.args.pair refl
