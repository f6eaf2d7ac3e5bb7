-- `compat::write_with` meets its contract: the fault of the pair, refusal 12, or the pass that writes. Assumes nothing.
use Rattle.std.proofs.Common.{refl}
use Rattle.std.proofs.lemmas.Result.{err_from_is_err_and}
use Rattle.verdicts.specs.Verdicts.{answer_values}
use Rattle.compat.proofs.Outcomes.{writes_refused, writes_full, writes}
use Rattle.compat.proofs.write_with.Goals as goal

pub returns-in_err-judge_pair : goal.returns-in_err-judge_pair
returns-in_err-judge_pair c =
    let p = err_from_is_err_and c.from_residual.result c.from_residual.ensures.1 in
    rw (p.1, p.2) (writes_refused _ c.args.pair.old.image c.args.pair.new.image c.judge_pair.ensures _ c.in_err-judge_pair.was)

pub returns-then-out-v : goal.returns-then-out-v
unfolding answer_values
returns-then-out-v c =
    writes_full _ c.args.pair.old.image c.args.pair.new.image c.judge_pair.ensures c.in_ok-judge_pair.was c.measure-v.result c.measure-v.ensures _ _ c.if-out-v.true refl

pub returns : goal.returns
returns c =
    writes _ c.args.pair.old.image c.args.pair.new.image c.judge_pair.ensures c.in_ok-judge_pair.was c.measure-v.result c.measure-v.ensures _ c.if-out-v.false c.pass.ensures
