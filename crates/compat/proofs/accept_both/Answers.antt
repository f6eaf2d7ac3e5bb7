-- `compat::accept_both` meets its contract: the old image's fault, the new one's, or both images. Assumes nothing.
use Rattle.std.proofs.lemmas.Result.{err_from_is_err_and}
use Rattle.compat.proofs.Outcomes.{old_refused_lem, new_refused_lem, both_outcome}
use Rattle.compat.proofs.accept_both.Goals as goal

pub returns-in_err-first : goal.returns-in_err-first
returns-in_err-first c =
    let r = err_from_is_err_and c.from_residual.result c.from_residual.ensures.1 in
    record { outcome = λ p. rw (r.1, r.2) (old_refused_lem p c.args.old.now c.args.new.now c.accept.ensures c.in_err-first.was) }

pub returns-in_err-second : goal.returns-in_err-second
returns-in_err-second c =
    let r = err_from_is_err_and c.from_residual-in_err-second.result c.from_residual-in_err-second.ensures.1 in
    record {
      outcome = λ p. rw (r.1, r.2)
          (new_refused_lem p c.args.old.now c.args.new.now c.accept.ensures c.in_ok-first.was c.accept-2.ensures c.in_err-second.was);
    }

pub returns : goal.returns
returns c = record {
  outcome = λ p. both_outcome p c.args.old.now c.args.new.now c.accept.ensures c.in_ok-first.was c.accept-2.ensures c.in_ok-second.was;
}
