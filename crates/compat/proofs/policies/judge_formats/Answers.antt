-- `compat::policies::judge_formats` meets its contract, by whether 16 is tested. Assumes nothing.
use Rattle.std.proofs.Common.{◌∙◌}
use Rattle.std.proofs.lemmas.Bool.{not-true, not-false}
use Rattle.compat.specs.Policies.{fault_of}
use Rattle.compat.proofs.Kept.{formats_told, formats_untold}
use Rattle.compat.proofs.policies.judge_formats.Goals as goal

pub returns-then-not-policy : goal.returns-then-not-policy
unfolding fault_of
returns-then-not-policy c = formats_untold c.args.policy _ _ (not-true _ c.if-not-policy.true)

pub returns : goal.returns
returns c = rw c.is_mixed.ensures at c.refused_if.ensures ∙ formats_told c.args.policy _ _ (not-false _ c.if-not-policy.false)
