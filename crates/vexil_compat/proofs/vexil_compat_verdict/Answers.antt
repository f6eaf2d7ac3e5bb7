use Rattle.std.proofs.Common.{◌∙◌}
use Rattle.lines.specs.Readings.{reading_of}
use Rattle.compat.specs.Policies.{policy_of}
use Rattle.vexil_compat.proofs.Values.{verdict_selected}
use Rattle.vexil_compat.proofs.vexil_compat_verdict.Goals as goal

pub returns : goal.returns
unfolding policy_of reading_of
returns c = c.select.ensures ∙ verdict_selected _ _ _ (c.of.ensures ∙ c.verdict.ensures) c.args.selector
