-- The values are those of one verdict.
use Rattle.std.proofs.Common.{◌∙◌}
use Rattle.vexil_compat.proofs.Values.{verdict_valued}
use Rattle.vexil_compat.proofs.values_by.Goals as goal

pub returns : goal.returns
returns c = verdict_valued _ _ _ (c.of-v.ensures ∙ c.verdict.ensures) c.args.values.now c.put_values.ensures
