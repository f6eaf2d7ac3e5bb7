use Rattle.lines.specs.Readings.{reading_of}
use Rattle.compat.specs.Policies.{policy_of}
use Rattle.vexil_compat.proofs.vexil_compat_mended_values.Goals as goal

pub returns : goal.returns
unfolding policy_of reading_of
returns c = c.values_by.ensures
