-- The report's length is the verdict's.
use Rattle.std.proofs.Common.{ap, ◌∙◌}
use Rattle.verdicts.specs.declared.Values.{Values}
use Rattle.verdicts.proofs.Selectors.{outcome_length}
use Rattle.vexil_compat.proofs.report_by.Goals as goal

pub returns : goal.returns
returns c = (ap (λ (v : Values). v.length) (c.of-v.ensures ∙ c.report.ensures.verdict) ∙ outcome_length _, c.report.ensures.bytes)
