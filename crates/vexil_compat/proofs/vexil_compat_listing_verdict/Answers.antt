use Rattle.std.proofs.Common.{ap, ◌∙◌}
use Rattle.listing.specs.Listing.{listing_verdict}
use Rattle.verdicts.specs.Verdicts.{select_in}
use Rattle.verdicts.specs.declared.Values.{Values}
use Rattle.verdicts.proofs.Selectors.{outcome_selected}
use Rattle.vexil_compat.proofs.vexil_compat_listing_verdict.Goals as goal

pub returns : goal.returns
unfolding listing_verdict
returns c = c.select.ensures ∙ ap (λ (v : Values). select_in v c.args.selector) (c.of.ensures ∙ c.checked.ensures) ∙ outcome_selected _ c.args.selector
