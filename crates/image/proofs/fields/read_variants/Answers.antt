use Rattle.std.proofs.Common.{◌∙◌}
use Rattle.image.specs.Fields.{variant_at}
use Rattle.image.specs.Reads.{skip}
use Rattle.image.proofs.Laws.Sure.{read_inside, variant_sure}
use Rattle.image.proofs.Laws.Repeats.{skip_counted}
use Rattle.image.proofs.fields.read_variants.Goals as goal

pub read_items-requires-clause-narrow_inside : goal.read_items-requires-clause-narrow_inside
read_items-requires-clause-narrow_inside c = λ s at r e. read_inside _ _ r (variant_sure _ _ _) e

pub read_items-requires-clause-wide_inside : goal.read_items-requires-clause-wide_inside
read_items-requires-clause-wide_inside c = λ s at r e. read_inside _ _ r (variant_sure _ _ _) e

pub returns : goal.returns
returns c =
    c.read_items.ensures (λ s at. skip (variant_at _ s at)) ((λ s at r e. e), λ s at r e. e) ∙ skip_counted (variant_at _) _ _
