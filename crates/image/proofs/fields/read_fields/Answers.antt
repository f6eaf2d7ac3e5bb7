use Rattle.std.proofs.Common.{◌∙◌}
use Rattle.image.specs.Fields.{field_at}
use Rattle.image.specs.Reads.{skip}
use Rattle.image.proofs.Laws.Sure.{read_inside, field_sure}
use Rattle.image.proofs.Laws.Repeats.{skip_counted}
use Rattle.image.proofs.fields.read_fields.Goals as goal

pub read_items-requires-clause-narrow_inside : goal.read_items-requires-clause-narrow_inside
read_items-requires-clause-narrow_inside c = λ s at r e. read_inside _ _ r (field_sure _ _) e

pub read_items-requires-clause-wide_inside : goal.read_items-requires-clause-wide_inside
read_items-requires-clause-wide_inside c = λ s at r e. read_inside _ _ r (field_sure _ _) e

pub returns : goal.returns
returns c =
    c.read_items.ensures (λ s at. skip (field_at s at)) ((λ s at r e. e), λ s at r e. e) ∙ skip_counted field_at _ _
