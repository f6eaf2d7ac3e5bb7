use Rattle.std.proofs.Common.{◌∙◌}
use Rattle.image.specs.Fields.{bare_at}
use Rattle.image.specs.Reads.{skip}
use Rattle.image.proofs.Laws.Sure.{read_inside, bare_sure}
use Rattle.image.proofs.Laws.Repeats.{skip_counted}
use Rattle.image.proofs.fields.read_bares.Goals as goal

pub read_items-requires-clause-narrow_inside : goal.read_items-requires-clause-narrow_inside
read_items-requires-clause-narrow_inside c = λ s at r e. read_inside _ _ r (bare_sure _ _) e

pub read_items-requires-clause-wide_inside : goal.read_items-requires-clause-wide_inside
read_items-requires-clause-wide_inside c = λ s at r e. read_inside _ _ r (bare_sure _ _) e

pub returns : goal.returns
returns c =
    c.read_items.ensures (λ s at. skip (bare_at s at)) ((λ s at r e. e), λ s at r e. e) ∙ skip_counted bare_at _ _
