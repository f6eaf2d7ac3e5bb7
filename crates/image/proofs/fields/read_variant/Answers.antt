use Rattle.std.proofs.Common.{◌∙◌}
use Rattle.image.specs.Fields.{field_at}
use Rattle.image.specs.Reads.{skip}
use Rattle.image.proofs.Laws.Answers.{got}
use Rattle.image.proofs.Laws.Sure.{sure_got, read_inside, bare_sure, field_sure, counted_sure}
use Rattle.image.proofs.Laws.Repeats.{skip_counted}
use Rattle.image.proofs.Laws.Fields.{variant_stop, variant_fields, variant_tombstones}
use Rattle.image.proofs.fields.read_variant.Goals as goal

pub returns-in_default : goal.returns-in_default
returns-in_default g c = variant_stop _ _ _ c.in_default.is c.read_bare-bare.ensures

pub hold-fields_at-requires : goal.hold-fields_at-requires
hold-fields_at-requires g c = c.requires _ (sure_got (bare_sure _ _) (got c.in-Ok.is c.read_bare-bare.ensures))

pub read_counted-fields-requires-clause-inside : goal.read_counted-fields-requires-clause-inside
read_counted-fields-requires-clause-inside g c = λ s at r e. read_inside _ _ r (field_sure _ _) e

pub returns-in_default-fields : goal.returns-in_default-fields
returns-in_default-fields g c =
    variant_fields _ _ _ (got c.in-Ok.is c.read_bare-bare.ensures) c.in_default-fields.is
    (rw c.hold-fields_at.ensures at (c.read_counted-fields.ensures (λ s at. skip (field_at s at)) (λ s at r e. e)) ∙ skip_counted field_at _ _)

pub hold-tombstones_at-requires : goal.hold-tombstones_at-requires
hold-tombstones_at-requires g c =
    c.requires _ (sure_got (counted_sure field_at _ (field_sure _) _) (got c.in-Ok-fields.is (c.read_counted-fields.ensures (λ s at. skip (field_at s at)) (λ s at r e. e) ∙ skip_counted field_at _ _)))

pub returns : goal.returns
returns g c =
    variant_tombstones _ _ _ (got c.in-Ok.is c.read_bare-bare.ensures)
    (got c.in-Ok-fields.is (rw c.hold-fields_at.ensures at (c.read_counted-fields.ensures (λ s at. skip (field_at s at)) (λ s at r e. e)) ∙ skip_counted field_at _ _))
    (rw c.hold-tombstones_at.ensures at c.read_struck.ensures)
