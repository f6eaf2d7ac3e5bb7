use Rattle.parts.specs.declared.Shape.{Shape}
use Rattle.reached.proofs.Walks.{item_shape, items_go, variant_marked}
use Rattle.reached.proofs.fields.mark_variants.Goals as goal

pub loop-item-preserved : goal.loop-item-preserved
loop-item-preserved c =
    let n = c.in-Some.ensures.steps in (
      tt,
      tt,
      items_go Shape.Variant _ c.requires.1 c.loop-item.invariant.2 n
          (variant_marked c.in-Some.item (item_shape Shape.Variant _ c.requires.1 c.loop-item.invariant.2 n) c.fields.ensures c.mark_fields.ensures),
    )
