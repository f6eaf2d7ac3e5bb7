use Rattle.parts.specs.declared.Shape.{Shape}
use Rattle.reached.proofs.Walks.{items_go, field_marked}
use Rattle.reached.proofs.fields.mark_fields.Goals as goal

pub loop-item-preserved : goal.loop-item-preserved
loop-item-preserved c = (
  tt,
  tt,
  items_go Shape.Field _ c.requires.1 c.loop-item.invariant.2 c.in-Some.ensures.steps
      (field_marked c.in-Some.item c.ty.result c.ty.ensures.image c.ty.ensures.tree c.mark_type.ensures),
)
