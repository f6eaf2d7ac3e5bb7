use Rattle.members.proofs.Closing.{shape_holds, shape_closed}
use Rattle.members.proofs.bodies.body_of.Goals as goal

pub items_of-requires : goal.items_of-requires
items_of-requires c = shape_holds c.args.decl c.kind.ensures c.in_ok-shape.ensures.0 c.in_ok-shape.ensures.1

pub invariant_of-result : goal.invariant_of-result
invariant_of-result c =
    record { closed = shape_closed c.args.decl c.kind.ensures c.in_ok-shape.ensures.0 c.in_ok-shape.ensures.1 c.items_of.ensures }
