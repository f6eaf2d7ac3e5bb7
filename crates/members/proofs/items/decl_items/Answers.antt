use Rattle.std.proofs.Common.{arith, sym, ◌∙◌}
use Rattle.parts.proofs.Laws.Counted.{items_after, items_after_width}
use Rattle.members.proofs.items.decl_items.Goals as goal

pub overflow_add-place : goal.overflow_add-place
overflow_add-place c =
    let t = (items_after_width _ _ c.requires.0 c.requires.1 c.width_place-place.ensures (sym c.stores_width.ensures ∙ c.if-stores_width.true)).0 in
    omega arith

pub items_at-requires : goal.items_at-requires
items_at-requires c = (items_after_width _ _ c.requires.0 c.requires.1 c.width_place-place.ensures (sym c.stores_width.ensures ∙ c.if-stores_width.true)).0

pub items_at-requires-2 : goal.items_at-requires-2
items_at-requires-2 c = (items_after _ _ c.requires.0 c.requires.1 c.width_place-place.ensures (sym c.stores_width.ensures ∙ c.if-stores_width.false)).0
