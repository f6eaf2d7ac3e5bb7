-- One more item takes the place of the best so far, as the two ordinals say. Assumes nothing.
use Rattle.survivors.proofs.Laws.Passed.{item_first, item_past, item_before}
use Rattle.std.proofs.Common.{◌∙◌, sym}
use Rattle.std.proofs.lemmas.Bool.{lt-leb}
use Rattle.survivors.proofs.items.is_nearer.Goals as goal

pub returns-in_default : goal.returns-in_default
returns-in_default c = c.is_past.ensures ∙ sym (item_first _ _ c.in_default.is)

pub returns-then-ordinal-least : goal.returns-then-ordinal-least
returns-then-ordinal-least c = c.is_past-then-ordinal-least.ensures ∙ sym (item_past _ _ c.in-Some.is c.if-ordinal-least.true)

pub returns-else-ordinal-least : goal.returns-else-ordinal-least
returns-else-ordinal-least c = lt-leb _ _ c.if-ordinal-least.false ∙ sym (item_before _ _ c.in-Some.is c.if-ordinal-least.false)
