-- A name takes the place of the best so far, as the two tests say. Assumes nothing.
use Rattle.std.proofs.Common.{◌∙◌, sym}
use Rattle.survivors.proofs.Laws.Nearest.{name_first, name_past, name_before}
use Rattle.survivors.proofs.nearest.is_nearer.Goals as goal

pub returns-in_default : goal.returns-in_default
returns-in_default c = c.is_past.ensures ∙ sym (name_first _ _ c.in_default.is)

pub returns-then-is_before : goal.returns-then-is_before
returns-then-is_before c = sym (name_before _ _ c.in-Some.is (sym c.is_before.ensures ∙ c.if-is_before.true))

pub returns : goal.returns
returns c = c.is_past-2.ensures ∙ sym (name_past _ _ c.in-Some.is (sym c.is_before.ensures ∙ c.if-is_before.false))
