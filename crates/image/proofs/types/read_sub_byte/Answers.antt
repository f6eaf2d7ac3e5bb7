use Rattle.std.proofs.Common.{sym, ◌∙◌}
use Rattle.image.specs.Types.{after_tag}
use Rattle.image.proofs.Laws.Answers.{got, next, stop, skip_ok}
use Rattle.image.proofs.types.read_sub_byte.Goals as goal

pub returns-in_default : goal.returns-in_default
unfolding after_tag
returns-in_default c = stop _ _ c.in_default.is c.read_code-step.ensures

pub returns : goal.returns
unfolding after_tag
returns c = next _ (got c.in-Ok.is c.read_code-step.ensures) (λ _. c.read_code.ensures ∙ sym (skip_ok _ _))
