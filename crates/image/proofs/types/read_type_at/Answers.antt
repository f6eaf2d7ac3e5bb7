use Rattle.std.proofs.Common.{arith}
use Rattle.image.specs.Types.{type_of, type_at}
use Rattle.image.proofs.Laws.Answers.{within_at, within_no}
use Rattle.image.proofs.Laws.Types.{from_start, inner_within}
use Rattle.image.proofs.types.read_type_at.Goals as goal

pub returns-in_default : goal.returns-in_default
unfolding type_at
returns-in_default c =
    within_no (type_of 32) _ _ c.in_default.is (from_start (type_of 32) c.args.s.now c.args.at c.read_type-step.ensures)

pub overflow_add-result : goal.overflow_add-result
overflow_add-result c =
    let h = inner_within 32 _ _ c.requires c.in-Ok.is (from_start (type_of 32) c.args.s.now c.args.at c.read_type-step.ensures) in
    omega arith

pub returns : goal.returns
unfolding type_at
returns c = within_at (type_of 32) _ _ c.in-Ok.is (from_start (type_of 32) c.args.s.now c.args.at c.read_type-step.ensures)
