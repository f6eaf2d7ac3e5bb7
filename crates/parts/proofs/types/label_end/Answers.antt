use Rattle.std.proofs.Common.{arith, sym}
use Rattle.parts.proofs.Laws.Labels.{end_other}
use Rattle.parts.proofs.types.label_end.Goals as goal

pub overflow_add-result-in_default : goal.overflow_add-result-in_default
overflow_add-result-in_default c =
    let d = c.in_default in
    let h = (end_other _ _ c.requires _ c.type_tag.ensures d.not-Primitive d.not-SubByte d.not-Semantic d.not-Named d.not-FixedArray d.not-Bits).1 in
    omega arith

pub returns-in_default : goal.returns-in_default
returns-in_default c =
    let d = c.in_default in
    sym (end_other _ _ c.requires _ c.type_tag.ensures d.not-Primitive d.not-SubByte d.not-Semantic d.not-Named d.not-FixedArray d.not-Bits).0
