use Rattle.std.proofs.Common.{arith}
use Rattle.parts.proofs.Laws.Contents.{id_is}
use Rattle.parts.proofs.handles.Image.id_at.Goals as goal

pub overflow_mul-k : goal.overflow_mul-k
overflow_mul-k c = let t = (id_is _ c.args.self.accepted _ c.requires).1 in omega arith

pub overflow_add-ids-2 : goal.overflow_add-ids-2
overflow_add-ids-2 c = let t = (id_is _ c.args.self.accepted _ c.requires).1 in omega arith

pub u32_at-requires : goal.u32_at-requires
u32_at-requires c =
    let t = (id_is _ c.args.self.accepted _ c.requires).1 in
    let n = rw c.head.ensures at c.entry_count.ensures.0 in
    omega arith
