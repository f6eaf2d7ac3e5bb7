use Rattle.std.proofs.Common.{arith}
use Rattle.parts.proofs.Laws.Bodies.{entry_pair}
use Rattle.parts.proofs.handles.Image.body.Goals as goal

pub entry_offset-requires : goal.entry_offset-requires
entry_offset-requires c = let t = entry_pair _ c.args.self.accepted _ c.requires in rw c.head-head.ensures (omega arith)

pub entry_length-requires : goal.entry_length-requires
entry_length-requires c = let t = entry_pair _ c.args.self.accepted _ c.requires in rw c.head-head.ensures (omega arith)
