use Rattle.std.proofs.Common.{arith, sym, ◌∙◌}
use Rattle.parts.proofs.Laws.Contents.{pair_there, body_entry}
use Rattle.parts.proofs.handles.Image.place.Goals as goal

pub entry_length-requires : goal.entry_length-requires
entry_length-requires c =
    let n = rw c.head-head.ensures at c.entry_count.ensures.0 in
    rw c.head-head.ensures (pair_there _ c.args.self.accepted _ (omega arith))

pub entry_offset-requires : goal.entry_offset-requires
entry_offset-requires c =
    let n = rw c.head-head.ensures at c.entry_count.ensures.0 in
    rw c.head-head.ensures (pair_there _ c.args.self.accepted _ (omega arith))

pub returns : goal.returns
returns c =
    let n = rw c.head-head.ensures at c.entry_count.ensures.0 in
    let l = rw c.head-head.ensures at c.entry_length.ensures.0 in
    let o = rw c.head-head.ensures at c.entry_offset.ensures.0 in
    let b = body_entry _ c.args.self.accepted _ (omega arith) (λ e. c.if-entry_length-eq0.false (l ∙ e)) in
    rw o (record { value = sym b.1; here = b.0 })
