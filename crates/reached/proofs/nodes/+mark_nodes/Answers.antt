use Rattle.std.proofs.Common.{sym, arith}
use Rattle.parts.proofs.Promise.{type_some}
use Rattle.types.proofs.Laws.Trees.{node}
use Rattle.reached.proofs.Marking.{ready_after, ready_in, marked_at, leaf_marked, second_at, one_marked, two_marked}
use Rattle.reached.proofs.nodes.+mark_nodes.Goals as goal

pub returns-then-inner-eq0 : goal.returns-then-inner-eq0
returns-then-inner-eq0 t c =
    let n = node c.inner_types-inner.ensures c.args.t.here (sym c.tag.ensures) in
    leaf_marked _ _ c.mark_label.ensures c.label_end-first.ensures (n.none c.if-inner-eq0.true)

pub inner_at-requires : goal.inner_at-requires
inner_at-requires t c =
    let n = node c.inner_types-inner.ensures c.args.t.here (sym c.tag.ensures) in
    (type_some _ _ _ c.args.t.here, rw c.label_end-first.ensures (n.first c.if-inner-eq0.false))

pub mark_nodes-second-requires : goal.mark_nodes-second-requires
mark_nodes-second-requires t c = (
  omega (arith, c.decreases, c.inner_at.ensures.left, type_some _ _ _ c.args.t.here),
  ready_in c.inner_at.ensures.image (ready_after c.mark_label.ensures c.requires),
)

pub returns-then-inner-eq1 : goal.returns-then-inner-eq1
returns-then-inner-eq1 t c =
    let n = node c.inner_types-inner.ensures c.args.t.here (sym c.tag.ensures) in
    one_marked _ _ c.mark_label.ensures c.label_end-first.ensures (marked_at c.inner_at.ensures c.mark_nodes-second.ensures) (n.single c.if-inner-eq1.true)

pub inner_at-requires-2 : goal.inner_at-requires-2
inner_at-requires-2 t c =
    let n = node c.inner_types-inner.ensures c.args.t.here (sym c.tag.ensures) in (
      type_some _ _ _ c.args.t.here,
      rw (second_at _ _ c.mark_label.ensures c.label_end-first.ensures (marked_at c.inner_at.ensures c.mark_nodes-second.ensures))
          (n.second c.if-inner-eq0.false c.if-inner-eq1.false),
    )

pub mark_nodes-requires : goal.mark_nodes-requires
mark_nodes-requires t c = (
  omega (arith, c.decreases, c.inner_at-2.ensures.left, type_some _ _ _ c.args.t.here),
  ready_in c.inner_at-2.ensures.image
      (ready_after (marked_at c.inner_at.ensures c.mark_nodes-second.ensures).marks (ready_after c.mark_label.ensures c.requires)),
)

pub returns : goal.returns
returns t c =
    let n = node c.inner_types-inner.ensures c.args.t.here (sym c.tag.ensures) in
    two_marked _ _ c.mark_label.ensures c.label_end-first.ensures (marked_at c.inner_at.ensures c.mark_nodes-second.ensures)
    (n.pair c.if-inner-eq0.false c.if-inner-eq1.false) (marked_at c.inner_at-2.ensures c.mark_nodes.ensures)
