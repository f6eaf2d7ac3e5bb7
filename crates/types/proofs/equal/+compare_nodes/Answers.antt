-- `types::equal::compare_nodes` meets its contract. h is what is known of the two nodes. Assumes nothing.
use Rattle.std.proofs.Common.{arith}
use Rattle.parts.proofs.Promise.{type_some}
use Rattle.types.proofs.Laws.Trees.{labels_differ, heads, leaves, first_lost, second_places, ones, second_lost, twos, placed}
use Rattle.types.proofs.equal.+compare_nodes.Goals as goal

pub returns-then-not-labels_equal : goal.returns-then-not-labels_equal
returns-then-not-labels_equal t c = labels_differ _ _ _ _ c.labels_equal.ensures c.if-not-labels_equal.true c.args.a.here c.args.b.here

pub returns-then-inner-eq0 : goal.returns-then-inner-eq0
returns-then-inner-eq0 t c =
    let h = heads c.labels_equal.ensures c.if-not-labels_equal.false c.tag-tag.ensures c.inner_types-inner.ensures c.of_tag-node.ensures
    c.label_end-p.ensures c.label_end-q.ensures c.args.a.here c.args.b.here in
    leaves h c.if-inner-eq0.true

-- the first inner types

pub inner_at-requires : goal.inner_at-requires
inner_at-requires t c =
    let h = heads c.labels_equal.ensures c.if-not-labels_equal.false c.tag-tag.ensures c.inner_types-inner.ensures c.of_tag-node.ensures
    c.label_end-p.ensures c.label_end-q.ensures c.args.a.here c.args.b.here in
    (type_some _ _ _ c.args.a.here, rw h.old_end (h.old.first c.if-inner-eq0.false))

pub inner_at-requires-2 : goal.inner_at-requires-2
inner_at-requires-2 t c =
    let h = heads c.labels_equal.ensures c.if-not-labels_equal.false c.tag-tag.ensures c.inner_types-inner.ensures c.of_tag-node.ensures
    c.label_end-p.ensures c.label_end-q.ensures c.args.a.here c.args.b.here in
    (type_some _ _ _ c.args.b.here, rw h.new_end (h.new.first c.if-inner-eq0.false))

pub compare_nodes-requires : goal.compare_nodes-requires
compare_nodes-requires t c = (omega (arith, c.decreases, c.inner_at.ensures.left, type_some _ _ _ c.args.a.here), tt)

pub returns-in_err-head : goal.returns-in_err-head
returns-in_err-head t c =
    let h = heads c.labels_equal.ensures c.if-not-labels_equal.false c.tag-tag.ensures c.inner_types-inner.ensures c.of_tag-node.ensures
    c.label_end-p.ensures c.label_end-q.ensures c.args.a.here c.args.b.here in
    rw c.from_residual.ensures (first_lost h (placed c.inner_at.ensures c.inner_at-2.ensures c.compare_nodes.ensures) c.in_err-head.was c.if-inner-eq0.false)

pub returns-then-inner-eq1 : goal.returns-then-inner-eq1
returns-then-inner-eq1 t c =
    let h = heads c.labels_equal.ensures c.if-not-labels_equal.false c.tag-tag.ensures c.inner_types-inner.ensures c.of_tag-node.ensures
    c.label_end-p.ensures c.label_end-q.ensures c.args.a.here c.args.b.here in
    ones h (placed c.inner_at.ensures c.inner_at-2.ensures c.compare_nodes.ensures) c.in_ok-head.was c.after-first.ensures c.if-inner-eq1.true

-- the second ones

pub inner_at-requires-3 : goal.inner_at-requires-3
inner_at-requires-3 t c =
    let h = heads c.labels_equal.ensures c.if-not-labels_equal.false c.tag-tag.ensures c.inner_types-inner.ensures c.of_tag-node.ensures
    c.label_end-p.ensures c.label_end-q.ensures c.args.a.here c.args.b.here in
    (type_some _ _ _ c.args.a.here, rw (second_places h (placed c.inner_at.ensures c.inner_at-2.ensures c.compare_nodes.ensures) c.in_ok-head.was c.after-first.ensures).0 (h.old.second c.if-inner-eq0.false c.if-inner-eq1.false))

pub inner_at-requires-4 : goal.inner_at-requires-4
inner_at-requires-4 t c =
    let h = heads c.labels_equal.ensures c.if-not-labels_equal.false c.tag-tag.ensures c.inner_types-inner.ensures c.of_tag-node.ensures
    c.label_end-p.ensures c.label_end-q.ensures c.args.a.here c.args.b.here in
    (type_some _ _ _ c.args.b.here, rw (second_places h (placed c.inner_at.ensures c.inner_at-2.ensures c.compare_nodes.ensures) c.in_ok-head.was c.after-first.ensures).1 (h.new.second c.if-inner-eq0.false c.if-inner-eq1.false))

pub compare_nodes-requires-2 : goal.compare_nodes-requires-2
compare_nodes-requires-2 t c = (omega (arith, c.decreases, c.inner_at-3.ensures.left, type_some _ _ _ c.args.a.here), tt)

pub returns-in_err-rest : goal.returns-in_err-rest
returns-in_err-rest t c =
    let h = heads c.labels_equal.ensures c.if-not-labels_equal.false c.tag-tag.ensures c.inner_types-inner.ensures c.of_tag-node.ensures
    c.label_end-p.ensures c.label_end-q.ensures c.args.a.here c.args.b.here in
    rw c.from_residual-in_err-rest.ensures
    (second_lost h (placed c.inner_at.ensures c.inner_at-2.ensures c.compare_nodes.ensures) c.in_ok-head.was c.after-first.ensures c.if-inner-eq0.false c.if-inner-eq1.false
    (placed c.inner_at-3.ensures c.inner_at-4.ensures c.compare_nodes-2.ensures) c.in_err-rest.was)

pub returns : goal.returns
returns t c =
    let h = heads c.labels_equal.ensures c.if-not-labels_equal.false c.tag-tag.ensures c.inner_types-inner.ensures c.of_tag-node.ensures
    c.label_end-p.ensures c.label_end-q.ensures c.args.a.here c.args.b.here in
    twos h (placed c.inner_at.ensures c.inner_at-2.ensures c.compare_nodes.ensures) c.in_ok-head.was c.after-first.ensures c.if-inner-eq0.false c.if-inner-eq1.false
    (placed c.inner_at-3.ensures c.inner_at-4.ensures c.compare_nodes-2.ensures) c.in_ok-rest.was c.after.ensures
