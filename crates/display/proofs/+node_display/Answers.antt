-- By how many inner types there are.
use Rattle.std.proofs.Common.{sym, ap, ◌∙◌, arith}
use Rattle.image.specs.Words.{bytes}
use Rattle.parts.specs.Promise.{type_end}
use Rattle.parts.proofs.Promise.{type_some}
use Rattle.text.proofs.Writers.{adds_more, adds_as}
use Rattle.types.proofs.Laws.Trees.{node}
use Rattle.display.proofs.Laws.Texts.{text_leaf, text_one, text_two, shown_at, ended_at}
use Rattle.display.proofs.+node_display.Goals as goal

-- ---- without inner types

pub returns-then-inner-eq0 : goal.returns-then-inner-eq0
returns-then-inner-eq0 t c =
    let n = node c.inner_types-inner.ensures c.args.t.here (sym c.tag-tag.ensures) in
    let e = n.none c.if-inner-eq0.true in
    record { text = adds_as (text_leaf _ _ 0 e) c.leaf_display.ensures; end = c.label_end-first.ensures ∙ sym e.end }

-- ---- with inner types

pub inner_at-requires : goal.inner_at-requires
inner_at-requires t c =
    let n = node c.inner_types-inner.ensures c.args.t.here (sym c.tag-tag.ensures) in
    (type_some _ _ _ c.args.t.here, rw c.label_end-first.ensures (n.first c.if-inner-eq0.false))

pub node_display-next-requires : goal.node_display-next-requires
node_display-next-requires t c = (omega (arith, c.decreases, c.inner_at.ensures.left, type_some _ _ _ c.args.t.here), tt)

-- ---- one inner type

pub returns-then-inner-eq1 : goal.returns-then-inner-eq1
unfolding bytes
returns-then-inner-eq1 t c =
    let n = node c.inner_types-inner.ensures c.args.t.here (sym c.tag-tag.ensures) in
    record {
      text =
          adds_as
          (text_one _ _ _ n c.tag-tag.ensures c.label_end-first.ensures c.if-inner-eq1.true)
          (adds_more c.put_opening.ensures (adds_more (shown_at c.inner_at.ensures c.node_display-next.ensures.text) (adds_more c.size_display.ensures c.byte.ensures)));
      end = ended_at c.inner_at.ensures c.node_display-next.ensures.end ∙ ap (type_end _) c.label_end-first.ensures ∙ sym (n.single c.if-inner-eq1.true).end;
    }

-- ---- two inner types

pub inner_at-requires-2 : goal.inner_at-requires-2
inner_at-requires-2 t c =
    let n = node c.inner_types-inner.ensures c.args.t.here (sym c.tag-tag.ensures) in
    let next = ended_at c.inner_at.ensures c.node_display-next.ensures.end ∙ ap (type_end _) c.label_end-first.ensures in
    (type_some _ _ _ c.args.t.here, rw next (n.second c.if-inner-eq0.false c.if-inner-eq1.false))

pub node_display-end-requires : goal.node_display-end-requires
node_display-end-requires t c = (omega (arith, c.decreases, c.inner_at-2.ensures.left, type_some _ _ _ c.args.t.here), tt)

pub returns : goal.returns
unfolding bytes
returns t c =
    let n = node c.inner_types-inner.ensures c.args.t.here (sym c.tag-tag.ensures) in
    let next = ended_at c.inner_at.ensures c.node_display-next.ensures.end in
    record {
      text =
          adds_as
          (text_two _ _ _ n c.tag-tag.ensures c.label_end-first.ensures c.if-inner-eq0.false c.if-inner-eq1.false next)
          (adds_more c.put_opening.ensures (adds_more (shown_at c.inner_at.ensures c.node_display-next.ensures.text) (adds_more c.text.ensures (adds_more (shown_at c.inner_at-2.ensures c.node_display-end.ensures.text) c.byte-2.ensures))));
      end = ended_at c.inner_at-2.ensures c.node_display-end.ensures.end ∙ ap (type_end _) (next ∙ ap (type_end _) c.label_end-first.ensures) ∙ sym (n.pair c.if-inner-eq0.false c.if-inner-eq1.false).end;
    }
