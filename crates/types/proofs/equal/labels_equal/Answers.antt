use mathlib.Core.Path.{sym, ◌∙◌}
use mathlib.Core.Logic.{⊎_elim}
use denote.Enum.Bare.{differs_true, differs_false}
use Rattle.image.specs.contracts.tags.Tag.{the_type}
use Rattle.parts.proofs.Promise.{type_label}
use Rattle.types.proofs.Laws.Labels.{tags_differ, by_primitive, by_semantic, by_name, by_numbers, by_names, by_size, by_tag}
use Rattle.types.proofs.equal.labels_equal.Goals as goal

pub returns-then-ne : goal.returns-then-ne
returns-then-ne c = tags_differ _ _ _ _ _ _ c.tag-tag.ensures c.tag.ensures (differs_true the_type _ _ (sym c.ne.ensures ∙ c.if-ne.true))

pub returns-in_default : goal.returns-in_default
returns-in_default c =
    let d = c.in_default in
    let e = differs_false the_type tt _ _ (sym c.ne.ensures ∙ c.if-ne.false) in
    by_tag _ _ _ _ _ _ c.tag-tag.ensures c.tag.ensures e (type_label _ _ _ c.args.a.here) (type_label _ _ _ c.args.b.here)
    d.not-Primitive d.not-SubByte d.not-Semantic d.not-Named d.not-FixedArray d.not-Bits

-- ---- of one tag

pub returns-in-Named : goal.returns-in-Named
returns-in-Named c =
    by_name _ _ _ _ _ _ c.tag-tag.ensures c.tag.ensures (differs_false the_type tt _ _ (sym c.ne.ensures ∙ c.if-ne.false)) c.in-Named.is
    c.id.ensures c.id-in-Named.ensures c.named_equal.ensures

pub returns-in-SubByte : goal.returns-in-SubByte
returns-in-SubByte c =
    by_numbers _ _ _ _ _ _ c.tag-tag.ensures c.tag.ensures (differs_false the_type tt _ _ (sym c.ne.ensures ∙ c.if-ne.false))
    (type_label _ _ _ c.args.a.here) (type_label _ _ _ c.args.b.here) c.in-SubByte.is c.sub_bytes_equal.ensures

pub returns-in-Bits : goal.returns-in-Bits
returns-in-Bits c =
    by_names _ _ _ _ _ _ c.tag-tag.ensures c.tag.ensures (differs_false the_type tt _ _ (sym c.ne.ensures ∙ c.if-ne.false))
    (type_label _ _ _ c.args.a.here) (type_label _ _ _ c.args.b.here) c.in-Bits.is c.names.ensures c.names-in-Bits.ensures c.same_names.ensures

pub returns-in-FixedArray : goal.returns-in-FixedArray
returns-in-FixedArray c =
    by_size _ _ _ _ _ _ c.tag-tag.ensures c.tag.ensures (differs_false the_type tt _ _ (sym c.ne.ensures ∙ c.if-ne.false))
    (type_label _ _ _ c.args.a.here) (type_label _ _ _ c.args.b.here) c.in-FixedArray.is c.size.ensures c.size-in-FixedArray.ensures

pub returns-in-Primitive : goal.returns-in-Primitive
returns-in-Primitive c =
    let e = differs_false the_type tt _ _ (sym c.ne.ensures ∙ c.if-ne.false) in
    let g = type_label _ _ _ c.args.a.here in
    let h = type_label _ _ _ c.args.b.here in
    ⊎_elim (λ k. by_primitive _ _ _ _ _ _ c.tag-tag.ensures c.tag.ensures e g h k c.code.ensures c.code-in-Primitive.ensures)
    (λ k. by_semantic _ _ _ _ _ _ c.tag-tag.ensures c.tag.ensures e g h k c.code.ensures c.code-in-Primitive.ensures) c.in-Primitive.is
