-- In each arm the tag is known, and so is what follows it.
use Rattle.std.proofs.Common.{refl, sym, ◌∙◌}
use Rattle.std.proofs.lemmas.Result.{err_from_is_err_and}
use Rattle.image.specs.Types.{label_of, after_tag, follows_tag}
use Rattle.image.specs.Reads.{read_of, skip}
use Rattle.image.proofs.Laws.Answers.{stop, skip_ok}
use Rattle.image.proofs.Laws.Numbers.{byte_there}
use Rattle.image.proofs.Laws.Types.{label_by, tag_is, tag_nothing, tag_unknown}
use Rattle.image.proofs.types.read_label.Goals as goal

pub returns-in_default : goal.returns-in_default
unfolding label_of
returns-in_default c = stop _ _ c.in_default.is c.read_byte-step.ensures

pub bounds-s-0 : goal.bounds-s-0
bounds-s-0 c = (byte_there 8 _ _ c.in-Ok.is c.read_byte-step.ensures).inside

pub returns-in_err-try_from : goal.returns-in_err-try_from
returns-in_err-try_from c =
    let p = err_from_is_err_and c.from_residual.result c.from_residual.ensures.1 in
    let e = c.in_err-try_from.ensures in
    rw (p.1, p.2, e.0) (tag_unknown _ (byte_there 8 _ _ c.in-Ok.is c.read_byte-step.ensures) e.1)

pub returns-in-Primitive : goal.returns-in-Primitive
unfolding follows_tag after_tag
returns-in-Primitive c =
    label_by _ 0 _ (byte_there 8 _ _ c.in-Ok.is c.read_byte-step.ensures) (tag_is c.in_ok-try_from.ensures c.in-Primitive.is) refl
    (c.read_code.ensures ∙ sym (skip_ok _ _))

pub returns-in-SubByte : goal.returns-in-SubByte
unfolding follows_tag
returns-in-SubByte c =
    label_by _ 1 _ (byte_there 8 _ _ c.in-Ok.is c.read_byte-step.ensures) (tag_is c.in_ok-try_from.ensures c.in-SubByte.is) refl
    c.read_sub_byte.ensures

pub returns-in-Semantic : goal.returns-in-Semantic
unfolding follows_tag after_tag
returns-in-Semantic c =
    label_by _ 2 _ (byte_there 8 _ _ c.in-Ok.is c.read_byte-step.ensures) (tag_is c.in_ok-try_from.ensures c.in-Semantic.is) refl
    (c.read_code-in-Semantic.ensures ∙ sym (skip_ok _ _))

pub returns-in-Named : goal.returns-in-Named
unfolding follows_tag after_tag
returns-in-Named c =
    label_by _ 3 _ (byte_there 8 _ _ c.in-Ok.is c.read_byte-step.ensures) (tag_is c.in_ok-try_from.ensures c.in-Named.is) refl
    (c.read_number.ensures ∙ sym (skip_ok _ _))

pub returns-in-FixedArray : goal.returns-in-FixedArray
unfolding follows_tag after_tag
returns-in-FixedArray c =
    label_by _ 6 _ (byte_there 8 _ _ c.in-Ok.is c.read_byte-step.ensures) (tag_is c.in_ok-try_from.ensures c.in-FixedArray.is) refl
    (c.read_number-in-FixedArray.ensures ∙ sym (skip_ok _ _))

pub returns-in-Bits : goal.returns-in-Bits
unfolding follows_tag
returns-in-Bits c =
    label_by _ 16 _ (byte_there 8 _ _ c.in-Ok.is c.read_byte-step.ensures) (tag_is c.in_ok-try_from.ensures c.in-Bits.is) refl
    c.read_bits.ensures

pub returns-in_default-2 : goal.returns-in_default-2
unfolding after_tag skip read_of
returns-in_default-2 c =
    let d = c.in_default-2 in
    label_by _ _ _ (byte_there 8 _ _ c.in-Ok.is c.read_byte-step.ensures) (sym c.in_ok-try_from.ensures)
    (tag_nothing c.in_ok-try_from.field-0 d.not-Primitive d.not-SubByte d.not-Semantic d.not-Named d.not-FixedArray d.not-Bits) refl
