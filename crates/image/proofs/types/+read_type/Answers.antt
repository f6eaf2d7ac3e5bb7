use Rattle.std.proofs.Common.{arith, ◌+◌, ◌-◌, sym, ◌∙◌}
use Rattle.image.specs.Types.{type_of}
use Rattle.image.proofs.Laws.Types.{from_start, tagged, label_most, type_deep, type_stop, type_label, label_within, inner_within, inner_none, inner_stop, inner_one, inner_two_stop, inner_two}
use Rattle.image.proofs.types.+read_type.Goals as goal

pub returns-then-left-eq0 : goal.returns-then-left-eq0
returns-then-left-eq0 t c = type_deep _ _ c.if-left-eq0.true

pub returns-in_default : goal.returns-in_default
returns-in_default t c = type_stop _ _ c.if-left-eq0.false c.in_default.is c.read_label-head.ensures

pub bounds-s-0 : goal.bounds-s-0
bounds-s-0 t c = (label_within _ c.in-Ok.is c.read_label-head.ensures).0

pub returns-then-inner-eq0 : goal.returns-then-inner-eq0
returns-then-inner-eq0 t c =
    type_label _ _ c.if-left-eq0.false c.in-Ok.is c.read_label-head.ensures
    (λ l. inner_none _ l _ _ _ (sym (tagged c.inner_types-inner.ensures c.of.ensures) ∙ c.if-inner-eq0.true))

pub of-requires : goal.of-requires
of-requires t c = label_most _ c.in-Ok.is c.read_label-head.ensures

pub slice_bounds-read_type-count : goal.slice_bounds-read_type-count
slice_bounds-read_type-count t c = (label_within _ c.in-Ok.is c.read_label-head.ensures).1

pub slice_bounds-read_type-start : goal.slice_bounds-read_type-start
slice_bounds-read_type-start t c = (label_within _ c.in-Ok.is c.read_label-head.ensures).1

-- the first inner type is read from the part that starts at it
pub returns-in_default-one : goal.returns-in_default-one
returns-in_default-one t c =
    let e = from_start (type_of (c.args.left - 1)) c.args.s.now c.in-Ok.first c.read_type-one.ensures in
    type_label _ _ c.if-left-eq0.false c.in-Ok.is c.read_label-head.ensures
    (λ l. inner_stop _ l _ _ _ (λ z. c.if-inner-eq0.false (tagged c.inner_types-inner.ensures c.of.ensures ∙ z)) c.in_default-one.is e)

pub overflow_add-second : goal.overflow_add-second
overflow_add-second t c =
    let e = from_start (type_of (c.args.left - 1)) c.args.s.now c.in-Ok.first c.read_type-one.ensures in
    let h = inner_within _ _ _ (label_within _ c.in-Ok.is c.read_label-head.ensures).1 c.in-Ok-one.is e in
    omega arith

pub returns-then-inner-eq1 : goal.returns-then-inner-eq1
returns-then-inner-eq1 t c =
    let e = from_start (type_of (c.args.left - 1)) c.args.s.now c.in-Ok.first c.read_type-one.ensures in
    type_label _ _ c.if-left-eq0.false c.in-Ok.is c.read_label-head.ensures
    (λ l. inner_one _ l _ _ _ (sym (tagged c.inner_types-inner.ensures c.of.ensures) ∙ c.if-inner-eq1.true) c.in-Ok-one.is e)

pub slice_bounds-read_type-count-2 : goal.slice_bounds-read_type-count-2
slice_bounds-read_type-count-2 t c =
    let e = from_start (type_of (c.args.left - 1)) c.args.s.now c.in-Ok.first c.read_type-one.ensures in
    inner_within _ _ _ (label_within _ c.in-Ok.is c.read_label-head.ensures).1 c.in-Ok-one.is e

pub slice_bounds-read_type-start-2 : goal.slice_bounds-read_type-start-2
slice_bounds-read_type-start-2 t c =
    let e = from_start (type_of (c.args.left - 1)) c.args.s.now c.in-Ok.first c.read_type-one.ensures in
    inner_within _ _ _ (label_within _ c.in-Ok.is c.read_label-head.ensures).1 c.in-Ok-one.is e

-- and the second from the part that starts after it
pub returns-in_default-two : goal.returns-in_default-two
returns-in_default-two t c =
    let e = from_start (type_of (c.args.left - 1)) c.args.s.now c.in-Ok.first c.read_type-one.ensures in
    let f = from_start (type_of (c.args.left - 1)) c.args.s.now (c.in-Ok.first + c.in-Ok-one.used) c.read_type-two.ensures in
    type_label _ _ c.if-left-eq0.false c.in-Ok.is c.read_label-head.ensures
    (λ l. inner_two_stop _ l _ _ _ (λ z. c.if-inner-eq0.false (tagged c.inner_types-inner.ensures c.of.ensures ∙ z))
    (λ z. c.if-inner-eq1.false (tagged c.inner_types-inner.ensures c.of.ensures ∙ z)) c.in-Ok-one.is e c.in_default-two.is f)

pub overflow_add-result : goal.overflow_add-result
overflow_add-result t c =
    let e = from_start (type_of (c.args.left - 1)) c.args.s.now c.in-Ok.first c.read_type-one.ensures in
    let f = from_start (type_of (c.args.left - 1)) c.args.s.now (c.in-Ok.first + c.in-Ok-one.used) c.read_type-two.ensures in
    let g = inner_within _ _ _ (label_within _ c.in-Ok.is c.read_label-head.ensures).1 c.in-Ok-one.is e in
    let h = inner_within _ _ _ g c.in-Ok-two.is f in
    omega arith

pub returns : goal.returns
returns t c =
    let e = from_start (type_of (c.args.left - 1)) c.args.s.now c.in-Ok.first c.read_type-one.ensures in
    let f = from_start (type_of (c.args.left - 1)) c.args.s.now (c.in-Ok.first + c.in-Ok-one.used) c.read_type-two.ensures in
    type_label _ _ c.if-left-eq0.false c.in-Ok.is c.read_label-head.ensures
    (λ l. inner_two _ l _ _ _ (λ z. c.if-inner-eq0.false (tagged c.inner_types-inner.ensures c.of.ensures ∙ z))
    (λ z. c.if-inner-eq1.false (tagged c.inner_types-inner.ensures c.of.ensures ∙ z)) c.in-Ok-one.is e c.in-Ok-two.is f)
