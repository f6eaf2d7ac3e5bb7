-- `reader::bodies::read_body` meets its contract. Assumes nothing.
use Rattle.std.proofs.lemmas.Result.{err_from_is_err_and}
use Rattle.image.specs.Bodies.{body_of}
use Rattle.image.proofs.Laws.Answers.{stop}
use Rattle.image.proofs.Laws.Numbers.{byte_there}
use Rattle.reader.proofs.Laws.Bodies.{kind_read, body_kind, body_stop, body_left, body_whole}
use Rattle.reader.proofs.bodies.read_body.Goals as goal

pub returns-in_default : goal.returns-in_default
unfolding body_of
returns-in_default c = stop _ _ c.in_default.is c.read_byte-kind.ensures

-- the kind is there
pub bounds-s-0 : goal.bounds-s-0
bounds-s-0 c = (byte_there 8 _ _ c.in-Ok.is c.read_byte-kind.ensures).inside

pub returns-in_default-decl : goal.returns-in_default-decl
returns-in_default-decl c =
    body_stop _ _ (byte_there 8 _ _ c.in-Ok.is c.read_byte-kind.ensures) c.in_default-decl.is (kind_read _ _ _ c.in_ok-try_from.ensures c.read_decl-decl.ensures)

pub returns-then-end-s : goal.returns-then-end-s
returns-then-end-s c =
    body_left _ _ (byte_there 8 _ _ c.in-Ok.is c.read_byte-kind.ensures) c.in-Ok-decl.is (kind_read _ _ _ c.in_ok-try_from.ensures c.read_decl-decl.ensures) c.if-end-s.true

pub returns : goal.returns
returns c = body_whole _ _ (byte_there 8 _ _ c.in-Ok.is c.read_byte-kind.ensures) c.in-Ok-decl.is (kind_read _ _ _ c.in_ok-try_from.ensures c.read_decl-decl.ensures) c.if-end-s.false

-- a kind over 8
pub returns-in_err-try_from : goal.returns-in_err-try_from
returns-in_err-try_from c =
    let p = err_from_is_err_and c.from_residual.result c.from_residual.ensures.1 in
    let e = c.in_err-try_from.ensures in
    rw (p.1, p.2, e.0) (body_kind _ _ (byte_there 8 _ _ c.in-Ok.is c.read_byte-kind.ensures) e.1)
