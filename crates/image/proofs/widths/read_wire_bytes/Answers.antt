use Rattle.std.proofs.Common.{sym, ◌∙◌}
use Rattle.image.specs.Widths.{wire_bytes_at}
use Rattle.image.proofs.Laws.Numbers.{byte_there}
use Rattle.image.proofs.Laws.Widths.{width_none, width_read, bytes_stop, bytes_other, bytes_one}
use Rattle.image.proofs.widths.read_wire_bytes.Goals as goal

pub returns-then-not-has_widths : goal.returns-then-not-has_widths
returns-then-not-has_widths c = width_none _ wire_bytes_at _ _ (sym c.if-not-has_widths.true ∙ c.has_widths.ensures)

pub returns-in_default : goal.returns-in_default
returns-in_default c =
    width_read _ wire_bytes_at _ _ (sym c.if-not-has_widths.false ∙ c.has_widths.ensures)
    (bytes_stop _ _ c.in_default.is c.read_byte-step.ensures)

pub bounds-s-at : goal.bounds-s-at
bounds-s-at c = (byte_there 8 _ _ c.in-Ok.is c.read_byte-step.ensures).inside

pub returns-then-not-is_wire_bytes : goal.returns-then-not-is_wire_bytes
returns-then-not-is_wire_bytes c =
    width_read _ wire_bytes_at _ _ (sym c.if-not-has_widths.false ∙ c.has_widths.ensures)
    (bytes_other _ _ (byte_there 8 _ _ c.in-Ok.is c.read_byte-step.ensures)
    (sym c.if-not-is_wire_bytes.true ∙ c.is_wire_bytes.ensures))

pub returns : goal.returns
returns c =
    width_read _ wire_bytes_at _ _ (sym c.if-not-has_widths.false ∙ c.has_widths.ensures)
    (bytes_one _ _ (byte_there 8 _ _ c.in-Ok.is c.read_byte-step.ensures) (sym c.if-not-is_wire_bytes.false ∙ c.is_wire_bytes.ensures) c.in-Ok.is)
