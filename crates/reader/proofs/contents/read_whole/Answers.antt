-- `reader::contents::read_whole` meets its contract: one read after the other. Assumes nothing.
use Rattle.std.proofs.Common.{arith, sym, ◌∙◌}
use Rattle.reader.proofs.Laws.Contents.{head_there, head_known, tables_within, names_within, image_head, image_tables, image_names, image_gap, image_entries}
use Rattle.reader.proofs.contents.read_whole.Goals as goal

pub returns-in_default : goal.returns-in_default
returns-in_default c = image_head _ c.in_default.is c.read_head-start.ensures

pub invariant_of-head : goal.invariant_of-head
invariant_of-head c = record { whole = head_there _ c.in-Ok.is c.read_head-start.ensures }

pub returns-in_default-tables : goal.returns-in_default-tables
returns-in_default-tables c = image_tables _ c.in-Ok.is c.read_head-start.ensures c.in_default-tables.is c.read_tables-tables.ensures

pub returns-in_default-names : goal.returns-in_default-names
returns-in_default-names c =
    image_names _ c.in-Ok.is c.read_head-start.ensures c.in-Ok-tables.is c.read_tables-tables.ensures c.segment_count.ensures.0 c.in_default-names.is c.read_names-names.ensures

pub is_laid-requires : goal.is_laid-requires
is_laid-requires c =
    let i = (tables_within _ c.in-Ok-tables.is c.read_tables-tables.ensures).0 in
    let e = c.entry_count-n.ensures.0 in
    (omega arith, names_within _ _ c.in-Ok-tables.is c.read_tables-tables.ensures c.in-Ok-names.is c.read_names-names.ensures)

pub returns-then-not-is_laid : goal.returns-then-not-is_laid
returns-then-not-is_laid c =
    image_gap _ c.in-Ok.is c.read_head-start.ensures c.in-Ok-tables.is c.read_tables-tables.ensures c.segment_count.ensures.0 c.in-Ok-names.is c.read_names-names.ensures c.entry_count-n.ensures.0 (sym c.is_laid.ensures ∙ c.if-not-is_laid.true)

pub read_entries-requires : goal.read_entries-requires
read_entries-requires c =
    let i = (tables_within _ c.in-Ok-tables.is c.read_tables-tables.ensures).0 in
    let e = c.entry_count-n.ensures.0 in
    (omega arith, sym c.is_laid.ensures ∙ c.if-not-is_laid.false)

pub of-requires : goal.of-requires
of-requires c = rw c.format.ensures.0 (head_known _ c.in-Ok.is c.read_head-start.ensures)

pub returns : goal.returns
returns c =
    image_entries _ c.in-Ok.is c.read_head-start.ensures c.in-Ok-tables.is c.read_tables-tables.ensures c.segment_count.ensures.0 c.in-Ok-names.is c.read_names-names.ensures c.entry_count-n.ensures.0
    (c.of.ensures ∙ c.format.ensures.0) (sym c.is_laid.ensures ∙ c.if-not-is_laid.false) c.read_entries.ensures
