-- `clauses::messages::compare_messages` meets its contract: its fields, then its own deprecation. Assumes nothing.
use Rattle.rules.specs.Clauses.{compare_messages}
use Rattle.lines.proofs.Reports.{reports_as, reports_more}
use Rattle.clauses.proofs.Kept.{message_fields, marks_told, sets_told}
use Rattle.clauses.proofs.messages.compare_messages.Goals as goal

pub returns : goal.returns
unfolding compare_messages
returns c =
    let was = message_fields _ c.args.old.decl.here c.fields.ensures c.args.old.is in
    let is = message_fields _ c.args.new.decl.here c.fields-2.ensures c.args.new.is in
    reports_more
    (sets_told c.fields.ensures.image c.fields-2.ensures.image c.name.ensures _ _ was is c.compare_field_sets.ensures)
    (reports_as (marks_told _ _ _ _ _) (rw (c.name.ensures, c.deprecated.ensures, c.deprecated-2.ensures) at c.compare_deprecated.ensures))
