-- `clauses::fields::kept_field` meets its contract. Assumes nothing.
use Rattle.std.proofs.Common.{◌∙◌}
use Rattle.rules.specs.Clauses.{field_rules}
use Rattle.survivors.proofs.Runs.{found_among}
use Rattle.lines.proofs.Reports.{reports_none, reports_as}
use Rattle.items.specs.declared.Side.{Side}
use Rattle.items.proofs.Standing.{on_holds, kept_none, kept_item}
use Rattle.clauses.proofs.Kept.{kept_by}
use Rattle.clauses.proofs.fields.kept_field.Goals as goal

pub returns-in_default : goal.returns-in_default
returns-in_default c = reports_none (kept_none _ _ _ c.ordinal.ensures c.standing_item.ensures c.in_default.is)

pub returns : goal.returns
unfolding field_rules
returns c =
    let found = found_among (on_holds c.args.pair Side.New) c.standing_item.ensures c.in-Some.is in
    reports_as
    (kept_item _ _ _ c.ordinal.ensures c.standing_item.ensures c.in-Some.is ∙ kept_by _ c.args.pair c.requires.1 found _ c.requires.0)
    c.compare_fields.ensures
