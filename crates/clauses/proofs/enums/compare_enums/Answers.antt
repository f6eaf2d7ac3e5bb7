-- `clauses::enums::compare_enums` meets its contract: whether it is open, then its variants. Assumes nothing.
use Rattle.std.proofs.Common.{sym, ◌∙◌}
use Rattle.rules.specs.Clauses.{enum_rules, compare_enums}
use Rattle.lines.proofs.Reports.{reports_as, reports_more}
use Rattle.items.proofs.Owned.{changes_owned, kept_owned, kept_silent}
use Rattle.clauses.proofs.Kept.{enum_variants}
use Rattle.clauses.proofs.Sets.{lone_reported}
use Rattle.clauses.proofs.enums.compare_enums.Goals as goal

pub returns : goal.returns
unfolding compare_enums enum_rules
returns c =
    let p = c.new-pair.ensures in
    reports_more c.compare_openness.ensures
    (reports_as
    (rw (enum_variants _ c.args.old.decl.here c.variants.ensures c.args.old.is, enum_variants _ c.args.new.decl.here c.variants-2.ensures c.args.new.is, ← c.name.ensures, ← c.enum_bump.ensures)
    (sym (changes_owned _ _ p.of p.old p.new)))
    (lone_reported _ c.unmatched_items.ensures c.unmatched_items-2.ensures (kept_owned _ _ p.of p.old p.new ∙ kept_silent _ _ _ _)))
