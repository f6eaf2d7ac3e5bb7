-- `clauses::flags::compare_flags` meets its contract. Assumes nothing.
use Rattle.std.proofs.Common.{sym, ◌∙◌}
use Rattle.rules.specs.Clauses.{flags_rules, compare_flags}
use Rattle.lines.proofs.Reports.{reports_as}
use Rattle.items.proofs.Owned.{changes_owned, kept_owned, kept_silent}
use Rattle.clauses.proofs.Kept.{flags_bits}
use Rattle.clauses.proofs.Sets.{lone_reported}
use Rattle.clauses.proofs.flags.compare_flags.Goals as goal

pub returns : goal.returns
unfolding compare_flags flags_rules
returns c =
    let p = c.new-pair.ensures in
    reports_as
    (rw (flags_bits _ c.args.old.decl.here c.bits.ensures c.args.old.is, flags_bits _ c.args.new.decl.here c.bits-2.ensures c.args.new.is, ← c.name.ensures)
    (sym (changes_owned _ _ p.of p.old p.new)))
    (lone_reported _ c.unmatched_items.ensures c.unmatched_items-2.ensures (kept_owned _ _ p.of p.old p.new ∙ kept_silent _ _ _ _))
