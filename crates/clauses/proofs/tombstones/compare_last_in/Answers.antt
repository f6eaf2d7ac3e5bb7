-- `clauses::tombstones::compare_last_in` meets its contract, by the reading. Assumes nothing.
use Rattle.std.proofs.Common.{◌∙◌}
use Rattle.clauses.proofs.Readings.{none_last_in, mended_last_in}
use Rattle.lines.proofs.Reports.{reports_none, reports_as}
use Rattle.clauses.proofs.Bodies.{variants_told}
use Rattle.clauses.proofs.tombstones.compare_last_in.Goals as goal

pub returns-in-Plain : goal.returns-in-Plain
returns-in-Plain c = reports_none (none_last_in c.in-Plain.is _ _ _)

pub returns-in-Mended : goal.returns-in-Mended
returns-in-Mended c =
    reports_as (mended_last_in c.in-Mended.is _ _ _ ∙ variants_told c.args.old c.args.new c.body.result c.body-in-Mended.result c.body.ensures c.body-in-Mended.ensures _) c.compare_struck.ensures
