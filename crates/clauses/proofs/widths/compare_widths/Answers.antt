-- `clauses::widths::compare_widths` meets its contract, by the reading. Assumes nothing.
use Rattle.clauses.proofs.Readings.{none_first, mended_first}
use Rattle.lines.proofs.Reports.{reports_none, reports_as}
use Rattle.clauses.proofs.widths.compare_widths.Goals as goal

pub returns-in-Plain : goal.returns-in-Plain
returns-in-Plain c = reports_none (none_first c.in-Plain.is _ _)

pub returns-in-Mended : goal.returns-in-Mended
returns-in-Mended c = reports_as (mended_first c.in-Mended.is _ _) c.compare_stored.ensures
