-- `clauses::tombstones::compare_last` meets its contract, by the reading. Assumes nothing.
use Rattle.clauses.proofs.Readings.{none_last, mended_last}
use Rattle.lines.proofs.Reports.{reports_none, reports_as}
use Rattle.clauses.proofs.tombstones.compare_last.Goals as goal

pub returns-in-Plain : goal.returns-in-Plain
returns-in-Plain c = reports_none (none_last c.in-Plain.is _ _)

pub returns-in-Mended : goal.returns-in-Mended
returns-in-Mended c = reports_as (mended_last c.in-Mended.is _ _) c.compare_bodies.ensures
