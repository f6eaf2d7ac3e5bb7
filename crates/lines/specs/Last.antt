-- The last line, of a tally. Assumes nothing.
use Rattle.std.specs.Prelude.{List, ℕ}
use Rattle.rules.specs.Report.{last_line_at}
use Rattle.tally.specs.Tallies.{level_of}
use Rattle.tally.specs.declared.Tally.{Tally}

unfoldable pub last_line_of : Tally → List ℕ
last_line_of t = last_line_at (level_of t.bump) t.changes
