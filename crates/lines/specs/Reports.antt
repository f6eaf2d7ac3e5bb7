-- A report after changes. Assumes nothing.
use Rattle.std.specs.Prelude.{◌≡◌, List, ℕ}
use denote.Ref.{MutBor}
use Rattle.text.specs.Writers.{after, buffer_of as written_in, writer_at}
use Rattle.text.specs.declared.Writer.{Writer}
use Rattle.rules.specs.Changes.{Change}
use Rattle.tally.specs.Tallies.{tally_from, lines_of}
use Rattle.lines.specs.Last.{last_line_of}
use Rattle.lines.specs.declared.Report.{Report}

-- a writer that stands after the lines of a report
abbrev pub writer_of : Report → Writer
writer_of r = writer_at r.out r.length

-- with a text more after the lines: it stands there as far as the buffer reaches, and all of it is counted
unfoldable pub with_text : Report → List ℕ → Report
with_text r xs = record r { out = written_in (after (writer_of r) xs); length = (after (writer_of r) xs).at }

-- with the changes cs more: their lines stand after those before them, and they are counted
unfoldable pub reported : Report → List Change → Report
reported r cs = record (with_text r (lines_of cs)) { tally = tally_from r.tally cs }

-- the buffer that is lent to a report: which one it is, and what it holds
abbrev pub buffer_of : Report → MutBor (List ℕ)
buffer_of r = r.out

-- what a reporter of the changes cs makes of a report
pub record Reports (r : Report) (cs : List Change) (r' : Report) : Type 0 where
  pub is : r' ≡ reported r cs

-- and what the last line makes of it
pub record Ends (r r' : Report) : Type 0 where
  pub is : r' ≡ with_text r (last_line_of r.tally)
