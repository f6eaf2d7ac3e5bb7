-- `lines::reporting::SiteLine::put` meets its contract. Assumes nothing.
use Rattle.std.proofs.Common.{sym}
use Rattle.image.specs.Words.{bytes}
use Rattle.text.proofs.Pieces.{together}
use Rattle.text.proofs.Writers.{adds_as, adds_more}
use Rattle.tally.proofs.Lines.{line_pieces}
use Rattle.lines.proofs.Lines.{site_line}
use Rattle.lines.proofs.reporting.SiteLine.put.Goals as goal

pub returns : goal.returns
unfolding bytes line_pieces together
returns c =
    adds_as
    (sym (site_line c.args.self))
    (adds_more c.put_change.ensures (adds_more c.byte.ensures (adds_more c.put_bump.ensures (adds_more c.byte-2.ensures (adds_more c.put_declaration.ensures (adds_more c.byte-3.ensures
    (adds_more c.put_field.ensures (adds_more c.byte-4.ensures (adds_more c.put_detail.ensures c.byte-5.ensures)))))))))
