-- `lines::reporting::TallyLine::put` meets its contract. Assumes nothing.
use Rattle.std.proofs.Common.{sym, ap}
use Rattle.image.specs.Words.{bytes}
use Rattle.rules.specs.Report.{result_word}
use Rattle.text.proofs.Pieces.{together}
use Rattle.text.proofs.Writers.{adds_as, adds_more}
use Rattle.tally.proofs.Lines.{line_pieces}
use Rattle.lines.proofs.Lines.{last_pieces}
use Rattle.lines.proofs.reporting.TallyLine.put.Goals as goal

pub returns : goal.returns
unfolding bytes line_pieces together
returns c =
    let result = adds_as (ap result_word c.result.ensures) c.put_compat.ensures in
    adds_as (sym (last_pieces c.args.self)) (adds_more result (adds_more c.byte.ensures (adds_more c.put_bump.ensures (adds_more c.byte-2.ensures (adds_more c.number.ensures c.byte-3.ensures)))))
