-- `lines::reporting::line_into` meets its contract. Assumes nothing.
use Rattle.std.proofs.Common.{sym, ◌∙◌, arith, rules}
use Rattle.text.proofs.Writers.{adds_name, fills}
use Rattle.lines.proofs.reporting.line_into.Goals as goal

pub returns : goal.returns
returns g c =
    let n = sym (adds_name c.put.ensures ∙ c.new-w.ensures.same_reference) in
    fills c.put.ensures c.new-w.ensures.start c.new-w.ensures.bytes (omega arith) (search rules)
