-- `compat::pass` meets its contract: the lines, and the last one after them. Assumes nothing.
use Rattle.std.proofs.Common.{sym, ◌∙◌, arith, rules}
use Rattle.compat.proofs.Passes.{pass_name, passed}
use Rattle.compat.proofs.pass.Goals as goal

pub returns : goal.returns
returns c =
    let n = sym (pass_name c.args.pair c.new-r.ensures.reading c.new-r.ensures.tally c.check.ensures c.put_last_line.ensures ∙ c.new-r.ensures.same_reference) in
    passed c.args.pair c.new-r.ensures.reading c.new-r.ensures.tally c.check.ensures c.put_last_line.ensures
    c.new-r.ensures.start c.new-r.ensures.bytes (omega arith) (search rules) c.of_tally.ensures
