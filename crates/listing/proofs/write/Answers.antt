-- `listing::write` meets its contract: a refusal, or the listing in the buffer. Assumes nothing.
use Rattle.std.proofs.Common.{sym, ◌∙◌, arith, rules}
use Rattle.text.proofs.Writers.{adds_name, fills}
use Rattle.listing.proofs.Outcomes.{call_refused, call_done}
use Rattle.listing.proofs.write.Goals as goal

pub returns-in-Err : goal.returns-in-Err
returns-in-Err c = call_refused _ _ c.in-Err.is c.measured.ensures

pub returns-in-Ok : goal.returns-in-Ok
returns-in-Ok c =
    let n = sym (adds_name c.put_listing.ensures ∙ c.new-w.ensures.same_reference) in
    call_done _ _ c.in-Ok.is c.measured.ensures (fills c.put_listing.ensures c.new-w.ensures.start c.new-w.ensures.bytes (omega arith) (search rules))
