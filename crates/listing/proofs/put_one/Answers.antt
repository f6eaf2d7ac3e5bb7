-- `listing::put_one` meets its contract: nothing for an empty entry, or the line of its body. Assumes nothing.
use Rattle.text.proofs.Writers.{adds_nil, adds_as}
use Rattle.listing.proofs.Lines.{none_text, body_text}
use Rattle.listing.proofs.put_one.Goals as goal

pub returns-then-count-eq0 : goal.returns-then-count-eq0
returns-then-count-eq0 c = adds_as (none_text _ (c.body-body.ensures.empty c.if-count-eq0.true)) adds_nil

pub put_entry-requires : goal.put_entry-requires
put_entry-requires c = (c.body-body.ensures.body c.if-count-eq0.false).here

pub returns : goal.returns
returns c = adds_as (body_text (c.body-body.ensures.body c.if-count-eq0.false)) c.put_entry.ensures
