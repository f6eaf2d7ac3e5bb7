-- `listing::body::put_entry` meets its contract: what the reader gives are the kind and the name at the body's start. Assumes nothing.
use Rattle.std.proofs.Common.{ap₂}
use Rattle.text.proofs.Writers.{adds_as}
use Rattle.listing.specs.Listing.{line_of}
use Rattle.listing.proofs.body.put_entry.Goals as goal

pub returns : goal.returns
returns c = adds_as (ap₂ (line_of c.args.id) (cc) (cc)) c.put_line.ensures
