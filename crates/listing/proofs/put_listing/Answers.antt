use Rattle.std.proofs.Common.{arith}
use Rattle.listing.specs.Listing.{listing}
use Rattle.listing.proofs.Lines.{lines_start, lines_next, lines_end}
use Rattle.listing.proofs.put_listing.Goals as goal

pub loop-id-init : goal.loop-id-init
loop-id-init c = lines_start _

pub loop-id-preserved : goal.loop-id-preserved
loop-id-preserved c = lines_next _ c.loop-id.invariant (omega arith) c.put_one.ensures

pub returns : goal.returns
unfolding listing
returns c = lines_end _ c.loop-id.invariant (omega arith)
