-- The edges of R-10 hold, by computation from the definitions alone. Assumes nothing.
use Rattle.rules.specs.ImportEdges.{told}
use Rattle.rules.specs.TombstoneEdges.{TombstoneEdges}
use Rattle.rules.proofs.Computed.{reports}

pub tombstone_edges : TombstoneEdges
unfolding reports told
tombstone_edges = assumption
