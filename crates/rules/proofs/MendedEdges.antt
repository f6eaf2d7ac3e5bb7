-- The edges of R-5 and R-6 hold, by computation from the definitions alone. Assumes nothing.
use Rattle.rules.specs.ImportEdges.{told, under}
use Rattle.rules.specs.MendedEdges.{MendedEdges}
use Rattle.rules.proofs.Computed.{reports}

pub mended_edges : MendedEdges
unfolding reports told under
mended_edges = assumption
