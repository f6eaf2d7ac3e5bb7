-- The edges of document 01 hold, by computation from the definitions alone. Assumes nothing.
use Rattle.rules.specs.Edges.{told, Edges}
use Rattle.rules.proofs.Computed.{reports}

pub edges : Edges
unfolding told reports
edges = assumption
