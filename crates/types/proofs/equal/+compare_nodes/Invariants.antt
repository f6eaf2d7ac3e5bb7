-- The measure is `left`, the nodes that a path may still have.
use Rattle.types.proofs.equal.+compare_nodes.Given as goal

abbrev pub decreases-compare_nodes : goal.decreases-compare_nodes
decreases-compare_nodes l = l.a.left
