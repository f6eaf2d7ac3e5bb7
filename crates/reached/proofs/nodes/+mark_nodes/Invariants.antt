-- The measure is `left`, the nodes that a path may still have.
use Rattle.reached.proofs.nodes.+mark_nodes.Given as goal

abbrev pub decreases-mark_nodes : goal.decreases-mark_nodes
decreases-mark_nodes l = l.t.left
