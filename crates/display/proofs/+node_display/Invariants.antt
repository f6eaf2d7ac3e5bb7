-- The measure is `left`, the nodes that a path may still have.
use Rattle.display.proofs.+node_display.Given as goal

abbrev pub decreases-node_display : goal.decreases-node_display
decreases-node_display l = l.t.left
