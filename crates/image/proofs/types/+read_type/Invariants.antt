-- The measure is `left`, the nodes that a path may still have.
use Rattle.image.proofs.types.+read_type.Given as goal

abbrev pub decreases-read_type : goal.decreases-read_type
decreases-read_type l = l.left
