-- The recorded answers of the Rust are those of the definitions, by computation from these alone. Assumes nothing.
use Rattle.rules.specs.Pinned.{Pinned}
use Rattle.rules.specs.Distance.{Verdict, distance, count_between, Steps}
use Rattle.rules.proofs.Computed.{reports}

pub pinned : Pinned
unfolding reports Verdict distance count_between Steps
pinned = assumption
