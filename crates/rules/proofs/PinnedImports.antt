-- What is pinned of R-2 over byte lists holds, by computation from the definitions alone. Assumes nothing.
use Rattle.rules.specs.Distance.{Verdict, distance, count_between, Steps}
use Rattle.rules.specs.PinnedImports.{imports_told, PinnedImports}
use Rattle.rules.proofs.Computed.{reports}

pub pinned_imports : PinnedImports
unfolding reports imports_told Verdict distance count_between Steps
pinned_imports = assumption
