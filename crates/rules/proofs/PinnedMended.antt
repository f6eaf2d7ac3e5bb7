-- What is pinned of R-5, R-6 and R-10 over byte lists holds, by computation from the definitions alone. Assumes nothing.
use Rattle.rules.specs.Distance.{Verdict, distance, count_between, Steps}
use Rattle.rules.specs.PinnedImports.{imports_told}
use Rattle.rules.specs.PinnedMended.{mended_told, PinnedMended}
use Rattle.rules.proofs.Computed.{reports}

pub pinned_mended : PinnedMended
unfolding reports imports_told mended_told Verdict distance count_between Steps
pinned_mended = assumption
