-- What is pinned of the report calls holds, by computation from the definitions alone. Assumes nothing.
use Rattle.rules.specs.Outcome.{fit}
use Rattle.rules.specs.Answer.{report_by}
use Rattle.rules.specs.PinnedBuffers.{PinnedBuffers}
use Rattle.rules.proofs.Computed.{reports}

pub pinned_buffers : PinnedBuffers
unfolding reports fit report_by
pinned_buffers = assumption
