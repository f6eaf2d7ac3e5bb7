-- `tally::Tally::empty` meets its contract: there are as many counts as kinds. Assumes nothing.
use Rattle.std.proofs.Common.{refl}
use Rattle.tally.specs.Tallies.{no_change}
use Rattle.tally.proofs.Tally.empty.Goals as goal

pub returns : goal.returns
unfolding no_change
returns c = refl
