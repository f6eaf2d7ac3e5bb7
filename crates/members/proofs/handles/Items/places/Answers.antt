-- `members::handles::Items::places` meets its contract: that they are there is a fact. Assumes nothing.
use Rattle.std.proofs.Common.{ap}
use Rattle.members.specs.Props.{items_prop}
use Rattle.members.proofs.handles.Items.places.Goals as goal

pub returns : goal.returns
returns c = ap (λ h. record { bytes = c.args.self.image.bytes; shape = c.args.self.shape; run = c.args.self.run; here = h }) (items_prop _ _ _ _ _ c.args.self.here)
