-- `compat::accept` meets its contract: the image, or its refusal. Assumes nothing.
use Rattle.compat.proofs.Outcomes.{accepts, refuses}
use Rattle.compat.proofs.accept.Goals as goal

pub returns-in-Ok : goal.returns-in-Ok
returns-in-Ok c = accepts c.args.side _ c.read.ensures c.in-Ok.is

pub returns-in-Err : goal.returns-in-Err
returns-in-Err c = refuses c.args.side _ c.read.ensures c.in-Err.is
