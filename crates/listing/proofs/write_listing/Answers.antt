-- `listing::write_listing` meets its contract: a refusal, or what is written of the image. Assumes nothing.
use Rattle.parts.proofs.Promise.{read_bytes}
use Rattle.listing.proofs.Outcomes.{refused_read}
use Rattle.listing.proofs.write_listing.Goals as goal

pub returns-in-Ok : goal.returns-in-Ok
returns-in-Ok c = rw (read_bytes c.read.ensures c.in-Ok.is) at c.write.ensures

pub returns-in-Err : goal.returns-in-Err
returns-in-Err c = refused_read c.read.ensures c.in-Err.is
