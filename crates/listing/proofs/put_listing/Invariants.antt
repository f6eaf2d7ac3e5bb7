-- The lines from the id on are still to be written. Assumes nothing.
use Rattle.parts.specs.Handles.{schema_in}
use Rattle.listing.proofs.Lines.{Before}
use Rattle.listing.proofs.put_listing.Given as goal

abbrev pub invariant-loop-id : goal.invariant-loop-id
invariant-loop-id l = Before (schema_in l.image).registry l.initial.w l.id l.w
