use Rattle.image.specs.Fields.{encoding_at}
use Rattle.image.specs.Reads.{skip}
use Rattle.image.proofs.Laws.Fields.{Within}
use Rattle.image.proofs.fields.read_encoding.Given as goal

abbrev pub invariant-loop : goal.invariant-loop
invariant-loop g l = Within l.s (g.P.Position.place_of l.next) l.counter (skip (encoding_at l.s (g.P.Position.place_of l.fn.at)))
