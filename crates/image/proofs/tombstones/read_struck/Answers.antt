use Rattle.std.proofs.Common.{sym, ◌∙◌}
use Rattle.image.specs.Parse.{number_at}
use Rattle.image.specs.Reads.{skip}
use Rattle.image.proofs.Laws.Sure.{read_inside, number_in}
use Rattle.image.proofs.Laws.Tombstones.{tombstones_none, tombstones_read}
use Rattle.image.proofs.tombstones.read_struck.Goals as goal

pub returns-then-not-has_tombstones : goal.returns-then-not-has_tombstones
returns-then-not-has_tombstones g c = rw c.place.ensures (tombstones_none _ _ _ (sym c.if-not-has_tombstones.true ∙ c.has_tombstones.ensures))

pub read_counted-requires-clause-inside : goal.read_counted-requires-clause-inside
read_counted-requires-clause-inside g c = λ s at r e. read_inside _ _ r (number_in 4 _ _) e

pub returns : goal.returns
returns g c = tombstones_read _ _ _ (sym c.if-not-has_tombstones.false ∙ c.has_tombstones.ensures) (c.read_counted.ensures (λ s at. skip (number_at 4 s at)) (λ s at r e. e))
