use Rattle.std.proofs.Common.{sym, ◌∙◌}
use Rattle.image.specs.Parse.{number_at}
use Rattle.image.specs.Reads.{skip}
use Rattle.image.proofs.Laws.Sure.{read_inside, number_in}
use Rattle.image.proofs.Laws.Tombstones.{tombstones_none, tombstones_read}
use Rattle.image.proofs.tombstones.read_tombstones.Goals as goal

pub returns-then-not-has_tombstones : goal.returns-then-not-has_tombstones
returns-then-not-has_tombstones c = tombstones_none _ _ _ (sym c.if-not-has_tombstones.true ∙ c.has_tombstones.ensures)

pub read_items-requires-clause-narrow_inside : goal.read_items-requires-clause-narrow_inside
read_items-requires-clause-narrow_inside c = λ s at r e. read_inside _ _ r (number_in 4 _ _) e

pub read_items-requires-clause-wide_inside : goal.read_items-requires-clause-wide_inside
read_items-requires-clause-wide_inside c = λ s at r e. read_inside _ _ r (number_in 4 _ _) e

pub returns : goal.returns
returns c =
    tombstones_read _ _ _ (sym c.if-not-has_tombstones.false ∙ c.has_tombstones.ensures)
    (c.read_items.ensures (λ s at. skip (number_at 4 s at)) ((λ s at r e. e), λ s at r e. e))
