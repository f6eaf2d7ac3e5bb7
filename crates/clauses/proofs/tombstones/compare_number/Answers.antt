-- `clauses::tombstones::compare_number` meets its contract, by what happened to the number. Assumes nothing.
use Rattle.clauses.proofs.Struck.{number_silent, number_told}
use Rattle.clauses.proofs.tombstones.compare_number.Goals as goal

pub returns-then-not-has_happened : goal.returns-then-not-has_happened
returns-then-not-has_happened c = number_silent _ _ _ _ _ (rw c.ordinal.ensures at c.has_happened.ensures) c.if-not-has_happened.true

pub returns : goal.returns
returns c =
    number_told _ _ _ _ _ (rw c.ordinal.ensures at c.has_happened.ensures) c.if-not-has_happened.false (rw c.ordinal-2.ensures at c.tombstone.ensures) c.emit.ensures
