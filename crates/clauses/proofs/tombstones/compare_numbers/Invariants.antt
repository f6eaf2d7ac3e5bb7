-- What is left is what the walk over the numbers has yet to report.
use Rattle.details.specs.Details.{declaration_of}
use Rattle.clauses.proofs.Struck.{Telling}
use Rattle.clauses.proofs.tombstones.compare_numbers.Given as goal

abbrev pub invariant-loop-number : goal.invariant-loop-number
invariant-loop-number l =
    (goal.iterator-loop-number).can_next l.number-iterator × (goal.iterator-loop-number).is_finite l.number-iterator
    × Telling l.change (declaration_of l.scope) l.struck l.new l.still l.initial.r l.r l.number-iterator
