-- What is left is what the walk over the old variants has yet to report.
use Rattle.items.specs.Items.{kept_items}
use Rattle.items.proofs.Walks.{Kept}
use Rattle.clauses.proofs.unions.compare_unions.Given as goal

abbrev pub invariant-loop-variant : goal.invariant-loop-variant
invariant-loop-variant l =
    (goal.iterator-loop-variant).can_next l.variant-iterator × (goal.iterator-loop-variant).is_finite l.variant-iterator
    × Kept l.pair l.initial.r (kept_items l.initial.r.reading l.pair) l.r l.variant-iterator
