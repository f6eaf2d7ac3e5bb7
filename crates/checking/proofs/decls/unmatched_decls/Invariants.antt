-- What is left is what the walk has yet to report.
use Rattle.checking.specs.Decls.{unmatched_decls}
use Rattle.checking.proofs.Turns.{Unmatched}
use Rattle.checking.proofs.decls.unmatched_decls.Given as goal

abbrev pub invariant-loop-decl : goal.invariant-loop-decl
invariant-loop-decl l =
    (goal.iterator-loop-decl).can_next l.decl-iterator × (goal.iterator-loop-decl).is_finite l.decl-iterator
    × Unmatched l.old l.new l.side l.fn.r (unmatched_decls l.fn.r.reading l.old l.new l.side) l.r l.decl-iterator
