-- What is left is what the walk has yet to report.
use Rattle.checking.specs.Decls.{kept_decls}
use Rattle.checking.proofs.Turns.{Kept}
use Rattle.checking.proofs.decls.kept_decls.Given as goal

abbrev pub invariant-loop-decl : goal.invariant-loop-decl
invariant-loop-decl l =
    (goal.iterator-loop-decl).can_next l.decl-iterator × (goal.iterator-loop-decl).is_finite l.decl-iterator
    × Kept l.old l.new l.fn.r (kept_decls l.fn.r.reading l.old l.new) l.r l.decl-iterator
