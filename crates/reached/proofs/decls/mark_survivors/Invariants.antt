-- What the walk has yet to mark is owed.
use Rattle.parts.specs.Handles.{schema_in}
use Rattle.rules.specs.Survivors.{view_of}
use Rattle.rules.specs.Reached.{named_from}
use Rattle.reached.proofs.Declared.{Marking}
use Rattle.reached.proofs.decls.mark_survivors.Given as goal

abbrev pub invariant-loop-decl : goal.invariant-loop-decl
invariant-loop-decl l =
    (goal.iterator-loop-decl).can_next l.decl-iterator × (goal.iterator-loop-decl).is_finite l.decl-iterator
    × Marking l.image l.initial.marks (named_from (view_of (schema_in l.image))) l.marks l.decl-iterator
