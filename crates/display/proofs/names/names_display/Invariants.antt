-- What is written, with the names that are left, is the whole.
use Rattle.std.proofs.Common.{◌≡◌}
use Rattle.parts.specs.Handles.{names_of}
use Rattle.text.specs.Writers.{after}
use Rattle.display.proofs.Laws.Names.{others}
use Rattle.display.proofs.names.names_display.Given as goal

abbrev pub invariant-loop-name : goal.invariant-loop-name
invariant-loop-name l =
    (goal.iterator-loop-name).can_next l.name-iterator × (goal.iterator-loop-name).is_finite l.name-iterator
    × (after l.w (others l.between (names_of l.name-iterator)) ≡ after l.initial.w (others l.between (names_of l.initial.name-iterator)))
