-- The text so many times so far. Assumes nothing.
use Rattle.text.specs.Writers.{Adds}
use Rattle.display.specs.Display.{repeated}
use Rattle.display.proofs.encodings.put_times.Given as goal

abbrev pub invariant-loop : goal.invariant-loop
invariant-loop l = Adds l.initial.w (repeated l.counter l.s) l.w
