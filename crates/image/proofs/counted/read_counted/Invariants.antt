-- The answer for all the items is the answer for those that are left, from the next position on.
use Rattle.std.proofs.Common.{ℕ, List}
use Rattle.std.specs.Prelude.{⊤}
use Rattle.image.specs.Parse.{Parsed, counted}
use Rattle.image.specs.Reads.{skip, ReadsAs}
use Rattle.image.proofs.Laws.Repeats.{Rest}
use Rattle.image.proofs.counted.read_counted.Given as goal

abbrev pub invariant-loop : goal.invariant-loop
invariant-loop g l =
    (p : List ℕ → ℕ → Parsed ⊤) → ReadsAs (goal.F-post g l.read) g.P.Position.place_of p
    → Rest p l.s (g.P.Position.place_of l.next) l.end l.counter (skip (counted p l.s (g.P.Position.place_of l.fn.at)))
