-- `clauses::enums::compare_openness` meets its contract. Assumes nothing.
use Rattle.std.proofs.Common.{not, refl, ap, ◌∙◌}
use Rattle.image.specs.Words.{bytes}
use Rattle.rules.specs.Clauses.{compare_non_exhaustive}
use Rattle.clauses.proofs.Told.{silent, told}
use Rattle.clauses.proofs.enums.compare_openness.Goals as goal

pub returns-then-was-is : goal.returns-then-was-is
unfolding compare_non_exhaustive
returns-then-was-is c =
    silent _ (rw (c.non_exhaustive-was.ensures, c.non_exhaustive-is.ensures) at (ap not c.if-was-is.true))

pub returns : goal.returns
unfolding compare_non_exhaustive bytes
returns c =
    told _ (rw (c.non_exhaustive-was.ensures, c.non_exhaustive-is.ensures) at (ap not c.if-was-is.false))
    (c.changed.ensures ∙ rw (c.non_exhaustive-was.ensures, c.non_exhaustive-is.ensures, c.name.ensures) refl) c.emit.ensures
