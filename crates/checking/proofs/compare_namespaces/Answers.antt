-- `checking::compare_namespaces` meets its contract. Assumes nothing.
use Rattle.std.proofs.Common.{not, refl, sym, ap, ◌∙◌}
use Rattle.image.specs.Words.{bytes}
use Rattle.rules.specs.Clauses.{compare_namespaces}
use Rattle.clauses.proofs.Told.{silent, told}
use Rattle.checking.proofs.compare_namespaces.Goals as goal

pub returns-then-namespaces_equal : goal.returns-then-namespaces_equal
unfolding compare_namespaces
returns-then-namespaces_equal c = silent _ (ap not (sym c.namespaces_equal.ensures ∙ c.if-namespaces_equal.true))

pub returns : goal.returns
unfolding compare_namespaces bytes
returns c = told _ (ap not (sym c.namespaces_equal.ensures ∙ c.if-namespaces_equal.false)) c.changed.ensures c.emit.ensures
