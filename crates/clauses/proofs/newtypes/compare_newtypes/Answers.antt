-- `clauses::newtypes::compare_newtypes` meets its contract. Assumes nothing.
use Rattle.rules.specs.Clauses.{compare_newtypes}
use Rattle.clauses.proofs.newtypes.compare_newtypes.Goals as goal

pub returns : goal.returns
unfolding compare_newtypes
returns c =
    (rw (c.inner.ensures.tree, c.inner-2.ensures.tree, c.inner.ensures.image, c.inner-2.ensures.image, c.name-name.ensures) at c.compare_types.ensures)
