-- `checking::aliases::aliases_at` meets its contract: the old survivor, then the new one. Assumes nothing.
use Rattle.checking.proofs.Pairs.{old_other, new_decides}
use Rattle.checking.proofs.aliases.aliases_at.Goals as goal

pub returns-else-is_alias : goal.returns-else-is_alias
returns-else-is_alias c = old_other _ _ c.survivor.ensures c.is_alias.ensures c.if-is_alias.false

pub returns-then-is_alias : goal.returns-then-is_alias
returns-then-is_alias c =
    new_decides _ _ c.survivor.ensures c.is_alias.ensures c.if-is_alias.true c.survivor-then-is_alias.ensures c.is_alias-then-is_alias.ensures
