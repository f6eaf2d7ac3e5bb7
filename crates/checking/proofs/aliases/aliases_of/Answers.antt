-- `checking::aliases::aliases_of` meets its contract: by the kind, then by the name. Assumes nothing.
use Rattle.checking.proofs.Pairs.{entry_none, entry_other, entry_alias}
use Rattle.checking.proofs.aliases.aliases_of.Goals as goal

pub returns-in_default : goal.returns-in_default
returns-in_default c = entry_none _ _ c.in_default.is

pub returns-else-is_alias_kind : goal.returns-else-is_alias_kind
returns-else-is_alias_kind c = entry_other _ _ c.in-Some.is c.kind.ensures c.is_alias_kind.ensures c.if-is_alias_kind.false

pub returns-then-is_alias_kind : goal.returns-then-is_alias_kind
returns-then-is_alias_kind c =
    entry_alias _ _ c.in-Some.is c.kind.ensures c.is_alias_kind.ensures c.if-is_alias_kind.true c.name.ensures c.aliases_at.ensures
