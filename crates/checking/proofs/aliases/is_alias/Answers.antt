-- `checking::aliases::is_alias` meets its contract. Assumes nothing.
use Rattle.checking.proofs.Pairs.{no_alias, alias_kind_lem}
use Rattle.checking.proofs.aliases.is_alias.Goals as goal

pub returns-in_default : goal.returns-in_default
returns-in_default c = no_alias c.in_default.is

pub returns : goal.returns
returns c = alias_kind_lem c.in-Some.is c.kind.ensures c.is_alias_kind.ensures
