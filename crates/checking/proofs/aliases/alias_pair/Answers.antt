-- `checking::aliases::alias_pair` meets its contract. Assumes nothing.
use Rattle.std.proofs.Common.{arith}
use Rattle.checking.proofs.Pairs.{aliases_start, aliases_done, aliases_found, aliases_turn}
use Rattle.checking.proofs.aliases.alias_pair.Goals as goal

pub loop-i-init : goal.loop-i-init
loop-i-init c = aliases_start _ _

pub returns-then-aliases_of : goal.returns-then-aliases_of
returns-then-aliases_of c =
    aliases_found _ _ _ c.loop-i.invariant (omega (arith, c.count-n.ensures)) c.candidate.ensures c.aliases_of.ensures c.if-aliases_of.true

pub loop-i-preserved : goal.loop-i-preserved
loop-i-preserved c =
    aliases_turn _ _ _ c.loop-i.invariant (omega (arith, c.count-n.ensures)) c.candidate.ensures c.aliases_of.ensures c.if-aliases_of.false

pub returns : goal.returns
returns c = aliases_done _ _ _ c.loop-i.invariant (omega (arith, c.count-n.ensures))
