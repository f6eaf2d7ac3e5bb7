-- What is left to find is what was to be found.
use Rattle.std.proofs.Common.{◌≡◌}
use Rattle.checking.specs.Decls.{both_aliases}
use Rattle.checking.proofs.Pairs.{aliases_from}
use Rattle.checking.proofs.aliases.alias_pair.Given as goal

abbrev pub invariant-loop-i : goal.invariant-loop-i
invariant-loop-i l = aliases_from l.old l.new l.i ≡ both_aliases l.old l.new
