-- `verdicts::Values::select` meets its contract, by the selector. Assumes nothing.
use Rattle.std.proofs.Common.{rules, arith}
use Rattle.verdicts.specs.Verdicts.{select_in}
use Rattle.verdicts.proofs.Selectors.{select_count, select_beyond}
use Rattle.verdicts.proofs.Values.select.Goals as goal

pub returns-in_default : goal.returns-in_default
returns-in_default c = select_count c.args.self c.args.selector (search rules)

pub returns-in-0 : goal.returns-in-0
unfolding select_in
returns-in-0 c = rw c.in-0.is

pub returns-in-1 : goal.returns-in-1
unfolding select_in
returns-in-1 c = rw c.in-1.is

pub returns-in-2 : goal.returns-in-2
unfolding select_in
returns-in-2 c = rw c.in-2.is

pub returns-in-3 : goal.returns-in-3
unfolding select_in
returns-in-3 c = rw c.in-3.is

pub returns-in-4 : goal.returns-in-4
unfolding select_in
returns-in-4 c = rw c.in-4.is

pub returns-in_default-2 : goal.returns-in_default-2
returns-in_default-2 c = select_beyond c.args.self c.args.selector (omega arith)
