-- `reader::contents::read_entries` meets its contract. The invariant: the answer for all entries is the answer for those from the
-- i-th on. Assumes nothing.
use Rattle.std.proofs.Common.{arith, ◌∙◌}
use Rattle.reader.proofs.Laws.Contents.{laid_inside, entries_start, entries_done, entries_stop, entries_more}
use Rattle.reader.proofs.contents.read_entries.Goals as goal

pub loop-i-init : goal.loop-i-init
loop-i-init c = entries_start _ _ _

pub read_entry-step-requires : goal.read_entry-step-requires
read_entry-step-requires c = (omega arith, laid_inside _ _ _ c.requires.1 _ c.loop-i-test.true)

pub returns-in_default : goal.returns-in_default
returns-in_default c = entries_stop _ _ _ _ c.loop-i-test.true c.in_default.is c.read_entry-step.ensures ∙ c.loop-i.invariant

pub loop-i-preserved : goal.loop-i-preserved
loop-i-preserved c = entries_more _ _ _ _ c.loop-i-test.true c.in-Ok.is c.read_entry-step.ensures ∙ c.loop-i.invariant

pub returns : goal.returns
returns c = entries_done _ _ _ _ c.loop-i-test.false ∙ c.loop-i.invariant
