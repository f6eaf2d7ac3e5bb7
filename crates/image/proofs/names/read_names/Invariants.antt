use Rattle.image.specs.Numbers.{refusal_number}
use Rattle.image.specs.Names.{name_at, names_at}
use Rattle.image.specs.Reads.{skip}
use Rattle.image.proofs.Laws.Repeats.{Rest}
use Rattle.image.proofs.names.read_names.Given as goal

abbrev pub invariant-loop : goal.invariant-loop
invariant-loop l =
    Rest (name_at (refusal_number l.fn.short)) l.s l.next l.count l.counter (skip (names_at (refusal_number l.fn.short) l.count l.s l.fn.at))
