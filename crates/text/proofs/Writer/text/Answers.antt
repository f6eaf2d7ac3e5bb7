-- `Writer::text` meets its contract, by whether the buffer reaches there. Assumes nothing.
use Rattle.std.proofs.Common.{sym, arith}
use Rattle.text.proofs.Writers.{after_reached, after_past}
use Rattle.text.proofs.Writer.text.Goals as goal
use Rattle.text.proofs.Writer.text.Goals.{then-at-len, else-at-len}

pub returns : goal.returns
returns c = elim c.if-at-len.branch [
  | then-at-len w ↦ record {
    is = rw (c.saturating_add-self.ensures, w.self-is, w.copy.ensures)
        (sym (after_reached c.args.self.now c.args.s.now w.min-reached.result (omega (arith, w.min-reached.ensures)) (omega (arith, w.min-reached.ensures)) (omega (arith, w.min-reached.ensures)) (λ l. omega (arith, w.min-reached.ensures))));
  }
  | else-at-len w ↦ record { is = rw (c.saturating_add-self.ensures, w.self-is) (sym (after_past c.args.self.now c.args.s.now w.if-at-len.false (omega arith))) }
]
