-- `Writer::byte` meets its contract, by whether the buffer reaches there. Assumes nothing.
use Rattle.std.proofs.Common.{refl}
use Rattle.std.proofs.lemmas.List.{set_past}
use Rattle.text.specs.Writers.{after}
use Rattle.text.proofs.Writer.byte.Goals as goal
use Rattle.text.proofs.Writer.byte.Goals.{then-at-self, else-at-self}

pub returns : goal.returns
unfolding after
returns c = elim c.if-at-self.branch [
  | then-at-self w ↦ record { is = rw (c.saturating_add-self.ensures, w.self-is) refl }
  | else-at-self w ↦ record { is = rw (c.saturating_add-self.ensures, w.self-is, set_past _ _ c.args.b w.if-at-self.false) refl }
]
