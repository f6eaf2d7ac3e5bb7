-- `clauses::widths::compare_stored` meets its contract. Assumes nothing.
use Rattle.std.proofs.Common.{not, refl, sym, ap, ◌∙◌}
use Rattle.image.specs.Words.{bytes}
use Rattle.rules.specs.Widths.{compare_widths}
use Rattle.clauses.proofs.Told.{silent, told, same_options}
use Rattle.clauses.proofs.widths.compare_stored.Goals as goal

pub returns-then-eq : goal.returns-then-eq
unfolding compare_widths
returns-then-eq c =
    silent _ (rw (c.width-was.ensures, c.width-is.ensures) at (ap not (sym (same_options c.width-was.result c.width-is.result) ∙ sym c.eq.ensures ∙ c.if-eq.true)))

pub returns : goal.returns
unfolding compare_widths bytes
returns c =
    told _ (rw (c.width-was.ensures, c.width-is.ensures) at (ap not (sym (same_options c.width-was.result c.width-is.result) ∙ sym c.eq.ensures ∙ c.if-eq.false)))
    (c.changed.ensures ∙ rw (c.width-was.ensures, c.width-is.ensures, c.name.ensures) refl) c.emit.ensures
