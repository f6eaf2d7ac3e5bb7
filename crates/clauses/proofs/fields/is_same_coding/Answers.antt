-- `clauses::fields::is_same_coding` meets its contract. Assumes nothing.
use Rattle.std.proofs.Common.{refl, ◌∙◌}
use Rattle.parts.proofs.Codings.{same_codes}
use Rattle.rules.specs.Clauses.{same_encoding}
use Rattle.clauses.proofs.Told.{same_options}
use Rattle.clauses.proofs.fields.is_same_coding.Goals as goal

pub returns-then-eq : goal.returns-then-eq
unfolding same_encoding
returns-then-eq c =
    rw (← c.encoding.ensures, ← c.encoding-2.ensures, ← c.limit.ensures, ← c.limit-then-eq.ensures, ← same_codes c.encoding.result.base c.encoding-2.result.base, ← c.eq.ensures, c.if-eq.true)
    (c.eq-then-eq.ensures ∙ same_options _ _)

pub returns-else-eq : goal.returns-else-eq
unfolding same_encoding
returns-else-eq c = rw (← c.encoding.ensures, ← c.encoding-2.ensures, ← same_codes c.encoding.result.base c.encoding-2.result.base, ← c.eq.ensures, c.if-eq.false) refl
