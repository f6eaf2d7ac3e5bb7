-- `details::shown::put_namespace` meets its contract: a quote, the namespace and a quote. Assumes nothing.
use Rattle.image.specs.Words.{bytes}
use Rattle.rules.specs.Changes.{quoted}
use Rattle.rules.specs.Clauses.{show_namespace}
use Rattle.text.proofs.Writers.{adds_more}
use Rattle.details.proofs.shown.put_namespace.Goals as goal

pub returns : goal.returns
unfolding show_namespace quoted bytes
returns c = adds_more c.text.ensures (adds_more c.namespace_display.ensures c.byte.ensures)
