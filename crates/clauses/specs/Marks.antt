-- A mark for deprecated that is gained, by the two marks alone. Assumes nothing.
use Rattle.std.specs.Prelude.{Bool, List, ℕ, Option, false}
use Rattle.image.specs.Schema.{Name}
use Rattle.rules.specs.Changes.{Change}
use Rattle.rules.specs.Clauses.{compare_deprecated}

abbrev pub deprecated : Name → Option Name → List ℕ → Bool → Bool → List Change
deprecated d field what was is =
    compare_deprecated d field what (record { deprecated = was; non_exhaustive = false }) (record { deprecated = is; non_exhaustive = false })
