-- When two fields are coded alike. Assumes nothing.
use Rattle.std.specs.Prelude.{Bool, ◌&&◌, eqb}
use Rattle.image.specs.Schema.{Field}
use Rattle.rules.specs.Equal.{same_option}
use Rattle.rules.specs.Clauses.{same_encoding}

-- the same encoding and the same limit
abbrev pub same_coding : Field → Field → Bool
same_coding f g = same_encoding f.encoding g.encoding && same_option eqb f.limit g.limit
