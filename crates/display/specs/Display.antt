-- How namespaces are shown, and a text so many times. Assumes nothing.
use Rattle.std.specs.Prelude.{List, [], ◌++◌, ℕ, zero, suc}
use Rattle.image.specs.Schema.{Name}
use Rattle.image.specs.Words.{bytes}
use Rattle.rules.specs.Text.{joined}

-- a namespace without the quotes
abbrev pub dotted : List Name → List ℕ
dotted segments = joined (bytes ".") segments

-- a text so many times
unfoldable pub repeated : ℕ → List ℕ → List ℕ
repeated zero text = []
repeated (suc n) text = text ++ repeated n text
