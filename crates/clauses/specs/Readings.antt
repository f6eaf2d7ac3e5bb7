-- How a reading takes types that are alike: equal but for vectors, quaternions and matrices. Assumes nothing.
use Rattle.std.specs.Prelude.{Bool, true, false}
use Rattle.lines.specs.declared.Reading.{Reading}
use Rattle.lines.specs.declared.Reading.TheVariants.{Plain, Mended}

-- whether they are read as equal
unfoldable pub reads_alike : Reading → Bool
reads_alike Plain = false
reads_alike Mended = true
