-- How two images are read, by the code's word for it. Assumes nothing.
use Rattle.rules.specs.Clauses.{Reading as Definition}
use Rattle.rules.specs.Answer.{plain_reading}
use Rattle.rules.specs.Mended.{mended_reading}
use Rattle.lines.specs.declared.Reading.{Reading}
use Rattle.lines.specs.declared.Reading.TheVariants.{Plain, Mended}

-- plain: as document 01 says; mended: as R-5, R-6 and R-10 do
unfoldable pub reading_of : Reading → Definition
reading_of Plain = plain_reading
reading_of Mended = mended_reading
