-- The text is that of the words, as antt computes.
use Rattle.std.proofs.Common.{refl}
use Rattle.image.specs.Words.{bytes}
use Rattle.rules.specs.Text.{opening}
use Rattle.text.proofs.Writers.{adds_as}
use Rattle.display.proofs.Laws.Words.{words_are, table, whole, whole_words}
use Rattle.display.proofs.words.put_opening.Goals as goal

pub returns : goal.returns
unfolding bytes table whole whole_words opening
returns c = adds_as (words_are _ _ refl refl _) (rw c.number_of.ensures at c.put_word.ensures)
