-- What is written, with what is left of the word, is the whole.
use Rattle.std.proofs.Common.{◌≡◌, drop}
use Rattle.text.specs.Writers.{after}
use Rattle.display.specs.Words.{word_in}
use Rattle.display.proofs.words.put_word.Given as goal

abbrev pub invariant-loop-byte : goal.invariant-loop-byte
invariant-loop-byte l = after l.w (word_in (drop l.byte-index l.words) l.left) ≡ after l.initial.w (word_in l.words l.initial.left)
