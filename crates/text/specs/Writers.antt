-- A writer after text. Assumes nothing.
use Rattle.std.specs.Prelude.{◌≡◌, List, [], ◌∷◌, ℕ, ◌+◌, ◌-◌, ◌^◌, min, length, take, slice_set}
use denote.Ref.{MutBor}
use Rattle.text.specs.Text.{put}
use Rattle.text.specs.declared.Writer.{Writer}

-- the buffer that it was lent: which it is, and what it holds
abbrev pub buffer_of : Writer → MutBor (List ℕ)
buffer_of w = w.out

-- the writer of a buffer, from a place on
abbrev pub writer_at : MutBor (List ℕ) → ℕ → Writer
writer_at buffer at = record { out = buffer; at = at }

-- after one byte: it stands in its place if the buffer reaches there, and is counted
abbrev pub after_byte : Writer → ℕ → Writer
after_byte w b = record w { at = min (w.at + 1) (2 ^ 64 - 1); out = record w.out { now = slice_set w.out.now w.at b } }

-- after a text, byte after byte
unfoldable pub after : Writer → List ℕ → Writer
after w [] = w
after w (b ∷ bs) = after (after_byte w b) bs

-- what a writer of xs is then
pub record Adds (w : Writer) (xs : List ℕ) (v : Writer) : Type 0 where
  pub is : v ≡ after w xs

-- what a writer of xs from the start of a buffer d leaves: how long xs is, and the buffer
pub record Fills (d xs : List ℕ) (r : ℕ) (d' : List ℕ) : Type 0 where
  pub long : r ≡ min (length xs) (2 ^ 64 - 1)
  pub bytes : d' ≡ put d 0 (take (length d) xs)
