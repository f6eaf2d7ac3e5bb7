-- The report calls with imports and mended in buffers that are as long as the report, longer, and a byte short, and after 16: what they return,
-- and the whole buffer after them. Assumes nothing.
use Rattle.std.specs.Prelude.{◌≡◌, List, [], ◌∷◌, ◌++◌, ℕ, replicate}
use Rattle.rules.specs.Outcome.{selected}
use Rattle.rules.specs.Answer.{returned_by, leaves_by, report_by}
use Rattle.rules.specs.Imports.{imports}
use Rattle.rules.specs.Mended.{mended}
use Rattle.rules.specs.Pinned.{lines, at_one}
use Rattle.rules.specs.PinnedImports.{field_inside}
use Rattle.rules.specs.PinnedMended.{bits, bits_wide, seat_one, seat}

-- a buffer of so many bytes
abbrev pub full_of_sevens : ℕ → List ℕ
full_of_sevens n = replicate n 7

-- the reports, of 62 and of 66 bytes
abbrev pub inside : List ℕ
inside = lines ("FieldAdded;Major;B;+x;field 'x' @0 was added" ∷ "Breaking;Major;1" ∷ [])

abbrev pub widened : List ℕ
widened = lines ("WidthChanged;Major;F;-;width changed from 1 to 2" ∷ "Breaking;Major;1" ∷ [])

pub record PinnedBuffers : Type 0 where
  -- with imports
  pub exact : returned_by imports at_one field_inside (full_of_sevens 62) ≡ 62
  pub exact_left : leaves_by imports at_one field_inside (full_of_sevens 62) ≡ inside
  pub longer : returned_by imports at_one field_inside (full_of_sevens 64) ≡ 62
  pub longer_left : leaves_by imports at_one field_inside (full_of_sevens 64) ≡ inside ++ (7 ∷ 7 ∷ [])
  pub short : returned_by imports at_one field_inside (full_of_sevens 61) ≡ 0
  pub short_left : leaves_by imports at_one field_inside (full_of_sevens 61) ≡ full_of_sevens 61
  pub short_number : selected (report_by imports at_one field_inside 61) ≡ 12 ∷ 3 ∷ 2 ∷ 1 ∷ []
  -- mended
  pub mended_exact : returned_by mended bits bits_wide (full_of_sevens 66) ≡ 66
  pub mended_exact_left : leaves_by mended bits bits_wide (full_of_sevens 66) ≡ widened
  pub mended_longer_left : leaves_by mended bits bits_wide (full_of_sevens 67) ≡ widened ++ (7 ∷ [])
  pub mended_short : returned_by mended bits bits_wide (full_of_sevens 65) ≡ 0
  pub mended_short_left : leaves_by mended bits bits_wide (full_of_sevens 65) ≡ full_of_sevens 65
  pub mended_short_number : selected (report_by mended bits bits_wide 65) ≡ 12 ∷ 3 ∷ 2 ∷ 1 ∷ []
  -- 16 comes before 12, and leaves the buffer as it was
  pub mixed : returned_by mended seat_one seat (1 ∷ 2 ∷ 3 ∷ []) ≡ 0
  pub mixed_left : leaves_by mended seat_one seat (1 ∷ 2 ∷ 3 ∷ []) ≡ 1 ∷ 2 ∷ 3 ∷ []
  pub mixed_number : selected (report_by mended seat_one seat 3) ≡ 16 ∷ 3 ∷ 2 ∷ 1 ∷ []
