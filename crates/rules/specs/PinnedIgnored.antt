-- R-6 and R-10 over byte lists: images that hold the same but for format, widths and tombstones, which the earlier verdicts do not tell apart,
-- and the mended one does. Assumes nothing.
use Rattle.std.specs.Prelude.{◌≡◌, List, [], ◌∷◌, ℕ}
use Rattle.rules.specs.Outcome.{selected}
use Rattle.rules.specs.Answer.{outcome}
use Rattle.rules.specs.Mended.{mended}
use Rattle.rules.specs.Pinned.{image, lines, told}
use Rattle.rules.specs.PinnedImports.{imports_told}
use Rattle.rules.specs.PinnedMended.{mended_told}
use Rattle.rules.specs.Ignored.{SameStripped}

-- ---- an enum E of `@0 a`, flags F of `@0 p` and a union U of `@0 v`

-- in format 1
abbrev pub plain_image : List ℕ
plain_image =
    image
    ("01 00 03 00 03 00 00 00"
    ∷ "20 00 0c 00 2c 00 0b 00 37 00 0d 00"
    ∷ "00 00 00 00 01 00 00 00 02 00 00 00"
    ∷ "01 01 45 00 01 00 00 00 00 00 01 61"
    ∷ "02 01 46 01 00 00 00 00 00 01 70"
    ∷ "03 01 55 01 00 00 00 00 00 01 76 00 00"
    ∷ [])

-- in format 2, of 8 wire bits and 1 wire byte, and of 16 and 2
abbrev pub narrow_image : List ℕ
narrow_image =
    image
    ("02 00 03 00 03 00 00 00"
    ∷ "20 00 0d 00 2d 00 0c 00 39 00 0d 00"
    ∷ "00 00 00 00 01 00 00 00 02 00 00 00"
    ∷ "01 01 45 00 08 01 00 00 00 00 00 01 61"
    ∷ "02 01 46 01 01 00 00 00 00 00 01 70"
    ∷ "03 01 55 01 00 00 00 00 00 01 76 00 00"
    ∷ [])

abbrev pub wide_image : List ℕ
wide_image =
    image
    ("02 00 03 00 03 00 00 00"
    ∷ "20 00 0d 00 2d 00 0c 00 39 00 0d 00"
    ∷ "00 00 00 00 01 00 00 00 02 00 00 00"
    ∷ "01 01 45 00 10 01 00 00 00 00 00 01 61"
    ∷ "02 01 46 02 01 00 00 00 00 00 01 70"
    ∷ "03 01 55 01 00 00 00 00 00 01 76 00 00"
    ∷ [])

-- in format 3, as narrow as the first of these: without a tombstone, and with one of E, two of F, one of U and one of v
abbrev pub unstruck_image : List ℕ
unstruck_image =
    image
    ("03 00 03 00 03 00 00 00"
    ∷ "20 00 0f 00 2f 00 0e 00 3d 00 11 00"
    ∷ "00 00 00 00 01 00 00 00 02 00 00 00"
    ∷ "01 01 45 00 08 01 00 00 00 00 00 01 61 00 00"
    ∷ "02 01 46 01 01 00 00 00 00 00 01 70 00 00"
    ∷ "03 01 55 01 00 00 00 00 00 01 76 00 00 00 00 00 00"
    ∷ [])

abbrev pub struck_image : List ℕ
struck_image =
    image
    ("03 00 03 00 03 00 00 00"
    ∷ "20 00 13 00 33 00 16 00 49 00 19 00"
    ∷ "00 00 00 00 01 00 00 00 02 00 00 00"
    ∷ "01 01 45 00 08 01 00 00 00 00 00 01 61 01 00 01 00 00 00"
    ∷ "02 01 46 01 01 00 00 00 00 00 01 70 02 00 02 00 00 00 03 00 00 00"
    ∷ "03 01 55 01 00 00 00 00 00 01 76 00 00 01 00 05 00 00 00 01 00 04 00 00 00"
    ∷ [])

pub record PinnedIgnored : Type 0 where
  -- all are accepted, and the same but for format, widths and tombstones
  pub formats : SameStripped plain_image narrow_image
  pub widths : SameStripped narrow_image wide_image
  pub tombstones : SameStripped unstruck_image struck_image
  pub all : SameStripped plain_image struck_image
  -- against each other they get what one gets against itself
  pub plain : told plain_image wide_image ≡ lines ("Compatible;Patch;0" ∷ [])
  pub plain_back : told wide_image narrow_image ≡ lines ("Compatible;Patch;0" ∷ [])
  pub plain_struck : told struck_image plain_image ≡ lines ("Compatible;Patch;0" ∷ [])
  pub with_imports : imports_told plain_image wide_image ≡ lines ("Compatible;Patch;0" ∷ [])
  pub with_imports_struck : imports_told struck_image wide_image ≡ lines ("Compatible;Patch;0" ∷ [])
  -- but from the mended verdict: by their widths, by their tombstones, and by their formats
  pub apart : mended_told narrow_image wide_image
      ≡ lines ("WidthChanged;Major;E;-;width changed from 8 to 16" ∷ "WidthChanged;Major;F;-;width changed from 1 to 2" ∷ "Breaking;Major;2" ∷ [])
  pub apart_struck : mended_told struck_image unstruck_image ≡ lines
      ("TombstoneDropped;Major;E;-;tombstone @1 was dropped"
      ∷ "TombstoneDropped;Major;F;-;tombstone @2 was dropped"
      ∷ "TombstoneDropped;Major;F;-;tombstone @3 was dropped"
      ∷ "TombstoneDropped;Major;U::v;-;tombstone @5 was dropped"
      ∷ "TombstoneDropped;Major;U;-;tombstone @4 was dropped"
      ∷ "Breaking;Major;5"
      ∷ [])
  pub mixed : selected (outcome mended plain_image narrow_image) ≡ 16 ∷ 3 ∷ 2 ∷ 1 ∷ []
  pub mixed_struck : selected (outcome mended narrow_image unstruck_image) ≡ 16 ∷ 3 ∷ 2 ∷ 1 ∷ []
