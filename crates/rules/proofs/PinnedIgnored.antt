-- What is pinned of R-6 and R-10 over byte lists holds, by computation from the definitions alone. Assumes nothing.
use mathlib.Core.Path.{◌≡◌, refl}
use Rattle.std.specs.Prelude.{Option, None, Some}
use mathlib.Core.List.{List, [], ◌∷◌}
use Prim.Native.Nat.{ℕ}
use Rattle.image.specs.Schema.{unmarked, no_type, decl, struck, Schema}
use Rattle.image.specs.Parse.{ok}
use Rattle.image.specs.Image.{read_image}
use Rattle.rules.specs.PinnedImports.{imports_told}
use Rattle.rules.specs.PinnedMended.{mended_told}
use Rattle.rules.specs.Ignored.{stripped_variant, stripped, stripped_schema, SameStripped}
use Rattle.rules.specs.PinnedIgnored.{plain_image, narrow_image, wide_image, unstruck_image, struck_image, PinnedIgnored}
use Rattle.rules.proofs.Refusals.{read_pair}
use Rattle.rules.proofs.Computed.{reads, reports}

-- what the images hold, of a format, widths and the tombstones of E, F, U and v; the bytes of the names are their numbers: E 69, F 70, U 85,
-- a 97, p 112, v 118
abbrev held : ℕ → Option ℕ → Option ℕ → List ℕ → List ℕ → List ℕ → List ℕ → Schema
held format bits wire e f u v = record {
  format = format;
  registry =
      Some (struck (decl 1 (69 ∷ []) unmarked bits [] (record { ordinal = 0; name = 97 ∷ []; fields = []; tombstones = [] } ∷ []) no_type) e)
      ∷ Some (struck (decl 2 (70 ∷ []) unmarked wire [] (record { ordinal = 0; name = 112 ∷ []; fields = []; tombstones = [] } ∷ []) no_type) f)
      ∷ Some (struck (decl 3 (85 ∷ []) unmarked None [] (record { ordinal = 0; name = 118 ∷ []; fields = []; tombstones = v } ∷ []) no_type) u)
      ∷ [];
  ids = 0 ∷ 1 ∷ 2 ∷ [];
  namespace = [];
}

-- without tombstones, and with them
abbrev unstruck : ℕ → Option ℕ → Option ℕ → Schema
unstruck format bits wire = held format bits wire [] [] [] []

abbrev struck_off : Schema
struck_off = held 3 (Some 8) (Some 1) (1 ∷ []) (2 ∷ 3 ∷ []) (4 ∷ []) (5 ∷ [])

plain_read : read_image plain_image ≡ ok (unstruck 1 None None) 68
unfolding reads
plain_read = refl

narrow_read : read_image narrow_image ≡ ok (unstruck 2 (Some 8) (Some 1)) 70
unfolding reads
narrow_read = refl

wide_read : read_image wide_image ≡ ok (unstruck 2 (Some 16) (Some 2)) 70
unfolding reads
wide_read = refl

unstruck_read : read_image unstruck_image ≡ ok (unstruck 3 (Some 8) (Some 1)) 78
unfolding reads
unstruck_read = refl

struck_read : read_image struck_image ≡ ok struck_off 98
unfolding reads
struck_read = refl

formats_same : SameStripped plain_image narrow_image
unfolding stripped_schema stripped stripped_variant
formats_same = read_pair plain_read narrow_read refl

widths_same : SameStripped narrow_image wide_image
unfolding stripped_schema stripped stripped_variant
widths_same = read_pair narrow_read wide_read refl

tombstones_same : SameStripped unstruck_image struck_image
unfolding stripped_schema stripped stripped_variant
tombstones_same = read_pair unstruck_read struck_read refl

all_same : SameStripped plain_image struck_image
unfolding stripped_schema stripped stripped_variant
all_same = read_pair plain_read struck_read refl

pub pinned_ignored : PinnedIgnored
unfolding reports imports_told mended_told
pinned_ignored = assumption (formats_same, widths_same, tombstones_same, all_same)
