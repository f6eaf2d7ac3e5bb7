-- The formats of an image, and what each of them stores: R-6, "Widths written out", and R-10, "Struck-off ordinals". Assumes nothing.
use Rattle.std.specs.Prelude.{Bool, ◌&&◌, List, ℕ, leb}
use Rattle.image.specs.Parse.{Parsed, ok, pick}

-- "refusal 3 now means none of 1, 2, 3"
unfoldable pub known : ℕ → Bool
known format = leb 1 format && leb format 3

-- "Image format 2 stores the width"; "Format 3 is format 2 with .."
unfoldable pub has_widths : ℕ → Bool
has_widths format = leb 2 format

-- "Format 3 is format 2 with a u16 count and that many u32 numbers"
unfoldable pub has_tombstones : ℕ → Bool
has_tombstones format = leb 3 format

-- what stands there if the format stores it; if it does not, nothing stands there, and the value is the one that is handed in
unfoldable pub stored : {A : Type 0} → Bool → A → (List ℕ → ℕ → Parsed A) → List ℕ → ℕ → Parsed A
stored stores absent p s at = pick stores (p s at) (ok absent at)
