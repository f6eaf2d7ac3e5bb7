-- The wire widths of enums and flags: R-6, "Image format 2 stores the width". Assumes nothing.
use Rattle.std.specs.Prelude.{Option, None, Some}
use Rattle.std.specs.Prelude.{Bool, ◌||◌, List, ℕ, eqb}
use Rattle.image.specs.Codes.{number, body_refusal, code_refusal}
use Rattle.image.specs.Formats.{has_widths, stored}
use Rattle.image.specs.Parse.{Parsed, ok, bind, need, byte_at}

-- "a u8 of wire bits after an enum's marks": any
unfoldable pub wire_bits_at : List ℕ → ℕ → Parsed ℕ
wire_bits_at s at = byte_at (number body_refusal) s at

-- "a u8 of wire bytes (1, 2, 4 or 8) after a flags name"; "a flags width outside the four is 9"
unfoldable pub wire_bytes : ℕ → Bool
wire_bytes b = eqb b 1 || (eqb b 2 || (eqb b 4 || eqb b 8))

unfoldable pub wire_bytes_at : List ℕ → ℕ → Parsed ℕ
wire_bytes_at s at = bind (byte_at (number body_refusal) s at) (λ b n. need (wire_bytes b) (number code_refusal) (ok b n))

-- the width that stands there in a format that stores it; in another one none does
unfoldable pub width_at : ℕ → (List ℕ → ℕ → Parsed ℕ) → List ℕ → ℕ → Parsed (Option ℕ)
width_at format wire s at = stored (has_widths format) None (λ s at. bind (wire s at) (λ w n. ok (Some w) n)) s at
