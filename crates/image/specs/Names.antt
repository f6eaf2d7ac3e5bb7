-- Names: "A name is a u8 length, 0 to 255, and that many letters, digits or `_` (ASCII)." Assumes nothing.
use Rattle.std.specs.Prelude.{Bool, true, ◌&&◌, ◌||◌, List, [], ◌∷◌, ℕ, ◌+◌, leb, eqb, length}
use Rattle.image.specs.Codes.{number, name_refusal}
use Rattle.image.specs.Schema.{Name}
use Rattle.image.specs.Parse.{Parsed, ok, bind, need, part, byte_at, many}

-- a small letter, a capital, a digit or `_`
unfoldable pub name_byte : ℕ → Bool
name_byte b = (leb 97 b && leb b 122) || (leb 65 b && leb b 90) || (leb 48 b && leb b 57) || eqb b 95

unfoldable pub name_bytes : List ℕ → Bool
name_bytes [] = true
name_bytes (b ∷ s) = name_byte b && name_bytes s

-- "Length of a name before its bytes": whether the bytes are there, then whether each is allowed.
-- `short` is the refusal where they are not: `short_head_refusal` in the namespace, `body_refusal` in a body.
unfoldable pub name_at : ℕ → List ℕ → ℕ → Parsed Name
name_at short s at =
    bind (byte_at short s at) (λ k n.
    need (leb (n + k) (length s)) short
    (need (name_bytes (part n k s)) (number name_refusal)
    (ok (part n k s) (n + k))))

unfoldable pub names_at : ℕ → ℕ → List ℕ → ℕ → Parsed (List Name)
names_at short count s at = many (name_at short) count s at
