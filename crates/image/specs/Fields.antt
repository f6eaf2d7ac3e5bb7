-- Marks, encodings and limits, and the items of a body: fields, variants, bits. Assumes nothing.
use Rattle.std.specs.Prelude.{Option, None, Some}
use Rattle.std.specs.Prelude.{List, [], ℕ, zero, suc, ◌/◌, ◌%◌, eqb}
use Rattle.image.specs.Codes.{number, body_refusal, deep_refusal}
use Rattle.image.specs.Schema.{Marks, Encoding, Field, Variant}
use Rattle.image.specs.Parse.{Parsed, ok, no, bind, pick, code_at, number_at, counted}
use Rattle.image.specs.Names.{name_at}
use Rattle.image.specs.Types.{type_at}
use Rattle.image.specs.Tombstones.{tombstones_at}

-- "Marks are a u8: bit 0 deprecated, bit 1 non-exhaustive, others 0, both bits allowed everywhere."
unfoldable pub marks_of : ℕ → Marks
marks_of b = record { deprecated = eqb (b % 2) 1; non_exhaustive = eqb (b / 2) 1 }

unfoldable pub marks_at : List ℕ → ℕ → Parsed Marks
marks_at s at = bind (code_at 0 3 s at) (λ b n. ok (marks_of b) n)

-- "Encoding: 0 default, 1 varint, 2 zigzag, 3 delta and an inner encoding; at most 8 deltas."
unfoldable pub plain : ℕ → Encoding
plain base = record { deltas = 0; base = base }

unfoldable pub delta : Encoding → Encoding
delta e = record { deltas = suc e.deltas; base = e.base }

-- an encoding of at most `left` deltas; one more is refused on reading its byte
unfoldable pub encoding_of : ℕ → List ℕ → ℕ → Parsed Encoding
encoding_of zero s at = bind (code_at 0 3 s at) (λ b n. pick (eqb b 3) (no (number deep_refusal)) (ok (plain b) n))
encoding_of (suc left) s at =
    bind (code_at 0 3 s at) (λ b n.
    pick (eqb b 3) (bind (encoding_of left s n) (λ e m. ok (delta e) m)) (ok (plain b) n))

unfoldable pub encoding_at : List ℕ → ℕ → Parsed Encoding
encoding_at s at = encoding_of 8 s at

-- "u8 0 or 1 for a limit (1: u64 follows)"
unfoldable pub limit_at : List ℕ → ℕ → Parsed (Option ℕ)
limit_at s at = bind (code_at 0 1 s at) (λ b n. pick (eqb b 0) (ok None n) (bind (number_at 8 s n) (λ v m. ok (Some v) m)))

-- "Field: u32 ordinal, name, marks, encoding, .. limit .., type."
unfoldable pub field_at : List ℕ → ℕ → Parsed Field
field_at s at =
    bind (number_at 4 s at) (λ o n₁.
    bind (name_at (number body_refusal) s n₁) (λ x n₂.
    bind (marks_at s n₂) (λ m n₃.
    bind (encoding_at s n₃) (λ e n₄.
    bind (limit_at s n₄) (λ l n₅.
    bind (type_at s n₅) (λ t n₆.
    ok (record { ordinal = o; name = x; marks = m; encoding = e; limit = l; type = t }) n₆))))))

-- a variant of an enum or a bit of flags: "u32 ordinal and name", "u32 bit and name"
unfoldable pub bare_at : List ℕ → ℕ → Parsed Variant
bare_at s at =
    bind (number_at 4 s at) (λ o n₁.
    bind (name_at (number body_refusal) s n₁) (λ x n₂.
    ok (record { ordinal = o; name = x; fields = []; tombstones = [] }) n₂))

-- a variant of a union: "u32 ordinal, name, u16 count, fields", and its tombstones
unfoldable pub variant_at : ℕ → List ℕ → ℕ → Parsed Variant
variant_at format s at =
    bind (number_at 4 s at) (λ o n₁.
    bind (name_at (number body_refusal) s n₁) (λ x n₂.
    bind (counted field_at s n₂) (λ fs n₃.
    bind (tombstones_at format s n₃) (λ ts n₄.
    ok (record { ordinal = o; name = x; fields = fs; tombstones = ts }) n₄))))
