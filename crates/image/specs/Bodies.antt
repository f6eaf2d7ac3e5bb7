-- Bodies: "A body is a u8 kind, then ..". What a body holds depends on the format, which is handed in. Assumes nothing.
use Rattle.std.specs.Prelude.{List, [], ℕ, eqb, length}
use Rattle.std.specs.Prelude.{None}
use Rattle.image.specs.Codes.{number, kind_refusal, body_refusal}
use Rattle.image.specs.Codes.{message_kind, enum_kind, flags_kind, union_kind, newtype_kind, config_kind, alias_kind, trait_kind, impl_kind}
use Rattle.image.specs.Kinds.{Kind, message, enum, flags, union, newtype, config, alias, trait, impl, other, kind_of}
use Rattle.image.specs.Schema.{Decl, decl, struck, unmarked, no_type}
use Rattle.image.specs.Parse.{Parsed, ok, no, bind, need, byte_at, counted}
use Rattle.image.specs.Names.{name_at}
use Rattle.image.specs.Types.{type_at}
use Rattle.image.specs.Fields.{marks_at, field_at, bare_at, variant_at}
use Rattle.image.specs.Widths.{wire_bits_at, wire_bytes_at, width_at}
use Rattle.image.specs.Tombstones.{tombstones_at}

-- 0 message: name, marks, u16 count, fields
unfoldable pub message_at : List ℕ → ℕ → Parsed Decl
message_at s at =
    bind (name_at (number body_refusal) s at) (λ x n₁.
    bind (marks_at s n₁) (λ m n₂.
    bind (counted field_at s n₂) (λ fs n₃.
    ok (decl (number message_kind) x m None fs [] no_type) n₃)))

-- 1 enum: name, marks, width in wire bits, u16 count, then u32 ordinal and name each
unfoldable pub enum_at : ℕ → List ℕ → ℕ → Parsed Decl
enum_at format s at =
    bind (name_at (number body_refusal) s at) (λ x n₁.
    bind (marks_at s n₁) (λ m n₂.
    bind (width_at format wire_bits_at s n₂) (λ w n₃.
    bind (counted bare_at s n₃) (λ vs n₄.
    ok (decl (number enum_kind) x m w [] vs no_type) n₄))))

-- 2 flags: name, width in wire bytes, u16 count, then u32 bit and name each
unfoldable pub flags_at : ℕ → List ℕ → ℕ → Parsed Decl
flags_at format s at =
    bind (name_at (number body_refusal) s at) (λ x n₁.
    bind (width_at format wire_bytes_at s n₁) (λ w n₂.
    bind (counted bare_at s n₂) (λ vs n₃.
    ok (decl (number flags_kind) x unmarked w [] vs no_type) n₃)))

-- 3 union: name, u16 count, then u32 ordinal, name, u16 count, fields each
unfoldable pub union_at : ℕ → List ℕ → ℕ → Parsed Decl
union_at format s at =
    bind (name_at (number body_refusal) s at) (λ x n₁.
    bind (counted (variant_at format) s n₁) (λ vs n₂.
    ok (decl (number union_kind) x unmarked None [] vs no_type) n₂))

-- 4 newtype: name, type
unfoldable pub newtype_at : List ℕ → ℕ → Parsed Decl
newtype_at s at =
    bind (name_at (number body_refusal) s at) (λ x n₁.
    bind (type_at s n₁) (λ t n₂.
    ok (decl (number newtype_kind) x unmarked None [] [] t) n₂))

-- 5 config, 6 generic alias, 7 trait: name
unfoldable pub other_at : ℕ → List ℕ → ℕ → Parsed Decl
other_at kind s at = bind (name_at (number body_refusal) s at) (λ x n. ok (decl kind x unmarked None [] [] no_type) n)

-- 8 impl: nothing; its name is empty
unfoldable pub impl_at : List ℕ → ℕ → Parsed Decl
impl_at s at = ok (decl (number impl_kind) [] unmarked None [] [] no_type) at

-- "closing each message, enum, flags, union": what a parser gives, with its tombstones
unfoldable pub closed : ℕ → (List ℕ → ℕ → Parsed Decl) → List ℕ → ℕ → Parsed Decl
closed format p s at = bind (p s at) (λ d n. bind (tombstones_at format s n) (λ ts m. ok (struck d ts) m))

-- what follows the kind
unfoldable pub decl_at : ℕ → Kind → List ℕ → ℕ → Parsed Decl
decl_at format message s at = closed format message_at s at
decl_at format enum s at = closed format (enum_at format) s at
decl_at format flags s at = closed format (flags_at format) s at
decl_at format union s at = closed format (union_at format) s at
decl_at format newtype s at = newtype_at s at
decl_at format config s at = other_at (number config_kind) s at
decl_at format alias s at = other_at (number alias_kind) s at
decl_at format trait s at = other_at (number trait_kind) s at
decl_at format impl s at = impl_at s at
decl_at format other s at = no (number kind_refusal)

-- a whole body: nothing is left
unfoldable pub body_of : ℕ → List ℕ → Parsed Decl
body_of format s =
    bind (byte_at (number body_refusal) s 0) (λ kind n₁.
    bind (decl_at format (kind_of kind) s n₁) (λ d n₂.
    need (eqb n₂ (length s)) (number body_refusal) (ok d n₂)))
