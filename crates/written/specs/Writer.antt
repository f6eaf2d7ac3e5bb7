-- The format from the other side: the bytes of a schema, in document 01's words and order, with R-6's widths and R-10's tombstones. Assumes nothing.
use Rattle.std.specs.Prelude.{Bool, true, false, List, [], ◌∷◌, ◌++◌, ℕ, zero, suc, ◌+◌, ◌*◌, ◌/◌, ◌%◌, length, replicate, Option, None, Some}
use Rattle.image.specs.Formats.{has_widths, has_tombstones}
use Rattle.image.specs.Kinds.{Kind, message, enum, flags, union, newtype, config, alias, trait, impl, other, kind_of}
use Rattle.image.specs.Schema.{Name, Marks, Encoding, Label, Ty, leaf, one, two, Field, Variant, Decl, Schema}
use Rattle.image.specs.Types.{Follows, code, sub_byte, identity, size, nothing, bits, unknown, follows_tag}

-- "Numbers are little-endian and unsigned": a number in w bytes
unfoldable pub digits : ℕ → ℕ → List ℕ
digits zero v = []
digits (suc w) v = v % 256 ∷ digits w (v / 256)

-- one after the other; and after a u16 count
unfoldable pub write_each : {A : Type 0} → (A → List ℕ) → List A → List ℕ
write_each w [] = []
write_each w (x ∷ xs) = w x ++ write_each w xs

unfoldable pub write_counted : {A : Type 0} → (A → List ℕ) → List A → List ℕ
write_counted w xs = digits 2 (length xs) ++ write_each w xs

-- "A name is a u8 length, 0 to 255, and that many letters, digits or `_`."
unfoldable pub write_name : Name → List ℕ
write_name x = length x ∷ x

-- "Marks are a u8: bit 0 deprecated, bit 1 non-exhaustive"
unfoldable pub bit : Bool → ℕ
bit true = 1
bit false = 0

unfoldable pub marks_byte : Marks → ℕ
marks_byte m = bit m.deprecated + 2 * bit m.non_exhaustive

-- "Encoding: 0 default, 1 varint, 2 zigzag, 3 delta and an inner encoding"
unfoldable pub write_encoding : Encoding → List ℕ
write_encoding e = replicate e.deltas 3 ++ e.base ∷ []

-- "u8 0 or 1 for a limit (1: u64 follows)"
unfoldable pub write_limit : Option ℕ → List ℕ
write_limit None = 0 ∷ []
write_limit (Some v) = 1 ∷ digits 8 v

-- "A type starts with a u8 tag", and what follows it
unfoldable pub write_after : Follows → Label → List ℕ
write_after (code highest) l = l.first ∷ []
write_after sub_byte l = l.first ∷ l.second ∷ []
write_after identity l = digits 4 l.first
write_after size l = digits 8 l.first
write_after nothing l = []
write_after bits l = length l.names ∷ write_each write_name l.names
write_after unknown l = []

unfoldable pub write_label : Label → List ℕ
write_label l = l.tag ∷ write_after (follows_tag l.tag) l

unfoldable pub write_type : Ty → List ℕ
write_type (leaf l) = write_label l
write_type (one l t) = write_label l ++ write_type t
write_type (two l t u) = write_label l ++ (write_type t ++ write_type u)

-- "Field: u32 ordinal, name, marks, encoding, .. limit .., type."
unfoldable pub write_field : Field → List ℕ
write_field f =
    digits 4 f.ordinal
    ++ (write_name f.name
    ++ (marks_byte f.marks ∷ (write_encoding f.encoding
    ++ (write_limit f.limit
    ++ write_type f.type))))

-- "u32 ordinal and name", "u32 bit and name"
unfoldable pub write_bare : Variant → List ℕ
write_bare v = digits 4 v.ordinal ++ write_name v.name

-- what a format stores; nothing of what it does not
unfoldable pub write_stored : {A : Type 0} → Bool → (A → List ℕ) → A → List ℕ
write_stored true w x = w x
write_stored false w x = []

-- "a u8 of wire bits after an enum's marks, a u8 of wire bytes .. after a flags name"
unfoldable pub write_wire : Option ℕ → List ℕ
write_wire None = []
write_wire (Some w) = w ∷ []

unfoldable pub write_width : ℕ → Option ℕ → List ℕ
write_width format w = write_stored (has_widths format) write_wire w

-- "a u16 count and that many u32 numbers"
unfoldable pub write_tombstones : ℕ → List ℕ → List ℕ
write_tombstones format ts = write_stored (has_tombstones format) (write_counted (digits 4)) ts

-- "u32 ordinal, name, u16 count, fields", and its tombstones
unfoldable pub write_variant : ℕ → Variant → List ℕ
write_variant format v =
    digits 4 v.ordinal ++ (write_name v.name ++ (write_counted write_field v.fields ++ write_tombstones format v.tombstones))

-- the first four kinds without their tombstones: name, marks, width and items
unfoldable pub write_message : Decl → List ℕ
write_message d = write_name d.name ++ (marks_byte d.marks ∷ write_counted write_field d.fields)

unfoldable pub write_enum : ℕ → Decl → List ℕ
write_enum format d = write_name d.name ++ (marks_byte d.marks ∷ (write_width format d.width ++ write_counted write_bare d.variants))

unfoldable pub write_flags : ℕ → Decl → List ℕ
write_flags format d = write_name d.name ++ (write_width format d.width ++ write_counted write_bare d.variants)

unfoldable pub write_union : ℕ → Decl → List ℕ
write_union format d = write_name d.name ++ write_counted (write_variant format) d.variants

-- "closing each message, enum, flags, union"
unfoldable pub write_closed : ℕ → (Decl → List ℕ) → Decl → List ℕ
write_closed format w d = w d ++ write_tombstones format d.tombstones

-- what follows the kind
unfoldable pub write_decl : ℕ → Kind → Decl → List ℕ
write_decl format message d = write_closed format write_message d
write_decl format enum d = write_closed format (write_enum format) d
write_decl format flags d = write_closed format (write_flags format) d
write_decl format union d = write_closed format (write_union format) d
write_decl format newtype d = write_name d.name ++ write_type d.inner
write_decl format config d = write_name d.name
write_decl format alias d = write_name d.name
write_decl format trait d = write_name d.name
write_decl format impl d = []
write_decl format other d = []

-- "A body is a u8 kind, then .."
unfoldable pub write_body : ℕ → Decl → List ℕ
write_body format d = d.kind ∷ write_decl format (kind_of d.kind) d

-- the body of an entry, none for an empty one
unfoldable pub write_entry : ℕ → Option Decl → List ℕ
write_entry format None = []
write_entry format (Some d) = write_body format d

-- "N pairs of u16 offset (from the image's first byte) and u16 length, 0 and 0 for an empty entry", of bodies that start at `at`
unfoldable pub write_contents : ℕ → List (Option Decl) → ℕ → List ℕ
write_contents format [] at = []
write_contents format (None ∷ es) at = digits 2 0 ++ (digits 2 0 ++ write_contents format es at)
write_contents format (Some d ∷ es) at =
    let size = length (write_body format d) in digits 2 at ++ (digits 2 size ++ write_contents format es (at + size))

-- "Head: u16 format ..; u16 N registry entries; u16 M declaration ids; u16 S namespace segments."
unfoldable pub write_head : Schema → List ℕ
write_head s = digits 2 s.format ++ (digits 2 (length s.registry) ++ (digits 2 (length s.ids) ++ digits 2 (length s.namespace)))

-- where the bodies start
unfoldable pub bodies_at : Schema → ℕ
bodies_at s = 8 + 4 * length s.registry + 4 * length s.ids + length (write_each write_name s.namespace)

-- head, contents, ids, namespace, bodies
unfoldable pub write : Schema → List ℕ
write s =
    write_head s
    ++ (write_contents s.format s.registry (bodies_at s)
    ++ (write_each (digits 4) s.ids
    ++ (write_each write_name s.namespace
    ++ write_each (write_entry s.format) s.registry)))
