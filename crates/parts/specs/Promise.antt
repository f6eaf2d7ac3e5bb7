-- What the crates above may say of an accepted image. Places are positions in the image. `XHere s at` says that an X is well formed at a
-- place, `x_in s at` is its value, `x_end s at` the place after it, `x_place` the place of a part of it; of a place where none stands a
-- value is a default and says nothing. proofs/Promise.antt ties all of them to `schema_of`. Assumes nothing.
use Rattle.std.specs.Prelude.{◌≡◌, Bool, true, false, cond, ◌&&◌, ◌||◌, ℕ, zero, suc, ◌+◌, ◌-◌, ◌≤◌, ◌<◌, eqb, leb}
use Rattle.std.specs.Prelude.{List, [], ◌∷◌, map, length, get_or, take, drop, Option, None, Some, IfSome}
use Rattle.std.specs.Option.{option_map}
use Rattle.image.specs.Codes.{number, body_refusal, enum_kind, flags_kind, impl_kind}
use Rattle.image.specs.Codes.{primitive_tag, sub_byte_tag, semantic_tag, named_tag, fixed_array_tag, bits_tag}
use Rattle.image.specs.Kinds.{Kind, kind_of, message, enum, flags, union, newtype, config, alias, trait, impl, other}
use Rattle.image.specs.Schema.{Name, unmarked, Label, label, Ty, no_type, Field, Variant, Decl, decl, Schema, no_schema}
use Rattle.image.specs.Formats.{has_widths, has_tombstones}
use Rattle.image.specs.Schema.{Encoding as Encoded}
use Rattle.image.specs.Parse.{Parsed, bind, little_endian, byte_at, number_at, many}
use Rattle.image.specs.Names.{name_at, names_at}
use Rattle.image.specs.Types.{label_of, type_of}
use Rattle.image.specs.Fields.{plain, encoding_at, limit_at, field_at, bare_at, variant_at}
use Rattle.image.specs.Tombstones.{tombstones_at}
use Rattle.image.specs.Bodies.{decl_at, body_of}
use Rattle.image.specs.Image.{format, segment_count, segments_at, read_image}
use Rattle.image.specs.WellFormed.{Good, value_or, end_of}
use Rattle.parts.specs.declared.Shape.{Shape}
use Rattle.parts.specs.declared.Shape.TheVariants as shape
use Rattle.parts.specs.declared.Run.{Run}
use Rattle.parts.specs.declared.Encoding.{Encoding}
use Rattle.parts.specs.declared.Coding.{Coding}
use Rattle.parts.specs.declared.Coding.TheVariants as coding

-- the image is accepted, and holds this schema
unfoldable pub Accepted : List ℕ → Type 0
Accepted s = Good (read_image s)

unfoldable pub schema_of : List ℕ → Schema
schema_of s = value_or no_schema (read_image s)

-- of places where none stands
abbrev pub no_label : Label
no_label = label (number primitive_tag) 0 0 []

abbrev pub no_field : Field
no_field = record { ordinal = 0; name = []; marks = unmarked; encoding = plain 0; limit = None; type = no_type }

abbrev pub no_variant : Variant
no_variant = record { ordinal = 0; name = []; fields = []; tombstones = [] }

abbrev pub no_decl : Decl
no_decl = decl (number impl_kind) [] unmarked None [] [] no_type

-- Names.
unfoldable pub NameHere : List ℕ → ℕ → Type 0
NameHere s at = Good (name_at (number body_refusal) s at)

unfoldable pub name_in : List ℕ → ℕ → Name
name_in s at = value_or [] (name_at (number body_refusal) s at)

unfoldable pub name_end : List ℕ → ℕ → ℕ
name_end s at = end_of (name_at (number body_refusal) s at)

-- Things one after the other: the places of so many, from the first one's and what ends one.
unfoldable pub places_by : (ℕ → ℕ) → ℕ → ℕ → List ℕ
places_by end zero at = []
places_by end (suc count) at = at ∷ places_by end count (end at)

unfoldable pub NamesHere : List ℕ → ℕ → ℕ → Type 0
NamesHere s count at = Good (names_at (number body_refusal) count s at)

unfoldable pub name_places : List ℕ → ℕ → ℕ → List ℕ
name_places s count at = places_by (name_end s) count at

-- the names of a run are well formed, if there are any; and these are they
unfoldable pub NamesIn : List ℕ → Run → Type 0
NamesIn s n = 0 < n.count → NamesHere s n.count n.start

unfoldable pub names_in : List ℕ → Run → List Name
names_in s n = map (name_in s) (name_places s n.count n.start)

-- the place after so many names
unfoldable pub names_end : List ℕ → ℕ → ℕ → ℕ
names_end s count at = end_of (names_at (number body_refusal) count s at)

-- so many names stand in a row, and are these
pub record NamesListed (s : List ℕ) (n : Run) (xs : List Name) : Type 0 where
  pub here : NamesHere s n.count n.start
  pub are : xs ≡ map (name_in s) (name_places s n.count n.start)

-- Types. A label is a node without its inner types.
unfoldable pub LabelHere : List ℕ → ℕ → Type 0
LabelHere s at = Good (label_of (drop at s))

unfoldable pub label_in : List ℕ → ℕ → Label
label_in s at = value_or no_label (label_of (drop at s))

-- what its tag has is within document 01's values, and what it has not is 0 or empty
pub record Regular (l : Label) : Type 0 where
  pub most : l.tag ≤ number bits_tag
  pub primitive : l.tag ≡ number primitive_tag → l.first ≤ 13
  pub sign : l.tag ≡ number sub_byte_tag → l.first ≤ 1
  pub bits : l.tag ≡ number sub_byte_tag → (1 ≤ l.second) × (l.second ≤ 64)
  pub semantic : l.tag ≡ number semantic_tag → l.first ≤ 5
  pub first : (number named_tag) < l.tag → (l.tag ≡ number fixed_array_tag → ⊥) → l.first ≡ 0
  pub second : (l.tag ≡ number sub_byte_tag → ⊥) → l.second ≡ 0
  pub names : (l.tag ≡ number bits_tag → ⊥) → l.names ≡ []

-- where the first inner type starts, if there is one
unfoldable pub label_end : List ℕ → ℕ → ℕ
label_end s at = at + end_of (label_of (drop at s))

-- the names of bits
unfoldable pub bits_in : List ℕ → ℕ → Run
bits_in s at = record { start = at + 2; count = get_or s (at + 1) 0 }

-- a type of at most `left` nodes on a path; at most 32 stand anywhere
pub record TypeHere (left : ℕ) (s : List ℕ) (at : ℕ) : Type 0 where
  pub few : left ≤ 32
  pub good : Good (type_of left (drop at s))

unfoldable pub tree_in : List ℕ → ℕ → Ty
tree_in s at = value_or no_type (type_of 32 (drop at s))

unfoldable pub type_end : List ℕ → ℕ → ℕ
type_end s at = at + end_of (type_of 32 (drop at s))

-- Items. A number that is struck off is one, too.
abbrev pub ItemOf : Shape → Type 0
ItemOf shape.Field = Field
ItemOf shape.Bare = Variant
ItemOf shape.Variant = Variant
ItemOf shape.Number = ℕ

-- in a format
unfoldable pub item_at : (h : Shape) → ℕ → List ℕ → ℕ → Parsed (ItemOf h)
item_at shape.Field f = field_at
item_at shape.Bare f = bare_at
item_at shape.Variant f = variant_at f
item_at shape.Number f = number_at 4

unfoldable pub ItemHere : Shape → List ℕ → ℕ → Type 0
ItemHere h s at = Good (item_at h (format s) s at)

unfoldable pub item_end : Shape → List ℕ → ℕ → ℕ
item_end h s at = end_of (item_at h (format s) s at)

unfoldable pub ItemsHere : Shape → List ℕ → ℕ → ℕ → Type 0
ItemsHere h s count at = Good (many (item_at h (format s)) count s at)

-- the place after so many items
unfoldable pub items_end : Shape → List ℕ → ℕ → ℕ → ℕ
items_end h s count at = end_of (many (item_at h (format s)) count s at)

unfoldable pub places_from : Shape → List ℕ → ℕ → ℕ → List ℕ
places_from h s count at = places_by (item_end h s) count at

-- so many items of a shape stand in a row, and are these
pub record ItemsListed (h : Shape) (s : List ℕ) (n : Run) (item : ℕ → ItemOf h) (xs : List (ItemOf h)) : Type 0 where
  pub here : ItemsHere h s n.count n.start
  pub are : xs ≡ map item (places_from h s n.count n.start)

-- a u16 count, and as many items
unfoldable pub items_at : List ℕ → ℕ → Run
items_at s at = record { start = at + 2; count = little_endian 2 (drop at s) }

unfoldable pub bare_in : List ℕ → ℕ → Variant
bare_in s at = value_or no_variant (bare_at s at)

unfoldable pub variant_in : List ℕ → ℕ → Variant
variant_in s at = value_or no_variant (variant_at (format s) s at)

-- the fields of a union's variant
unfoldable pub variant_items : List ℕ → ℕ → Run
variant_items s at = items_at s (name_end s (at + 4))

-- Every item starts with its ordinal; a number that is struck off is nothing else.
unfoldable pub ordinal_in : List ℕ → ℕ → ℕ
ordinal_in s at = little_endian 4 (drop at s)

-- and every other one goes on with its name, as a bare one does
abbrev pub is_named : Shape → Bool
is_named shape.Field = true
is_named shape.Bare = true
is_named shape.Variant = true
is_named shape.Number = false

abbrev pub item_name : List ℕ → ℕ → Name
item_name s at = (bare_in s at).name

-- a number that is struck off
unfoldable pub number_in : List ℕ → ℕ → ℕ
number_in s at = value_or 0 (number_at 4 s at)

-- The numbers that are struck off, after the items of a declaration or of a variant, in a format that stores them.
unfoldable pub Closed : List ℕ → ℕ → Type 0
Closed s at = Good (tombstones_at (format s) s at)

unfoldable pub tombstones_in : List ℕ → ℕ → List ℕ
tombstones_in s at = value_or [] (tombstones_at (format s) s at)

unfoldable pub tombstones_end : List ℕ → ℕ → ℕ
tombstones_end s at = end_of (tombstones_at (format s) s at)

-- where those of a variant stand
unfoldable pub variant_tombstones : List ℕ → ℕ → ℕ
variant_tombstones s at = items_end shape.Field s (variant_items s at).count (variant_items s at).start

-- as items
unfoldable pub tombstone_items : List ℕ → ℕ → Run
tombstone_items s at = cond (has_tombstones (format s)) (items_at s at) (record { start = at; count = 0 })

-- Fields.
unfoldable pub field_in : List ℕ → ℕ → Field
field_in s at = value_or no_field (field_at s at)

-- its parts after the name
unfoldable pub marks_place : List ℕ → ℕ → ℕ
marks_place s at = name_end s (at + 4)

unfoldable pub encoding_place : List ℕ → ℕ → ℕ
encoding_place s at = marks_place s at + 1

unfoldable pub encoding_in : List ℕ → ℕ → Encoded
encoding_in s at = value_or (plain 0) (encoding_at s at)

unfoldable pub limit_place : List ℕ → ℕ → ℕ
limit_place s at = end_of (encoding_at s (encoding_place s at))

unfoldable pub type_place : List ℕ → ℕ → ℕ
type_place s at = end_of (limit_at s (limit_place s at))

-- the code of a coding
abbrev pub coding_number : Coding → ℕ
coding_number coding.Default = 0
coding_number coding.Varint = 1
coding_number coding.Zigzag = 2

-- the value of the code's answer
abbrev pub coding_of : Encoding → Encoded
coding_of e = record { deltas = e.deltas; base = coding_number e.base }

-- Declarations, in the image's format.
unfoldable pub body_at : List ℕ → ℕ → Parsed Decl
body_at s at = bind (byte_at (number body_refusal) s at) (λ kind n. decl_at (format s) (kind_of kind) s n)

unfoldable pub DeclHere : List ℕ → ℕ → Type 0
DeclHere s at = Good (body_at s at)

unfoldable pub decl_in : List ℕ → ℕ → Decl
decl_in s at = value_or no_decl (body_at s at)

-- messages and enums have marks, a byte after the name
unfoldable pub marked : ℕ → Bool
marked kind = leb kind (number enum_kind)

unfoldable pub marks_size : ℕ → ℕ
marks_size kind = cond (marked kind) 1 0

-- and the width of enums and flags, in a format that stores it, is a byte after that
unfoldable pub width_place : List ℕ → ℕ → ℕ
width_place s at = name_end s (at + 1) + marks_size (decl_in s at).kind

unfoldable pub measured : ℕ → Bool
measured kind = eqb kind (number enum_kind) || eqb kind (number flags_kind)

unfoldable pub stores_width : ℕ → ℕ → Bool
stores_width format kind = has_widths format && measured kind

unfoldable pub width_size : ℕ → ℕ → ℕ
width_size format kind = cond (stores_width format kind) 1 0

-- the items of a message, an enum, flags or a union
unfoldable pub items_in : List ℕ → ℕ → Run
items_in s at = items_at s (width_place s at + width_size (format s) (decl_in s at).kind)

-- their shape, by the kind
unfoldable pub shape_by : Kind → Shape
shape_by message = shape.Field
shape_by enum = shape.Bare
shape_by flags = shape.Bare
shape_by union = shape.Variant
shape_by newtype = shape.Bare
shape_by config = shape.Bare
shape_by alias = shape.Bare
shape_by trait = shape.Bare
shape_by impl = shape.Bare
shape_by other = shape.Bare

-- where its tombstones stand, after its items
unfoldable pub tombstones_place : List ℕ → ℕ → ℕ
tombstones_place s at = items_end (shape_by (kind_of (decl_in s at).kind)) s (items_in s at).count (items_in s at).start

-- the type of a newtype
unfoldable pub inner_place : List ℕ → ℕ → ℕ
inner_place s at = name_end s (at + 1)

-- The entry of an id: "An id that is N or more, or whose entry is empty, is unresolvable".
-- Its place, if it has one, stands for the declaration there.
abbrev pub entry_decl : List ℕ → Option ℕ → Option Decl
entry_decl s = option_map (decl_in s)

abbrev pub EntryHere : List ℕ → Option ℕ → Type 0
EntryHere s at = IfSome at (DeclHere s)

pub record Resolved (s : List ℕ) (id : ℕ) (r : Option ℕ) : Type 0 where
  pub value : entry_decl s r ≡ get_or (schema_of s).registry id None
  pub here : EntryHere s r

-- What starts a declaration in any format: its kind, and its name unless it is an impl. Of bytes that need not be a whole image.
pub record StartHere (s : List ℕ) (at : ℕ) : Type 0 where
  pub there : at < length s
  pub kind : get_or s at 0 ≤ number impl_kind
  pub name : ¬ (get_or s at 0 ≡ number impl_kind) → NameHere s (at + 1)

unfoldable pub start_kind : List ℕ → ℕ → ℕ
start_kind s at = get_or s at 0

unfoldable pub start_name : List ℕ → ℕ → Name
start_name s at = cond (eqb (start_kind s at) (number impl_kind)) [] (name_in s (at + 1))

-- so many bytes from a place on, as a list of their own
abbrev pub bytes_in : List ℕ → ℕ → ℕ → List ℕ
bytes_in s from count = take (from + count - from) (drop from s)

-- what these bytes are read as, by the image's format
abbrev pub body_in : List ℕ → ℕ → ℕ → Parsed Decl
body_in s from count = body_of (format s) (bytes_in s from count)

-- bytes of the image that are the declaration of the entry of an id, and nothing more
pub record BodyIn (s : List ℕ) (id from count : ℕ) : Type 0 where
  pub inside : from + count ≤ length s
  pub whole : Good (body_in s from count)
  pub is : get_or (schema_of s).registry id None ≡ Some (value_or no_decl (body_in s from count))
  pub here : StartHere (bytes_in s from count) 0
  pub kind : start_kind (bytes_in s from count) 0 ≡ (value_or no_decl (body_in s from count)).kind
  pub name : start_name (bytes_in s from count) 0 ≡ (value_or no_decl (body_in s from count)).name

-- where the body of the entry of an id lies; no bytes, if the entry is empty
pub record BodyOf (s : List ℕ) (id : ℕ) (r : Run) : Type 0 where
  pub empty : r.count ≡ 0 → get_or (schema_of s).registry id None ≡ None
  pub body : (r.count ≡ 0 → ⊥) → BodyIn s id r.start r.count

-- the namespace's segments
unfoldable pub segments_in : List ℕ → Run
segments_in s = record { start = segments_at s; count = segment_count s }
