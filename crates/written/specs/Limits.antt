-- The schemas within the limits of documents 01 and 02: those that an image can hold, in its format. Assumes nothing.
use Rattle.std.specs.Prelude.{Bool, ◌≡◌, true, false, List, [], ◌∷◌, ℕ, suc, ◌^◌, max, ◌≤◌, ◌<◌, length, Option, None, Some}
use Rattle.image.specs.Codes.{number, message_kind, enum_kind, flags_kind, union_kind, newtype_kind, config_kind, alias_kind, trait_kind, impl_kind, primitive_tag, sub_byte_tag, semantic_tag, named_tag, optional_tag, array_tag, fixed_array_tag, set_tag, map_tag, result_tag, vec2_tag, mat4_tag, bits_tag}
use Rattle.image.specs.Schema.{Name, Marks, unmarked, Encoding, Label, label, Ty, leaf, one, two, Field, Variant, Decl, decl, struck, no_type, Schema}
use Rattle.image.specs.Formats.{has_widths, has_tombstones}
use Rattle.image.specs.Names.{name_bytes}
use Rattle.refusals.specs.Refusals.{Known}
use Rattle.written.specs.Writer.{write}

-- of every element of a list
pub data Each {A : Type 0} (P : A → Type 0) : List A → Type 0 where
  end : Each P []
  also : {x : A} {xs : List A} → P x → Each P xs → Each P (x ∷ xs)

abbrev pub Byte : ℕ → Type 0
Byte b = b < 256

-- as many as a u16 counts
abbrev pub Few : {A : Type 0} → List A → Type 0
Few xs = length xs < 2 ^ 16

abbrev pub U32 : ℕ → Type 0
U32 v = v < 2 ^ 32

abbrev pub U64 : ℕ → Type 0
U64 v = v < 2 ^ 64

-- "0 to 255, and that many letters, digits or `_`"
pub record NameWithin (x : Name) : Type 0 where
  pub short : length x ≤ 255
  pub allowed : name_bytes x ≡ true

-- optional, array and set; vec2 vec3 vec4 quat mat3 mat4
pub data Wrapping (tag : ℕ) : Type 0 where
  optional : tag ≡ number optional_tag → Wrapping tag
  array : tag ≡ number array_tag → Wrapping tag
  set : tag ≡ number set_tag → Wrapping tag
  vector : (number vec2_tag) ≤ tag → tag ≤ number mat4_tag → Wrapping tag

-- the labels of types, by their number of inner types
pub data LabelWithin : ℕ → Label → Type 0 where
  primitive : {a : ℕ} → a ≤ 13 → LabelWithin 0 (label (number primitive_tag) a 0 [])
  sub_byte : {signed width : ℕ} → signed ≤ 1 → 1 ≤ width → width ≤ 64 → LabelWithin 0 (label (number sub_byte_tag) signed width [])
  semantic : {a : ℕ} → a ≤ 5 → LabelWithin 0 (label (number semantic_tag) a 0 [])
  named : {id : ℕ} → U32 id → LabelWithin 0 (label (number named_tag) id 0 [])
  bits : {names : List Name} → length names ≤ 255 → Each NameWithin names → LabelWithin 0 (label (number bits_tag) 0 0 names)
  wrapping : {tag : ℕ} → Wrapping tag → LabelWithin 1 (label tag 0 0 [])
  fixed_array : {k : ℕ} → U64 k → LabelWithin 1 (label (number fixed_array_tag) k 0 [])
  map : LabelWithin 2 (label (number map_tag) 0 0 [])
  result : LabelWithin 2 (label (number result_tag) 0 0 [])

pub data Typed : Ty → Type 0 where
  bare : {l : Label} → LabelWithin 0 l → Typed (leaf l)
  around : {l : Label} {t : Ty} → LabelWithin 1 l → Typed t → Typed (one l t)
  between : {l : Label} {t u : Ty} → LabelWithin 2 l → Typed t → Typed u → Typed (two l t u)

-- the nodes on the longest path from the root
unfoldable pub nodes : Ty → ℕ
nodes (leaf l) = 1
nodes (one l t) = suc (nodes t)
nodes (two l t u) = suc (max (nodes t) (nodes u))

-- "At most 32 nodes on a path from the root."
pub record TypeWithin (t : Ty) : Type 0 where
  pub typed : Typed t
  pub path : nodes t ≤ 32

-- "0 default, 1 varint, 2 zigzag", "at most 8 deltas"
pub record EncodingWithin (e : Encoding) : Type 0 where
  pub deltas : e.deltas ≤ 8
  pub base : e.base ≤ 2

pub data LimitWithin : Option ℕ → Type 0 where
  free : LimitWithin None
  most : {v : ℕ} → U64 v → LimitWithin (Some v)

pub record FieldWithin (f : Field) : Type 0 where
  pub ordinal : U32 f.ordinal
  pub name : NameWithin f.name
  pub encoding : EncodingWithin f.encoding
  pub limit : LimitWithin f.limit
  pub type : TypeWithin f.type

-- a variant of an enum, a bit of flags
pub record BareWithin (v : Variant) : Type 0 where
  pub ordinal : U32 v.ordinal
  pub name : NameWithin v.name
  pub bare : v.fields ≡ []
  pub unstruck : v.tombstones ≡ []

-- What a format stores is as P says; of what it does not store there is none.
pub data StoredWithin {A : Type 0} (stores : Bool) (none : A) (P : A → Type 0) : A → Type 0 where
  absent : stores ≡ false → StoredWithin stores none P none
  present : {x : A} → stores ≡ true → P x → StoredWithin stores none P x

-- "a u16 count and that many u32 numbers"
abbrev pub TombstonesWithin : ℕ → List ℕ → Type 0
TombstonesWithin format ts = StoredWithin (has_tombstones format) [] (λ ts. Few ts × Each U32 ts) ts

-- a variant of a union
pub record VariantWithin (format : ℕ) (v : Variant) : Type 0 where
  pub ordinal : U32 v.ordinal
  pub name : NameWithin v.name
  pub few : Few v.fields
  pub fields : Each FieldWithin v.fields
  pub tombstones : TombstonesWithin format v.tombstones

-- "Image format 2 stores the width": one that is as P says
pub data Wire (P : ℕ → Type 0) : Option ℕ → Type 0 where
  wire : {w : ℕ} → P w → Wire P (Some w)

abbrev pub WidthWithin : ℕ → (ℕ → Type 0) → Option ℕ → Type 0
WidthWithin format P w = StoredWithin (has_widths format) None (Wire P) w

-- "1, 2, 4 or 8"
pub data WireBytes : ℕ → Type 0 where
  in_one : WireBytes 1
  in_two : WireBytes 2
  in_four : WireBytes 4
  in_eight : WireBytes 8

-- a declaration of the first four kinds in which no number is struck off, what the kind has not at its default
pub data OpenWithin (f : ℕ) : Decl → Type 0 where
  message : {x : Name} {m : Marks} {fs : List Field} → NameWithin x → Few fs → Each FieldWithin fs
      → OpenWithin f (decl (number message_kind) x m None fs [] no_type)
  enum : {x : Name} {m : Marks} {w : Option ℕ} {vs : List Variant} → NameWithin x → WidthWithin f Byte w → Few vs → Each BareWithin vs
      → OpenWithin f (decl (number enum_kind) x m w [] vs no_type)
  flags : {x : Name} {w : Option ℕ} {vs : List Variant} → NameWithin x → WidthWithin f WireBytes w → Few vs → Each BareWithin vs
      → OpenWithin f (decl (number flags_kind) x unmarked w [] vs no_type)
  union : {x : Name} {vs : List Variant} → NameWithin x → Few vs → Each (VariantWithin f) vs
      → OpenWithin f (decl (number union_kind) x unmarked None [] vs no_type)

-- a declaration of each kind; only the first four have tombstones
pub data DeclWithin (f : ℕ) : Decl → Type 0 where
  closing : {d : Decl} {ts : List ℕ} → OpenWithin f d → TombstonesWithin f ts → DeclWithin f (struck d ts)
  newtype : {x : Name} {t : Ty} → NameWithin x → TypeWithin t → DeclWithin f (decl (number newtype_kind) x unmarked None [] [] t)
  config : {x : Name} → NameWithin x → DeclWithin f (decl (number config_kind) x unmarked None [] [] no_type)
  alias : {x : Name} → NameWithin x → DeclWithin f (decl (number alias_kind) x unmarked None [] [] no_type)
  trait : {x : Name} → NameWithin x → DeclWithin f (decl (number trait_kind) x unmarked None [] [] no_type)
  impl : DeclWithin f (decl (number impl_kind) [] unmarked None [] [] no_type)

pub data EntryWithin (f : ℕ) : Option Decl → Type 0 where
  empty : EntryWithin f None
  full : {d : Decl} → DeclWithin f d → EntryWithin f (Some d)

-- "N or M over 512, S over 16" is crowded; "image over 32,768 bytes" is long
pub record Within (s : Schema) : Type 0 where
  pub format : Known s.format
  pub entry_count : length s.registry ≤ 512
  pub id_count : length s.ids ≤ 512
  pub segment_count : length s.namespace ≤ 16
  pub entries : Each (EntryWithin s.format) s.registry
  pub ids : Each U32 s.ids
  pub segments : Each NameWithin s.namespace
  pub whole : length (write s) ≤ 32768
