-- What an image holds, as values. Assumes nothing.
use Rattle.std.specs.Prelude.{Bool, false, List, [], ℕ}
use Rattle.std.specs.Prelude.{Option}
use Rattle.image.specs.Codes.{number, primitive_tag}

-- a name is its bytes
abbrev pub Name : Type 0
Name = List ℕ

pub record Marks : Type 0 where
  pub deprecated : Bool
  pub non_exhaustive : Bool

-- of what has no marks
abbrev pub unmarked : Marks
unmarked = record { deprecated = false; non_exhaustive = false }

-- a number of deltas around a code: 0 default, 1 varint, 2 zigzag
pub record Encoding : Type 0 where
  pub deltas : ℕ
  pub base : ℕ

-- A node of a type without its inner types. `first` is a primitive's or a semantic's code, whether a sub-byte is signed, the id of a
-- named type, the size of a fixed array; `second` a sub-byte's bits; `names` those of bits. What a tag has not is 0 or empty.
pub record Label : Type 0 where
  pub tag : ℕ
  pub first : ℕ
  pub second : ℕ
  pub names : List Name

abbrev pub label : ℕ → ℕ → ℕ → List Name → Label
label tag first second names = record { tag = tag; first = first; second = second; names = names }

-- a type is a label and as many inner types as its tag has
pub data Ty : Type 0 where
  leaf : Label → Ty
  one : Label → Ty → Ty
  two : Label → Ty → Ty → Ty

pub record Field : Type 0 where
  pub ordinal : ℕ
  pub name : Name
  pub marks : Marks
  pub encoding : Encoding
  pub limit : Option ℕ
  pub type : Ty

-- A variant of an enum, a bit of flags (its ordinal is the bit) or a variant of a union; only the last has fields, and tombstones in a
-- format that stores them: the numbers that are struck off in it.
pub record Variant : Type 0 where
  pub ordinal : ℕ
  pub name : Name
  pub fields : List Field
  pub tombstones : List ℕ

-- A declaration; its kind is the number that the image has (Kinds).
-- A message has fields; an enum, flags and a union have variants; a newtype has an inner type. Enums and flags have a width in a format
-- that stores it: wire bits or wire bytes. The first four have tombstones in a format that stores them. What a kind has not is `unmarked`,
-- none, empty or `no_type`, and nothing reads it.
pub record Decl : Type 0 where
  pub kind : ℕ
  pub name : Name
  pub marks : Marks
  pub width : Option ℕ
  pub fields : List Field
  pub variants : List Variant
  pub inner : Ty
  pub tombstones : List ℕ

abbrev pub no_type : Ty
no_type = leaf (label (number primitive_tag) 0 0 [])

-- of which no number is struck off
abbrev pub decl : ℕ → Name → Marks → Option ℕ → List Field → List Variant → Ty → Decl
decl kind name marks width fields variants inner =
    record { kind = kind; name = name; marks = marks; width = width; fields = fields; variants = variants; inner = inner; tombstones = [] }

-- the declaration with these numbers struck off
abbrev pub struck : Decl → List ℕ → Decl
struck d numbers =
    record { kind = d.kind; name = d.name; marks = d.marks; width = d.width; fields = d.fields; variants = d.variants; inner = d.inner; tombstones = numbers }

-- the format is the number in the head; entry i of the registry is the declaration with id i, or is empty
pub record Schema : Type 0 where
  pub format : ℕ
  pub registry : List (Option Decl)
  pub ids : List ℕ
  pub namespace : List Name

-- of bytes that hold none
abbrev pub no_schema : Schema
no_schema = record { format = 0; registry = []; ids = []; namespace = [] }
