-- Document 01's image of `ride`, one of format 2 with widths and one of format 3 with tombstones, by computation: each is accepted and holds
-- its schema, and damaged copies of them give each number that a short image can give. Imports definitions only. Assumes nothing.
use mathlib.Core.Path.{◌≡◌, refl}
use mathlib.Core.Bool.{true, false}
use Rattle.std.specs.Prelude.{None, Some}
use mathlib.Core.List.{List, [], ◌∷◌, ◌++◌, map}
use Prim.Native.Nat.{ℕ}
use lib.ListN.{take, set, replicate}
use Rattle.image.specs.Schema.{Field, Variant, Schema, Marks, unmarked, label, leaf, no_type, decl, struck}
use Rattle.image.specs.Parse.{Parsed, ok, no, bind, pick, shift, within, part, byte_at, code_at, little_endian, number_at, many, counted}
use Rattle.image.specs.Names.{name_byte, name_bytes, name_at, names_at}
use Rattle.image.specs.Types.{follows_tag, inner_types, after_tag, label_of, inner_at, type_of, type_at}
use Rattle.image.specs.Fields.{marks_of, marks_at, plain, delta, encoding_of, encoding_at, limit_at, field_at, bare_at, variant_at}
use Rattle.image.specs.Kinds.{kind_of}
use Rattle.image.specs.Formats.{known, has_widths, has_tombstones, stored}
use Rattle.image.specs.Widths.{wire_bits_at, wire_bytes, wire_bytes_at, width_at}
use Rattle.image.specs.Tombstones.{tombstones_at}
use Rattle.image.specs.Bodies.{message_at, enum_at, flags_at, union_at, closed, decl_at, body_of}
use Rattle.image.specs.Image.{u16_at, format, entry_count, id_count, segment_count, entry_offset, entry_length, ids_at, segments_at, ids_from, head_of, tables_of, laid, entry_of, entries_of, read_image}
use Rattle.image.specs.Reads.{refusal}
use Rattle.written.specs.Writer.{digits, write_each, write_counted, write_name, bit, marks_byte, write_encoding, write_limit, write_after, write_label, write_type, write_field, write_bare, write_stored, write_wire, write_width, write_tombstones, write_variant, write_message, write_enum, write_flags, write_union, write_closed, write_decl, write_body, write_entry, write_contents, write_head, bodies_at, write}
use Rattle.image.specs.Words.{bytes}

-- the bytes as 01 prints them
abbrev pub ride : List ℕ
ride =
    0x01 ∷ 0x00 ∷ 0x01 ∷ 0x00 ∷ 0x01 ∷ 0x00 ∷ 0x01 ∷ 0x00 ∷ 0x15 ∷ 0x00 ∷ 0x19 ∷ 0x00 ∷ 0x00 ∷ 0x00 ∷ 0x00 ∷ 0x00 ∷ 0x04 ∷ 0x72 ∷ 0x69 ∷
    0x64 ∷ 0x65 ∷ 0x00 ∷ 0x05 ∷ 0x44 ∷ 0x72 ∷ 0x69 ∷ 0x76 ∷ 0x65 ∷ 0x00 ∷ 0x01 ∷ 0x00 ∷ 0x00 ∷ 0x00 ∷ 0x00 ∷ 0x00 ∷ 0x05 ∷ 0x73 ∷ 0x70 ∷
    0x65 ∷ 0x65 ∷ 0x64 ∷ 0x00 ∷ 0x00 ∷ 0x00 ∷ 0x00 ∷ 0x02 ∷ []

-- "`speed` u16 at 0"
speed : Field
unfolding bytes plain
speed =
    record { ordinal = 0; name = bytes "speed"; marks = unmarked; encoding = plain 0; limit = None; type = leaf (label 0 2 0 []) }

-- "Image of `ride`, message `Drive`"
pub ride_schema : Schema
unfolding bytes
ride_schema =
    record {
      format = 1;
      registry = Some (decl 0 (bytes "Drive") unmarked None (speed ∷ []) [] no_type) ∷ [];
      ids = 0 ∷ [];
      namespace = bytes "ride" ∷ [];
    }

-- format 2: an enum `Gear` of 8 wire bits and flags `Lamps` of 2 wire bytes, the widths at 36 and 55
abbrev pub park : List ℕ
park =
    0x02 ∷ 0x00 ∷ 0x02 ∷ 0x00 ∷ 0x02 ∷ 0x00 ∷ 0x01 ∷ 0x00 ∷ 0x1d ∷ 0x00 ∷ 0x13 ∷ 0x00 ∷ 0x30 ∷ 0x00 ∷ 0x1a ∷ 0x00 ∷ 0x00 ∷ 0x00 ∷ 0x00 ∷
    0x00 ∷ 0x01 ∷ 0x00 ∷ 0x00 ∷ 0x00 ∷ 0x04 ∷ 0x72 ∷ 0x69 ∷ 0x64 ∷ 0x65 ∷ 0x01 ∷ 0x04 ∷ 0x47 ∷ 0x65 ∷ 0x61 ∷ 0x72 ∷ 0x02 ∷ 0x08 ∷ 0x01 ∷
    0x00 ∷ 0x00 ∷ 0x00 ∷ 0x00 ∷ 0x00 ∷ 0x04 ∷ 0x70 ∷ 0x61 ∷ 0x72 ∷ 0x6b ∷ 0x02 ∷ 0x05 ∷ 0x4c ∷ 0x61 ∷ 0x6d ∷ 0x70 ∷ 0x73 ∷ 0x02 ∷ 0x02 ∷
    0x00 ∷ 0x00 ∷ 0x00 ∷ 0x00 ∷ 0x00 ∷ 0x03 ∷ 0x6c ∷ 0x6f ∷ 0x77 ∷ 0x08 ∷ 0x00 ∷ 0x00 ∷ 0x00 ∷ 0x03 ∷ 0x66 ∷ 0x6f ∷ 0x67 ∷ []

item : ℕ → List ℕ → Variant
item o x = record { ordinal = o; name = x; fields = []; tombstones = [] }

open_marks : Marks
open_marks = record { deprecated = false; non_exhaustive = true }

pub park_schema : Schema
unfolding bytes item open_marks
park_schema =
    record {
      format = 2;
      registry =
          Some (decl 1 (bytes "Gear") open_marks (Some 8) [] (item 0 (bytes "park") ∷ []) no_type)
          ∷ Some (decl 2 (bytes "Lamps") unmarked (Some 2) [] (item 0 (bytes "low") ∷ item 8 (bytes "fog") ∷ []) no_type)
          ∷ [];
      ids = 0 ∷ 1 ∷ [];
      namespace = bytes "ride" ∷ [];
    }

-- format 3: the message `Drive`, in which 1 is struck off; and a union `Halt`, in which 0 and 4,000,000,000 are, with a variant `stop` in which
-- 3 is. The counts stand at 54, 100 and 94.
abbrev pub halt : List ℕ
halt =
    0x03 ∷ 0x00 ∷ 0x02 ∷ 0x00 ∷ 0x02 ∷ 0x00 ∷ 0x01 ∷ 0x00 ∷ 0x1d ∷ 0x00 ∷ 0x1f ∷ 0x00 ∷ 0x3c ∷ 0x00 ∷ 0x32 ∷ 0x00 ∷ 0x00 ∷ 0x00 ∷ 0x00 ∷
    0x00 ∷ 0x01 ∷ 0x00 ∷ 0x00 ∷ 0x00 ∷ 0x04 ∷ 0x72 ∷ 0x69 ∷ 0x64 ∷ 0x65 ∷ 0x00 ∷ 0x05 ∷ 0x44 ∷ 0x72 ∷ 0x69 ∷ 0x76 ∷ 0x65 ∷ 0x00 ∷ 0x01 ∷
    0x00 ∷ 0x00 ∷ 0x00 ∷ 0x00 ∷ 0x00 ∷ 0x05 ∷ 0x73 ∷ 0x70 ∷ 0x65 ∷ 0x65 ∷ 0x64 ∷ 0x00 ∷ 0x00 ∷ 0x00 ∷ 0x00 ∷ 0x02 ∷ 0x01 ∷ 0x00 ∷ 0x01 ∷
    0x00 ∷ 0x00 ∷ 0x00 ∷ 0x03 ∷ 0x04 ∷ 0x48 ∷ 0x61 ∷ 0x6c ∷ 0x74 ∷ 0x01 ∷ 0x00 ∷ 0x02 ∷ 0x00 ∷ 0x00 ∷ 0x00 ∷ 0x04 ∷ 0x73 ∷ 0x74 ∷ 0x6f ∷
    0x70 ∷ 0x01 ∷ 0x00 ∷ 0x00 ∷ 0x00 ∷ 0x00 ∷ 0x00 ∷ 0x05 ∷ 0x73 ∷ 0x70 ∷ 0x65 ∷ 0x65 ∷ 0x64 ∷ 0x00 ∷ 0x00 ∷ 0x00 ∷ 0x00 ∷ 0x02 ∷ 0x01 ∷
    0x00 ∷ 0x03 ∷ 0x00 ∷ 0x00 ∷ 0x00 ∷ 0x02 ∷ 0x00 ∷ 0x00 ∷ 0x00 ∷ 0x00 ∷ 0x00 ∷ 0x00 ∷ 0x28 ∷ 0x6b ∷ 0xee ∷ []

pub halt_schema : Schema
unfolding bytes speed
halt_schema =
    record {
      format = 3;
      registry =
          Some (struck (decl 0 (bytes "Drive") unmarked None (speed ∷ []) [] no_type) (1 ∷ []))
          ∷ Some (struck (decl 3 (bytes "Halt") unmarked None [] (stop ∷ []) no_type) (0 ∷ 4000000000 ∷ []))
          ∷ [];
      ids = 0 ∷ 1 ∷ [];
      namespace = bytes "ride" ∷ [];
    }
  where
    stop : Variant
    stop = record { ordinal = 2; name = bytes "stop"; fields = speed ∷ []; tombstones = 3 ∷ [] }

-- What is unfolded where an image is computed: whoever unfolds this unfolds all that its line names.
whole : List ℕ → Parsed Schema
unfolding read_image entries_of entry_of laid tables_of head_of ids_from segments_at ids_at entry_length entry_offset segment_count id_count entry_count format u16_at known body_of kind_of decl_at closed message_at enum_at flags_at union_at tombstones_at has_tombstones width_at has_widths stored wire_bits_at wire_bytes_at wire_bytes variant_at bare_at field_at limit_at encoding_at encoding_of delta plain marks_at marks_of type_at type_of inner_at label_of after_tag inner_types follows_tag names_at name_at name_bytes name_byte counted many number_at little_endian code_at byte_at part within shift pick bind bytes speed ride_schema item open_marks park_schema halt_schema
whole s = read_image s

pub ride_accepted : read_image ride ≡ ok ride_schema 46
unfolding whole
ride_accepted = refl

-- and it is what is written of it
pub ride_written : write ride_schema ≡ ride
unfolding write write_head write_contents write_entry write_body kind_of write_decl write_closed write_tombstones write_stored has_tombstones write_message write_field write_type write_label write_after follows_tag write_limit write_encoding marks_byte bit write_name write_counted write_each digits bodies_at plain bytes speed ride_schema
ride_written = refl

pub park_accepted : read_image park ≡ ok park_schema 74
unfolding whole
park_accepted = refl

pub park_written : write park_schema ≡ park
unfolding write write_head write_contents write_entry write_body kind_of write_decl write_closed write_tombstones write_stored has_tombstones write_enum write_flags write_bare write_width write_wire has_widths marks_byte bit write_name write_counted write_each digits bodies_at bytes item open_marks park_schema
park_written = refl

pub halt_accepted : read_image halt ≡ ok halt_schema 110
unfolding whole
halt_accepted = refl

pub halt_written : write halt_schema ≡ halt
unfolding write write_head write_contents write_entry write_body kind_of write_decl write_closed write_tombstones write_stored has_tombstones write_message write_union write_variant write_field write_type write_label write_after follows_tag write_limit write_encoding marks_byte bit write_name write_counted write_each digits bodies_at plain bytes speed halt_schema
halt_written = refl

-- damaged copies, each with the number that it gives
pub damaged : List (List ℕ × ℕ)
damaged =
    -- seven bytes; the namespace's last byte cut off
    (take 7 ride, 2)
    ∷ (take 20 ride, 2)
    -- formats 0 and 4
    ∷ (set ride 0 0, 3)
    ∷ (set ride 0 4, 3)
    -- 513 entries
    ∷ (set ride 3 2, 4)
    -- an offset of one more; a byte after the body
    ∷ (set ride 8 22, 5)
    ∷ (ride ++ 0 ∷ [], 5)
    -- kind 9
    ∷ (set ride 21 9, 6)
    -- a space in the namespace; in the message's name
    ∷ (set ride 17 32, 7)
    ∷ (set ride 23 32, 7)
    -- two fields, and the body ends after one; no field, and bytes are left
    ∷ (set ride 29 2, 8)
    ∷ (set ride 29 0, 8)
    -- primitive 14; mark 4
    ∷ (set ride 45 14, 9)
    ∷ (set ride 28 4, 9)
    -- from the field's name on: an empty name, no marks, nine deltas
    ∷ (take 35 ride ++ 0 ∷ 0 ∷ replicate 9 3, 10)
    -- the field's type is 32 optionals, and the body ends where a 33rd node would start: it is refused before its tag is read
    ∷ (set (take 44 ride) 10 55 ++ replicate 32 4, 10)
    ∷ []

pub damaged_refused : map (λ c. read_image c.0) damaged ≡ map (λ c. no c.1) damaged
unfolding whole damaged
damaged_refused = refl

-- and of the image with widths
pub damaged_widths : List (List ℕ × ℕ)
damaged_widths =
    -- an enum and flags that end before the width
    (set (set (set (take 36 park) 10 7) 12 0) 14 0, 8)
    ∷ (set (take 55 park) 14 7, 8)
    -- the flags width 0, 3 and 16; 3 where the flags end after it
    ∷ (set park 55 0, 9)
    ∷ (set park 55 3, 9)
    ∷ (set park 55 16, 9)
    ∷ (set (set (take 56 park) 14 8) 55 3, 9)
    -- format 1, where the width is the count's first byte
    ∷ (set park 0 1, 8)
    ∷ []

pub damaged_widths_refused : map (λ c. read_image c.0) damaged_widths ≡ map (λ c. no c.1) damaged_widths
unfolding whole damaged_widths
damaged_widths_refused = refl

-- and of the image with tombstones
pub damaged_tombstones : List (List ℕ × ℕ)
damaged_tombstones =
    -- a message that ends before its count; counts of one more; and of one less
    (set (set (set (take 54 halt) 10 25) 12 0) 14 0, 8)
    ∷ (set halt 54 2, 8)
    ∷ (set halt 94 2, 8)
    ∷ (set halt 100 3, 8)
    ∷ (set halt 54 0, 8)
    ∷ (set halt 100 1, 8)
    -- format 2, where they are bytes left; and `ride` and `park`, which have none, as images of format 3
    ∷ (set halt 0 2, 8)
    ∷ (set ride 0 3, 8)
    ∷ (set park 0 3, 8)
    ∷ []

pub damaged_tombstones_refused : map (λ c. read_image c.0) damaged_tombstones ≡ map (λ c. no c.1) damaged_tombstones
unfolding whole damaged_tombstones
damaged_tombstones_refused = refl

-- any wire bits of an enum; `ride`, which has no width, as an image of format 2; a number that is struck off twice
pub others : List (List ℕ)
others = set park 36 0 ∷ set park 36 255 ∷ set ride 0 2 ∷ set (set (set halt 107 0) 108 0) 109 0 ∷ []

pub others_accepted : map (λ s. refusal (read_image s)) others ≡ 0 ∷ 0 ∷ 0 ∷ 0 ∷ []
unfolding whole refusal others
others_accepted = refl

-- 31 optionals around a void are 32 nodes
pub nodes_32 : refusal (read_image (set (take 44 ride) 10 56 ++ replicate 31 4 ++ 0 ∷ 13 ∷ [])) ≡ 0
unfolding whole refusal
nodes_32 = refl
