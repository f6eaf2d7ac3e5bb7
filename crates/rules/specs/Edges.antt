-- The edges (a) to (l) of document 01, each as the whole report of two small schemas. Assumes nothing.
use Rattle.std.specs.Prelude.{◌≡◌, true, false, List, [], ◌∷◌, ℕ, Option, None, Some}
use Prim.Native.String.{String}
use Rattle.image.specs.Schema.{Marks, unmarked, label, Ty, leaf, one, no_type, Field, Variant, Decl, decl, Schema}
use Rattle.image.specs.Codes.{number, message_kind, enum_kind, union_kind, newtype_kind, impl_kind, primitive_tag, sub_byte_tag, named_tag, optional_tag, array_tag, fixed_array_tag, vec3_tag}
use Rattle.image.specs.Words.{bytes}
use Rattle.rules.specs.Survivors.{view_of}
use Rattle.rules.specs.Clauses.{changes}
use Rattle.rules.specs.Report.{report}
use Rattle.rules.specs.Answer.{plain_reading}

-- the report of two schemas
unfoldable pub told : Schema → Schema → List ℕ
told old new = report (changes plain_reading (view_of old) (view_of new))

-- of format 1; no namespace; entry 0 is declared, under the name A; a second entry may follow it
abbrev pub schema : Decl → List (Option Decl) → Schema
schema d more = record { format = 1; registry = Some d ∷ more; ids = 0 ∷ []; namespace = [] }

-- ---- newtypes

abbrev pub newtype : Ty → List (Option Decl) → Schema
newtype t more = schema (decl (number newtype_kind) (bytes "A") unmarked None [] [] t) more

abbrev pub primitive : ℕ → Ty
primitive code = leaf (label (number primitive_tag) code 0 [])

abbrev pub sub_byte : ℕ → ℕ → Ty
sub_byte signed bits = leaf (label (number sub_byte_tag) signed bits [])

abbrev pub named : ℕ → Ty
named id = leaf (label (number named_tag) id 0 [])

abbrev pub around : ℕ → Ty → Ty
around tag t = one (label tag 0 0 []) t

abbrev pub fixed_array : ℕ → Ty → Ty
fixed_array size t = one (label (number fixed_array_tag) size 0 []) t

abbrev pub u8 : Ty
u8 = primitive 1

abbrev pub f32 : Ty
f32 = primitive 9

abbrev pub impl : Decl
impl = decl (number impl_kind) [] unmarked None [] [] no_type

-- ---- messages, enums, unions

abbrev pub field : ℕ → String → Marks → Option ℕ → Ty → Field
field ordinal name marks limit t =
    record { ordinal = ordinal; name = bytes name; marks = marks; encoding = record { deltas = 0; base = 0 }; limit = limit; type = t }

abbrev pub message : List Field → Schema
message fs = schema (decl (number message_kind) (bytes "A") unmarked None fs [] no_type) []

abbrev pub deprecated : Marks
deprecated = record { deprecated = true; non_exhaustive = false }

abbrev pub non_exhaustive : Marks
non_exhaustive = record { deprecated = false; non_exhaustive = true }

abbrev pub variant : ℕ → String → Variant
variant ordinal name = record { ordinal = ordinal; name = bytes name; fields = []; tombstones = [] }

abbrev pub enum : Marks → List Variant → Schema
enum marks vs = schema (decl (number enum_kind) (bytes "A") marks None [] vs no_type) []

abbrev pub union : List Variant → Schema
union vs = schema (decl (number union_kind) (bytes "A") unmarked None [] vs no_type) []

-- ---- "Held of the clauses as one proved group"

abbrev pub silent : List ℕ
silent = bytes "Compatible;Patch;0\n"

pub record Edges : Type 0 where
  -- "(a) primitive u8 and sub-byte u8 differ, both shown `u8`"
  pub a : told (newtype u8 []) (newtype (sub_byte 0 8) [])
      ≡ bytes "FieldTypeChanged;Major;A;-;newtype 'A' inner type changed from u8 to u8\nBreaking;Major;1\n"
  -- "(b) `optional<vec3<f32>>` differs from itself"
  pub b : told (newtype (around (number optional_tag) (around (number vec3_tag) f32)) []) (newtype (around (number optional_tag) (around (number vec3_tag) f32)) [])
      ≡ bytes "FieldTypeChanged;Major;A;-;newtype 'A' inner type changed from optional<vec3<f32>> to optional<vec3<f32>>\nBreaking;Major;1\n"
  -- "(c) two unresolvable ids equal": an id past the registry, and one whose entry is empty
  pub c : told (newtype (named 7) []) (newtype (named 1) (None ∷ [])) ≡ silent
  -- "(d) unresolvable and impl differ"
  pub d : told (newtype (named 7) []) (newtype (named 1) (Some impl ∷ []))
      ≡ bytes "FieldTypeChanged;Major;A;-;newtype 'A' inner type changed from <unknown> to \nBreaking;Major;1\n"
  -- "(e) limit 8 to 9: `default to default`, Major"
  pub e : told (message (field 0 "x" unmarked (Some 8) u8 ∷ [])) (message (field 0 "x" unmarked (Some 9) u8 ∷ []))
      ≡ bytes "FieldEncodingChanged;Major;A;+x;field 'x' @0 encoding changed from default to default\nBreaking;Major;1\n"
  -- "(f) `array<u8>` and `array<u8, 4>` differ"
  pub f : told (newtype (around (number array_tag) u8) []) (newtype (fixed_array 4 u8) [])
      ≡ bytes "FieldTypeChanged;Major;A;-;newtype 'A' inner type changed from array<u8> to array<u8, 4>\nBreaking;Major;1\n"
  -- "(g) variant added, open: Minor"
  pub g : told (enum non_exhaustive []) (enum non_exhaustive (variant 0 "x" ∷ []))
      ≡ bytes "VariantAdded;Minor;A;+x;variant 'x' @0 was added\nCompatible;Minor;1\n"
  -- "(h) closed: Major"
  pub h : told (enum unmarked []) (enum unmarked (variant 0 "x" ∷ []))
      ≡ bytes "VariantAdded;Major;A;+x;variant 'x' @0 was added\nBreaking;Major;1\n"
  -- "(i) closed to open with a variant added: Major and Minor"
  pub i : told (enum unmarked []) (enum non_exhaustive (variant 0 "x" ∷ []))
      ≡ bytes "NonExhaustiveChanged;Major;A;-;@non_exhaustive changed from false to true\nVariantAdded;Minor;A;+x;variant 'x' @0 was added\nBreaking;Major;2\n"
  -- "(j) deprecation lost: silent"
  pub j : told (message (field 0 "x" deprecated None u8 ∷ [])) (message (field 0 "x" unmarked None u8 ∷ [])) ≡ silent
  -- "(k) union variant renamed: silent"
  pub k : told (union (variant 0 "x" ∷ [])) (union (variant 0 "y" ∷ [])) ≡ silent
  -- "(l) ordinal 3 twice: the second counts": the first is of another type
  pub l : told (message (field 3 "x" unmarked None f32 ∷ field 3 "y" unmarked None u8 ∷ [])) (message (field 3 "z" unmarked None u8 ∷ []))
      ≡ bytes "FieldRenamed;Patch;A;+z;field @3 renamed from 'y' to 'z'\nCompatible;Patch;1\n"
