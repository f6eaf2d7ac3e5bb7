-- R-5 and R-6 on their edges: the three answers on small types, and each as the whole report of two small schemas, by the mended verdict and,
-- where it says something, by that of document 01; then widths, in the same way. Assumes nothing.
use Rattle.std.specs.Prelude.{◌≡◌, List, [], ◌∷◌, ℕ, None, Some}
use Prim.Native.String.{String}
use Rattle.image.specs.Schema.{Marks, unmarked, Ty, no_type, Variant, Decl, decl, Schema}
use Rattle.image.specs.Codes.{number, enum_kind, flags_kind, vec2_tag, vec3_tag, vec4_tag, quat_tag, mat3_tag, mat4_tag}
use Rattle.image.specs.Words.{bytes}
use Rattle.rules.specs.Types.{resolve}
use Rattle.rules.specs.Answer.{Policy, plain}
use Rattle.rules.specs.Imports.{imports}
use Rattle.rules.specs.Mended.{equal, alike, different, likeness, mended}
use Rattle.rules.specs.Edges.{schema, newtype, named, around, fixed_array, u8, f32, deprecated, non_exhaustive, field, message, variant, union, silent}
use Rattle.rules.specs.ImportEdges.{told as told_of, entry, naming, holding, listing, optional, map, result, under, field_naming}

-- in format 2, which the mended verdict asks for and the others ignore
abbrev pub in_two : Schema → Schema
in_two s = record { format = 2; registry = s.registry; ids = s.ids; namespace = s.namespace }

-- the report of two schemas in format 2
abbrev pub told : Policy → Schema → Schema → List ℕ
told p old new = told_of p (in_two old) (in_two new)

abbrev pub vec2 : Ty → Ty
vec2 t = around (number vec2_tag) t

abbrev pub vec3 : Ty → Ty
vec3 t = around (number vec3_tag) t

abbrev pub mat4 : Ty → Ty
mat4 t = around (number mat4_tag) t

-- A becomes of another type, or stays of one
abbrev pub turned : Policy → Ty → Ty → List ℕ
turned p t u = told p (newtype t []) (newtype u [])

abbrev pub kept : Policy → Ty → List ℕ
kept p t = turned p t t

-- a message with a field of a type
abbrev pub having : String → Ty → Schema
having name t = message (field 0 name unmarked None t ∷ [])

-- a union with a variant that has such a field
abbrev pub within : Ty → Schema
within t = union (record { ordinal = 0; name = bytes "v"; fields = field 0 "x" unmarked None t ∷ []; tombstones = [] } ∷ [])

-- a message with a field that names B, a newtype of a type
abbrev pub by_field : Ty → Schema
by_field t = holding (message (field_naming ∷ [])) (entry "B" t ∷ [])

-- the type that names B there
abbrev pub to_b : Ty → Ty
to_b t = resolve (by_field t).registry (named 1)

-- A is an enum of a width in wire bits
abbrev pub enum_of : ℕ → Marks → List Variant → Schema
enum_of width marks vs = schema (decl (number enum_kind) (bytes "A") marks (Some width) [] vs no_type) []

-- flags of a width in wire bytes, under a name; A is one, or A an enum and B is one
abbrev pub flags_named : String → ℕ → List Variant → Decl
flags_named name width vs = decl (number flags_kind) (bytes name) unmarked (Some width) [] vs no_type

abbrev pub flags_of : ℕ → List Variant → Schema
flags_of width vs = schema (flags_named "A" width vs) []

abbrev pub both : Schema → Decl → Schema
both s d = listing (holding s (Some d ∷ [])) (1 ∷ [])

pub record MendedEdges : Type 0 where
  -- ---- the answers
  pub is_equal : likeness (optional f32) (optional f32) ≡ equal
  pub is_alike : likeness (optional (vec3 f32)) (optional (vec3 f32)) ≡ alike
  pub is_different : likeness (optional (vec3 f32)) (optional f32) ≡ different
  pub other_tag : likeness (vec2 f32) (vec3 f32) ≡ different
  pub other_inside : likeness (vec3 f32) (vec3 u8) ≡ different
  -- a vector does not end the comparison, whichever inner type it is in
  pub behind : likeness (result (vec3 f32) u8) (result (vec3 f32) f32) ≡ different
  pub before : likeness (result u8 (vec3 f32)) (result f32 (vec3 f32)) ≡ different
  pub first : likeness (result (vec3 f32) u8) (result (vec3 f32) u8) ≡ alike
  pub second : likeness (result u8 (vec3 f32)) (result u8 (vec3 f32)) ≡ alike
  -- ---- at the root: each of the six tags
  pub vec2_kept : kept mended (vec2 f32) ≡ silent
  pub vec3_kept : kept mended (vec3 f32) ≡ silent
  pub vec4_kept : kept mended (around (number vec4_tag) f32) ≡ silent
  pub quat_kept : kept mended (around (number quat_tag) f32) ≡ silent
  pub mat3_kept : kept mended (around (number mat3_tag) f32) ≡ silent
  pub mat4_kept : kept mended (mat4 f32) ≡ silent
  -- by document 01, and with imports, it differs from itself
  pub kept_plain : kept plain (vec3 f32) ≡ bytes "FieldTypeChanged;Major;A;-;newtype 'A' inner type changed from vec3<f32> to vec3<f32>\nBreaking;Major;1\n"
  pub kept_imports : kept imports (vec3 f32) ≡ bytes "FieldTypeChanged;Major;A;-;newtype 'A' inner type changed from vec3<f32> to vec3<f32>\nBreaking;Major;1\n"
  -- ---- inside: of an optional, an array, a map's key and value, another vector, and as the last node but one of 32
  pub in_optional : kept mended (optional (vec3 f32)) ≡ silent
  pub in_array : kept mended (fixed_array 4 (vec3 f32)) ≡ silent
  pub in_key : kept mended (map (vec3 f32) u8) ≡ silent
  pub in_value : kept mended (map u8 (mat4 f32)) ≡ silent
  pub in_vector : kept mended (vec2 (vec3 f32)) ≡ silent
  pub deep : kept mended (under 30 (vec3 f32)) ≡ silent
  -- ---- on one side only, of different tags, of different inner types
  pub one_side : turned mended (vec3 f32) f32
      ≡ bytes "FieldTypeChanged;Major;A;-;newtype 'A' inner type changed from vec3<f32> to f32\nBreaking;Major;1\n"
  pub other_side : turned mended f32 (vec3 f32)
      ≡ bytes "FieldTypeChanged;Major;A;-;newtype 'A' inner type changed from f32 to vec3<f32>\nBreaking;Major;1\n"
  pub tags : turned mended (vec2 f32) (vec3 f32)
      ≡ bytes "FieldTypeChanged;Major;A;-;newtype 'A' inner type changed from vec2<f32> to vec3<f32>\nBreaking;Major;1\n"
  pub inner : turned mended (vec3 f32) (vec3 u8)
      ≡ bytes "FieldTypeChanged;Major;A;-;newtype 'A' inner type changed from vec3<f32> to vec3<u8>\nBreaking;Major;1\n"
  pub inner_tags : turned mended (vec3 (vec2 f32)) (vec3 (mat4 f32))
      ≡ bytes "FieldTypeChanged;Major;A;-;newtype 'A' inner type changed from vec3<vec2<f32>> to vec3<mat4<f32>>\nBreaking;Major;1\n"
  pub sizes : turned mended (fixed_array 4 (vec3 f32)) (fixed_array 5 (vec3 f32))
      ≡ bytes "FieldTypeChanged;Major;A;-;newtype 'A' inner type changed from array<vec3<f32>, 4> to array<vec3<f32>, 5>\nBreaking;Major;1\n"
  pub behind_it : turned mended (map (vec3 f32) u8) (map (vec3 f32) f32)
      ≡ bytes "FieldTypeChanged;Major;A;-;newtype 'A' inner type changed from map<vec3<f32>, u8> to map<vec3<f32>, f32>\nBreaking;Major;1\n"
  -- ---- a named node inside a vector: the same name under another id, another name, unresolvable ids
  pub same_name : told mended (newtype (vec3 (named 1)) (entry "B" u8 ∷ [])) (newtype (vec3 (named 2)) (None ∷ entry "B" u8 ∷ [])) ≡ silent
  pub other_name : told mended (newtype (vec3 (named 1)) (entry "B" u8 ∷ [])) (newtype (vec3 (named 1)) (entry "C" u8 ∷ []))
      ≡ bytes "FieldTypeChanged;Major;A;-;newtype 'A' inner type changed from vec3<B> to vec3<C>\nBreaking;Major;1\n"
  pub unresolvable : turned mended (vec3 (named 7)) (vec3 (named 8)) ≡ silent
  pub resolved : told mended (newtype (vec3 (named 7)) []) (newtype (vec3 (named 1)) (entry "B" u8 ∷ []))
      ≡ bytes "FieldTypeChanged;Major;A;-;newtype 'A' inner type changed from vec3<<unknown>> to vec3<B>\nBreaking;Major;1\n"
  -- ---- a named node is not entered: A names B, a newtype of a vector, which is not listed
  pub not_entered : told mended (naming (entry "B" (vec3 f32) ∷ [])) (naming (entry "B" (vec2 u8) ∷ [])) ≡ silent
  pub not_entered_plain : told plain (naming (entry "B" (vec3 f32) ∷ [])) (naming (entry "B" (vec3 f32) ∷ [])) ≡ silent
  -- nor by a field; with imports B is compared itself
  pub is_named : likeness (to_b (vec3 f32)) (to_b (vec2 u8)) ≡ equal
  pub field_names : told mended (by_field (vec3 f32)) (by_field (vec2 u8)) ≡ silent
  pub field_names_plain : told plain (by_field (vec3 f32)) (by_field (vec3 f32)) ≡ silent
  pub field_names_imports : told imports (by_field (vec3 f32)) (by_field (vec3 f32))
      ≡ bytes "FieldTypeChanged;Major;B;-;newtype 'B' inner type changed from vec3<f32> to vec3<f32>\nBreaking;Major;1\n"
  -- ---- of a field of a message, beside another change; and of a field of a variant
  pub in_field : told mended (having "x" (vec3 f32)) (having "x" (vec3 f32)) ≡ silent
  pub renamed : told mended (having "x" (vec3 f32)) (having "y" (vec3 f32)) ≡ bytes "FieldRenamed;Patch;A;+y;field @0 renamed from 'x' to 'y'\nCompatible;Patch;1\n"
  pub renamed_plain : told plain (having "x" (vec3 f32)) (having "y" (vec3 f32))
      ≡ bytes "FieldRenamed;Patch;A;+y;field @0 renamed from 'x' to 'y'\nFieldTypeChanged;Major;A;+y;field 'y' @0 type changed from vec3<f32> to vec3<f32>\nBreaking;Major;2\n"
  pub marked : told mended (having "x" (vec3 f32)) (message (field 0 "x" deprecated None (vec3 f32) ∷ []))
      ≡ bytes "FieldDeprecated;Patch;A;+x;field 'x' was marked @deprecated\nCompatible;Patch;1\n"
  pub in_variant : told mended (within (vec3 f32)) (within (vec3 f32)) ≡ silent
  pub changed_in_variant : told mended (within (vec3 f32)) (within (vec3 u8))
      ≡ bytes "FieldTypeChanged;Major;A::v;+x;field 'x' @0 type changed from vec3<f32> to vec3<u8>\nBreaking;Major;1\n"
  -- ---- widths: a ninth bit, by the mended verdict and by the others
  pub ninth_bit : told mended (flags_of 1 []) (flags_of 2 (variant 8 "x" ∷ []))
      ≡ bytes "WidthChanged;Major;A;-;width changed from 1 to 2\nFlagsBitAdded;Minor;A;+x;bit 'x' @8 was added\nBreaking;Major;2\n"
  pub ninth_bit_plain : told plain (flags_of 1 []) (flags_of 2 (variant 8 "x" ∷ []))
      ≡ bytes "FlagsBitAdded;Minor;A;+x;bit 'x' @8 was added\nCompatible;Minor;1\n"
  pub ninth_bit_imports : told imports (flags_of 1 []) (flags_of 2 (variant 8 "x" ∷ []))
      ≡ bytes "FlagsBitAdded;Minor;A;+x;bit 'x' @8 was added\nCompatible;Minor;1\n"
  -- equal ones, and other bits in the same width
  pub equal_bytes : told mended (flags_of 8 []) (flags_of 8 []) ≡ silent
  pub equal_bits : told mended (enum_of 255 unmarked []) (enum_of 255 unmarked []) ≡ silent
  pub bit_inside : told mended (flags_of 1 []) (flags_of 1 (variant 7 "x" ∷ [])) ≡ bytes "FlagsBitAdded;Minor;A;+x;bit 'x' @7 was added\nCompatible;Minor;1\n"
  -- narrower and wider, and an enum's at its ends
  pub wider : told mended (flags_of 4 []) (flags_of 8 []) ≡ bytes "WidthChanged;Major;A;-;width changed from 4 to 8\nBreaking;Major;1\n"
  pub narrower : told mended (flags_of 8 []) (flags_of 4 []) ≡ bytes "WidthChanged;Major;A;-;width changed from 8 to 4\nBreaking;Major;1\n"
  pub from_zero : told mended (enum_of 0 unmarked []) (enum_of 255 unmarked []) ≡ bytes "WidthChanged;Major;A;-;width changed from 0 to 255\nBreaking;Major;1\n"
  pub to_zero : told mended (enum_of 255 unmarked []) (enum_of 0 unmarked []) ≡ bytes "WidthChanged;Major;A;-;width changed from 255 to 0\nBreaking;Major;1\n"
  pub bits_plain : told plain (enum_of 0 unmarked []) (enum_of 255 unmarked []) ≡ silent
  -- it stands before all else of its declaration, and only there
  pub before_openness : told mended (enum_of 8 unmarked []) (enum_of 16 non_exhaustive [])
      ≡ bytes "WidthChanged;Major;A;-;width changed from 8 to 16\nNonExhaustiveChanged;Major;A;-;@non_exhaustive changed from false to true\nBreaking;Major;2\n"
  pub in_each : told mended (both (enum_of 8 unmarked (variant 0 "x" ∷ [])) (flags_named "B" 1 [])) (both (enum_of 16 unmarked []) (flags_named "B" 2 []))
      ≡ bytes "WidthChanged;Major;A;-;width changed from 8 to 16\nVariantRemoved;Major;A;+x;variant 'x' @0 was removed\nWidthChanged;Major;B;-;width changed from 1 to 2\nBreaking;Major;3\n"
  -- where the kind has changed, or a side has no declaration of the name, there is none
  pub kind_changed : told mended (enum_of 8 unmarked []) (flags_of 1 [])
      ≡ bytes "DeclarationKindChanged;Major;A;-;'A' changed from enum to flags\nBreaking;Major;1\n"
  pub gone : told mended (both (enum_of 8 unmarked []) (flags_named "B" 1 [])) (enum_of 8 unmarked [])
      ≡ bytes "DeclarationRemoved;Major;B;-;flags 'B' was removed\nBreaking;Major;1\n"
  -- of a declaration that is not listed, none is compared
  pub not_listed : told mended (holding (enum_of 8 unmarked []) (Some (flags_named "B" 1 []) ∷ [])) (holding (enum_of 8 unmarked []) (Some (flags_named "B" 2 []) ∷ []))
      ≡ silent
