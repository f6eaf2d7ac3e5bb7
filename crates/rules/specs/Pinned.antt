-- Answers that are those of the Rust: recorded by running `check` of compat.rs on the same bytes. Assumes nothing.
use Rattle.std.specs.Prelude.{◌≡◌, cond, ℕ, ◌+◌, ◌*◌, ◌-◌, leb}
use mathlib.Core.List.{List, [], ◌∷◌, ◌++◌, flat_map}
use Prim.Native.String.{String}
use Prim.Native.Char.{Char, code}
use Rattle.image.specs.Words.{bytes}
use Rattle.rules.specs.Changes.{kind_at, DeclarationAdded, DeclarationRemoved}
use Rattle.rules.specs.Outcome.{selected, written}
use Rattle.rules.specs.Answer.{checked, verdict_of}
use Rattle.rules.specs.Distance.{Verdict, distance, count_between, Steps}

-- ---- images in hexadecimal

unfoldable pub digit : Char → ℕ
digit c = cond (leb (code c) 57) (code c - 48) (code c - 87)

-- two digits for each byte, and one character between each two bytes
unfoldable pub hex : String → List ℕ
hex String.[] = []
hex (String.◌∷◌ c String.[]) = []
hex (String.◌∷◌ c (String.◌∷◌ d String.[])) = (16 * digit c + digit d) ∷ []
hex (String.◌∷◌ c (String.◌∷◌ d (String.◌∷◌ e s))) = (16 * digit c + digit d) ∷ hex s

-- the parts of an image: head, contents, ids, namespace, and each body
unfoldable pub image : List String → List ℕ
image parts = flat_map hex parts

-- a report, line by line
unfoldable pub lines : List String → List ℕ
lines texts = flat_map (λ t. bytes t ++ bytes "\n") texts

-- what the report call leaves in an empty buffer that is large enough
unfoldable pub told : List ℕ → List ℕ → List ℕ
told old new = written (checked old new) []

-- ---- a pair with every kind of change that is reported at all, and every word of a type, an encoding and a kind of declaration

-- ride.a: M E F U N K G, an impl, an N that is listed before the other, S, Z, L; of the ids two are unresolvable
abbrev pub rich_old : List ℕ
rich_old =
    image
    ("01 00 0f 00 0e 00 02 00"
    ∷ "83 00 95 00 18 01 12 00 2a 01 11 00 3b 01 30 00 6b 01 11 00 7c 01 03 00 7f 01 03 00 82 01 01 00 83 01 05 00 88 01 0a 00 92 01 05 00 97 01 07 00 00 00 00 00 9e 01 03 00 a1 01 05 00"
    ∷ "08 00 00 00 00 00 00 00 01 00 00 00 02 00 00 00 03 00 00 00 04 00 00 00 05 00 00 00 06 00 00 00 07 00 00 00 0b 00 00 00 0c 00 00 00 0d 00 00 00 0e 00 00 00 63 00 00 00"
    ∷ "04 72 69 64 65 01 61"
    ∷ "00 01 4d 00 08 00 00 00 00 00 04 67 6f 6e 65 00 00 00 00 01 01 00 00 00 03 6f 6c 64 00 00 00 08 00 00 08 00 01 08 00 02 08 00 03 08 00 04 08 00 05 08 00 06 08 02 00 08 02 01 02 02 02 00 00 00 01 78 00 00 00 09 03 09 00 00 00 03 63 00 00 00 03 00 00 00 01 65 00 03 03 02 00 00 01 04 00 00 00 01 64 00 00 00 00 01 05 00 00 00 05 66 69 72 73 74 00 00 00 00 09 05 00 00 00 01 72 00 00 00 00 01 06 00 00 00 01 6c 01 00 01 08 00 00 00 00 00 00 00 00 01"
    ∷ "01 01 45 02 02 00 00 00 00 00 01 61 02 00 00 00 01 62"
    ∷ "02 01 46 02 00 00 00 00 00 01 70 3f 00 00 00 01 71"
    ∷ "03 01 55 02 00 00 00 00 00 03 77 61 73 02 00 00 00 00 00 01 66 00 00 00 03 0a 00 00 00 01 00 00 00 01 67 00 00 00 00 01 01 00 00 00 01 7a 00 00"
    ∷ "04 01 4e 04 05 06 ff ff ff ff ff ff ff ff 01 00 03"
    ∷ "05 01 4b"
    ∷ "06 01 47"
    ∷ "08"
    ∷ "04 01 4e 00 0d"
    ∷ "00 05 6f 74 68 65 72 00 00 00"
    ∷ "04 01 42 00 01"
    ∷ "04 01 53 0a 0b 00 09"
    ∷ "07 01 5a"
    ∷ "02 01 4c 00 00"
    ∷ [])

-- ride.b.c: M E F U N S changed, K and L of another kind, T TX X Y new
abbrev pub rich_new : List ℕ
rich_new =
    image
    ("01 00 0d 00 0c 00 03 00"
    ∷ "75 00 7c 00 f1 00 12 00 03 01 11 00 14 01 2f 00 43 01 0c 00 4f 01 06 00 55 01 05 00 5a 01 0a 00 64 01 03 00 67 01 04 00 6b 01 05 00 70 01 06 00 76 01 05 00"
    ∷ "00 00 00 00 01 00 00 00 02 00 00 00 03 00 00 00 04 00 00 00 05 00 00 00 07 00 00 00 09 00 00 00 08 00 00 00 0a 00 00 00 0b 00 00 00 0c 00 00 00"
    ∷ "04 72 69 64 65 01 62 01 63"
    ∷ "00 01 4d 01 07 00 01 00 00 00 03 6f 6c 64 00 00 00 08 00 07 08 00 08 08 00 09 08 00 0a 08 00 0b 08 00 0c 08 00 0d 08 02 03 08 02 04 02 05 02 00 00 00 01 78 00 00 00 07 03 00 00 00 00 03 00 00 00 01 65 00 01 00 00 01 04 00 00 00 01 64 01 00 00 00 01 05 00 00 00 01 73 00 00 00 00 01 06 00 00 00 01 6c 00 00 01 09 00 00 00 00 00 00 00 00 01 ff ff ff ff 01 6e 00 00 00 00 01"
    ∷ "01 01 45 00 02 00 00 00 00 00 01 41 01 00 00 00 01 63"
    ∷ "02 01 46 02 00 00 00 00 00 01 50 01 00 00 00 01 72"
    ∷ "03 01 55 02 00 00 00 00 00 02 69 73 02 00 00 00 00 00 01 66 00 00 00 03 06 00 00 00 02 00 00 00 01 68 00 00 00 00 01 02 00 00 00 01 79 00 00"
    ∷ "04 01 4e 09 10 02 01 69 01 6a 10 00"
    ∷ "00 01 4b 00 00 00"
    ∷ "04 01 42 00 02"
    ∷ "04 01 53 0c 0d 0e 0f 01 01 05"
    ∷ "07 01 54"
    ∷ "06 02 54 58"
    ∷ "03 01 59 00 00"
    ∷ "01 01 58 00 00 00"
    ∷ "04 01 4c 00 01"
    ∷ [])

-- ---- named types

-- newtype A of the type with id 1, which is B
abbrev pub at_one : List ℕ
at_one = image ("01 00 02 00 01 00 00 00" ∷ "14 00 08 00 1c 00 06 00" ∷ "00 00 00 00" ∷ "04 01 41 03 01 00 00 00" ∷ "00 01 42 00 00 00" ∷ [])

-- the same, B with id 2
abbrev pub at_two : List ℕ
at_two = image ("01 00 03 00 01 00 00 00" ∷ "18 00 08 00 00 00 00 00 20 00 06 00" ∷ "00 00 00 00" ∷ "04 01 41 03 02 00 00 00" ∷ "00 01 42 00 00 00" ∷ [])

-- newtype A of the type with id 1, which is C
abbrev pub another : List ℕ
another = image ("01 00 02 00 01 00 00 00" ∷ "14 00 08 00 1c 00 06 00" ∷ "00 00 00 00" ∷ "04 01 41 03 01 00 00 00" ∷ "00 01 43 00 00 00" ∷ [])

-- ---- distances

-- a non-exhaustive enum with no variant, and a message with a field
abbrev pub enum_empty : List ℕ
enum_empty = image ("01 00 02 00 02 00 00 00" ∷ "18 00 06 00 1e 00 11 00" ∷ "00 00 00 00 01 00 00 00" ∷ "01 01 45 02 00 00" ∷ "00 01 4d 00 01 00 00 00 00 00 01 78 00 00 00 00 01" ∷ [])

-- a variant more
abbrev pub enum_grown : List ℕ
enum_grown =
    image
    ("01 00 02 00 02 00 00 00"
    ∷ "18 00 0c 00 24 00 11 00"
    ∷ "00 00 00 00 01 00 00 00"
    ∷ "01 01 45 02 01 00 00 00 00 00 01 61"
    ∷ "00 01 4d 00 01 00 00 00 00 00 01 78 00 00 00 00 01"
    ∷ [])

-- and the field renamed
abbrev pub field_renamed : List ℕ
field_renamed =
    image
    ("01 00 02 00 02 00 00 00"
    ∷ "18 00 0c 00 24 00 11 00"
    ∷ "00 00 00 00 01 00 00 00"
    ∷ "01 01 45 02 01 00 00 00 00 00 01 61"
    ∷ "00 01 4d 00 01 00 00 00 00 00 01 79 00 00 00 00 01"
    ∷ [])

-- nothing declared
abbrev pub nothing : List ℕ
nothing = image ("01 00 00 00 00 00 00 00" ∷ [])

-- a config
abbrev pub config : List ℕ
config = image ("01 00 01 00 01 00 00 00" ∷ "10 00 03 00" ∷ "00 00 00 00" ∷ "05 01 4b" ∷ [])

-- a generic alias
abbrev pub alias : List ℕ
alias = image ("01 00 01 00 01 00 00 00" ∷ "10 00 03 00" ∷ "00 00 00 00" ∷ "06 01 47" ∷ [])

-- newtype A of optional<vec3<f32>>
abbrev pub vector : List ℕ
vector = image ("01 00 01 00 01 00 00 00" ∷ "10 00 07 00" ∷ "00 00 00 00" ∷ "04 01 41 04 0b 00 09" ∷ [])

pub record Pinned : Type 0 where
  -- the whole report and all 26 selectors
  pub rich_report : told rich_old rich_new ≡ lines
      ("NamespaceChanged;Major;;-;namespace changed from 'ride.a' to 'ride.b.c'"
      ∷ "DeclarationRemoved;Major;;-;impl '' was removed"
      ∷ "DeclarationRemoved;Major;G;-;generic_alias 'G' was removed"
      ∷ "DeclarationRemoved;Major;Z;-;trait 'Z' was removed"
      ∷ "DeclarationAdded;Minor;T;-;trait 'T' was added"
      ∷ "DeclarationAdded;Minor;TX;-;generic_alias 'TX' was added"
      ∷ "DeclarationAdded;Minor;X;-;enum 'X' was added"
      ∷ "DeclarationAdded;Minor;Y;-;union 'Y' was added"
      ∷ "NonExhaustiveChanged;Major;E;-;@non_exhaustive changed from true to false"
      ∷ "VariantRemoved;Major;E;+b;variant 'b' @2 was removed"
      ∷ "VariantAdded;Major;E;+c;variant 'c' @1 was added"
      ∷ "FlagsBitRemoved;Major;F;+q;bit 'q' @63 was removed"
      ∷ "FlagsBitAdded;Minor;F;+r;bit 'r' @1 was added"
      ∷ "DeclarationKindChanged;Major;K;-;'K' changed from config to message"
      ∷ "DeclarationKindChanged;Major;L;-;'L' changed from flags to newtype"
      ∷ "FieldRemoved;Major;M;+gone;field 'gone' @0 was removed"
      ∷ "FieldAdded;Major;M;+n;field 'n' @4294967295 was added"
      ∷ "FieldTypeChanged;Major;M;+old;field 'old' @1 type changed from map<bool, map<u8, map<u16, map<u32, map<u64, map<i8, map<i16, map<string, map<bytes, rgb>>>>>>>>> to map<i32, map<i64, map<f32, map<f64, map<fixed32, map<fixed64, map<void, map<uuid, map<timestamp, hash>>>>>>>>>"
      ∷ "FieldTypeChanged;Major;M;+x;field 'x' @2 type changed from result<other, <unknown>> to set<M>"
      ∷ "FieldEncodingChanged;Major;M;+e;field 'e' @3 encoding changed from delta(delta(zigzag)) to varint"
      ∷ "FieldDeprecated;Patch;M;+d;field 'd' was marked @deprecated"
      ∷ "FieldRenamed;Patch;M;+s;field @5 renamed from 'r' to 's'"
      ∷ "FieldEncodingChanged;Major;M;+l;field 'l' @6 encoding changed from default to default"
      ∷ "FieldDeprecated;Patch;M;-;declaration was marked @deprecated"
      ∷ "FieldTypeChanged;Major;N;-;newtype 'N' inner type changed from optional<array<array<u3, 18446744073709551615>>> to result<bits { i, j }, bits {  }>"
      ∷ "FieldTypeChanged;Major;S;-;newtype 'S' inner type changed from vec2<vec3<f32>> to vec4<quat<mat3<mat4<i5>>>>"
      ∷ "VariantRemoved;Major;U;+z;variant 'z' @1 was removed"
      ∷ "VariantAdded;Minor;U;+y;variant 'y' @2 was added"
      ∷ "FieldRemoved;Major;U::was;+g;field 'g' @1 was removed"
      ∷ "FieldAdded;Major;U::was;+h;field 'h' @2 was added"
      ∷ "Breaking;Major;30"
      ∷ [])
  pub rich_selectors : selected (checked rich_old rich_new) ≡ 0 ∷ 0 ∷ 2 ∷ 1 ∷ 2156 ∷ 2 ∷ 2 ∷ 4 ∷ 0 ∷ 1 ∷ 2 ∷ 2 ∷ 2 ∷ 2 ∷ 0 ∷ 4 ∷ 3 ∷ 2 ∷ 1 ∷ 1 ∷ 1 ∷ 1 ∷ 0 ∷ 0 ∷ 0 ∷ 0 ∷ []
  -- one name under different ids is equal; one id with different names is not
  pub same_name : told at_one at_two ≡ lines ("Compatible;Patch;0" ∷ [])
  pub same_id : told at_one another ≡ lines ("FieldTypeChanged;Major;A;-;newtype 'A' inner type changed from B to C" ∷ "Breaking;Major;1" ∷ [])
  -- a chain of distance 1 over neighbours 1 and 0
  pub steps : Steps verdict_of enum_empty (enum_grown ∷ field_renamed ∷ [])
  pub ends : Verdict verdict_of enum_empty field_renamed
  pub first_step : distance verdict_of enum_empty enum_grown ≡ 1
  pub second_step : distance verdict_of enum_grown field_renamed ≡ 0
  pub whole_way : distance verdict_of enum_empty field_renamed ≡ 1
  -- a chain of four whose first and third are refused by 11
  pub four_steps : Steps verdict_of alias (nothing ∷ alias ∷ config ∷ [])
  pub four_ends : Verdict verdict_of alias config
  pub first_and_third : selected (checked alias alias) ≡ 11 ∷ 3 ∷ 2 ∷ 1 ∷ []
  pub four_way : distance verdict_of alias config ≡ 2
  -- a self distance of 2
  pub self : Verdict verdict_of vector vector
  pub self_distance : distance verdict_of vector vector ≡ 2
  -- a swap with different bumps each way
  pub there : distance verdict_of nothing config ≡ 1
  pub back : distance verdict_of config nothing ≡ 2
  pub added : count_between verdict_of (kind_at DeclarationAdded) nothing config ≡ 1
  pub removed : count_between verdict_of (kind_at DeclarationRemoved) config nothing ≡ 1
