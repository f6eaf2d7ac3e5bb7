-- R-13 at work: two releases, each filed anew, in each format, with the report that all pairs get; how the readings of its premise differ; and what
-- can't be left out of it. Assumes nothing.
use Rattle.std.specs.Prelude.{◌≡◌, List, [], ◌∷◌, map, ℕ, None, Some}
use Prim.Native.String.{String}
use Rattle.image.specs.Schema.{unmarked, label, leaf, no_type, decl, Schema}
use Rattle.image.specs.Codes.{number, message_kind, config_kind, bits_tag}
use Rattle.image.specs.Words.{bytes}
use Rattle.rules.specs.Edges.{told as told_of, field, message, newtype, named, u8, f32, impl}
use Rattle.rules.specs.Pinned.{image, lines, told}
use Rattle.refiling.specs.Refiling.{NoRepeats, EntriesOnce, Refiled, RefiledImage}

-- ---- two releases

-- 0 M, a message of `@0 a: array<U>` and `@1 b` with the unresolvable id 9; 1 U, a union of `@0 x` and `@1 y` of `@0 f: u8` and `@1 g: M`; 2 F,
-- flags of `@0 p` and `@1 q`; 3 and 4 impls. Listed: 0 1 2 3 9 4.
abbrev pub first : List ℕ
first =
    image
    ("01 00 05 00 06 00 01 00"
    ∷ "39 00 23 00 5c 00 2e 00 8a 00 11 00 9b 00 01 00 9c 00 01 00"
    ∷ "00 00 00 00 01 00 00 00 02 00 00 00 03 00 00 00 09 00 00 00 04 00 00 00"
    ∷ "04 72 69 64 65"
    ∷ "00 01 4d 00 02 00 00 00 00 00 01 61 00 00 00 05 03 01 00 00 00 01 00 00 00 01 62 00 00 00 03 09 00 00 00"
    ∷ "03 01 55 02 00 00 00 00 00 01 78 00 00 01 00 00 00 01 79 02 00 00 00 00 00 01 66 00 00 00 00 01 01 00 00 00 01 67 00 00 00 03 00 00 00 00"
    ∷ "02 01 46 02 00 00 00 00 00 01 70 01 00 00 00 01 71"
    ∷ "08"
    ∷ "08"
    ∷ [])

-- The same filed anew: 0 is empty, F is 1, the impls are 2 and 4, U is 3, M is 5; the unresolvable id is 0; every body is the other way round.
-- Listed: 4 5 0 3 1 2.
abbrev pub first_anew : List ℕ
first_anew =
    image
    ("01 00 06 00 06 00 01 00"
    ∷ "00 00 00 00 3d 00 11 00 4e 00 01 00 4f 00 2e 00 7d 00 01 00 7e 00 23 00"
    ∷ "04 00 00 00 05 00 00 00 00 00 00 00 03 00 00 00 01 00 00 00 02 00 00 00"
    ∷ "04 72 69 64 65"
    ∷ "02 01 46 02 00 01 00 00 00 01 71 00 00 00 00 01 70"
    ∷ "08"
    ∷ "03 01 55 02 00 01 00 00 00 01 79 02 00 01 00 00 00 01 67 00 00 00 03 05 00 00 00 00 00 00 00 01 66 00 00 00 00 01 00 00 00 00 01 78 00 00"
    ∷ "08"
    ∷ "00 01 4d 00 02 00 01 00 00 00 01 62 00 00 00 03 00 00 00 00 00 00 00 00 01 61 00 00 00 05 03 03 00 00 00"
    ∷ [])

-- So filed in format 2, with a wire byte for F.
abbrev pub first_widened : List ℕ
first_widened =
    image
    ("02 00 06 00 06 00 01 00"
    ∷ "00 00 00 00 3d 00 12 00 4f 00 01 00 50 00 2e 00 7e 00 01 00 7f 00 23 00"
    ∷ "04 00 00 00 05 00 00 00 00 00 00 00 03 00 00 00 01 00 00 00 02 00 00 00"
    ∷ "04 72 69 64 65"
    ∷ "02 01 46 01 02 00 01 00 00 00 01 71 00 00 00 00 01 70"
    ∷ "08"
    ∷ "03 01 55 02 00 01 00 00 00 01 79 02 00 01 00 00 00 01 67 00 00 00 03 05 00 00 00 00 00 00 00 01 66 00 00 00 00 01 00 00 00 00 01 78 00 00"
    ∷ "08"
    ∷ "00 01 4d 00 02 00 01 00 00 00 01 62 00 00 00 03 00 00 00 00 00 00 00 00 01 61 00 00 00 05 03 03 00 00 00"
    ∷ [])

-- So filed in format 3: F strikes off 7, y of U 2, U 9 twice, and M 0, which it uses.
abbrev pub first_struck : List ℕ
first_struck =
    image
    ("03 00 06 00 06 00 01 00"
    ∷ "00 00 00 00 3d 00 18 00 55 00 01 00 56 00 40 00 96 00 01 00 97 00 29 00"
    ∷ "04 00 00 00 05 00 00 00 00 00 00 00 03 00 00 00 01 00 00 00 02 00 00 00"
    ∷ "04 72 69 64 65"
    ∷ "02 01 46 01 02 00 01 00 00 00 01 71 00 00 00 00 01 70 01 00 07 00 00 00"
    ∷ "08"
    ∷ "03 01 55 02 00 01 00 00 00 01 79 02 00 01 00 00 00 01 67 00 00 00 03 05 00 00 00 00 00 00 00 01 66 00 00 00 00 01 01 00 02 00 00 00"
    ∷ "00 00 00 00 01 78 00 00 00 00 02 00 09 00 00 00 09 00 00 00"
    ∷ "08"
    ∷ "00 01 4d 00 02 00 01 00 00 00 01 62 00 00 00 03 00 00 00 00 00 00 00 00 01 61 00 00 00 05 03 03 00 00 00 01 00 00 00 00 00"
    ∷ [])

-- A later release: 0 M of `@0 a: u8` and `@1 b: K`; 1 U of `@1 y` with `@0 f: u8` and `@1 h: U`; 2 F of `@0 p`; 3 E, an enum of `@0 r` and
-- `@1 s`; 4 N, a newtype of `map<E, bits { i, j }>`; 5 K, a config that is not listed. Listed: 0 1 2 3 4.
abbrev pub second : List ℕ
second =
    image
    ("01 00 06 00 05 00 01 00"
    ∷ "39 00 1f 00 58 00 26 00 7e 00 0b 00 89 00 12 00 9b 00 0f 00 aa 00 03 00"
    ∷ "00 00 00 00 01 00 00 00 02 00 00 00 03 00 00 00 04 00 00 00"
    ∷ "04 72 69 64 65"
    ∷ "00 01 4d 00 02 00 00 00 00 00 01 61 00 00 00 00 01 01 00 00 00 01 62 00 00 00 03 05 00 00 00"
    ∷ "03 01 55 01 00 01 00 00 00 01 79 02 00 00 00 00 00 01 66 00 00 00 00 01 01 00 00 00 01 68 00 00 00 03 01 00 00 00"
    ∷ "02 01 46 01 00 00 00 00 00 01 70"
    ∷ "01 01 45 00 02 00 00 00 00 00 01 72 01 00 00 00 01 73"
    ∷ "04 01 4e 08 03 03 00 00 00 10 02 01 69 01 6a"
    ∷ "05 01 4b"
    ∷ [])

-- The same filed anew: N is 0, K is 1, E is 2, F is 3, U is 4, M is 5; every body is the other way round. Listed: 0 3 5 2 4.
abbrev pub second_anew : List ℕ
second_anew =
    image
    ("01 00 06 00 05 00 01 00"
    ∷ "39 00 0f 00 48 00 03 00 4b 00 12 00 5d 00 0b 00 68 00 26 00 8e 00 1f 00"
    ∷ "00 00 00 00 03 00 00 00 05 00 00 00 02 00 00 00 04 00 00 00"
    ∷ "04 72 69 64 65"
    ∷ "04 01 4e 08 03 02 00 00 00 10 02 01 69 01 6a"
    ∷ "05 01 4b"
    ∷ "01 01 45 00 02 00 01 00 00 00 01 73 00 00 00 00 01 72"
    ∷ "02 01 46 01 00 00 00 00 00 01 70"
    ∷ "03 01 55 01 00 01 00 00 00 01 79 02 00 01 00 00 00 01 68 00 00 00 03 04 00 00 00 00 00 00 00 01 66 00 00 00 00 01"
    ∷ "00 01 4d 00 02 00 01 00 00 00 01 62 00 00 00 03 01 00 00 00 00 00 00 00 01 61 00 00 00 00 01"
    ∷ [])

-- So filed in format 2, with 8 wire bits for E and 4 wire bytes for F.
abbrev pub second_widened : List ℕ
second_widened =
    image
    ("02 00 06 00 05 00 01 00"
    ∷ "39 00 0f 00 48 00 03 00 4b 00 13 00 5e 00 0c 00 6a 00 26 00 90 00 1f 00"
    ∷ "00 00 00 00 03 00 00 00 05 00 00 00 02 00 00 00 04 00 00 00"
    ∷ "04 72 69 64 65"
    ∷ "04 01 4e 08 03 02 00 00 00 10 02 01 69 01 6a"
    ∷ "05 01 4b"
    ∷ "01 01 45 00 08 02 00 01 00 00 00 01 73 00 00 00 00 01 72"
    ∷ "02 01 46 04 01 00 00 00 00 00 01 70"
    ∷ "03 01 55 01 00 01 00 00 00 01 79 02 00 01 00 00 00 01 68 00 00 00 03 04 00 00 00 00 00 00 00 01 66 00 00 00 00 01"
    ∷ "00 01 4d 00 02 00 01 00 00 00 01 62 00 00 00 03 01 00 00 00 00 00 00 00 01 61 00 00 00 00 01"
    ∷ [])

-- So filed in format 3: E strikes off 5, y of U 0, which it uses, and U 0, which was x.
abbrev pub second_struck : List ℕ
second_struck =
    image
    ("03 00 06 00 05 00 01 00"
    ∷ "39 00 0f 00 48 00 03 00 4b 00 19 00 64 00 0e 00 72 00 32 00 a4 00 21 00"
    ∷ "00 00 00 00 03 00 00 00 05 00 00 00 02 00 00 00 04 00 00 00"
    ∷ "04 72 69 64 65"
    ∷ "04 01 4e 08 03 02 00 00 00 10 02 01 69 01 6a"
    ∷ "05 01 4b"
    ∷ "01 01 45 00 08 02 00 01 00 00 00 01 73 00 00 00 00 01 72 01 00 05 00 00 00"
    ∷ "02 01 46 04 01 00 00 00 00 00 01 70 00 00"
    ∷ "03 01 55 01 00 01 00 00 00 01 79 02 00 01 00 00 00 01 68 00 00 00 03 04 00 00 00 00 00 00 00 01 66 00 00 00 00 01 01 00 00 00 00 00"
    ∷ "01 00 00 00 00 00"
    ∷ "00 01 4d 00 02 00 01 00 00 00 01 62 00 00 00 03 01 00 00 00 00 00 00 00 01 61 00 00 00 00 01 00 00"
    ∷ [])

pub record Example : Type 0 where
  pub old : RefiledImage NoRepeats first first_anew
  pub new : RefiledImage NoRepeats second second_anew
  pub report : told first second ≡ lines
      ("DeclarationRemoved;Major;;-;impl '' was removed"
      ∷ "DeclarationAdded;Minor;E;-;enum 'E' was added"
      ∷ "DeclarationAdded;Minor;N;-;newtype 'N' was added"
      ∷ "FlagsBitRemoved;Major;F;+q;bit 'q' @1 was removed"
      ∷ "FieldTypeChanged;Major;M;+a;field 'a' @0 type changed from array<U> to u8"
      ∷ "FieldTypeChanged;Major;M;+b;field 'b' @1 type changed from <unknown> to K"
      ∷ "VariantRemoved;Major;U;+x;variant 'x' @0 was removed"
      ∷ "FieldRenamed;Patch;U::y;+h;field @1 renamed from 'g' to 'h'"
      ∷ "FieldTypeChanged;Major;U::y;+h;field 'h' @1 type changed from M to U"
      ∷ "Breaking;Major;9"
      ∷ [])
  pub old_anew : told first_anew second ≡ told first second
  pub new_anew : told first second_anew ≡ told first second
  pub both_anew : told first_anew second_anew ≡ told first second
  -- and in format 2, also beside images of format 1
  pub old_widened : RefiledImage NoRepeats first first_widened
  pub new_widened : RefiledImage NoRepeats second second_widened
  pub both_widened : told first_widened second_widened ≡ told first second
  pub either : told first_widened second_anew ≡ told first second
  -- and in format 3, also beside images of the others
  pub old_struck : RefiledImage NoRepeats first first_struck
  pub new_struck : RefiledImage NoRepeats second second_struck
  pub both_struck : told first_struck second_struck ≡ told first second
  pub struck_old : told first_struck second_anew ≡ told first second
  pub struck_new : told first_widened second_struck ≡ told first second

-- ---- the readings of the premise

-- the same declarations, of which others are listed, or in another order
abbrev pub listing : Schema → List ℕ → Schema
listing s ids = record { format = s.format; registry = s.registry; ids = ids; namespace = s.namespace }

-- two messages of one name
abbrev pub two_messages : Schema
two_messages = record {
  format = 1;
  registry =
      Some (decl (number message_kind) (bytes "A") unmarked None (field 0 "x" unmarked None u8 ∷ []) [] no_type)
      ∷ Some (decl (number message_kind) (bytes "A") unmarked None [] [] no_type)
      ∷ [];
  ids = 0 ∷ 1 ∷ [];
  namespace = [];
}

-- an id listed twice
abbrev pub id_twice : Schema
id_twice = listing (message (field 0 "x" unmarked None u8 ∷ [])) (0 ∷ 0 ∷ [])

-- neither is more than the other
pub record Readings : Type 0 where
  pub one_listed : NoRepeats (listing two_messages (0 ∷ []))
  pub one_listed_only : EntriesOnce (listing two_messages (0 ∷ [])) → ⊥
  pub id_once : EntriesOnce id_twice
  pub id_once_only : NoRepeats id_twice → ⊥

-- ---- what can't be left out

-- an impl, and a message without a name
abbrev pub unnamed : Schema
unnamed = record {
  format = 1;
  registry = Some impl ∷ Some (decl (number message_kind) [] unmarked None [] [] no_type) ∷ [];
  ids = 0 ∷ 1 ∷ [];
  namespace = [];
}

-- a message with ordinal 3 twice, and the same the other way round
abbrev pub twice : Schema
twice = message (field 3 "x" unmarked None f32 ∷ field 3 "y" unmarked None u8 ∷ [])

abbrev pub turned : Schema
turned = message (field 3 "y" unmarked None u8 ∷ field 3 "x" unmarked None f32 ∷ [])

abbrev pub single : Schema
single = message (field 3 "y" unmarked None u8 ∷ [])

-- newtype A of inline bits
abbrev pub of_bits : List String → Schema
of_bits names = newtype (leaf (label (number bits_tag) 0 0 (map bytes names))) []

-- newtype A of the named type with id 1, a config of that name
abbrev pub of_named : String → Schema
of_named name = newtype (named 1) (Some (decl (number config_kind) (bytes name) unmarked None [] [] no_type) ∷ [])

pub record Needed : Type 0 where
  -- Without the premise the claim would be false: which of two messages of one name stands depends on the order, and so it is with an impl
  -- and a message without a name, and with two fields of one number.
  pub messages : Refiled two_messages (listing two_messages (1 ∷ 0 ∷ []))
  pub messages_matter : told_of two_messages (message []) ≡ told_of (listing two_messages (1 ∷ 0 ∷ [])) (message []) → ⊥
  pub impls : Refiled unnamed (listing unnamed (1 ∷ 0 ∷ []))
  pub impls_matter : told_of unnamed unnamed ≡ told_of (listing unnamed (1 ∷ 0 ∷ [])) unnamed → ⊥
  pub ordinals : Refiled twice turned
  pub ordinals_matter : told_of twice single ≡ told_of turned single → ⊥
  -- inline bits in another order, and an id that does not follow (it now has the number of another entry), are changes
  pub bits_matter : told_of (of_bits ("a" ∷ "b" ∷ [])) (of_bits ("a" ∷ "b" ∷ [])) ≡ told_of (of_bits ("a" ∷ "b" ∷ [])) (of_bits ("b" ∷ "a" ∷ [])) → ⊥
  pub ids_matter : told_of (of_named "B") (of_named "B") ≡ told_of (of_named "B") (of_named "C") → ⊥
