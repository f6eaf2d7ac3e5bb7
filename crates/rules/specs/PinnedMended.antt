-- R-5, R-6 and R-10 over byte lists, in terms of the calls: an image with a vector against itself and along a chain of releases, by the
-- mended verdict and by that of document 01; what the mended verdict reports too; widths and tombstones, which only it reports; its refusals.
-- Assumes nothing.
use Rattle.std.specs.Prelude.{◌≡◌, List, [], ◌∷◌, ℕ}
use Rattle.rules.specs.Changes.{kind_at, FieldTypeChanged, DeclarationAdded, DeclarationRemoved, WidthChanged, TombstoneReused, TombstoneDropped}
use Rattle.rules.specs.Outcome.{selected, written}
use Rattle.rules.specs.Answer.{outcome, verdict_by, verdict_of, checked}
use Rattle.rules.specs.Distance.{Verdict, distance, count_between, Steps}
use Rattle.rules.specs.Mended.{mended}
use Rattle.rules.specs.Imports.{imports}
use Rattle.rules.specs.Pinned.{image, lines, told, alias}
use Rattle.rules.specs.PinnedImports.{imports_of, imports_told}

-- the mended verdict call, and what its report call leaves in an empty buffer that is large enough
abbrev pub mended_of : List ℕ → List ℕ → ℕ → ℕ
mended_of = verdict_by mended

unfoldable pub mended_told : List ℕ → List ℕ → List ℕ
mended_told old new = written (outcome mended old new) []

-- ---- in format 2: message W with one field

-- seat: vec3<f32>
abbrev pub seat : List ℕ
seat = image ("02 00 01 00 01 00 00 00" ∷ "10 00 15 00" ∷ "00 00 00 00" ∷ "00 01 57 00 01 00 00 00 00 00 04 73 65 61 74 00 00 00 0b 00 09" ∷ [])

-- axis: vec3<f32>, and the same deprecated
abbrev pub axis : List ℕ
axis = image ("02 00 01 00 01 00 00 00" ∷ "10 00 15 00" ∷ "00 00 00 00" ∷ "00 01 57 00 01 00 00 00 00 00 04 61 78 69 73 00 00 00 0b 00 09" ∷ [])

abbrev pub axis_marked : List ℕ
axis_marked = image ("02 00 01 00 01 00 00 00" ∷ "10 00 15 00" ∷ "00 00 00 00" ∷ "00 01 57 00 01 00 00 00 00 00 04 61 78 69 73 01 00 00 0b 00 09" ∷ [])

-- seat: vec2<f32>, and vec3<f64>
abbrev pub seat_flat : List ℕ
seat_flat = image ("02 00 01 00 01 00 00 00" ∷ "10 00 15 00" ∷ "00 00 00 00" ∷ "00 01 57 00 01 00 00 00 00 00 04 73 65 61 74 00 00 00 0a 00 09" ∷ [])

abbrev pub seat_wide : List ℕ
seat_wide = image ("02 00 01 00 01 00 00 00" ∷ "10 00 15 00" ∷ "00 00 00 00" ∷ "00 01 57 00 01 00 00 00 00 00 04 73 65 61 74 00 00 00 0b 00 0a" ∷ [])

-- the first in format 1
abbrev pub seat_one : List ℕ
seat_one = image ("01 00 01 00 01 00 00 00" ∷ "10 00 15 00" ∷ "00 00 00 00" ∷ "00 01 57 00 01 00 00 00 00 00 04 73 65 61 74 00 00 00 0b 00 09" ∷ [])

-- ---- in format 2: newtype A of the type with id 1, which is not listed

-- newtype B of vec3<f32>
abbrev pub vector_named : List ℕ
vector_named = image ("02 00 02 00 01 00 00 00" ∷ "14 00 08 00 1c 00 06 00" ∷ "00 00 00 00" ∷ "04 01 41 03 01 00 00 00" ∷ "04 01 42 0b 00 09" ∷ [])

-- message B without a field, and with one
abbrev pub message_named : List ℕ
message_named = image ("02 00 02 00 01 00 00 00" ∷ "14 00 08 00 1c 00 06 00" ∷ "00 00 00 00" ∷ "04 01 41 03 01 00 00 00" ∷ "00 01 42 00 00 00" ∷ [])

abbrev pub field_named : List ℕ
field_named =
    image
    ("02 00 02 00 01 00 00 00"
    ∷ "14 00 08 00 1c 00 11 00"
    ∷ "00 00 00 00"
    ∷ "04 01 41 03 01 00 00 00"
    ∷ "00 01 42 00 01 00 00 00 00 00 01 78 00 00 00 00 01"
    ∷ [])

-- ---- flags F, in format 1, of one wire byte, of two with a ninth bit, and of two with the one bit

abbrev pub bits_one : List ℕ
bits_one = image ("01 00 01 00 01 00 00 00" ∷ "10 00 0b 00" ∷ "00 00 00 00" ∷ "02 01 46 01 00 00 00 00 00 01 61" ∷ [])

abbrev pub bits : List ℕ
bits = image ("02 00 01 00 01 00 00 00" ∷ "10 00 0c 00" ∷ "00 00 00 00" ∷ "02 01 46 01 01 00 00 00 00 00 01 61" ∷ [])

abbrev pub bits_ninth : List ℕ
bits_ninth = image ("02 00 01 00 01 00 00 00" ∷ "10 00 12 00" ∷ "00 00 00 00" ∷ "02 01 46 02 02 00 00 00 00 00 01 61 08 00 00 00 01 69" ∷ [])

abbrev pub bits_wide : List ℕ
bits_wide = image ("02 00 01 00 01 00 00 00" ∷ "10 00 0c 00" ∷ "00 00 00 00" ∷ "02 01 46 02 01 00 00 00 00 00 01 61" ∷ [])

-- of three wire bytes, and ending before the width
abbrev pub bits_three : List ℕ
bits_three = image ("02 00 01 00 01 00 00 00" ∷ "10 00 06 00" ∷ "00 00 00 00" ∷ "02 01 46 03 00 00" ∷ [])

abbrev pub bits_ending : List ℕ
bits_ending = image ("02 00 01 00 01 00 00 00" ∷ "10 00 03 00" ∷ "00 00 00 00" ∷ "02 01 46" ∷ [])

-- ---- in format 2: enum E of no wire bits, and of 255 and non-exhaustive

abbrev pub bitless : List ℕ
bitless = image ("02 00 01 00 01 00 00 00" ∷ "10 00 07 00" ∷ "00 00 00 00" ∷ "01 01 45 00 00 00 00" ∷ [])

abbrev pub widest : List ℕ
widest = image ("02 00 01 00 01 00 00 00" ∷ "10 00 07 00" ∷ "00 00 00 00" ∷ "01 01 45 02 ff 00 00" ∷ [])

-- ---- in format 2: nothing, and a generic alias

abbrev pub empty : List ℕ
empty = image ("02 00 00 00 00 00 00 00" ∷ [])

abbrev pub generic : List ℕ
generic = image ("02 00 01 00 01 00 00 00" ∷ "10 00 03 00" ∷ "00 00 00 00" ∷ "06 01 47" ∷ [])

-- ---- in format 3: message L of a field on @0

-- of which 3 is struck off
abbrev pub lamp : List ℕ
lamp = image ("03 00 01 00 01 00 00 00" ∷ "10 00 18 00" ∷ "00 00 00 00" ∷ "00 01 4c 00 01 00 00 00 00 00 02 6f 6e 00 00 00 00 01 01 00 03 00 00 00" ∷ [])

-- of which it is not
abbrev pub lamp_forgotten : List ℕ
lamp_forgotten = image ("03 00 01 00 01 00 00 00" ∷ "10 00 14 00" ∷ "00 00 00 00" ∷ "00 01 4c 00 01 00 00 00 00 00 02 6f 6e 00 00 00 00 01 00 00" ∷ [])

-- and with a field dim @3; and the same, of which 3 is struck off
abbrev pub lamp_dimmed : List ℕ
lamp_dimmed =
    image
    ("03 00 01 00 01 00 00 00"
    ∷ "10 00 21 00"
    ∷ "00 00 00 00"
    ∷ "00 01 4c 00 02 00 00 00 00 00 02 6f 6e 00 00 00 00 01 03 00 00 00 03 64 69 6d 00 00 00 00 01 00 00"
    ∷ [])

abbrev pub lamp_both : List ℕ
lamp_both =
    image
    ("03 00 01 00 01 00 00 00"
    ∷ "10 00 25 00"
    ∷ "00 00 00 00"
    ∷ "00 01 4c 00 02 00 00 00 00 00 02 6f 6e 00 00 00 00 01 03 00 00 00 03 64 69 6d 00 00 00 00 01 01 00 03 00 00 00"
    ∷ [])

-- ---- in format 3: flags P of one wire byte

-- of which 3 is struck off, and of which it is not
abbrev pub panel : List ℕ
panel = image ("03 00 01 00 01 00 00 00" ∷ "10 00 0c 00" ∷ "00 00 00 00" ∷ "02 01 50 01 00 00 01 00 03 00 00 00" ∷ [])

abbrev pub panel_forgotten : List ℕ
panel_forgotten = image ("03 00 01 00 01 00 00 00" ∷ "10 00 08 00" ∷ "00 00 00 00" ∷ "02 01 50 01 00 00 00 00" ∷ [])

-- with a bit lit @3; and of two wire bytes, with 3 struck off
abbrev pub panel_lit : List ℕ
panel_lit = image ("03 00 01 00 01 00 00 00" ∷ "10 00 10 00" ∷ "00 00 00 00" ∷ "02 01 50 01 01 00 03 00 00 00 03 6c 69 74 00 00" ∷ [])

abbrev pub panel_wide : List ℕ
panel_wide = image ("03 00 01 00 01 00 00 00" ∷ "10 00 0c 00" ∷ "00 00 00 00" ∷ "02 01 50 02 00 00 01 00 03 00 00 00" ∷ [])

-- ending before the count of tombstones, inside it, and inside a tombstone; and with a byte after the last
abbrev pub count_missing : List ℕ
count_missing = image ("03 00 01 00 01 00 00 00" ∷ "10 00 06 00" ∷ "00 00 00 00" ∷ "02 01 50 01 00 00" ∷ [])

abbrev pub count_ending : List ℕ
count_ending = image ("03 00 01 00 01 00 00 00" ∷ "10 00 07 00" ∷ "00 00 00 00" ∷ "02 01 50 01 00 00 01" ∷ [])

abbrev pub tombstone_ending : List ℕ
tombstone_ending = image ("03 00 01 00 01 00 00 00" ∷ "10 00 0b 00" ∷ "00 00 00 00" ∷ "02 01 50 01 00 00 01 00 03 00 00" ∷ [])

abbrev pub tombstone_left : List ℕ
tombstone_left = image ("03 00 01 00 01 00 00 00" ∷ "10 00 0d 00" ∷ "00 00 00 00" ∷ "02 01 50 01 00 00 01 00 03 00 00 00 00" ∷ [])

-- ---- in format 3: nothing, and a generic alias; and in format 4

abbrev pub empty_three : List ℕ
empty_three = image ("03 00 00 00 00 00 00 00" ∷ [])

abbrev pub generic_three : List ℕ
generic_three = image ("03 00 01 00 01 00 00 00" ∷ "10 00 03 00" ∷ "00 00 00 00" ∷ "06 01 47" ∷ [])

abbrev pub format_four : List ℕ
format_four = image ("04 00 00 00 00 00 00 00" ∷ [])

-- no image
abbrev pub short : List ℕ
short = image ("01 00" ∷ [])

pub record PinnedMended : Type 0 where
  -- an image with a vector against itself
  pub self : Verdict mended_of seat seat
  pub self_told : mended_told seat seat ≡ lines ("Compatible;Patch;0" ∷ [])
  pub self_told_plain : told seat seat ≡ lines ("FieldTypeChanged;Major;W;+seat;field 'seat' @0 type changed from vec3<f32> to vec3<f32>" ∷ "Breaking;Major;1" ∷ [])
  pub self_distance : distance mended_of seat seat ≡ 0
  pub self_distance_plain : distance verdict_of seat seat ≡ 2
  -- one that names a newtype of a vector, which is not listed: by the three verdicts
  pub named_distance : distance mended_of vector_named vector_named ≡ 0
  pub named_distance_plain : distance verdict_of vector_named vector_named ≡ 0
  pub named_distance_imports : distance imports_of vector_named vector_named ≡ 2
  -- three releases: each step and the whole way
  pub renamed : mended_told seat axis ≡ lines ("FieldRenamed;Patch;W;+axis;field @0 renamed from 'seat' to 'axis'" ∷ "Compatible;Patch;1" ∷ [])
  pub renamed_plain : told seat axis
      ≡ lines ("FieldRenamed;Patch;W;+axis;field @0 renamed from 'seat' to 'axis'" ∷ "FieldTypeChanged;Major;W;+axis;field 'axis' @0 type changed from vec3<f32> to vec3<f32>" ∷ "Breaking;Major;2" ∷ [])
  pub marked : mended_told axis axis_marked ≡ lines ("FieldDeprecated;Patch;W;+axis;field 'axis' was marked @deprecated" ∷ "Compatible;Patch;1" ∷ [])
  pub steps : Steps mended_of seat (axis ∷ axis_marked ∷ [])
  pub ends : Verdict mended_of seat axis_marked
  pub whole_way : distance mended_of seat axis_marked ≡ 0
  pub whole_way_plain : distance verdict_of seat axis_marked ≡ 2
  -- another tag, and another inner type, are Breaking by both
  pub flat : mended_told seat seat_flat ≡ lines ("FieldTypeChanged;Major;W;+seat;field 'seat' @0 type changed from vec3<f32> to vec2<f32>" ∷ "Breaking;Major;1" ∷ [])
  pub flat_distance : distance mended_of seat seat_flat ≡ 2
  pub flat_distance_plain : distance verdict_of seat seat_flat ≡ 2
  pub wide : mended_told seat seat_wide ≡ lines ("FieldTypeChanged;Major;W;+seat;field 'seat' @0 type changed from vec3<f32> to vec3<f64>" ∷ "Breaking;Major;1" ∷ [])
  pub wide_distance_plain : distance verdict_of seat seat_wide ≡ 2
  pub wide_back : count_between mended_of (kind_at FieldTypeChanged) seat_wide seat ≡ 1
  -- all 26 selectors
  pub selectors : selected (outcome mended seat axis) ≡ 0 ∷ 0 ∷ 0 ∷ 0 ∷ 85 ∷ 0 ∷ 0 ∷ 0 ∷ 0 ∷ 1 ∷ 0 ∷ 0 ∷ 0 ∷ 0 ∷ 0 ∷ 0 ∷ 0 ∷ 0 ∷ 0 ∷ 0 ∷ 0 ∷ 0 ∷ 0 ∷ 0 ∷ 0 ∷ 0 ∷ []
  -- imports are not followed
  pub not_followed : mended_told message_named field_named ≡ lines ("Compatible;Patch;0" ∷ [])
  -- a ninth bit: Minor by document 01, and Breaking by the mended verdict, which reports the width first
  pub ninth_plain : told bits bits_ninth ≡ lines ("FlagsBitAdded;Minor;F;+i;bit 'i' @8 was added" ∷ "Compatible;Minor;1" ∷ [])
  pub ninth_imports : imports_told bits bits_ninth ≡ lines ("FlagsBitAdded;Minor;F;+i;bit 'i' @8 was added" ∷ "Compatible;Minor;1" ∷ [])
  pub ninth : mended_told bits bits_ninth ≡ lines ("WidthChanged;Major;F;-;width changed from 1 to 2" ∷ "FlagsBitAdded;Minor;F;+i;bit 'i' @8 was added" ∷ "Breaking;Major;2" ∷ [])
  pub ninth_back : mended_told bits_ninth bits ≡ lines ("WidthChanged;Major;F;-;width changed from 2 to 1" ∷ "FlagsBitRemoved;Major;F;+i;bit 'i' @8 was removed" ∷ "Breaking;Major;2" ∷ [])
  pub ninth_distance : distance mended_of bits bits_ninth ≡ 2
  pub ninth_distance_plain : distance verdict_of bits bits_ninth ≡ 1
  pub ninth_self : distance mended_of bits_ninth bits_ninth ≡ 0
  pub ninth_count : count_between mended_of (kind_at WidthChanged) bits bits_ninth ≡ 1
  pub ninth_count_back : count_between mended_of (kind_at WidthChanged) bits_ninth bits ≡ 1
  pub ninth_count_plain : count_between verdict_of (kind_at WidthChanged) bits bits_ninth ≡ 0
  pub ninth_selectors : selected (outcome mended bits bits_ninth) ≡ 0 ∷ 0 ∷ 2 ∷ 1 ∷ 112 ∷ 0 ∷ 0 ∷ 0 ∷ 0 ∷ 0 ∷ 0 ∷ 0 ∷ 0 ∷ 0 ∷ 0 ∷ 0 ∷ 0 ∷ 0 ∷ 0 ∷ 0 ∷ 1 ∷ 0 ∷ 0 ∷ 1 ∷ 0 ∷ 0 ∷ []
  -- in a step of its own, in which nothing else changes
  pub widened : mended_told bits bits_wide ≡ lines ("WidthChanged;Major;F;-;width changed from 1 to 2" ∷ "Breaking;Major;1" ∷ [])
  pub widened_plain : told bits bits_wide ≡ lines ("Compatible;Patch;0" ∷ [])
  pub widening : Steps mended_of bits (bits_wide ∷ bits_ninth ∷ [])
  pub widened_last : distance mended_of bits_wide bits_ninth ≡ 1
  -- an enum's width may be any, and stands before its openness
  pub widths : mended_told bitless widest ≡ lines ("WidthChanged;Major;E;-;width changed from 0 to 255" ∷ "NonExhaustiveChanged;Major;E;-;@non_exhaustive changed from false to true" ∷ "Breaking;Major;2" ∷ [])
  -- "how an old panel misreads a new lamp": the number of a field that was struck off is used again, which only the mended verdict says
  pub lamp_plain : told lamp lamp_dimmed ≡ lines ("FieldAdded;Major;L;+dim;field 'dim' @3 was added" ∷ "Breaking;Major;1" ∷ [])
  pub lamp_imports : imports_told lamp lamp_dimmed ≡ lines ("FieldAdded;Major;L;+dim;field 'dim' @3 was added" ∷ "Breaking;Major;1" ∷ [])
  pub lamp_reused : mended_told lamp lamp_dimmed
      ≡ lines ("FieldAdded;Major;L;+dim;field 'dim' @3 was added" ∷ "TombstoneReused;Major;L;-;tombstone @3 was reused" ∷ "Breaking;Major;2" ∷ [])
  pub lamp_selectors : selected (outcome mended lamp lamp_dimmed) ≡ 0 ∷ 0 ∷ 2 ∷ 1 ∷ 116 ∷ 1 ∷ 0 ∷ 0 ∷ 0 ∷ 0 ∷ 0 ∷ 0 ∷ 0 ∷ 0 ∷ 0 ∷ 0 ∷ 0 ∷ 0 ∷ 0 ∷ 0 ∷ 0 ∷ 0 ∷ 0 ∷ 0 ∷ 1 ∷ 0 ∷ []
  -- it cannot be hidden behind a release that has forgotten the tombstone
  pub lamp_dropped : mended_told lamp lamp_forgotten ≡ lines ("TombstoneDropped;Major;L;-;tombstone @3 was dropped" ∷ "Breaking;Major;1" ∷ [])
  pub lamp_added : mended_told lamp_forgotten lamp_dimmed ≡ lines ("FieldAdded;Major;L;+dim;field 'dim' @3 was added" ∷ "Breaking;Major;1" ∷ [])
  pub lamp_steps : Steps mended_of lamp (lamp_forgotten ∷ lamp_dimmed ∷ [])
  pub lamp_ends : Verdict mended_of lamp lamp_dimmed
  pub lamp_first : distance mended_of lamp lamp_forgotten ≡ 2
  pub lamp_second : distance mended_of lamp_forgotten lamp_dimmed ≡ 2
  pub lamp_whole : distance mended_of lamp lamp_dimmed ≡ 2
  pub lamp_first_plain : distance verdict_of lamp lamp_forgotten ≡ 0
  -- also where what comes is Minor
  pub panel_steps : Steps mended_of panel (panel_forgotten ∷ panel_lit ∷ [])
  pub panel_ends : Verdict mended_of panel panel_lit
  pub panel_first : distance mended_of panel panel_forgotten ≡ 2
  pub panel_second : distance mended_of panel_forgotten panel_lit ≡ 1
  pub panel_whole : distance mended_of panel panel_lit ≡ 2
  pub panel_whole_plain : distance verdict_of panel panel_lit ≡ 1
  -- the counts "need not be equal both ways"
  pub reused : count_between mended_of (kind_at TombstoneReused) panel panel_lit ≡ 1
  pub reused_back : count_between mended_of (kind_at TombstoneReused) panel_lit panel ≡ 0
  pub dropped : count_between mended_of (kind_at TombstoneDropped) panel panel_forgotten ≡ 1
  pub dropped_back : count_between mended_of (kind_at TombstoneDropped) panel_forgotten panel ≡ 0
  pub reused_plain : count_between verdict_of (kind_at TombstoneReused) panel panel_lit ≡ 0
  pub dropped_imports : count_between imports_of (kind_at TombstoneDropped) panel panel_forgotten ≡ 0
  -- an image that strikes off a number and uses it, and one that does not, against themselves
  pub uses_told : mended_told lamp_both lamp_both ≡ lines ("TombstoneReused;Major;L;-;tombstone @3 was reused" ∷ "Breaking;Major;1" ∷ [])
  pub uses_distance : distance mended_of lamp_both lamp_both ≡ 2
  pub uses_distance_plain : distance verdict_of lamp_both lamp_both ≡ 0
  pub uses_distance_imports : distance imports_of lamp_both lamp_both ≡ 0
  pub uses_none_distance : distance mended_of lamp lamp ≡ 0
  -- in format 3 widths are told as well
  pub panel_widened : mended_told panel panel_wide ≡ lines ("WidthChanged;Major;P;-;width changed from 1 to 2" ∷ "Breaking;Major;1" ∷ [])
  pub panel_count : count_between mended_of (kind_at WidthChanged) panel_wide panel ≡ 1
  pub panel_all : mended_told panel_wide panel_lit ≡ lines
      ("WidthChanged;Major;P;-;width changed from 2 to 1"
      ∷ "FlagsBitAdded;Minor;P;+lit;bit 'lit' @3 was added"
      ∷ "TombstoneReused;Major;P;-;tombstone @3 was reused"
      ∷ "Breaking;Major;3"
      ∷ [])
  -- 16: either image or both are of format 1; the other verdicts take both
  pub both_mixed : selected (outcome mended seat_one seat_one) ≡ 16 ∷ 3 ∷ 2 ∷ 1 ∷ []
  pub old_mixed : selected (outcome mended seat_one seat) ≡ 16 ∷ 3 ∷ 2 ∷ 1 ∷ []
  pub new_mixed : selected (outcome mended seat seat_one) ≡ 16 ∷ 3 ∷ 2 ∷ 1 ∷ []
  pub mixed_plain : told bits_one bits_ninth ≡ lines ("FlagsBitAdded;Minor;F;+i;bit 'i' @8 was added" ∷ "Compatible;Minor;1" ∷ [])
  pub mixed_imports : imports_told bits_ninth bits_one ≡ lines ("FlagsBitRemoved;Major;F;+i;bit 'i' @8 was removed" ∷ "Breaking;Major;1" ∷ [])
  -- after 10 and before 11
  pub mixed_refused : selected (outcome mended seat_one short) ≡ 2 ∷ 2 ∷ 2 ∷ 1 ∷ []
  pub mixed_aliases : selected (outcome mended alias alias) ≡ 16 ∷ 3 ∷ 2 ∷ 1 ∷ []
  pub aliases : selected (outcome mended generic generic) ≡ 11 ∷ 3 ∷ 2 ∷ 1 ∷ []
  -- and one of format 3 against one that is not
  pub three_two : selected (outcome mended lamp seat) ≡ 16 ∷ 3 ∷ 2 ∷ 1 ∷ []
  pub two_three : selected (outcome mended seat lamp) ≡ 16 ∷ 3 ∷ 2 ∷ 1 ∷ []
  pub three_one : selected (outcome mended lamp seat_one) ≡ 16 ∷ 3 ∷ 2 ∷ 1 ∷ []
  pub one_three : selected (outcome mended seat_one lamp) ≡ 16 ∷ 3 ∷ 2 ∷ 1 ∷ []
  pub three_two_empty : selected (outcome mended empty_three empty) ≡ 16 ∷ 3 ∷ 2 ∷ 1 ∷ []
  pub two_two : Verdict mended_of empty empty
  pub three_three : Verdict mended_of empty_three empty_three
  pub three_plain : told panel_lit bits_one ≡ lines ("DeclarationRemoved;Major;P;-;flags 'P' was removed" ∷ "DeclarationAdded;Minor;F;-;flags 'F' was added" ∷ "Breaking;Major;2" ∷ [])
  pub three_imports : imports_told empty panel ≡ lines ("DeclarationAdded;Minor;P;-;flags 'P' was added" ∷ "Compatible;Minor;1" ∷ [])
  pub aliases_three : selected (outcome mended generic_three generic_three) ≡ 11 ∷ 3 ∷ 2 ∷ 1 ∷ []
  pub aliases_mixed : selected (outcome mended generic_three generic) ≡ 16 ∷ 3 ∷ 2 ∷ 1 ∷ []
  -- the others as by document 01: 2, of widths 9 and 8, and of tombstones 8; none of 1, 2 and 3 is 3
  pub new_refused : selected (outcome mended seat short) ≡ 2 ∷ 2 ∷ 2 ∷ 1 ∷ []
  pub three_bytes : selected (outcome mended bits bits_three) ≡ 9 ∷ 2 ∷ 2 ∷ 1 ∷ []
  pub three_bytes_plain : selected (checked bits_three bits) ≡ 9 ∷ 1 ∷ 2 ∷ 1 ∷ []
  pub no_width : selected (outcome mended bits_ending bits) ≡ 8 ∷ 1 ∷ 2 ∷ 1 ∷ []
  pub no_width_plain : selected (checked bits bits_ending) ≡ 8 ∷ 2 ∷ 2 ∷ 1 ∷ []
  pub no_count : selected (outcome mended count_missing panel) ≡ 8 ∷ 1 ∷ 2 ∷ 1 ∷ []
  pub short_count : selected (outcome mended panel count_ending) ≡ 8 ∷ 2 ∷ 2 ∷ 1 ∷ []
  pub short_tombstone : selected (checked tombstone_ending panel) ≡ 8 ∷ 1 ∷ 2 ∷ 1 ∷ []
  pub byte_left : selected (outcome imports panel tombstone_left) ≡ 8 ∷ 2 ∷ 2 ∷ 1 ∷ []
  pub format : selected (checked format_four bits) ≡ 3 ∷ 1 ∷ 2 ∷ 1 ∷ []
  pub format_imports : selected (outcome imports bits format_four) ≡ 3 ∷ 2 ∷ 2 ∷ 1 ∷ []
  pub format_mended : selected (outcome mended panel format_four) ≡ 3 ∷ 2 ∷ 2 ∷ 1 ∷ []
  -- there and back
  pub removed : count_between mended_of (kind_at DeclarationRemoved) seat empty ≡ 1
  pub added : count_between mended_of (kind_at DeclarationAdded) empty seat ≡ 1
