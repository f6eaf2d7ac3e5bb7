-- R-10 over byte lists: chains of images of which the last uses what the first strikes off, also where a release between has no such
-- declaration, and where first against last gets no verdict; and repeated tombstones. Assumes nothing.
use Rattle.std.specs.Prelude.{◌≡◌, List, [], ◌∷◌, ℕ}
use Rattle.rules.specs.Outcome.{selected}
use Rattle.rules.specs.Answer.{outcome}
use Rattle.rules.specs.Refusals.{AcceptedPair}
use Rattle.rules.specs.Distance.{distance, Steps, largest_step}
use Rattle.rules.specs.Mended.{mended}
use Rattle.rules.specs.Reuse.{Reuses}
use Rattle.rules.specs.Pinned.{image, lines}
use Rattle.rules.specs.PinnedMended.{mended_of, mended_told, lamp, lamp_dimmed, panel, panel_forgotten, panel_lit, empty_three}

-- ---- in format 3: union U of a variant v with a field on @0

-- v strikes off 3 and 5
abbrev pub effect : List ℕ
effect =
    image
    ("03 00 01 00 01 00 00 00"
    ∷ "10 00 25 00"
    ∷ "00 00 00 00"
    ∷ "03 01 55 01 00 00 00 00 00 01 76 01 00 00 00 00 00 02 6f 6e 00 00 00 00 01 02 00 03 00 00 00 05 00 00 00 00 00"
    ∷ [])

-- and 5, 3 and 5
abbrev pub effect_repeated : List ℕ
effect_repeated =
    image
    ("03 00 01 00 01 00 00 00"
    ∷ "10 00 29 00"
    ∷ "00 00 00 00"
    ∷ "03 01 55 01 00 00 00 00 00 01 76 01 00 00 00 00 00 02 6f 6e 00 00 00 00 01 03 00 05 00 00 00 03 00 00 00 05 00 00 00 00 00"
    ∷ [])

-- and none
abbrev pub effect_forgotten : List ℕ
effect_forgotten =
    image
    ("03 00 01 00 01 00 00 00"
    ∷ "10 00 1d 00"
    ∷ "00 00 00 00"
    ∷ "03 01 55 01 00 00 00 00 00 01 76 01 00 00 00 00 00 02 6f 6e 00 00 00 00 01 00 00 00 00"
    ∷ [])

-- and none, and has a field x @3
abbrev pub effect_used : List ℕ
effect_used =
    image
    ("03 00 01 00 01 00 00 00"
    ∷ "10 00 28 00"
    ∷ "00 00 00 00"
    ∷ "03 01 55 01 00 00 00 00 00 01 76 02 00 00 00 00 00 02 6f 6e 00 00 00 00 01 03 00 00 00 01 78 00 00 00 00 01 00 00 00 00"
    ∷ [])

-- ---- in format 3: message L of a field on @0, and a generic alias

-- of which 3 is struck off; and with a field dim @3
abbrev pub lamp_aliased : List ℕ
lamp_aliased =
    image
    ("03 00 02 00 02 00 00 00"
    ∷ "18 00 18 00 30 00 03 00"
    ∷ "00 00 00 00 01 00 00 00"
    ∷ "00 01 4c 00 01 00 00 00 00 00 02 6f 6e 00 00 00 00 01 01 00 03 00 00 00"
    ∷ "06 01 47"
    ∷ [])

abbrev pub dimmed_aliased : List ℕ
dimmed_aliased =
    image
    ("03 00 02 00 02 00 00 00"
    ∷ "18 00 21 00 39 00 03 00"
    ∷ "00 00 00 00 01 00 00 00"
    ∷ "00 01 4c 00 02 00 00 00 00 00 02 6f 6e 00 00 00 00 01 03 00 00 00 03 64 69 6d 00 00 00 00 01 00 00"
    ∷ "06 01 47"
    ∷ [])

pub record PinnedReuse : Type 0 where
  -- flags, over five releases: the one Breaking step is that which forgets
  pub flags : AcceptedPair panel panel_lit Reuses
  pub flags_steps : Steps mended_of panel (panel ∷ panel_forgotten ∷ panel_forgotten ∷ panel_lit ∷ [])
  pub flags_largest : largest_step mended_of panel (panel ∷ panel_forgotten ∷ panel_forgotten ∷ panel_lit ∷ []) ≡ 2
  pub flags_after : largest_step mended_of panel_forgotten (panel_forgotten ∷ panel_lit ∷ []) ≡ 1
  -- a variant of a union
  pub variant : AcceptedPair effect effect_used Reuses
  pub variant_steps : Steps mended_of effect (effect_forgotten ∷ effect_used ∷ [])
  pub variant_largest : largest_step mended_of effect (effect_forgotten ∷ effect_used ∷ []) ≡ 2
  pub variant_whole : mended_told effect effect_used ≡ lines
      ("FieldAdded;Major;U::v;+x;field 'x' @3 was added"
      ∷ "TombstoneReused;Major;U::v;-;tombstone @3 was reused"
      ∷ "TombstoneDropped;Major;U::v;-;tombstone @5 was dropped"
      ∷ "Breaking;Major;3"
      ∷ [])
  -- a release between that has no such declaration
  pub message : AcceptedPair lamp lamp_dimmed Reuses
  pub message_steps : Steps mended_of lamp (empty_three ∷ lamp_dimmed ∷ [])
  pub message_first : distance mended_of lamp empty_three ≡ 2
  pub message_second : distance mended_of empty_three lamp_dimmed ≡ 1
  -- first against last is refused
  pub refused : AcceptedPair lamp_aliased dimmed_aliased Reuses
  pub refused_steps : Steps mended_of lamp_aliased (empty_three ∷ dimmed_aliased ∷ [])
  pub refused_ends : selected (outcome mended lamp_aliased dimmed_aliased) ≡ 11 ∷ 3 ∷ 2 ∷ 1 ∷ []
  pub refused_largest : largest_step mended_of lamp_aliased (empty_three ∷ dimmed_aliased ∷ []) ≡ 2
  -- repeats, and another order
  pub repeated : mended_told effect_repeated effect_forgotten ≡ mended_told effect effect_forgotten
  pub repeated_told : mended_told effect_repeated effect_forgotten ≡ lines
      ("TombstoneDropped;Major;U::v;-;tombstone @3 was dropped" ∷ "TombstoneDropped;Major;U::v;-;tombstone @5 was dropped" ∷ "Breaking;Major;2" ∷ [])
  pub repeated_kept : distance mended_of effect_repeated effect ≡ 0
  pub repeated_back : distance mended_of effect effect_repeated ≡ 0
