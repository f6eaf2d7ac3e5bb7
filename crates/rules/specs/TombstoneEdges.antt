-- R-10 on its edges, each as the whole report of two small schemas in format 3 by the mended verdict and, where it says something, by the
-- others; then as distances. Assumes nothing.
use Rattle.std.specs.Prelude.{◌≡◌, true, false, List, [], ◌∷◌, map, ℕ, None, Some, option_map}
use Prim.Native.String.{String}
use Rattle.image.specs.Schema.{unmarked, no_type, Field, Variant, Decl, decl, struck, Schema}
use Rattle.image.specs.Codes.{number, message_kind}
use Rattle.image.specs.Words.{bytes}
use Rattle.rules.specs.Outcome.{select}
use Rattle.rules.specs.Answer.{compare_pair, plain}
use Rattle.rules.specs.Imports.{imports}
use Rattle.rules.specs.Tombstones.{schema_uses}
use Rattle.rules.specs.Mended.{mended}
use Rattle.rules.specs.Edges.{u8, deprecated, non_exhaustive, field, message, variant, union, schema, silent}
use Rattle.rules.specs.ImportEdges.{told, holding}
use Rattle.rules.specs.MendedEdges.{enum_of, flags_named, flags_of, both}
use Rattle.rules.specs.Pinned.{lines}

-- in format 3, with these numbers struck off in each of its declarations
abbrev pub off : List ℕ → Schema → Schema
off numbers s = record { format = 3; registry = map (option_map (λ d. struck d numbers)) s.registry; ids = s.ids; namespace = s.namespace }

-- the number of the examples
abbrev pub three : List ℕ
three = 3 ∷ []

-- fields of these numbers, and variants or bits
abbrev pub fields : List ℕ → List Field
fields numbers = map (λ n. field n "x" unmarked None u8) numbers

abbrev pub variants : List ℕ → List Variant
variants numbers = map (λ n. variant n "x") numbers

-- a variant of a union, with these numbers struck off, and fields of these
abbrev pub inside : ℕ → String → List ℕ → List ℕ → Variant
inside ordinal name numbers used = record { ordinal = ordinal; name = bytes name; fields = fields used; tombstones = numbers }

-- a union of one variant, and of more, with none struck off in the union itself
abbrev pub in_variant : String → List ℕ → List ℕ → Schema
in_variant name numbers used = off [] (union (inside 0 name numbers used ∷ []))

abbrev pub in_variants : List Variant → Schema
in_variants vs = off [] (union vs)

-- flags B, for beside A, with these numbers struck off, and bits of these
abbrev pub flags_b : List ℕ → List ℕ → Decl
flags_b numbers used = struck (flags_named "B" 1 (variants used)) numbers

-- a message that is deprecated
abbrev pub deprecated_message : List Field → Schema
deprecated_message fs = schema (decl (number message_kind) (bytes "A") deprecated None fs [] no_type) []

-- the distance by the mended verdict
abbrev pub apart : Schema → Schema → ℕ
apart old new = select (compare_pair mended old new) 2

abbrev pub from_itself : Schema → ℕ
from_itself s = apart s s

-- ---- three releases of a message, and of flags: 3 is struck off, then it is not, then it is used

abbrev pub lamp : Schema
lamp = off three (message [])

abbrev pub lamp_forgotten : Schema
lamp_forgotten = off [] (message [])

abbrev pub lamp_used : Schema
lamp_used = off [] (message (fields three))

abbrev pub panel : Schema
panel = off three (flags_of 1 [])

abbrev pub panel_forgotten : Schema
panel_forgotten = off [] (flags_of 1 [])

abbrev pub panel_used : Schema
panel_used = off [] (flags_of 1 (variants three))

pub record TombstoneEdges : Type 0 where
  -- ---- "where the new side uses a number struck off in the old": of a message, an enum, flags, a union, and a variant under its old name
  pub message_reused : told mended lamp lamp_used
      ≡ bytes "FieldAdded;Major;A;+x;field 'x' @3 was added\nTombstoneReused;Major;A;-;tombstone @3 was reused\nBreaking;Major;2\n"
  pub enum_reused : told mended (off three (enum_of 8 unmarked [])) (off [] (enum_of 8 unmarked (variants three)))
      ≡ bytes "VariantAdded;Major;A;+x;variant 'x' @3 was added\nTombstoneReused;Major;A;-;tombstone @3 was reused\nBreaking;Major;2\n"
  pub flags_reused : told mended panel panel_used
      ≡ bytes "FlagsBitAdded;Minor;A;+x;bit 'x' @3 was added\nTombstoneReused;Major;A;-;tombstone @3 was reused\nBreaking;Major;2\n"
  pub union_reused : told mended (off three (union [])) (off [] (union (variants three)))
      ≡ bytes "VariantAdded;Minor;A;+x;variant 'x' @3 was added\nTombstoneReused;Major;A;-;tombstone @3 was reused\nBreaking;Major;2\n"
  pub variant_reused : told mended (in_variant "v" three []) (in_variant "w" [] three)
      ≡ bytes "FieldAdded;Major;A::v;+x;field 'x' @3 was added\nTombstoneReused;Major;A::v;-;tombstone @3 was reused\nBreaking;Major;2\n"
  -- ---- "where the new side neither uses nor strikes it off"
  pub message_dropped : told mended lamp lamp_forgotten ≡ bytes "TombstoneDropped;Major;A;-;tombstone @3 was dropped\nBreaking;Major;1\n"
  pub enum_dropped : told mended (off three (enum_of 8 unmarked [])) (off [] (enum_of 8 unmarked []))
      ≡ bytes "TombstoneDropped;Major;A;-;tombstone @3 was dropped\nBreaking;Major;1\n"
  pub flags_dropped : told mended panel panel_forgotten ≡ bytes "TombstoneDropped;Major;A;-;tombstone @3 was dropped\nBreaking;Major;1\n"
  pub union_dropped : told mended (off three (union [])) (off [] (union [])) ≡ bytes "TombstoneDropped;Major;A;-;tombstone @3 was dropped\nBreaking;Major;1\n"
  pub variant_dropped : told mended (in_variant "v" three []) (in_variant "w" [] []) ≡ bytes "TombstoneDropped;Major;A::v;-;tombstone @3 was dropped\nBreaking;Major;1\n"
  pub another_dropped : told mended (off three (message [])) (off (4 ∷ []) (message (fields (5 ∷ []))))
      ≡ bytes "FieldAdded;Major;A;+x;field 'x' @5 was added\nTombstoneDropped;Major;A;-;tombstone @3 was dropped\nBreaking;Major;2\n"
  -- where the new side strikes it off and does not use it, there is neither
  pub message_kept : told mended lamp lamp ≡ silent
  pub enum_kept : told mended (off three (enum_of 8 unmarked [])) (off three (enum_of 8 unmarked [])) ≡ silent
  pub flags_kept : told mended panel panel ≡ silent
  pub union_kept : told mended (off three (union [])) (off three (union [])) ≡ silent
  pub variant_kept : told mended (in_variant "v" three []) (in_variant "w" three []) ≡ silent
  -- nor where nothing is struck off
  pub none : told mended (off [] (message (fields three))) (off [] (message (fields three))) ≡ silent
  pub none_in_variant : told mended (in_variant "v" [] three) (in_variant "w" [] three) ≡ silent
  -- where it uses it and strikes it off as well, it is reused: also in one body, against itself
  pub reused_and_struck : told mended (off three (message [])) (off three (message (fields three)))
      ≡ bytes "FieldAdded;Major;A;+x;field 'x' @3 was added\nTombstoneReused;Major;A;-;tombstone @3 was reused\nBreaking;Major;2\n"
  pub message_itself : told mended (off three (message (fields three))) (off three (message (fields three)))
      ≡ bytes "TombstoneReused;Major;A;-;tombstone @3 was reused\nBreaking;Major;1\n"
  pub enum_itself : told mended (off three (enum_of 8 unmarked (variants three))) (off three (enum_of 8 unmarked (variants three)))
      ≡ bytes "TombstoneReused;Major;A;-;tombstone @3 was reused\nBreaking;Major;1\n"
  pub flags_itself : told mended (off three (flags_of 1 (variants three))) (off three (flags_of 1 (variants three)))
      ≡ bytes "TombstoneReused;Major;A;-;tombstone @3 was reused\nBreaking;Major;1\n"
  pub union_itself : told mended (off three (union (variants three))) (off three (union (variants three)))
      ≡ bytes "TombstoneReused;Major;A;-;tombstone @3 was reused\nBreaking;Major;1\n"
  pub variant_itself : told mended (in_variant "v" three three) (in_variant "v" three three)
      ≡ bytes "TombstoneReused;Major;A::v;-;tombstone @3 was reused\nBreaking;Major;1\n"
  -- what the new side alone strikes off is neither, whether it uses it or not
  pub new_struck : told mended (off [] (message [])) (off three (message [])) ≡ silent
  pub new_uses : told mended (off [] (message (fields three))) (off three (message (fields three))) ≡ silent
  pub new_in_variant : told mended (in_variant "v" [] three) (in_variant "v" three three) ≡ silent
  -- what the old side alone uses is not reused
  pub old_uses : told mended (off three (message (fields three))) (off three (message [])) ≡ bytes "FieldRemoved;Major;A;+x;field 'x' @3 was removed\nBreaking;Major;1\n"
  pub old_used : told mended (off three (message (fields three))) (off [] (message []))
      ≡ bytes "FieldRemoved;Major;A;+x;field 'x' @3 was removed\nTombstoneDropped;Major;A;-;tombstone @3 was dropped\nBreaking;Major;2\n"
  -- under another name it is used all the same
  pub renamed : told mended (off three (message (fields three))) (off [] (message (field 3 "y" unmarked None u8 ∷ [])))
      ≡ bytes "FieldRenamed;Patch;A;+y;field @3 renamed from 'x' to 'y'\nTombstoneReused;Major;A;-;tombstone @3 was reused\nBreaking;Major;2\n"
  -- of two items of one number one survives, and the number is used
  pub twice_used : told mended (off three (message [])) (off [] (message (fields (3 ∷ 3 ∷ []))))
      ≡ bytes "FieldAdded;Major;A;+x;field 'x' @3 was added\nTombstoneReused;Major;A;-;tombstone @3 was reused\nBreaking;Major;2\n"
  -- the smallest number and the largest
  pub smallest : told mended (off (0 ∷ []) (message [])) (off [] (message [])) ≡ bytes "TombstoneDropped;Major;A;-;tombstone @0 was dropped\nBreaking;Major;1\n"
  pub largest_reused : told mended (off (4294967295 ∷ []) (message [])) (off [] (message (fields (4294967295 ∷ []))))
      ≡ bytes "FieldAdded;Major;A;+x;field 'x' @4294967295 was added\nTombstoneReused;Major;A;-;tombstone @4294967295 was reused\nBreaking;Major;2\n"
  pub largest_dropped : told mended (off (4294967295 ∷ []) (message [])) (off [] (message []))
      ≡ bytes "TombstoneDropped;Major;A;-;tombstone @4294967295 was dropped\nBreaking;Major;1\n"
  -- ---- "Repeated tombstones count as one": on either side
  pub twice_reused : told mended (off (3 ∷ 3 ∷ []) (message (fields three))) (off [] (message (fields three)))
      ≡ bytes "TombstoneReused;Major;A;-;tombstone @3 was reused\nBreaking;Major;1\n"
  pub twice_dropped : told mended (off (3 ∷ 5 ∷ 3 ∷ []) (message [])) (off [] (message []))
      ≡ bytes "TombstoneDropped;Major;A;-;tombstone @3 was dropped\nTombstoneDropped;Major;A;-;tombstone @5 was dropped\nBreaking;Major;2\n"
  pub twice_kept : told mended (off three (message [])) (off (3 ∷ 3 ∷ []) (message [])) ≡ silent
  -- ---- "all reused before all dropped, numbers rising": 10 after 9
  pub rising_reused : told mended (off (10 ∷ 1 ∷ 9 ∷ []) (message (fields (9 ∷ 10 ∷ 1 ∷ [])))) (off [] (message (fields (9 ∷ 10 ∷ 1 ∷ []))))
      ≡ lines
      ("TombstoneReused;Major;A;-;tombstone @1 was reused"
      ∷ "TombstoneReused;Major;A;-;tombstone @9 was reused"
      ∷ "TombstoneReused;Major;A;-;tombstone @10 was reused"
      ∷ "Breaking;Major;3"
      ∷ [])
  pub rising_dropped : told mended (off (10 ∷ 1 ∷ 9 ∷ []) (message [])) (off [] (message []))
      ≡ lines
      ("TombstoneDropped;Major;A;-;tombstone @1 was dropped"
      ∷ "TombstoneDropped;Major;A;-;tombstone @9 was dropped"
      ∷ "TombstoneDropped;Major;A;-;tombstone @10 was dropped"
      ∷ "Breaking;Major;3"
      ∷ [])
  pub reused_first : told mended (off (4 ∷ 1 ∷ 3 ∷ 2 ∷ []) (message (fields (2 ∷ 4 ∷ [])))) (off [] (message (fields (4 ∷ 2 ∷ []))))
      ≡ lines
      ("TombstoneReused;Major;A;-;tombstone @2 was reused"
      ∷ "TombstoneReused;Major;A;-;tombstone @4 was reused"
      ∷ "TombstoneDropped;Major;A;-;tombstone @1 was dropped"
      ∷ "TombstoneDropped;Major;A;-;tombstone @3 was dropped"
      ∷ "Breaking;Major;4"
      ∷ [])
  pub reused_first_in_variant : told mended (in_variant "v" (1 ∷ 2 ∷ []) (2 ∷ [])) (in_variant "v" [] (2 ∷ []))
      ≡ bytes "TombstoneReused;Major;A::v;-;tombstone @2 was reused\nTombstoneDropped;Major;A::v;-;tombstone @1 was dropped\nBreaking;Major;2\n"
  -- ---- "Both stand last in their declaration": after all else of it
  pub after_all_of_message : told mended (off three (message (field 0 "x" unmarked None u8 ∷ []))) (off [] (deprecated_message (field 0 "y" deprecated None u8 ∷ [])))
      ≡ lines
      ("FieldRenamed;Patch;A;+y;field @0 renamed from 'x' to 'y'"
      ∷ "FieldDeprecated;Patch;A;+y;field 'y' was marked @deprecated"
      ∷ "FieldDeprecated;Patch;A;-;declaration was marked @deprecated"
      ∷ "TombstoneDropped;Major;A;-;tombstone @3 was dropped"
      ∷ "Breaking;Major;4"
      ∷ [])
  pub after_all_of_enum : told mended (off three (enum_of 8 unmarked (variant 0 "y" ∷ []))) (off [] (enum_of 16 non_exhaustive (variants three)))
      ≡ lines
      ("WidthChanged;Major;A;-;width changed from 8 to 16"
      ∷ "NonExhaustiveChanged;Major;A;-;@non_exhaustive changed from false to true"
      ∷ "VariantRemoved;Major;A;+y;variant 'y' @0 was removed"
      ∷ "VariantAdded;Minor;A;+x;variant 'x' @3 was added"
      ∷ "TombstoneReused;Major;A;-;tombstone @3 was reused"
      ∷ "Breaking;Major;5"
      ∷ [])
  pub after_all_of_flags : told mended (off three (flags_of 1 (variant 0 "y" ∷ []))) (off [] (flags_of 2 []))
      ≡ lines
      ("WidthChanged;Major;A;-;width changed from 1 to 2"
      ∷ "FlagsBitRemoved;Major;A;+y;bit 'y' @0 was removed"
      ∷ "TombstoneDropped;Major;A;-;tombstone @3 was dropped"
      ∷ "Breaking;Major;3"
      ∷ [])
  -- and before the next one, named by its own
  pub in_each : told mended (both (off three (message [])) (flags_b (4 ∷ []) [])) (both (off [] (message [])) (flags_b [] (4 ∷ [])))
      ≡ lines
      ("TombstoneDropped;Major;A;-;tombstone @3 was dropped"
      ∷ "FlagsBitAdded;Minor;B;+x;bit 'x' @4 was added"
      ∷ "TombstoneReused;Major;B;-;tombstone @4 was reused"
      ∷ "Breaking;Major;3"
      ∷ [])
  -- ---- "or variant": after its fields; the union's own last, after those of all its variants
  pub after_all_of_variant : told mended (in_variant "v" three (0 ∷ 1 ∷ [])) (in_variant "v" [] (1 ∷ 2 ∷ []))
      ≡ lines
      ("FieldRemoved;Major;A::v;+x;field 'x' @0 was removed"
      ∷ "FieldAdded;Major;A::v;+x;field 'x' @2 was added"
      ∷ "TombstoneDropped;Major;A::v;-;tombstone @3 was dropped"
      ∷ "Breaking;Major;3"
      ∷ [])
  pub after_all_of_union :
      told mended (off (7 ∷ []) (union (inside 2 "c" [] [] ∷ inside 1 "b" (4 ∷ []) [] ∷ inside 0 "a" three [] ∷ [])))
      (off [] (union (inside 0 "a" [] [] ∷ inside 1 "b" [] (0 ∷ []) ∷ [])))
      ≡ lines
      ("VariantRemoved;Major;A;+c;variant 'c' @2 was removed"
      ∷ "TombstoneDropped;Major;A::a;-;tombstone @3 was dropped"
      ∷ "FieldAdded;Major;A::b;+x;field 'x' @0 was added"
      ∷ "TombstoneDropped;Major;A::b;-;tombstone @4 was dropped"
      ∷ "TombstoneDropped;Major;A;-;tombstone @7 was dropped"
      ∷ "Breaking;Major;5"
      ∷ [])
  -- each to its own: a field of a variant is no item of the union, nor a variant one of a variant
  pub field_of_variant : told mended (off three (union (inside 0 "v" [] three ∷ []))) (off three (union (inside 0 "v" [] three ∷ []))) ≡ silent
  pub variant_of_union : told mended (in_variant "v" (0 ∷ []) []) (in_variant "v" (0 ∷ []) []) ≡ silent
  pub struck_in_variant : told mended (off three (union (inside 0 "v" [] [] ∷ []))) (off [] (union (inside 0 "v" three [] ∷ [])))
      ≡ bytes "TombstoneDropped;Major;A;-;tombstone @3 was dropped\nBreaking;Major;1\n"
  pub struck_in_union : told mended (in_variant "v" three []) (off three (union (inside 0 "v" [] [] ∷ [])))
      ≡ bytes "TombstoneDropped;Major;A::v;-;tombstone @3 was dropped\nBreaking;Major;1\n"
  -- a variant that is gone, and one that came, is not shared
  pub gone_variant : told mended (in_variant "v" three three) (in_variants []) ≡ bytes "VariantRemoved;Major;A;+v;variant 'v' @0 was removed\nBreaking;Major;1\n"
  pub came_variant : told mended (in_variants []) (in_variant "v" three three) ≡ bytes "VariantAdded;Minor;A;+v;variant 'v' @0 was added\nCompatible;Minor;1\n"
  -- of two variants of one ordinal the last counts: on the old side, and on the new
  pub last_of_old : told mended (in_variants (inside 0 "v" three [] ∷ inside 0 "w" (4 ∷ []) [] ∷ [])) (in_variant "u" [] [])
      ≡ bytes "TombstoneDropped;Major;A::w;-;tombstone @4 was dropped\nBreaking;Major;1\n"
  pub last_of_new : told mended (in_variant "v" three []) (in_variants (inside 0 "v" [] three ∷ inside 0 "w" three [] ∷ [])) ≡ silent
  pub first_of_new : told mended (in_variant "v" three []) (in_variants (inside 0 "v" three [] ∷ inside 0 "w" [] [] ∷ []))
      ≡ bytes "TombstoneDropped;Major;A::v;-;tombstone @3 was dropped\nBreaking;Major;1\n"
  -- ---- "for shared declarations of one kind": not where the kind changed, nor of one that is gone or came, or is not listed
  pub kind_changed : told mended (off three (enum_of 8 unmarked [])) (off [] (flags_of 1 (variants three)))
      ≡ bytes "DeclarationKindChanged;Major;A;-;'A' changed from enum to flags\nBreaking;Major;1\n"
  pub gone : told mended (both (off [] (message [])) (flags_b three three)) (off [] (message []))
      ≡ bytes "DeclarationRemoved;Major;B;-;flags 'B' was removed\nBreaking;Major;1\n"
  pub came : told mended (off [] (message [])) (both (off [] (message [])) (flags_b three three))
      ≡ bytes "DeclarationAdded;Minor;B;-;flags 'B' was added\nCompatible;Minor;1\n"
  pub not_listed : told mended (holding (off [] (message [])) (Some (flags_b three []) ∷ [])) (holding (off [] (message [])) (Some (flags_b [] three) ∷ [])) ≡ silent
  -- of two declarations of one name the last counts
  pub last_declared : told mended (both (off [] (flags_of 1 [])) (struck (flags_named "A" 1 []) three)) (off [] (flags_of 1 []))
      ≡ bytes "TombstoneDropped;Major;A;-;tombstone @3 was dropped\nBreaking;Major;1\n"
  pub first_declared : told mended (both (off three (flags_of 1 [])) (flags_named "A" 1 [])) (off [] (flags_of 1 [])) ≡ silent
  -- ---- the earlier verdicts "skip tombstones"
  pub reused_plain : told plain panel panel_used ≡ bytes "FlagsBitAdded;Minor;A;+x;bit 'x' @3 was added\nCompatible;Minor;1\n"
  pub reused_imports : told imports panel panel_used ≡ bytes "FlagsBitAdded;Minor;A;+x;bit 'x' @3 was added\nCompatible;Minor;1\n"
  pub dropped_plain : told plain lamp lamp_forgotten ≡ silent
  pub dropped_imports : told imports lamp lamp_forgotten ≡ silent
  pub variant_plain : told plain (in_variant "v" three []) (in_variant "v" [] []) ≡ silent
  pub variant_imports : told imports (in_variant "v" three []) (in_variant "v" [] []) ≡ silent
  -- ---- "a chain cannot hide a reuse behind a middle release": the second of three releases has forgotten it
  pub lamp_added : told mended lamp_forgotten lamp_used ≡ bytes "FieldAdded;Major;A;+x;field 'x' @3 was added\nBreaking;Major;1\n"
  pub lamp_first : apart lamp lamp_forgotten ≡ 2
  pub lamp_second : apart lamp_forgotten lamp_used ≡ 2
  pub lamp_whole : apart lamp lamp_used ≡ 2
  -- where what comes is Minor, the way is no further than the step that forgets
  pub panel_first : apart panel panel_forgotten ≡ 2
  pub panel_second : apart panel_forgotten panel_used ≡ 1
  pub panel_whole : apart panel panel_used ≡ 2
  -- ---- "one that strikes off a number and uses it .. is now at distance 2 from itself; every other one stays at 0"
  pub message_uses : schema_uses (off three (message (fields three))) ≡ true
  pub message_distance : from_itself (off three (message (fields three))) ≡ 2
  pub enum_uses : schema_uses (off three (enum_of 8 unmarked (variants three))) ≡ true
  pub enum_distance : from_itself (off three (enum_of 8 unmarked (variants three))) ≡ 2
  pub flags_uses : schema_uses (off three (flags_of 1 (variants three))) ≡ true
  pub flags_distance : from_itself (off three (flags_of 1 (variants three))) ≡ 2
  pub union_uses : schema_uses (off three (union (variants three))) ≡ true
  pub union_distance : from_itself (off three (union (variants three))) ≡ 2
  pub variant_uses : schema_uses (in_variant "v" three three) ≡ true
  pub variant_distance : from_itself (in_variant "v" three three) ≡ 2
  pub other_uses : schema_uses (off three (message (fields (4 ∷ [])))) ≡ false
  pub other_distance : from_itself (off three (message (fields (4 ∷ [])))) ≡ 0
  pub lamp_uses : schema_uses lamp ≡ false
  pub lamp_distance : from_itself lamp ≡ 0
  -- not in the same one, and not in one that does not survive
  pub each_other_uses : schema_uses (off three (union (inside 0 "v" [] three ∷ []))) ≡ false
  pub each_other_distance : from_itself (off three (union (inside 0 "v" [] three ∷ []))) ≡ 0
  pub lost_variant_uses : schema_uses (in_variants (inside 0 "v" three three ∷ inside 0 "w" [] [] ∷ [])) ≡ false
  pub lost_variant_distance : from_itself (in_variants (inside 0 "v" three three ∷ inside 0 "w" [] [] ∷ [])) ≡ 0
  pub lost_declaration_uses : schema_uses (both (off three (flags_of 1 (variants three))) (flags_named "A" 1 [])) ≡ false
  pub lost_declaration_distance : from_itself (both (off three (flags_of 1 (variants three))) (flags_named "A" 1 [])) ≡ 0
  pub unlisted_uses : schema_uses (holding (off [] (message [])) (Some (flags_b three three) ∷ [])) ≡ false
  pub unlisted_distance : from_itself (holding (off [] (message [])) (Some (flags_b three three) ∷ [])) ≡ 0
