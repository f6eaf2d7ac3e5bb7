-- What is pinned of chains that reuse a number holds, by computation from the definitions alone. Assumes nothing.
use mathlib.Core.Path.{refl}
use Rattle.std.specs.Prelude.{None, Some}
use mathlib.Core.List.{List, [], ◌∷◌}
use Prim.Native.Nat.{ℕ}
use Rattle.image.specs.Schema.{unmarked, Field, Variant, no_type, Decl, decl, struck, leaf, label, Schema}
use Rattle.rules.specs.Refusals.{AcceptedPair}
use Rattle.rules.specs.Distance.{Verdict, distance, Steps, largest_step}
use Rattle.rules.specs.Reuse.{Reuses, in_declaration, in_variant}
use Rattle.rules.specs.PinnedMended.{mended_told, lamp, lamp_dimmed, panel, panel_lit}
use Rattle.rules.specs.PinnedReuse.{effect, effect_used, lamp_aliased, dimmed_aliased, PinnedReuse}
use Rattle.rules.proofs.Refusals.{read_pair}
use Rattle.rules.proofs.Computed.{reads, reports}

-- ---- what the images hold; the bytes of the names are their numbers: P 80, U 85, L 76, G 71, v 118

abbrev field : ℕ → List ℕ → Field
field ordinal name =
    record { ordinal = ordinal; name = name; marks = unmarked; encoding = record { deltas = 0; base = 0 }; limit = None; type = leaf (label 0 1 0 []) }

abbrev on : Field
on = field 0 (111 ∷ 110 ∷ [])

abbrev dim : Field
dim = field 3 (100 ∷ 105 ∷ 109 ∷ [])

abbrev lit : Variant
lit = record { ordinal = 3; name = 108 ∷ 105 ∷ 116 ∷ []; fields = []; tombstones = [] }

abbrev variant : List Field → List ℕ → Variant
variant fs numbers = record { ordinal = 0; name = 118 ∷ []; fields = fs; tombstones = numbers }

abbrev flags_of : List Variant → List ℕ → Decl
flags_of vs numbers = struck (decl 2 (80 ∷ []) unmarked (Some 1) [] vs no_type) numbers

abbrev union_of : Variant → Decl
union_of v = decl 3 (85 ∷ []) unmarked None [] (v ∷ []) no_type

abbrev message_of : List Field → List ℕ → Decl
message_of fs numbers = struck (decl 0 (76 ∷ []) unmarked None fs [] no_type) numbers

abbrev generic : Decl
generic = decl 6 (71 ∷ []) unmarked None [] [] no_type

abbrev alone : Decl → Schema
alone d = record { format = 3; registry = Some d ∷ []; ids = 0 ∷ []; namespace = [] }

abbrev aliased : Decl → Schema
aliased d = record { format = 3; registry = Some d ∷ Some generic ∷ []; ids = 0 ∷ 1 ∷ []; namespace = [] }

-- ---- the number 3, in both

flags_reuse : Reuses (alone (flags_of [] (3 ∷ []))) (alone (flags_of (lit ∷ []) []))
unfolding reports
flags_reuse =
    in_declaration (record { name = 80 ∷ []; old = flags_of [] (3 ∷ []); new = flags_of (lit ∷ []) []; in_old = refl; in_new = refl; kind = refl })
    (record { number = 3; is_struck = refl; is_used = refl })

union_reuse : Reuses (alone (union_of (variant (on ∷ []) (3 ∷ 5 ∷ [])))) (alone (union_of (variant (on ∷ field 3 (120 ∷ []) ∷ []) [])))
unfolding reports
union_reuse =
    in_variant
    (record {
      name = 85 ∷ [];
      old = union_of (variant (on ∷ []) (3 ∷ 5 ∷ []));
      new = union_of (variant (on ∷ field 3 (120 ∷ []) ∷ []) []);
      in_old = refl;
      in_new = refl;
      kind = refl;
    })
    (record {
      kind = refl;
      ordinal = 0;
      old = variant (on ∷ []) (3 ∷ 5 ∷ []);
      new = variant (on ∷ field 3 (120 ∷ []) ∷ []) [];
      in_old = refl;
      in_new = refl;
    })
    (record { number = 3; is_struck = refl; is_used = refl })

message_reuse : Reuses (alone (message_of (on ∷ []) (3 ∷ []))) (alone (message_of (on ∷ dim ∷ []) []))
unfolding reports
message_reuse =
    in_declaration
    (record { name = 76 ∷ []; old = message_of (on ∷ []) (3 ∷ []); new = message_of (on ∷ dim ∷ []) []; in_old = refl; in_new = refl; kind = refl })
    (record { number = 3; is_struck = refl; is_used = refl })

aliased_reuse : Reuses (aliased (message_of (on ∷ []) (3 ∷ []))) (aliased (message_of (on ∷ dim ∷ []) []))
unfolding reports
aliased_reuse =
    in_declaration
    (record { name = 76 ∷ []; old = message_of (on ∷ []) (3 ∷ []); new = message_of (on ∷ dim ∷ []) []; in_old = refl; in_new = refl; kind = refl })
    (record { number = 3; is_struck = refl; is_used = refl })

-- ---- the images

flags_pair : AcceptedPair panel panel_lit Reuses
unfolding reads
flags_pair = read_pair {m = 28} {n = 32} refl refl flags_reuse

union_pair : AcceptedPair effect effect_used Reuses
unfolding reads
union_pair = read_pair {m = 53} {n = 56} refl refl union_reuse

message_pair : AcceptedPair lamp lamp_dimmed Reuses
unfolding reads
message_pair = read_pair {m = 40} {n = 49} refl refl message_reuse

aliased_pair : AcceptedPair lamp_aliased dimmed_aliased Reuses
unfolding reads
aliased_pair = read_pair {m = 51} {n = 60} refl refl aliased_reuse

pub pinned_reuse : PinnedReuse
unfolding reports mended_told Verdict distance Steps largest_step
pinned_reuse = assumption (flags_pair, union_pair, message_pair, aliased_pair)
