-- R-5, "Three answers from the type comparison": what it says of two types, and the mended verdict, which reads the third answer as equal,
-- reports widths (Widths) and tombstones (Tombstones), and is given of two images that store alike. The clauses and the stages are those of
-- document 01. Assumes nothing.
use Rattle.std.specs.Prelude.{◌≡◌, Bool, true, false, cond, not, ◌&&◌, ◌||◌, ◌↔◌, List, [], ◌∷◌, ℕ, eqb, ◌+◌, None, Some}
use Rattle.std.specs.Bool.{beq}
use Rattle.maps.specs.Lists.{All}
use Rattle.image.specs.Codes.{number, mixed_refusal, both_sides}
use Rattle.image.specs.Schema.{Ty, Schema}
use Rattle.rules.specs.Survivors.{view_of}
use Rattle.rules.specs.Types.{same_label, same_tree, same_type, holds_vector}
use Rattle.rules.specs.Changes.{kind_at, WidthChanged, TombstoneReused, TombstoneDropped}
use Rattle.rules.specs.Clauses.{Reading}
use Rattle.rules.specs.Answer.{fault, Check, Policy, alias_check, outcome, checked, verdict_by}
use Rattle.rules.specs.Widths.{compare_widths}
use Rattle.rules.specs.Tombstones.{compare_last, compare_last_in}
use Rattle.rules.specs.Distance.{holds_vectors}

-- ---- the answer

-- "The type comparison shall say equal, different, or alike but for containing vectors, quaternions or matrices."
pub data Likeness : Type 0 where
  equal alike different : Likeness

-- "the trees are equal once tags 10 to 15 are compared like the other tags"
unfoldable pub equal_trees : Ty → Ty → Bool
equal_trees t u = same_tree same_label t u

-- by whether the trees are equal so, and whether one of these tags occurs
unfoldable pub likeness_by : Bool → Bool → Likeness
likeness_by same occurs = cond same (cond occurs alike equal) different

-- of two resolved types
unfoldable pub likeness : Ty → Ty → Likeness
likeness t u = likeness_by (equal_trees t u) (holds_vector t)

-- ---- its readings

-- whether two types are read as equal: `third` says how the third answer is read
unfoldable pub read_as : Bool → Likeness → Bool
read_as third equal = true
read_as third alike = third
read_as third different = false

-- "The third means that the trees are equal once tags 10 to 15 are compared like the other tags, and that one of these occurs. The verdict
-- of 01 and the one with imports read the third as different."
pub record ThreeAnswers (t u : Ty) : Type 0 where
  pub third : (likeness t u ≡ alike) ↔ ((equal_trees t u ≡ true) × (holds_vector t ≡ true))
  -- in equal trees they occur on both sides or on neither
  pub occurs : equal_trees t u ≡ true → holds_vector t ≡ holds_vector u
  -- equal exactly if document 01 says so
  pub first : (likeness t u ≡ equal) ↔ (same_type t u ≡ true)
  -- different exactly if the trees are not equal, with these tags like the others
  pub second : (likeness t u ≡ different) ↔ (equal_trees t u ≡ false)
  pub plainly : same_type t u ≡ read_as false (likeness t u)

-- ---- the mended verdict: "otherwise by the clauses of 01 and with its own report, reads it as equal"

unfoldable pub mended_type : Ty → Ty → Bool
mended_type t u = read_as true (likeness t u)

-- R-6: WidthChanged stands "first in that declaration"; R-10: what is told of tombstones "last in their declaration or variant"
abbrev pub mended_reading : Reading
mended_reading = record { same = mended_type; first = compare_widths; last = compare_last; last_in = compare_last_in }

-- 16: "if either image or both are format 1"; R-10: it "also covers one image of format 3 against one that is not"
unfoldable pub mixed : Schema → Schema → Bool
mixed x y = eqb x.format 1 || (eqb y.format 1 || not (beq (eqb x.format 3) (eqb y.format 3)))

unfoldable pub mixed_check : Check
mixed_check x y = cond (mixed x y) (Some (fault (number mixed_refusal) (number both_sides))) None

-- R-6: 16 is tested "after 10 and before 11"
abbrev pub mended : Policy
mended = record { alone = λ s. None; pair = mixed_check ∷ alias_check view_of ∷ []; view = view_of; reading = mended_reading }

-- the kinds that this verdict alone reports
abbrev pub mended_kinds : List ℕ
mended_kinds = kind_at WidthChanged ∷ kind_at TombstoneReused ∷ kind_at TombstoneDropped ∷ []

-- Of images that are not refused by 16, where no type that is compared in one of the two holds a vector, quaternion or matrix, and no width
-- has changed and no tombstone was reused or dropped, verdict and report are those of document 01.
abbrev pub Otherwise : Type 0
Otherwise = (old new : List ℕ) → (verdict_by mended old new 0 ≡ number mixed_refusal → ⊥)
    → All (λ kind. verdict_by mended old new (5 + kind) ≡ 0) mended_kinds
    → (holds_vectors view_of old && holds_vectors view_of new) ≡ false → outcome mended old new ≡ checked old new
