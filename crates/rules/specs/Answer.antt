-- The calls over byte lists, in stages: accept an image and judge it alone; judge the pair; compare a view of each by a reading; make the
-- verdict and the text. The stages are said once, over what a verdict is made of. Assumes nothing.
use Rattle.std.specs.Prelude.{cond, List, [], ◌∷◌, ℕ, zero, suc, length, Option, None, Some}
use Rattle.std.specs.Option.{option_or}
use Rattle.image.specs.Schema.{Schema}
use Rattle.image.specs.Codes.{number, alias_pair_refusal, old_side, new_side, both_sides}
use Rattle.image.specs.Parse.{Parsed, ok, no}
use Rattle.image.specs.Image.{read_image}
use Rattle.rules.specs.Survivors.{View, view_of}
use Rattle.rules.specs.Types.{same_type}
use Rattle.rules.specs.Changes.{Change, kind_count}
use Rattle.rules.specs.Clauses.{Reading, clauses_by, changes}
use Rattle.rules.specs.Verdict.{bump_of, result_of, count_of, alias_pair}
use Rattle.rules.specs.Report.{report}
use Rattle.rules.specs.Outcome.{Outcome, refused, answered, select, fit, text_length, written}

-- ---- what a verdict is made of

-- why images that are accepted get no verdict
pub record Fault : Type 0 where
  pub number : ℕ
  pub side : ℕ

abbrev pub fault : ℕ → ℕ → Fault
fault number side = record { number = number; side = side }

-- a check of two schemas: its fault, if it finds one
abbrev pub Check : Type 0
Check = Schema → Schema → Option Fault

pub record Policy : Type 0 where
  -- the check of one image, after its 1 to 10 and before the other is read: the number of its fault, if it finds one
  pub alone : Schema → Option ℕ
  -- the checks of the pair, in their order
  pub pair : List Check
  -- what is compared of a schema
  pub view : Schema → View
  -- and how
  pub reading : Reading

-- ---- the stages

-- so many counts, from a kind on
unfoldable pub counts : ℕ → ℕ → List Change → List ℕ
counts zero kind cs = []
counts (suc n) kind cs = count_of kind cs ∷ counts n (suc kind) cs

-- what is told of changes: "the bump .., the result .., and the count for each of the .. names of `ChangeKind`"; the text is the report
abbrev pub compared : List Change → Outcome
compared cs =
    answered (record { bump = bump_of cs; result = result_of cs; text = report cs; counts = counts kind_count 0 cs })

-- the fault of the first check that finds one
unfoldable pub first_fault : List Check → Schema → Schema → Option Fault
first_fault [] x y = None
first_fault (c ∷ cs) x y = option_or (c x y) (first_fault cs x y)

-- refused with a fault, else what comes after
unfoldable pub judged : Option Fault → Outcome → Outcome
judged None o = o
judged (Some f) o = refused f.number f.side

-- an image alone has its own side
unfoldable pub on_side : ℕ → Option ℕ → Option Fault
on_side side None = None
on_side side (Some number) = Some (fault number side)

-- "old before new; in each 1 .. Then 11"
module _ (p : Policy) where
  -- what one image alone is refused by: 1 to 10, and then its check
  unfoldable pub image_fault : ℕ → Parsed Schema → Option Fault
  image_fault side (ok x n) = on_side side (p.alone x)
  image_fault side (no k) = Some (fault k side)

  unfoldable pub fault_in : ℕ → List ℕ → Option Fault
  fault_in side image = image_fault side (read_image image)

  unfoldable pub compare_pair : Schema → Schema → Outcome
  compare_pair x y = judged (first_fault p.pair x y) (compared (changes p.reading (p.view x) (p.view y)))

  unfoldable pub accept_new : Schema → Parsed Schema → Outcome
  accept_new x (ok y n) = judged (on_side (number new_side) (p.alone y)) (compare_pair x y)
  accept_new x (no k) = refused k (number new_side)

  unfoldable pub accept_old : Parsed Schema → Parsed Schema → Outcome
  accept_old (ok x n) new = judged (on_side (number old_side) (p.alone x)) (accept_new x new)
  accept_old (no k) new = refused k (number old_side)

  unfoldable pub outcome : List ℕ → List ℕ → Outcome
  outcome old new = accept_old (read_image old) (read_image new)

  -- the verdict call, by its selector
  unfoldable pub verdict_by : List ℕ → List ℕ → ℕ → ℕ
  verdict_by old new selector = select (outcome old new) selector

  -- the report call, with a buffer of so many bytes: "Then 11, then 12 (report only)", "11 and 12: both"
  unfoldable pub report_by : List ℕ → List ℕ → ℕ → Outcome
  report_by old new room = fit (number both_sides) room (outcome old new)

  -- what it returns, and what it leaves in the buffer, by the buffer that it is lent
  abbrev pub returned_by : List ℕ → List ℕ → List ℕ → ℕ
  returned_by old new out = text_length (report_by old new (length out))

  abbrev pub leaves_by : List ℕ → List ℕ → List ℕ → List ℕ
  leaves_by old new out = written (report_by old new (length out)) out

-- ---- a verdict whose one check is 11

-- 11: "survivors of one name are generic aliases in both images", of what stands in a view
unfoldable pub alias_check : (Schema → View) → Check
alias_check view x y = cond (alias_pair (view x) (view y)) (Some (fault (number alias_pair_refusal) (number both_sides))) None

-- no check of one image alone; 11 of the pair
abbrev pub usual : (Schema → View) → Reading → Policy
usual view reading = record { alone = λ s. None; pair = alias_check view ∷ []; view = view; reading = reading }

-- ---- the verdict of document 01

-- types are read as document 01 says
abbrev pub plain_reading : Reading
plain_reading = clauses_by same_type

-- survivors are compared, by the clauses and nothing else
abbrev pub plain : Policy
plain = usual view_of plain_reading

abbrev pub checked : List ℕ → List ℕ → Outcome
checked = outcome plain

abbrev pub verdict_of : List ℕ → List ℕ → ℕ → ℕ
verdict_of = verdict_by plain

abbrev pub reported : List ℕ → List ℕ → ℕ → Outcome
reported = report_by plain

abbrev pub returned : List ℕ → List ℕ → List ℕ → ℕ
returned = returned_by plain

abbrev pub leaves : List ℕ → List ℕ → List ℕ → List ℕ
leaves = leaves_by plain
