-- What the code's policies stand for, and what it says of a check. Assumes nothing.
use Rattle.std.specs.Prelude.{◌≡◌, Bool, cond, List, [], ◌∷◌, ℕ, ◌≤◌, length, take, Option, None, Some, Result, Ok, Err, IfOk}
use Rattle.rules.specs.Mended.{mixed_check}
use Rattle.image.specs.Schema.{Schema}
use Rattle.parts.specs.Codes.{number, alias_pair_refusal, both_sides}
use Rattle.parts.specs.Numbers.{refusal_number, side_number}
use Rattle.parts.specs.Handles.{schema_in}
use Rattle.parts.specs.declared.handles.Image.{Image}
use Rattle.rules.specs.Survivors.{View, view_of}
use Rattle.rules.specs.Changes.{Change}
use Rattle.rules.specs.Clauses.{changes}
use Rattle.rules.specs.Outcome.{Outcome, refused}
use Rattle.rules.specs.Answer.{Fault, fault, Check, Policy as Definition, fault_in, compare_pair, outcome, alias_check}
use Rattle.rules.specs.Reached.{IdSet, reached_set}
use Rattle.rules.specs.Imports.{imports_view}
use Rattle.lines.specs.Readings.{reading_of}
use Rattle.reached.specs.declared.Reached.{Reached}
use Rattle.compat.specs.declared.policies.Policy.{Policy}
use Rattle.verdicts.specs.declared.Fault.{Fault as Found}

-- what is compared of a schema: if imports are followed, with what is reached
abbrev pub view_by : Bool → Schema → View
view_by follows = cond follows imports_view view_of

-- the checks of the pair: 16, if it is tested, and then 11 of what is compared
abbrev pub checks_by : Bool → (Schema → View) → List Check
checks_by tests_formats view = cond tests_formats (mixed_check ∷ alias_check view ∷ []) (alias_check view ∷ [])

-- no verdict has a check of one image alone
unfoldable pub policy_of : Policy → Definition
policy_of p = record {
  alone = λ x. None;
  pair = checks_by p.tests_formats (view_by p.follows);
  view = view_by p.follows;
  reading = reading_of p.reading;
}

-- the ids of a schema that may stand besides the listed ones
unfoldable pub ids_by : Policy → Schema → IdSet
ids_by p x = cond p.follows (reached_set x) []

-- the changes that it reports of two images, and what it tells of them
unfoldable pub changes_by : Policy → Image → Image → List Change
changes_by p old new = changes (policy_of p).reading ((policy_of p).view (schema_in old)) ((policy_of p).view (schema_in new))

abbrev pub pair_outcome : Policy → Image → Image → Outcome
pair_outcome p old new = compare_pair (policy_of p) (schema_in old) (schema_in new)

-- ---- the sets of ids that go with the images

-- the first marks of an answer are those of the policy
pub record HasIds (p : Policy) (i : Image) (r : Reached) : Type 0 where
  pub marks : take r.count r.marks ≡ ids_by p (schema_in i)
  pub few : r.count ≤ 512
  pub room : r.count ≤ length r.marks

-- ---- checks

-- what comes before 11: 16, if it is tested
unfoldable pub format_fault : Policy → Schema → Schema → Option Fault
format_fault p x y = cond p.tests_formats (mixed_check x y) None

-- a fault, if it is found
unfoldable pub fault_if : Bool → Fault → Option Fault
fault_if found f = cond found (Some f) None

-- 11, if there is such a pair
unfoldable pub alias_fault : Bool → Option Fault
alias_fault pair = cond pair (Some (fault (number alias_pair_refusal) (number both_sides))) None

-- what the code's fault stands for
abbrev pub fault_by : Found → Fault
fault_by f = fault (refusal_number f.refusal) (side_number f.side)

-- what a check says: images pass, or the fault that it found
unfoldable pub fault_of : {A : Type 0} → Result A Found → Option Fault
fault_of (Ok a) = None
fault_of (Err f) = Some (fault_by f)

-- bytes are an image that alone is not refused, or the fault that it is refused by; in every verdict the same
pub record Accepts (side : ℕ) (s : List ℕ) (r : Result Image Found) : Type 0 where
  pub fault : (p : Policy) → fault_of r ≡ fault_in (policy_of p) side s
  pub bytes : IfOk r (λ i. i.bytes.now ≡ s)

-- what two lists of bytes come to, by the images that they are, or the first fault of one
abbrev pub outcome_by : Policy → Result (Image × Image) Found → Outcome
outcome_by p (Ok images) = pair_outcome p images.0 images.1
outcome_by p (Err f) = refused (refusal_number f.refusal) (side_number f.side)

pub record AcceptsBoth (old new : List ℕ) (r : Result (Image × Image) Found) : Type 0 where
  pub outcome : (p : Policy) → outcome_by p r ≡ outcome (policy_of p) old new
