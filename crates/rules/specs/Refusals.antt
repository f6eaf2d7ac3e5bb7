-- Document 01, "Turned back", for two images: when each number is given, with which side, and what a refusal is. When a single image is
-- refused, and that its numbers are 1 to 10, is said by the crate refusals. Assumes nothing.
use Rattle.std.specs.Prelude.{◌≡◌, ◌↔◌, List, ℕ, ◌≤◌, ◌<◌, None, Some}
use Rattle.maps.specs.Keyed.{lookup}
use Rattle.maps.specs.Orders.{before}
use Rattle.image.specs.Schema.{Name, Decl, Schema}
use Rattle.image.specs.Codes.{number, alias_kind, not_refused, long_refusal, deep_refusal, alias_pair_refusal, full_refusal, no_side, old_side, new_side, both_sides}
use Rattle.image.specs.Parse.{ok, no}
use Rattle.image.specs.Image.{read_image}
use Rattle.rules.specs.Survivors.{name_of, View}
use Rattle.rules.specs.Clauses.{Reading, changes}
use Rattle.rules.specs.Outcome.{Outcome, refused, select, text_length, written}
use Rattle.rules.specs.Answer.{Fault, Policy, compared, first_fault, outcome, verdict_by, report_by, usual}

-- "A refusal is number and side .., with bump Major, result Breaking, all counts and length 0": by selector
pub record Refusal (answer : ℕ → ℕ) : Type 0 where
  pub bump : answer 2 ≡ 2
  pub result : answer 3 ≡ 1
  pub rest : (n : ℕ) → 4 ≤ n → answer n ≡ 0

-- ---- of any verdict

-- the image is accepted, and passes the check of one image
pub record Passes (p : Policy) (image : List ℕ) (x : Schema) : Type 0 where
  pub end : ℕ
  pub read : read_image image ≡ ok x end
  pub alone : p.alone x ≡ None

-- a number of one image
abbrev pub OneToTen : ℕ → Type 0
OneToTen k = (number long_refusal ≤ k) × (k ≤ number deep_refusal)

-- where two images are decided, and to what outcome
pub data Decided (p : Policy) (old new : List ℕ) : Outcome → Type 0 where
  -- 1 to 10, "old before new", and after them the check of one image
  old_refused : {k : ℕ} → OneToTen k → read_image old ≡ no k → Decided p old new (refused k (number old_side))
  old_alone : {x : Schema} {end k : ℕ} → read_image old ≡ ok x end → p.alone x ≡ Some k → Decided p old new (refused k (number old_side))
  new_refused : {x : Schema} {k : ℕ} → Passes p old x → OneToTen k → read_image new ≡ no k → Decided p old new (refused k (number new_side))
  new_alone : {x y : Schema} {end k : ℕ} → Passes p old x → read_image new ≡ ok y end → p.alone y ≡ Some k
      → Decided p old new (refused k (number new_side))
  -- the checks of the pair
  pair_refused : {x y : Schema} {f : Fault} → Passes p old x → Passes p new y → first_fault p.pair x y ≡ Some f
      → Decided p old new (refused f.number f.side)
  verdict : {x y : Schema} → Passes p old x → Passes p new y → first_fault p.pair x y ≡ None
      → Decided p old new (compared (changes p.reading (p.view x) (p.view y)))

-- a number that neither says that there is a verdict nor that a buffer is full
abbrev pub Own : ℕ → Type 0
Own k = (k ≡ number not_refused → ⊥) × (k ≡ number full_refusal → ⊥)

-- the numbers of a policy's checks are such
pub record Numbered (p : Policy) : Type 0 where
  pub alone : (x : Schema) (k : ℕ) → p.alone x ≡ Some k → Own k
  pub pair : (x y : Schema) (f : Fault) → first_fault p.pair x y ≡ Some f → Own f.number

pub record PolicyRefusals (p : Policy) (old new : List ℕ) : Type 0 where
  -- an outcome is that of the two images exactly if they are decided so
  pub exactly : (o : Outcome) → (outcome p old new ≡ o) ↔ Decided p old new o
  -- "A verdict has number 0 and side none."
  pub no_side : verdict_by p old new 0 ≡ number not_refused → verdict_by p old new 1 ≡ number no_side
  pub refusal : (verdict_by p old new 0 ≡ number not_refused → ⊥) → Refusal (verdict_by p old new)

-- of the report call, with a buffer of so many bytes
pub record ReportRefusals (p : Policy) (old new : List ℕ) (room : ℕ) : Type 0 where
  -- 12: "report longer than its buffer"
  pub full : (select (report_by p old new room) 0 ≡ number full_refusal) ↔ ((verdict_by p old new 0 ≡ number not_refused) × (room < verdict_by p old new 4))
  pub both_sides : select (report_by p old new room) 0 ≡ number full_refusal → select (report_by p old new room) 1 ≡ number both_sides
  -- otherwise all is as in the verdict
  pub fits : (select (report_by p old new room) 0 ≡ number full_refusal → ⊥) → (n : ℕ) → select (report_by p old new room) n ≡ verdict_by p old new n
  pub refusal : (select (report_by p old new room) 0 ≡ number not_refused → ⊥) → Refusal (select (report_by p old new room))
  -- "Its report call returns the length, 0 if refused", and leaves "an untouched buffer"
  pub nothing : (select (report_by p old new room) 0 ≡ number not_refused → ⊥) → text_length (report_by p old new room) ≡ 0
  pub untouched : (select (report_by p old new room) 0 ≡ number not_refused → ⊥) → (out : List ℕ) → written (report_by p old new room) out ≡ out

-- ---- of a verdict that refuses no image alone, and pairs with side both

-- both images are accepted, and P holds of what they hold
pub record AcceptedPair (old new : List ℕ) (P : Schema → Schema → Type 0) : Type 0 where
  pub old_schema : Schema
  pub new_schema : Schema
  pub old_end : ℕ
  pub new_end : ℕ
  pub old_read : read_image old ≡ ok old_schema old_end
  pub new_read : read_image new ≡ ok new_schema new_end
  pub holds : P old_schema new_schema

-- the old image is accepted, and the new one refused
pub record NewRefused (old new : List ℕ) (k : ℕ) : Type 0 where
  pub old_schema : Schema
  pub old_end : ℕ
  pub old_read : read_image old ≡ ok old_schema old_end
  pub new_read : read_image new ≡ no k

-- of the verdict call: with which side each number is given, and what a refusal is
module _ (p : Policy) (old new : List ℕ) where
  -- by selector
  abbrev answer_by : ℕ → ℕ
  answer_by = verdict_by p old new

  pub record Sided : Type 0 where
    -- 1 to 10, "old before new"
    pub old_refused : (k : ℕ) → ((answer_by 0 ≡ k) × (answer_by 1 ≡ number old_side)) ↔ (read_image old ≡ no k)
    pub new_refused : (k : ℕ) → ((answer_by 0 ≡ k) × (answer_by 1 ≡ number new_side)) ↔ NewRefused old new k
    -- every other number: "11 and 12: both"
    pub both_sides : number deep_refusal < answer_by 0 → answer_by 1 ≡ number both_sides
    -- "A verdict has number 0 and side none."
    pub no_side : answer_by 0 ≡ number not_refused → answer_by 1 ≡ number no_side
    pub refusal : ¬ (answer_by 0 ≡ number not_refused) → Refusal answer_by

-- ---- of a verdict whose one check is 11: that of document 01, and others over another view or by another reading

module _ (view : Schema → View) where
  -- what stands of a name is a generic alias
  pub record Alias (name : Name) (s : Schema) : Type 0 where
    pub decl : Decl
    pub stands : lookup name_of before name (view s).standing ≡ Some decl
    pub generic : decl.kind ≡ number alias_kind

  -- "survivors of one name are generic aliases in both images"
  pub record AliasPair (old new : Schema) : Type 0 where
    pub name : Name
    pub in_old : Alias name old
    pub in_new : Alias name new

-- of the verdict call
module _ (view : Schema → View) (reading : Reading) (old new : List ℕ) where
  -- by selector
  abbrev answer : ℕ → ℕ
  answer = verdict_by (usual view reading) old new

  pub record VerdictRefusals : Type 0 where
    -- "Two images get one exactly if none of 1 to 11 applies to them": the number is 0
    pub verdict : (answer 0 ≡ number not_refused) ↔ AcceptedPair old new (λ x y. AliasPair view x y → ⊥)
    -- 11
    pub alias_pair : (answer 0 ≡ number alias_pair_refusal) ↔ AcceptedPair old new (AliasPair view)
    -- 1 to 10, all sides, and what a refusal is
    pub sides : Sided (usual view reading) old new
    -- the number is one of 0 to 11, and the report's, with a buffer of so many bytes, one of 0 to 12
    pub most : answer 0 ≤ number alias_pair_refusal
    pub most_reported : (room : ℕ) → select (report_by (usual view reading) old new room) 0 ≤ number full_refusal
