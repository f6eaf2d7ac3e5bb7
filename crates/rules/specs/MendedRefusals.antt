-- R-6 and R-10, of the mended verdict: when each number is given, with which side. 1 to 10 come first, then 16, then 11. Assumes nothing.
use Rattle.std.specs.Prelude.{◌≡◌, ◌↔◌, List, ℕ, ◌≤◌}
use Rattle.image.specs.Schema.{Schema}
use Rattle.image.specs.Codes.{number, not_refused, alias_pair_refusal, full_refusal, mixed_refusal}
use Rattle.rules.specs.Survivors.{view_of}
use Rattle.rules.specs.Outcome.{select}
use Rattle.rules.specs.Answer.{verdict_by, report_by}
use Rattle.rules.specs.Refusals.{AcceptedPair, Sided, AliasPair}
use Rattle.rules.specs.Mended.{mended}

-- "16 mixed, in the mended verdict if either image or both are format 1"; it "also covers one image of format 3 against one that is not"
pub data Mixed (x y : Schema) : Type 0 where
  old : x.format ≡ 1 → Mixed x y
  new : y.format ≡ 1 → Mixed x y
  old_three : x.format ≡ 3 → ¬ (y.format ≡ 3) → Mixed x y
  new_three : y.format ≡ 3 → ¬ (x.format ≡ 3) → Mixed x y

-- a number that the call on two images gives, up to a last one of those of document 01
pub data Given (last n : ℕ) : Type 0 where
  base : n ≤ last → Given last n
  mixed : n ≡ number mixed_refusal → Given last n

module _ (old new : List ℕ) where
  -- by selector
  abbrev answer : ℕ → ℕ
  answer = verdict_by mended old new

  pub record MendedRefusals : Type 0 where
    -- two images get a verdict exactly if none of 1 to 11 and 16 applies to them
    pub verdict : (answer 0 ≡ number not_refused) ↔ AcceptedPair old new (λ x y. ¬ Mixed x y × ¬ AliasPair view_of x y)
    -- 16: "after 10 and before 11"
    pub mixed : (answer 0 ≡ number mixed_refusal) ↔ AcceptedPair old new Mixed
    -- 11
    pub alias_pair : (answer 0 ≡ number alias_pair_refusal) ↔ AcceptedPair old new (λ x y. ¬ Mixed x y × AliasPair view_of x y)
    -- 1 to 10, all sides, and what a refusal is; of 16 "side both"
    pub sides : Sided mended old new
    -- the number is one of 0 to 11 and 16, and the report's, with a buffer of so many bytes, one of 0 to 12 and 16
    pub given : Given (number alias_pair_refusal) (answer 0)
    pub given_reported : (room : ℕ) → Given (number full_refusal) (select (report_by mended old new room) 0)
