-- Premises of claims about one verdict beside another, met by bytes, with what both verdicts then say; and 16 after the old image. Assumes nothing.
use Rattle.std.specs.Prelude.{◌≡◌, true, false, [], ◌∷◌, ℕ}
use Rattle.image.specs.Schema.{Schema}
use Rattle.image.specs.Parse.{ok}
use Rattle.image.specs.Image.{read_image}
use Rattle.rules.specs.Survivors.{view_of}
use Rattle.rules.specs.Outcome.{selected}
use Rattle.rules.specs.Answer.{outcome, checked}
use Rattle.rules.specs.Distance.{holds_vectors}
use Rattle.rules.specs.Reached.{Reached}
use Rattle.rules.specs.Imports.{imports, OnlyListed}
use Rattle.rules.specs.Mended.{mended}
use Rattle.rules.specs.Pinned.{lines, told}
use Rattle.rules.specs.PinnedImports.{both_listed}
use Rattle.rules.specs.PinnedMended.{mended_told, seat, seat_one, field_named, short}

pub record PinnedPremises : Type 0 where
  -- nothing is reached in `both_listed` but B, which is listed: against itself it gets what document 01 says
  pub reached_listed : (x : Schema) (n : ℕ) → read_image both_listed ≡ ok x n → Reached x 1
  pub only_listed : (x : Schema) (n : ℕ) → read_image both_listed ≡ ok x n → OnlyListed x
  pub only_listed_same : outcome imports both_listed both_listed ≡ checked both_listed both_listed
  -- with a vector on one side alone, and nothing told that only it tells, it is that of document 01
  pub one_vector : holds_vectors view_of seat ≡ true
  pub no_vector : holds_vectors view_of field_named ≡ false
  pub otherwise : mended_told seat field_named ≡ lines ("DeclarationRemoved;Major;W;-;message 'W' was removed" ∷ "DeclarationAdded;Minor;A;-;newtype 'A' was added" ∷ "Breaking;Major;2" ∷ [])
  pub otherwise_plain : told seat field_named ≡ lines ("DeclarationRemoved;Major;W;-;message 'W' was removed" ∷ "DeclarationAdded;Minor;A;-;newtype 'A' was added" ∷ "Breaking;Major;2" ∷ [])
  -- 16 is not asked before the old image is read
  pub old_refused : selected (outcome mended short seat_one) ≡ 2 ∷ 1 ∷ 2 ∷ 1 ∷ []
