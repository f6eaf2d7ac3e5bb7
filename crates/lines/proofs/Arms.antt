-- The words of bumps and results, which the code writes each by its own arm. Assumes nothing.
use Rattle.std.proofs.Common.{◌≡◌, List, ℕ, refl}
use Rattle.image.specs.Words.{bytes}
use Rattle.rules.specs.Text.{word}
use Rattle.rules.specs.Report.{bump_word, result_word}
use Rattle.tally.specs.Tallies.{level_of, result_number}
use Rattle.tally.specs.declared.Bump.{Bump}
use Rattle.tally.specs.declared.Bump.TheVariants as bump
use Rattle.tally.specs.declared.CompatResult.{CompatResult}
use Rattle.tally.specs.declared.CompatResult.TheVariants as result

abbrev bump_text : Bump → List ℕ
bump_text bump.Patch = bytes "Patch"
bump_text bump.Minor = bytes "Minor"
bump_text bump.Major = bytes "Major"

pub bump_told : (b : Bump) → bump_word (level_of b) ≡ bump_text b
unfolding bump_word word
bump_told bump.Patch = refl
bump_told bump.Minor = refl
bump_told bump.Major = refl

abbrev result_text : CompatResult → List ℕ
result_text result.Compatible = bytes "Compatible"
result_text result.Breaking = bytes "Breaking"

pub result_told : (r : CompatResult) → result_word (result_number r) ≡ result_text r
unfolding result_word word
result_told result.Compatible = refl
result_told result.Breaking = refl
