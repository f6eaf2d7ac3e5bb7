-- The premises that are pinned are met, by computation from the definitions alone. Assumes nothing.
use mathlib.Core.Path.{◌≡◌, refl, sym, ap, ◌∙◌, subst}
use mathlib.Core.Bool.{true}
use Rattle.std.specs.Prelude.{None, Some}
use mathlib.Core.List.{[], ◌∷◌}
use Prim.Native.Nat.{ℕ, zero, suc}
use Rattle.maps.proofs.Tests.{no_both}
use Rattle.maps.specs.Lists.{among}
use Rattle.image.specs.Schema.{unmarked, label, leaf, no_type, decl, Schema}
use Rattle.image.specs.Parse.{ok}
use Rattle.image.specs.Image.{read_image}
use Rattle.rules.specs.Distance.{vector_compared, holds_vectors}
use Rattle.rules.specs.Reached.{Reached, by_survivor, has, reached_set}
use Rattle.rules.specs.Imports.{OnlyListed}
use Rattle.rules.specs.PinnedImports.{both_listed}
use Rattle.rules.specs.PinnedMended.{mended_told}
use Rattle.rules.specs.PinnedPremises.{PinnedPremises}
use Rattle.rules.proofs.Answer.{schema_of}
use Rattle.rules.proofs.Reached.{reached_is}
use Rattle.rules.proofs.Imports.{imported_holds}
use Rattle.rules.proofs.Computed.{reads, reports}

-- ---- an image in which nothing is reached but what is listed

-- newtype A of the type with id 1, and message B; A is 65, B 66
abbrev both : Schema
both = record {
  format = 1;
  registry = Some (decl 4 (65 ∷ []) unmarked None [] [] (leaf (label 3 1 0 []))) ∷ Some (decl 0 (66 ∷ []) unmarked None [] [] no_type) ∷ [];
  ids = 0 ∷ 1 ∷ [];
  namespace = [];
}

both_read : read_image both_listed ≡ ok both 38
unfolding reads
both_read = refl

both_is : (x : Schema) (n : ℕ) → read_image both_listed ≡ ok x n → both ≡ x
unfolding schema_of
both_is x n p = ap schema_of (sym both_read ∙ p)

both_reached : Reached both 1
unfolding reports
both_reached = by_survivor refl refl

both_only : OnlyListed both
unfolding reports
both_only id q = go id (((reached_is both).exactly id).1 q)
  where
    go : (id : ℕ) → has (reached_set both) id ≡ true → among id both.ids ≡ true
    go zero e = refl
    go (suc zero) e = refl
    go (suc (suc id)) e = no_both e refl

listed_reached : (x : Schema) (n : ℕ) → read_image both_listed ≡ ok x n → Reached x 1
listed_reached x n p = subst (λ s. Reached s 1) (both_is x n p) both_reached

listed_only : (x : Schema) (n : ℕ) → read_image both_listed ≡ ok x n → OnlyListed x
listed_only x n p = subst OnlyListed (both_is x n p) both_only

pub pinned_premises : PinnedPremises
unfolding reports mended_told vector_compared holds_vectors
pinned_premises = assumption (listed_reached, listed_only, imported_holds.plain both_listed both_listed listed_only listed_only)
