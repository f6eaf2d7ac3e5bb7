-- R-2 over byte lists, in terms of the calls: neither verdict bounds the other; a chain of three images by both; an image whose distance from
-- itself is another; 11 through imports. Assumes nothing.
use Rattle.std.specs.Prelude.{◌≡◌, List, [], ◌∷◌, ℕ}
use Rattle.rules.specs.Changes.{kind_at, DeclarationAdded, DeclarationRemoved}
use Rattle.rules.specs.Outcome.{selected, written}
use Rattle.rules.specs.Answer.{outcome, verdict_by, verdict_of}
use Rattle.rules.specs.Distance.{Verdict, distance, count_between, Steps}
use Rattle.rules.specs.Imports.{imports}
use Rattle.rules.specs.Pinned.{image, lines, told, at_one, nothing}

-- the verdict call with imports, and what its report call leaves in an empty buffer that is large enough
abbrev pub imports_of : List ℕ → List ℕ → ℕ → ℕ
imports_of = verdict_by imports

unfoldable pub imports_told : List ℕ → List ℕ → List ℕ
imports_told old new = written (outcome imports old new) []

-- ---- newtype A of the type with id 1, which is message B; `at_one` lists A only

-- B is listed too
abbrev pub both_listed : List ℕ
both_listed =
    image ("01 00 02 00 02 00 00 00" ∷ "18 00 08 00 20 00 06 00" ∷ "00 00 00 00 01 00 00 00" ∷ "04 01 41 03 01 00 00 00" ∷ "00 01 42 00 00 00" ∷ [])

-- as in `at_one`, and B has a field more
abbrev pub field_inside : List ℕ
field_inside =
    image
    ("01 00 02 00 01 00 00 00"
    ∷ "14 00 08 00 1c 00 11 00"
    ∷ "00 00 00 00"
    ∷ "04 01 41 03 01 00 00 00"
    ∷ "00 01 42 00 01 00 00 00 00 00 01 78 00 00 00 00 01"
    ∷ [])

-- newtype A of the type with id 1, which is newtype B of vec3<f32>
abbrev pub vector_inside : List ℕ
vector_inside = image ("01 00 02 00 01 00 00 00" ∷ "14 00 08 00 1c 00 06 00" ∷ "00 00 00 00" ∷ "04 01 41 03 01 00 00 00" ∷ "04 01 42 0b 00 09" ∷ [])

-- and of the type with id 1, which is a generic alias
abbrev pub alias_inside : List ℕ
alias_inside = image ("01 00 02 00 01 00 00 00" ∷ "14 00 08 00 1c 00 03 00" ∷ "00 00 00 00" ∷ "04 01 41 03 01 00 00 00" ∷ "06 01 47" ∷ [])

pub record PinnedImports : Type 0 where
  -- a change inside an imported declaration: 0 by the verdict of 01, 2 with imports
  pub inside_plain : told at_one field_inside ≡ lines ("Compatible;Patch;0" ∷ [])
  pub inside : imports_told at_one field_inside ≡ lines ("FieldAdded;Major;B;+x;field 'x' @0 was added" ∷ "Breaking;Major;1" ∷ [])
  pub inside_distance_plain : distance verdict_of at_one field_inside ≡ 0
  pub inside_distance : distance imports_of at_one field_inside ≡ 2
  -- a declaration moved from the list to the imports: 2 by the verdict of 01, 0 with imports
  pub moved_plain : told both_listed at_one ≡ lines ("DeclarationRemoved;Major;B;-;message 'B' was removed" ∷ "Breaking;Major;1" ∷ [])
  pub moved : imports_told both_listed at_one ≡ lines ("Compatible;Patch;0" ∷ [])
  pub moved_distance_plain : distance verdict_of both_listed at_one ≡ 2
  pub moved_distance : distance imports_of both_listed at_one ≡ 0
  -- all 26 selectors of the first
  pub selectors : selected (outcome imports at_one field_inside) ≡ 0 ∷ 0 ∷ 2 ∷ 1 ∷ 62 ∷ 1 ∷ 0 ∷ 0 ∷ 0 ∷ 0 ∷ 0 ∷ 0 ∷ 0 ∷ 0 ∷ 0 ∷ 0 ∷ 0 ∷ 0 ∷ 0 ∷ 0 ∷ 0 ∷ 0 ∷ 0 ∷ 0 ∷ 0 ∷ 0 ∷ []
  -- the chain of the three: its distance is that of its largest step, by both verdicts
  pub steps : Steps imports_of both_listed (at_one ∷ field_inside ∷ [])
  pub ends : Verdict imports_of both_listed field_inside
  pub whole_way : distance imports_of both_listed field_inside ≡ 2
  pub whole_way_plain : distance verdict_of both_listed field_inside ≡ 2
  -- "its compared types being those of all entries that stand": a distance from itself of 0 by the verdict of 01, and of 2 with imports
  pub self_plain : distance verdict_of vector_inside vector_inside ≡ 0
  pub self : Verdict imports_of vector_inside vector_inside
  pub self_distance : distance imports_of vector_inside vector_inside ≡ 2
  -- "Number 11 is tested over all entries that stand, reached ones too."
  pub aliases : selected (outcome imports alias_inside alias_inside) ≡ 11 ∷ 3 ∷ 2 ∷ 1 ∷ []
  pub aliases_plain : told alias_inside alias_inside ≡ lines ("Compatible;Patch;0" ∷ [])
  -- "A name that one side alone has, as survivor or reached, is removed or added": A and B, there and back
  pub removed : count_between imports_of (kind_at DeclarationRemoved) at_one nothing ≡ 2
  pub added : count_between imports_of (kind_at DeclarationAdded) nothing at_one ≡ 2
