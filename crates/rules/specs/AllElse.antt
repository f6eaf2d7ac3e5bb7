-- R-5: "A mended verdict, otherwise by the clauses of 01": of every two images that get one, whatever they hold. All that it tells is what
-- the verdict of document 01 tells, but for types that changed and the kinds that it alone reports. Assumes nothing.
use Rattle.std.specs.Prelude.{◌≡◌, false, not, ◌∷◌, ℕ, ◌≤◌, ◌<◌}
use mathlib.Core.List.{List, flat_map}
use Rattle.maps.specs.Lists.{among}
use Rattle.rules.specs.Survivors.{View}
use Rattle.rules.specs.Changes.{Change, only, kind_at, kind_count, FieldTypeChanged}
use Rattle.rules.specs.Clauses.{clauses_by, changes}
use Rattle.rules.specs.Answer.{verdict_by, plain_reading, verdict_of}
use Rattle.rules.specs.Distance.{Image, Verdict, count_between}
use Rattle.rules.specs.Mended.{mended_type, mended_reading, mended, mended_kinds}

-- the changes of all kinds but these, in their order
unfoldable pub without : List ℕ → List Change → List Change
without kinds cs = flat_map (λ c. only (not (among c.kind kinds)) c) cs

-- the kinds of which it may tell more, or fewer
abbrev pub own_kinds : List ℕ
own_kinds = kind_at FieldTypeChanged ∷ mended_kinds

-- of what is compared of two schemas
pub record ByClauses (x y : View) : Type 0 where
  -- besides the kinds that it alone reports, it reports what the clauses do where the third answer is read as equal
  pub clauses : without mended_kinds (changes mended_reading x y) ≡ changes (clauses_by mended_type) x y
  -- and besides types that changed, what the verdict of document 01 reports, change by change
  pub plain : without own_kinds (changes mended_reading x y) ≡ without own_kinds (changes plain_reading x y)

-- of two images, in terms of the calls
pub record SameCounts (old new : Image) : Type 0 where
  pub verdict : Verdict verdict_of old new
  pub others : (kind : ℕ) → kind < kind_count → among kind own_kinds ≡ false
      → count_between (verdict_by mended) kind old new ≡ count_between verdict_of kind old new
  -- it tells of no type that changed but of those that the verdict of document 01 tells of
  pub types : count_between (verdict_by mended) (kind_at FieldTypeChanged) old new ≤ count_between verdict_of (kind_at FieldTypeChanged) old new

pub record AllElse : Type 0 where
  pub schemas : (x y : View) → ByClauses x y
  pub images : (old new : Image) → Verdict (verdict_by mended) old new → SameCounts old new
