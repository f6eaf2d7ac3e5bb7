-- The tally of a list of changes. Assumes nothing.
use Rattle.std.specs.Prelude.{◌≡◌, ℕ, zero, suc, ◌+◌, ◌-◌, ◌^◌, min, max, length, get_or, set, replicate}
use mathlib.Core.List.{List, flat_map}
use Rattle.maps.specs.Lists.{pass}
use Rattle.rules.specs.Changes.{kind_at, kind_count, Change}
use Rattle.rules.specs.Changes as spec
use Rattle.rules.specs.Report.{change_line}
use Rattle.rules.specs.Verdict.{bump_of}
use Rattle.rules.specs.Answer.{counts}
use Rattle.tally.specs.declared.Bump.{Bump}
use Rattle.tally.specs.declared.Bump.TheVariants as bump
use Rattle.tally.specs.declared.ChangeKind.{ChangeKind}
use Rattle.tally.specs.declared.ChangeKind.TheVariants as kind
use Rattle.tally.specs.declared.CompatResult.{CompatResult}
use Rattle.tally.specs.declared.CompatResult.TheVariants as result
use Rattle.tally.specs.declared.Tally.{Tally}

-- the place of a kind among the counts, as `ChangeKind` of the requirements has it
abbrev pub kind_number : ChangeKind → ℕ
kind_number kind.FieldAdded = kind_at spec.FieldAdded
kind_number kind.FieldRemoved = kind_at spec.FieldRemoved
kind_number kind.FieldTypeChanged = kind_at spec.FieldTypeChanged
kind_number kind.FieldOrdinalChanged = kind_at spec.FieldOrdinalChanged
kind_number kind.FieldRenamed = kind_at spec.FieldRenamed
kind_number kind.FieldDeprecated = kind_at spec.FieldDeprecated
kind_number kind.FieldEncodingChanged = kind_at spec.FieldEncodingChanged
kind_number kind.VariantAdded = kind_at spec.VariantAdded
kind_number kind.VariantRemoved = kind_at spec.VariantRemoved
kind_number kind.VariantOrdinalChanged = kind_at spec.VariantOrdinalChanged
kind_number kind.DeclarationAdded = kind_at spec.DeclarationAdded
kind_number kind.DeclarationRemoved = kind_at spec.DeclarationRemoved
kind_number kind.DeclarationKindChanged = kind_at spec.DeclarationKindChanged
kind_number kind.NamespaceChanged = kind_at spec.NamespaceChanged
kind_number kind.NonExhaustiveChanged = kind_at spec.NonExhaustiveChanged
kind_number kind.FlagsBitAdded = kind_at spec.FlagsBitAdded
kind_number kind.FlagsBitRemoved = kind_at spec.FlagsBitRemoved
kind_number kind.FlagsBitOrdinalChanged = kind_at spec.FlagsBitOrdinalChanged
kind_number kind.WidthChanged = kind_at spec.WidthChanged
kind_number kind.TombstoneReused = kind_at spec.TombstoneReused
kind_number kind.TombstoneDropped = kind_at spec.TombstoneDropped

-- the number of a bump, and the bump of the requirements that it is; the other way round, the bump of a number and that of the requirements
abbrev pub level_of : Bump → ℕ
level_of bump.Patch = 0
level_of bump.Minor = 1
level_of bump.Major = 2

abbrev pub bump_value : Bump → spec.Bump
bump_value bump.Patch = spec.patch
bump_value bump.Minor = spec.minor
bump_value bump.Major = spec.major

abbrev pub bump_at : ℕ → Bump
bump_at zero = Bump.Patch
bump_at (suc zero) = Bump.Minor
bump_at (suc (suc n)) = Bump.Major

abbrev pub bump_for : spec.Bump → Bump
bump_for spec.patch = Bump.Patch
bump_for spec.minor = Bump.Minor
bump_for spec.major = Bump.Major

-- the larger of two
abbrev pub larger : Bump → Bump → Bump
larger a b = bump_at (max (level_of a) (level_of b))

-- "result (Compatible 0, Breaking 1)"
abbrev pub result_number : CompatResult → ℕ
result_number result.Compatible = 0
result_number result.Breaking = 1

-- of no change
unfoldable pub no_change : Tally
no_change = record { counts = replicate kind_count 0; bump = Bump.Patch; changes = 0 }

-- with a change more, of a kind and a bump: a count that is the largest number stays
unfoldable pub with_change : Tally → ℕ → Bump → Tally
with_change t kind b = record {
  counts = set t.counts kind (min (get_or t.counts kind 0 + 1) (2 ^ 64 - 1));
  bump = larger t.bump b;
  changes = min (t.changes + 1) (2 ^ 64 - 1);
}

unfoldable pub tallied : Tally → Change → Tally
tallied t c = with_change t c.kind (bump_for c.bump)

-- with the changes cs more
unfoldable pub tally_from : Tally → List Change → Tally
tally_from t cs = pass tallied t cs

-- the lines of changes
unfoldable pub lines_of : List Change → List ℕ
lines_of cs = flat_map change_line cs

-- a tally is that of the changes cs
pub record TallyOf (cs : List Change) (t : Tally) : Type 0 where
  pub kinds : t.counts ≡ counts kind_count 0 cs
  pub bump : level_of t.bump ≡ bump_of cs
  pub changes : t.changes ≡ length cs
