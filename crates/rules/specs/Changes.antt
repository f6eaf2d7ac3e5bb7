-- Changes: their kinds, their bumps, and the texts that several details share. Assumes nothing.
use Rattle.std.specs.Prelude.{Bool, true, false, List, [], ◌∷◌, ◌++◌, ℕ, Option}
use Rattle.image.specs.Schema.{Name}
use Rattle.image.specs.Words.{bytes}
use Rattle.text.specs.Decimal.{decimal}

pub data Bump : Type 0 where
  patch minor major : Bump

-- "Patch 0, Minor 1, Major 2"
unfoldable pub level : Bump → ℕ
level patch = 0
level minor = 1
level major = 2

-- the kinds of change, in the order of `ChangeKind`; after them those of R-6 and R-10
pub data ChangeKind : Type 0 where
  FieldAdded FieldRemoved FieldTypeChanged FieldOrdinalChanged FieldRenamed FieldDeprecated FieldEncodingChanged VariantAdded : ChangeKind
  VariantRemoved VariantOrdinalChanged DeclarationAdded DeclarationRemoved DeclarationKindChanged NamespaceChanged : ChangeKind
  NonExhaustiveChanged FlagsBitAdded FlagsBitRemoved FlagsBitOrdinalChanged WidthChanged TombstoneReused TombstoneDropped : ChangeKind

-- by their places in it
abbrev pub kind_at : ChangeKind → ℕ
kind_at FieldAdded = 0
kind_at FieldRemoved = 1
kind_at FieldTypeChanged = 2
kind_at FieldOrdinalChanged = 3
kind_at FieldRenamed = 4
kind_at FieldDeprecated = 5
kind_at FieldEncodingChanged = 6
kind_at VariantAdded = 7
kind_at VariantRemoved = 8
kind_at VariantOrdinalChanged = 9
kind_at DeclarationAdded = 10
kind_at DeclarationRemoved = 11
kind_at DeclarationKindChanged = 12
kind_at NamespaceChanged = 13
kind_at NonExhaustiveChanged = 14
kind_at FlagsBitAdded = 15
kind_at FlagsBitRemoved = 16
kind_at FlagsBitOrdinalChanged = 17
kind_at WidthChanged = 18
kind_at TombstoneReused = 19
kind_at TombstoneDropped = 20

-- "The three `..OrdinalChanged`"
abbrev pub ordinal_kinds : List ℕ
ordinal_kinds = (kind_at FieldOrdinalChanged) ∷ kind_at VariantOrdinalChanged ∷ kind_at FlagsBitOrdinalChanged ∷ []

-- how many kinds are counted
abbrev pub kind_count : ℕ
kind_count = 21

-- each member as `check` fills it
pub record Change : Type 0 where
  pub kind : ℕ
  pub bump : Bump
  pub declaration : Name
  pub field : Option Name
  pub detail : List ℕ

abbrev pub change : ℕ → Bump → Name → Option Name → List ℕ → Change
change kind bump declaration field detail =
    record { kind = kind; bump = bump; declaration = declaration; field = field; detail = detail }

-- the change, if the test passes
unfoldable pub only : Bool → Change → List Change
only true c = c ∷ []
only false c = []

-- 'NAME'
unfoldable pub quoted : Name → List ℕ
quoted n = bytes "'" ++ (n ++ bytes "'")

-- WORD 'NAME' @ORDINAL
unfoldable pub numbered : List ℕ → Name → ℕ → List ℕ
numbered what n ordinal = what ++ (bytes " " ++ (quoted n ++ (bytes " @" ++ decimal ordinal)))

--  from OLD to NEW
unfoldable pub from_to : List ℕ → List ℕ → List ℕ
from_to old new = bytes " from " ++ (old ++ (bytes " to " ++ new))
