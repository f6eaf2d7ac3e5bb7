-- The report: document 01, "Report". Assumes nothing.
use Rattle.std.specs.Prelude.{Option, None, Some, ℕ, length}
use mathlib.Core.List.{List, [], ◌∷◌, ◌++◌, flat_map}
use Prim.Native.String.{String}
use Rattle.image.specs.Schema.{Name}
use Rattle.image.specs.Words.{bytes}
use Rattle.text.specs.Decimal.{decimal}
use Rattle.rules.specs.Text.{joined, word}
use Rattle.rules.specs.Changes.{level, Change}
use Rattle.rules.specs.Verdict.{bump_of, result_at}

-- the names of `ChangeKind`, with those of R-6 and R-10 at the end, of `BumpKind` and of `CompatResult`
abbrev pub change_names : List String
change_names =
    "FieldAdded" ∷ "FieldRemoved" ∷ "FieldTypeChanged" ∷ "FieldOrdinalChanged" ∷ "FieldRenamed" ∷ "FieldDeprecated"
    ∷ "FieldEncodingChanged" ∷ "VariantAdded" ∷ "VariantRemoved" ∷ "VariantOrdinalChanged" ∷ "DeclarationAdded" ∷ "DeclarationRemoved"
    ∷ "DeclarationKindChanged" ∷ "NamespaceChanged" ∷ "NonExhaustiveChanged" ∷ "FlagsBitAdded" ∷ "FlagsBitRemoved"
    ∷ "FlagsBitOrdinalChanged" ∷ "WidthChanged" ∷ "TombstoneReused" ∷ "TombstoneDropped" ∷ []

abbrev pub bump_names : List String
bump_names = "Patch" ∷ "Minor" ∷ "Major" ∷ []

abbrev pub result_names : List String
result_names = "Compatible" ∷ "Breaking" ∷ []

unfoldable pub change_word : ℕ → List ℕ
change_word kind = word change_names kind

unfoldable pub bump_word : ℕ → List ℕ
bump_word bump = word bump_names bump

unfoldable pub result_word : ℕ → List ℕ
result_word result = word result_names result

-- "`-` if the change has no field, else `+` and the field"
unfoldable pub field_part : Option Name → List ℕ
field_part None = bytes "-"
field_part (Some n) = bytes "+" ++ n

-- "parted by `;`, ended by byte 10"
unfoldable pub line : List (List ℕ) → List ℕ
line parts = joined (bytes ";") parts ++ bytes "\n"

-- "One line a change: kind, bump, declaration .., field .., the `detail`"
unfoldable pub change_line : Change → List ℕ
change_line c = line (change_word c.kind ∷ bump_word (level c.bump) ∷ c.declaration ∷ field_part c.field ∷ c.detail ∷ [])

-- "Last line, in the same way: result, bump, number of changes."
abbrev pub last_line_at : ℕ → ℕ → List ℕ
last_line_at bump count = line (result_word (result_at bump) ∷ bump_word bump ∷ decimal count ∷ [])

unfoldable pub last_line : List Change → List ℕ
last_line cs = last_line_at (bump_of cs) (length cs)

unfoldable pub report : List Change → List ℕ
report cs = flat_map change_line cs ++ last_line cs
