-- What stands in bytes that are well formed: the value of an answer, and where it ends. Of a refusal the value is the one that is handed
-- in, and the end is 0. Assumes nothing.
use Rattle.std.specs.Prelude.{List, [], ℕ}
use Rattle.image.specs.Codes.{number, primitive_tag}
use Rattle.image.specs.Schema.{Label, label, Ty, no_type}
use Rattle.image.specs.Parse.{Parsed, ok, no}
use Rattle.image.specs.Types.{label_of, type_of}

unfoldable pub Good : {A : Type 0} → Parsed A → Type 0
Good (ok a n) = Unit {0}
Good (no k) = ⊥

unfoldable pub value_or : {A : Type 0} → A → Parsed A → A
value_or d (ok a n) = a
value_or d (no k) = d

unfoldable pub end_of : {A : Type 0} → Parsed A → ℕ
end_of (ok a n) = n
end_of (no k) = 0

-- the label and the type at the start of a part
unfoldable pub label_in : List ℕ → Label
label_in s = value_or (label (number primitive_tag) 0 0 []) (label_of s)

unfoldable pub tree_in : ℕ → List ℕ → Ty
tree_in depth s = value_or no_type (type_of depth s)
