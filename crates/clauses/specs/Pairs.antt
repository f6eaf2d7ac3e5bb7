-- What a clause reports of two declarations of its kind, under the old one's name; and of the types, fields and variants that stand in them,
-- in a scope. Assumes nothing.
use Rattle.std.specs.Prelude.{List, Option}
use Rattle.std.specs.Borrow.{Bor}
use Rattle.image.specs.Schema.{Name, Decl as Declaration}
use Rattle.parts.specs.Handles.{decl_of, tree_of}
use Rattle.parts.specs.declared.Shape.{Shape}
use Rattle.parts.specs.declared.handles.Decl.{Decl}
use Rattle.parts.specs.declared.handles.TypeRef.{TypeRef}
use Rattle.members.specs.Handles.{field_of as value_of, variant_of}
use Rattle.members.specs.declared.handles.Items.{Items}
use Rattle.members.specs.declared.handles.Field.{Field}
use Rattle.members.specs.declared.handles.Variant.{Variant}
use Rattle.rules.specs.Changes.{Change}
use Rattle.rules.specs.Clauses.{Context, compare_messages, compare_enums, compare_flags, compare_unions, compare_newtypes}
use Rattle.rules.specs.Clauses.{compare_types, compare_fields, compare_field_sets, union_rules}
use Rattle.survivors.specs.Runs.{items_of}
use Rattle.lines.specs.Readings.{reading_of}
use Rattle.lines.specs.declared.Reading.{Reading}
use Rattle.details.specs.Details.{declaration_of, field_of, subject_text}
use Rattle.details.specs.declared.Scope.{Scope}
use Rattle.details.specs.declared.Subject.{Subject}
use Rattle.items.specs.Items.{context_of}

abbrev pub of_pair : (Context → Name → Declaration → Declaration → List Change) → Reading → Decl → Decl → List Change
of_pair clause reading old new = clause (context_of reading old.image new.image) (decl_of old).name (decl_of old) (decl_of new)

abbrev pub of_messages : Reading → Decl → Decl → List Change
of_messages = of_pair compare_messages

abbrev pub of_enums : Reading → Decl → Decl → List Change
of_enums = of_pair (λ r. compare_enums)

abbrev pub of_flags : Reading → Decl → Decl → List Change
of_flags = of_pair (λ r. compare_flags)

abbrev pub of_unions : Reading → Decl → Decl → List Change
of_unions = of_pair compare_unions

abbrev pub of_newtypes : Reading → Decl → Decl → List Change
of_newtypes = of_pair compare_newtypes

-- what is reported of them before their clause
abbrev pub of_first : Reading → Decl → Decl → List Change
of_first reading old new = (reading_of reading).first (decl_of old) (decl_of new)

-- and after it
abbrev pub of_last : Reading → Decl → Decl → List Change
of_last reading old new = (reading_of reading).last (decl_of old) (decl_of new)

-- ---- in a scope

-- of the types of a field, or of a newtype
abbrev pub of_types : Reading → Scope → Option (Bor Name) → Subject → TypeRef → TypeRef → List Change
of_types reading scope field subject old new =
    compare_types (context_of reading old.image new.image) (declaration_of scope) (field_of field) (subject_text subject) (tree_of old) (tree_of new)

abbrev pub of_fields : Reading → Scope → Field → Field → List Change
of_fields reading scope old new =
    compare_fields (context_of reading old.item.image new.item.image) (declaration_of scope) (value_of old) (value_of new)

abbrev pub of_field_sets : Reading → Scope → Items → Items → List Change
of_field_sets reading scope old new =
    compare_field_sets (context_of reading old.image new.image) (declaration_of scope) (items_of Shape.Field old) (items_of Shape.Field new)

-- of two variants of the union of a name
abbrev pub of_variants : Reading → Name → Variant → Variant → List Change
of_variants reading union old new = (union_rules (context_of reading old.item.image new.item.image) union).kept (variant_of old) (variant_of new)

-- after their fields
abbrev pub of_last_in : Reading → Scope → Variant → Variant → List Change
of_last_in reading scope old new = (reading_of reading).last_in (declaration_of scope) (variant_of old) (variant_of new)
