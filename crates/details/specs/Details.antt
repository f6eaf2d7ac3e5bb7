-- The texts that a detail, a declaration's scope and a field stand for, in the texts of rules. Assumes nothing.
use Rattle.std.specs.Prelude.{Option, None, Some, List, [], ◌++◌, ℕ}
use Rattle.std.specs.Borrow.{Bor}
use Rattle.std.specs.Option.{option_map}
use Rattle.image.specs.Schema.{Name}
use Rattle.image.specs.Words.{bytes, kind_word}
use Rattle.parts.specs.Numbers.{kind_number}
use Rattle.parts.specs.Promise.{coding_of}
use Rattle.parts.specs.Handles.{schema_in}
use Rattle.image.specs.declared.kinds.Kind.{Kind}
use Rattle.text.specs.Decimal.{decimal}
use Rattle.rules.specs.Text.{bool_word, show_type, show_encoding}
use Rattle.rules.specs.Changes.{quoted, numbered, from_to}
use Rattle.rules.specs.Clauses.{show_namespace}
use Rattle.rules.specs.Widths.{show_width}
use Rattle.types.specs.Resolved.{resolved}
use Rattle.details.specs.declared.Scope.{Scope}
use Rattle.details.specs.declared.Scope.TheVariants as scope
use Rattle.details.specs.declared.Word.{Word}
use Rattle.details.specs.declared.Word.TheVariants as word
use Rattle.details.specs.declared.Subject.{Subject}
use Rattle.details.specs.declared.Subject.TheVariants as subject
use Rattle.details.specs.declared.Verb.{Verb}
use Rattle.details.specs.declared.Verb.TheVariants as verb
use Rattle.details.specs.declared.Value.{Value}
use Rattle.details.specs.declared.Value.TheVariants as value
use Rattle.details.specs.declared.Detail.{Detail}

-- a union's variant, by the names of both
abbrev pub variant_name : Name → Name → Name
variant_name d v = d ++ (bytes "::" ++ v)

abbrev pub declaration_of : Scope → Name
declaration_of scope.Schema = []
declaration_of (scope.Decl name) = name.now
declaration_of (scope.Variant decl variant) = variant_name decl.now variant.now

-- the field of a change, if it has one
abbrev pub field_of : Option (Bor Name) → Option Name
field_of = option_map (λ name. name.now)

-- ---- details

abbrev pub word_text : Word → List ℕ
word_text word.Field = bytes "field"
word_text word.Variant = bytes "variant"
word_text word.Bit = bytes "bit"

abbrev pub decl_text : Kind → Name → List ℕ
decl_text kind name = kind_word (kind_number kind) ++ (bytes " " ++ quoted name)

abbrev pub newtype_text : Name → List ℕ
newtype_text name = bytes "newtype " ++ (quoted name ++ bytes " inner")

abbrev pub field_name_text : Name → List ℕ
field_name_text name = bytes "field " ++ quoted name

abbrev pub at_text : ℕ → List ℕ
at_text ordinal = bytes " @" ++ decimal ordinal

abbrev pub ordinal_text : List ℕ → ℕ → List ℕ
ordinal_text what ordinal = what ++ at_text ordinal

abbrev pub subject_text : Subject → List ℕ
subject_text subject.Namespace = bytes "namespace"
subject_text subject.Declaration = bytes "declaration"
subject_text subject.NonExhaustive = bytes "@non_exhaustive"
subject_text subject.Width = bytes "width"
subject_text (subject.Decl kind name) = decl_text kind name.now
subject_text (subject.DeclName name) = quoted name.now
subject_text (subject.Newtype name) = newtype_text name.now
subject_text (subject.Item word name ordinal) = numbered (word_text word) name.now ordinal
subject_text (subject.FieldName name) = field_name_text name.now
subject_text (subject.FieldOrdinal ordinal) = ordinal_text (bytes "field") ordinal
subject_text (subject.Tombstone ordinal) = ordinal_text (bytes "tombstone") ordinal

abbrev pub verb_text : Verb → List ℕ
verb_text verb.Removed = bytes " was removed"
verb_text verb.Added = bytes " was added"
verb_text verb.Changed = bytes " changed"
verb_text verb.Renamed = bytes " renamed"
verb_text verb.TypeChanged = bytes " type changed"
verb_text verb.EncodingChanged = bytes " encoding changed"
verb_text verb.Deprecated = bytes " was marked @deprecated"
verb_text verb.Reused = bytes " was reused"
verb_text verb.Dropped = bytes " was dropped"

abbrev pub value_text : Value → List ℕ
value_text (value.Name name) = quoted name.now
value_text (value.Kind kind) = kind_word (kind_number kind)
value_text (value.NonExhaustive mark) = bool_word mark
value_text (value.Width width) = show_width width
value_text (value.Type t) = show_type (resolved t)
value_text (value.Encoding e) = show_encoding (coding_of e)
value_text (value.Namespace image) = show_namespace (schema_in image).namespace

-- the old value and the new one
abbrev pub values_text : Option (Value × Value) → List ℕ
values_text None = []
values_text (Some values) = from_to (value_text values.0) (value_text values.1)

unfoldable pub detail_text : Detail → List ℕ
detail_text d = subject_text d.subject ++ (verb_text d.verb ++ values_text d.values)
