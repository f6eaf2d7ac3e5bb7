-- The eight clauses of document 01, "Clauses and verdict", named as the functions of compat.rs that they stand for. What they compare is
-- handed in: the views of the two schemas, and how these are read. Clauses 2 and 3 stand last, since they call on 4 to 8. Assumes nothing.
use Rattle.std.specs.Prelude.{Bool, cond, not, ◌&&◌, ℕ, eqb, ltb, Option, None, Some}
use Rattle.std.specs.Bool.{beq}
use mathlib.Core.List.{List, [], ◌∷◌, ◌++◌, flat_map}
use Rattle.maps.specs.Compare.{Rules, compare}
use Rattle.maps.specs.Orders.{before}
use Rattle.image.specs.Schema.{Name, Marks, Encoding, Ty, Field, Variant, Decl}
use Rattle.image.specs.Kinds.{Kind, kind_of, message, enum, flags, union, newtype, config, alias, trait, impl, other}
use Rattle.image.specs.Words.{bytes, kind_word}
use Rattle.rules.specs.Equal.{same_option, same_name, same_names}
use Rattle.rules.specs.Survivors.{Registry, name_of, ordinal_of, field_map, variant_ordinal, variant_map, View}
use Rattle.rules.specs.Types.{resolve}
use Rattle.text.specs.Decimal.{decimal}
use Rattle.rules.specs.Text.{joined, bool_word, show_type, show_encoding}
use Rattle.rules.specs.Changes.{Bump, patch, minor, major, Change, change, only, quoted, numbered, from_to, kind_at, FieldAdded, FieldRemoved, FieldTypeChanged, FieldRenamed, FieldDeprecated, FieldEncodingChanged, VariantAdded, VariantRemoved, DeclarationAdded, DeclarationRemoved, DeclarationKindChanged, NamespaceChanged, NonExhaustiveChanged, FlagsBitAdded, FlagsBitRemoved}

-- ---- 1. `NamespaceChanged` Major: segment lists differ.

unfoldable pub show_namespace : List Name → List ℕ
show_namespace segments = quoted (joined (bytes ".") segments)

unfoldable pub compare_namespaces : List Name → List Name → List Change
compare_namespaces old new =
    only (not (same_names old new))
    (change (kind_at NamespaceChanged) major [] None (bytes "namespace changed" ++ from_to (show_namespace old) (show_namespace new)))

-- ---- how two schemas are read

-- How types are read, and what is reported besides the clauses: of two declarations of one kind, and of two variants of a union.
pub record Reading : Type 0 where
  -- whether the type of an old schema and that of a new one are equal, both resolved
  pub same : Ty → Ty → Bool
  -- of two declarations, before their clause and after it
  pub first : Decl → Decl → List Change
  pub last : Decl → Decl → List Change
  -- of two variants, after their fields, under the name of clause 7
  pub last_in : Name → Variant → Variant → List Change

-- types are read so, and nothing is reported besides the clauses
abbrev pub clauses_by : (Ty → Ty → Bool) → Reading
clauses_by same = record { same = same; first = λ d e. []; last = λ d e. []; last_in = λ n v w. [] }

-- what a clause is told besides what it compares: how, and with which registries, of the old schema and of the new
pub record Context : Type 0 where
  pub reading : Reading
  pub old : Registry
  pub new : Registry

abbrev pub context : Reading → Registry → Registry → Context
context reading old new = record { reading = reading; old = old; new = new }

-- ---- a type that changed: of a field (clause 4) or of a newtype (clause 8)

unfoldable pub compare_types : Context → Name → Option Name → List ℕ → Ty → Ty → List Change
compare_types r d field what t u =
    only (not (r.reading.same (resolve r.old t) (resolve r.new u)))
    (change (kind_at FieldTypeChanged) major d field
    (what ++ (bytes " type changed" ++ from_to (show_type (resolve r.old t)) (show_type (resolve r.new u)))))

-- ---- 4. Field sets, by ordinal: `FieldRemoved` Major; `FieldAdded` Major; then per shared ordinal `FieldRenamed` Patch, `FieldTypeChanged`
-- Major, `FieldEncodingChanged` Major (encoding or limit differs), `FieldDeprecated` Patch (mark gained; lost is silent).

unfoldable pub field_text : Field → List ℕ
field_text f = numbered (bytes "field") f.name f.ordinal

unfoldable pub compare_field_names : Name → Field → Field → List Change
compare_field_names d f g =
    only (not (same_name f.name g.name))
    (change (kind_at FieldRenamed) patch d (Some g.name)
    (bytes "field @" ++ (decimal g.ordinal ++ (bytes " renamed" ++ from_to (quoted f.name) (quoted g.name)))))

unfoldable pub same_encoding : Encoding → Encoding → Bool
same_encoding a b = eqb a.deltas b.deltas && eqb a.base b.base

unfoldable pub compare_encodings : Name → Field → Field → List Change
compare_encodings d f g =
    only (not (same_encoding f.encoding g.encoding && same_option eqb f.limit g.limit))
    (change (kind_at FieldEncodingChanged) major d (Some g.name)
    (field_text g ++ (bytes " encoding changed" ++ from_to (show_encoding f.encoding) (show_encoding g.encoding))))

-- the mark was gained: by a field, or by a message itself
unfoldable pub compare_deprecated : Name → Option Name → List ℕ → Marks → Marks → List Change
compare_deprecated d field target old new =
    only (not old.deprecated && new.deprecated)
    (change (kind_at FieldDeprecated) patch d field (target ++ bytes " was marked @deprecated"))

unfoldable pub compare_fields : Context → Name → Field → Field → List Change
compare_fields r d f g =
    compare_field_names d f g
    ++ (compare_types r d (Some g.name) (field_text g) f.type g.type
    ++ (compare_encodings d f g
    ++ compare_deprecated d (Some g.name) (bytes "field " ++ quoted g.name) f.marks g.marks))

unfoldable pub field_rules : Context → Name → Rules Field Change
field_rules r d = record {
  gone = λ f. change (kind_at FieldRemoved) major d (Some f.name) (field_text f ++ bytes " was removed") ∷ [];
  came = λ f. change (kind_at FieldAdded) major d (Some f.name) (field_text f ++ bytes " was added") ∷ [];
  kept = λ f g. compare_fields r d f g;
}

unfoldable pub compare_field_sets : Context → Name → List Field → List Field → List Change
compare_field_sets r d old new = compare ordinal_of ltb (field_rules r d) (field_map old) (field_map new)

-- Message: then its own `FieldDeprecated`.
unfoldable pub compare_messages : Context → Name → Decl → Decl → List Change
compare_messages r d old new =
    compare_field_sets r d old.fields new.fields
    ++ compare_deprecated d None (bytes "declaration") old.marks new.marks

-- ---- 5. Enum: `NonExhaustiveChanged` Major; `VariantRemoved` Major; `VariantAdded` Minor if the new enum is non-exhaustive, else Major.
-- Renames and deprecation silent.

unfoldable pub variant_text : Variant → List ℕ
variant_text v = numbered (bytes "variant") v.name v.ordinal

unfoldable pub variant_gone : Name → Variant → List Change
variant_gone d v = change (kind_at VariantRemoved) major d (Some v.name) (variant_text v ++ bytes " was removed") ∷ []

unfoldable pub variant_came : Bump → Name → Variant → List Change
variant_came bump d v = change (kind_at VariantAdded) bump d (Some v.name) (variant_text v ++ bytes " was added") ∷ []

unfoldable pub enum_bump : Marks → Bump
enum_bump new = cond new.non_exhaustive minor major

unfoldable pub enum_rules : Name → Marks → Rules Variant Change
enum_rules d new = record { gone = variant_gone d; came = variant_came (enum_bump new) d; kept = λ v w. [] }

unfoldable pub compare_non_exhaustive : Name → Marks → Marks → List Change
compare_non_exhaustive d old new =
    only (not (beq old.non_exhaustive new.non_exhaustive))
    (change (kind_at NonExhaustiveChanged) major d None
    (bytes "@non_exhaustive changed" ++ from_to (bool_word old.non_exhaustive) (bool_word new.non_exhaustive)))

unfoldable pub compare_enums : Name → Decl → Decl → List Change
compare_enums d old new =
    compare_non_exhaustive d old.marks new.marks
    ++ compare variant_ordinal ltb (enum_rules d new.marks) (variant_map old.variants) (variant_map new.variants)

-- ---- 6. Flags: `FlagsBitRemoved` Major, `FlagsBitAdded` Minor.

unfoldable pub bit_text : Variant → List ℕ
bit_text v = numbered (bytes "bit") v.name v.ordinal

unfoldable pub flags_rules : Name → Rules Variant Change
flags_rules d = record {
  gone = λ v. change (kind_at FlagsBitRemoved) major d (Some v.name) (bit_text v ++ bytes " was removed") ∷ [];
  came = λ v. change (kind_at FlagsBitAdded) minor d (Some v.name) (bit_text v ++ bytes " was added") ∷ [];
  kept = λ v w. [];
}

unfoldable pub compare_flags : Name → Decl → Decl → List Change
compare_flags d old new = compare variant_ordinal ltb (flags_rules d) (variant_map old.variants) (variant_map new.variants)

-- ---- 7. Union: `VariantRemoved` Major, `VariantAdded` Minor; shared ordinals compare fields, under the declaration's name, two colons and
-- the old variant's name.

unfoldable pub variant_decl : Name → Variant → Name
variant_decl d v = d ++ (bytes "::" ++ v.name)

unfoldable pub union_rules : Context → Name → Rules Variant Change
union_rules r d = record {
  gone = variant_gone d;
  came = variant_came minor d;
  kept = λ v w. compare_field_sets r (variant_decl d v) v.fields w.fields ++ r.reading.last_in (variant_decl d v) v w;
}

unfoldable pub compare_unions : Context → Name → Decl → Decl → List Change
compare_unions r d old new = compare variant_ordinal ltb (union_rules r d) (variant_map old.variants) (variant_map new.variants)

-- ---- 8. Newtype: `FieldTypeChanged` Major.

unfoldable pub compare_newtypes : Context → Name → Decl → Decl → List Change
compare_newtypes r d old new = compare_types r d None (bytes "newtype " ++ (quoted d ++ bytes " inner")) old.inner new.inner

-- ---- 3. Per shared name: kinds differ, `DeclarationKindChanged` Major and no more. Config, trait, impl: silent; so is a generic alias, of
-- which a pair is refused.

unfoldable pub compare_kind : Kind → Context → Decl → Decl → List Change
compare_kind message r old new = compare_messages r old.name old new
compare_kind enum r old new = compare_enums old.name old new
compare_kind flags r old new = compare_flags old.name old new
compare_kind union r old new = compare_unions r old.name old new
compare_kind newtype r old new = compare_newtypes r old.name old new
compare_kind config r old new = []
compare_kind alias r old new = []
compare_kind trait r old new = []
compare_kind impl r old new = []
compare_kind other r old new = []

unfoldable pub kind_changed : Decl → Decl → List Change
kind_changed old new =
    change (kind_at DeclarationKindChanged) major old.name None
    (quoted old.name ++ (bytes " changed" ++ from_to (kind_word old.kind) (kind_word new.kind))) ∷ []

-- of one kind: its clause, between what is reported besides
unfoldable pub compare_alike : Context → Decl → Decl → List Change
compare_alike r old new = r.reading.first old new ++ (compare_kind (kind_of old.kind) r old new ++ r.reading.last old new)

unfoldable pub compare_decls : Context → Decl → Decl → List Change
compare_decls r old new = cond (eqb old.kind new.kind) (compare_alike r old new) (kind_changed old new)

-- ---- 2. `DeclarationRemoved` Major, then `DeclarationAdded` Minor.

unfoldable pub decl_text : Decl → List ℕ
decl_text d = kind_word d.kind ++ (bytes " " ++ quoted d.name)

unfoldable pub decl_rules : Context → Rules Decl Change
decl_rules r = record {
  gone = λ d. change (kind_at DeclarationRemoved) major d.name None (decl_text d ++ bytes " was removed") ∷ [];
  came = λ d. change (kind_at DeclarationAdded) minor d.name None (decl_text d ++ bytes " was added") ∷ [];
  kept = λ d e. compare_decls r d e;
}

-- ---- all clauses, in report order

unfoldable pub changes : Reading → View → View → List Change
changes reading old new =
    compare_namespaces old.namespace new.namespace
    ++ compare name_of before (decl_rules (context reading old.registry new.registry)) old.standing new.standing

-- ---- "The types compared in an image are those of surviving newtypes and of surviving fields in surviving messages and in surviving
-- variants of surviving unions"

unfoldable pub field_types : List Field → List Ty
field_types fs = flat_map (λ f. f.type ∷ []) (field_map fs)

unfoldable pub variant_types : List Variant → List Ty
variant_types vs = flat_map (λ v. field_types v.fields) (variant_map vs)

unfoldable pub types_of : Kind → Decl → List Ty
types_of message d = field_types d.fields
types_of enum d = []
types_of flags d = []
types_of union d = variant_types d.variants
types_of newtype d = d.inner ∷ []
types_of config d = []
types_of alias d = []
types_of trait d = []
types_of impl d = []
types_of other d = []

unfoldable pub compared_types : View → List Ty
compared_types v = flat_map (λ d. types_of (kind_of d.kind) d) v.standing
