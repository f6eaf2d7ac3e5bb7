-- What stands on both sides: two fields, the fields of two variants; and the items of two declarations. Assumes nothing.
use Rattle.std.proofs.Common.{◌≡◌, List, ◌++◌, ℕ, refl, sym, ap, subst, ◌∙◌}
use Rattle.std.specs.Prelude.{Option, Some}
use Rattle.image.specs.Words.{bytes}
use lib.Dec.{ltb}
use Rattle.maps.specs.Compare.{compare}
use Rattle.rules.specs.Survivors.{variant_ordinal, variant_map}
use Rattle.image.specs.Schema.{Name, Field as FieldValue, Variant as VariantValue, Marks}
use Rattle.parts.specs.Promise.{DeclHere, decl_in, items_in, variant_items}
use Rattle.parts.specs.Codes.{number, message_kind, enum_kind, flags_kind, union_kind}
use Rattle.parts.specs.declared.Shape.{Shape}
use Rattle.parts.specs.declared.handles.Image.{Image}
use Rattle.parts.proofs.Promise.{message_listed, enum_listed, flags_listed, union_listed, variant_listed}
use Rattle.members.specs.Handles.{ItemsAt, variant_of}
use Rattle.members.specs.declared.handles.Item.{Item}
use Rattle.members.specs.declared.handles.Items.{Items}
use Rattle.members.specs.declared.handles.Variant.{Variant}
use Rattle.rules.specs.Changes.{Change, quoted}
use Rattle.rules.specs.Clauses.{Context, compare_field_names, compare_types, compare_encodings, compare_deprecated, compare_fields, compare_field_sets, field_text, union_rules}
use Rattle.survivors.specs.Answers.{Among}
use Rattle.survivors.specs.Runs.{item_of, items_of}
use Rattle.survivors.proofs.Runs.{listed_hold}
use Rattle.lines.specs.Readings.{reading_of}
use Rattle.lines.specs.declared.Reading.{Reading}
use Rattle.lines.specs.Reports.{Reports}
use Rattle.lines.specs.declared.Report.{Report}
use Rattle.lines.proofs.Reports.{reports_as, reports_more, reports_then}
use Rattle.items.specs.Items.{context_of, shape, rules}
use Rattle.items.specs.Owners.{shape_of, rules_of}
use Rattle.items.specs.declared.Owner.{Owner}
use Rattle.items.specs.declared.pairs.Pair.{Pair}
use Rattle.clauses.specs.Marks.{deprecated}

-- ---- a mark that is gained, by two sets of marks

pub marks_told : (d : Name) (field : Option Name) (what : List ℕ) (m n : Marks) → compare_deprecated d field what m n ≡ deprecated d field what m.deprecated n.deprecated
unfolding compare_deprecated
marks_told d field what m n = refl

-- ---- two fields, part by part

module _ (i j : Image) (d : Name) (f g : FieldValue) where
  pub fields_told : {a b c e k : Report} → Reports a (compare_field_names d f g) b
      → Reports b (compare_types (context_of b.reading i j) d (Some g.name) (field_text g) f.type g.type) c
      → Reports c (compare_encodings d f g) e
      → Reports e (deprecated d (Some g.name) (bytes "field " ++ quoted g.name) f.marks.deprecated g.marks.deprecated) k
      → Reports a (compare_fields (context_of a.reading i j) d f g) k
  unfolding compare_fields
  fields_told names types coding marks =
      let last = reports_more coding (reports_as (marks_told d (Some g.name) (bytes "field " ++ quoted g.name) f.marks g.marks) marks) in
      reports_then
      (λ (w : Reading). compare_types (context_of w i j) d (Some g.name) (field_text g) f.type g.type
      ++ (compare_encodings d f g ++ compare_deprecated d (Some g.name) (bytes "field " ++ quoted g.name) f.marks g.marks))
      names (reports_more types last)

-- ---- what the rules say of two items that stand under one ordinal

module _ (reading : Reading) (x : Pair) {i j : Item} (g : Among x.old i) (h : Among x.new j) where
  images : context_of reading i.image j.image ≡ context_of reading x.old.image x.new.image
  images = rw (g.image, h.image) refl

  -- they are those of their owner, by the images that the items stand in
  pub kept_by : (o : Owner) → x.of ≡ o
      → (rules reading x).kept (item_of (shape x) i) (item_of (shape x) j)
      ≡ (rules_of (context_of reading i.image j.image) o).kept (item_of (shape_of o) i) (item_of (shape_of o) j)
  kept_by o e =
      subst (λ (p : Owner). (rules reading x).kept (item_of (shape x) i) (item_of (shape x) j)
      ≡ (rules_of (context_of reading x.old.image x.new.image) p).kept (item_of (shape_of p) i) (item_of (shape_of p) j))
      e refl
      ∙ ap (λ (r : Context). (rules_of r o).kept (item_of (shape_of o) i) (item_of (shape_of o) j)) (sym images)

-- what is reported of two variants after their fields
pub last_told : (d : Name) (v w : VariantValue) {a b c : Report} {cs : List Change} → Reports a cs b → Reports b ((reading_of b.reading).last_in d v w) c
    → Reports a (cs ++ (reading_of a.reading).last_in d v w) c
last_told d v w = reports_then (λ (r : Reading). (reading_of r).last_in d v w)

-- ---- the items of a declaration, or of a variant, are those of its run

module _ {i : Image} (at : ℕ) {x : Items} where
  module _ (h : DeclHere i.bytes.now at) where
    pub message_fields : ItemsAt i Shape.Field (items_in i.bytes.now at) x → (decl_in i.bytes.now at).kind ≡ number message_kind
        → (decl_in i.bytes.now at).fields ≡ items_of Shape.Field x
    message_fields a k = (listed_hold a (message_listed i.bytes.now at h k)).are

    pub enum_variants : ItemsAt i Shape.Bare (items_in i.bytes.now at) x → (decl_in i.bytes.now at).kind ≡ number enum_kind
        → (decl_in i.bytes.now at).variants ≡ items_of Shape.Bare x
    enum_variants a k = (listed_hold a (enum_listed i.bytes.now at h k)).are

    pub flags_bits : ItemsAt i Shape.Bare (items_in i.bytes.now at) x → (decl_in i.bytes.now at).kind ≡ number flags_kind
        → (decl_in i.bytes.now at).variants ≡ items_of Shape.Bare x
    flags_bits a k = (listed_hold a (flags_listed i.bytes.now at h k)).are

    pub union_variants : ItemsAt i Shape.Variant (items_in i.bytes.now at) x → (decl_in i.bytes.now at).kind ≡ number union_kind
        → (decl_in i.bytes.now at).variants ≡ items_of Shape.Variant x
    union_variants a k = (listed_hold a (union_listed i.bytes.now at h k)).are

-- of a union's variant
pub variant_fields : (v : Variant) {x : Items} → ItemsAt v.item.image Shape.Field (variant_items v.item.image.bytes.now v.item.at) x
    → (variant_of v).fields ≡ items_of Shape.Field x
variant_fields v a = (listed_hold a (variant_listed v.item.image.bytes.now v.item.at (rw v.is at v.item.here))).are

-- ---- what is reported of two sets of fields, or of variants, otherwise said: of the images that they stand in

module _ {i j k l : Image} (p : k ≡ i) (q : l ≡ j) {d e : Name} (n : e ≡ d) where
  pub sets_told : (x y : Items) {fs gs : List FieldValue} → fs ≡ items_of Shape.Field x → gs ≡ items_of Shape.Field y → {a b : Report}
      → Reports a (compare_field_sets (context_of a.reading k l) e (items_of Shape.Field x) (items_of Shape.Field y)) b
      → Reports a (compare_field_sets (context_of a.reading i j) d fs gs) b
  sets_told x y u v {a} h = reports_as (rw (u, v, ← p, ← q, ← n) refl) h

  pub union_told : (reading : Reading) (x y : Items) {vs ws : List VariantValue} → vs ≡ items_of Shape.Variant x → ws ≡ items_of Shape.Variant y
      → compare variant_ordinal ltb (union_rules (context_of reading i j) d) (variant_map vs) (variant_map ws)
      ≡ compare variant_ordinal ltb (union_rules (context_of reading k l) e) (variant_map (items_of Shape.Variant x)) (variant_map (items_of Shape.Variant y))
  union_told reading x y u v = rw (u, v, ← p, ← q, ← n) refl
