-- A run of items that a declaration or a variant has is well formed. Assumes nothing.
use Rattle.std.proofs.Common.{◌≡◌, ℕ, zero, suc, ◌-◌, ◌<◌, ◌≤◌, List, true, refl, sym, ◌∙◌, arith}
use Rattle.image.specs.Codes.{number, message_kind, enum_kind, flags_kind, union_kind}
use Rattle.parts.specs.Promise.{items_in, ItemHere, is_named, item_name, item_end, ItemsHere, variant_items}
use Rattle.parts.specs.declared.Run.{Run}
use Rattle.parts.specs.declared.Shape.{Shape}
use Rattle.parts.specs.declared.Shape.TheVariants as shape
use Rattle.parts.specs.Handles.{decl_of}
use Rattle.parts.specs.declared.handles.Decl.{Decl}
use Rattle.members.specs.declared.handles.Item.{Item}
use Rattle.members.specs.declared.handles.Field.{Field}
use Rattle.members.specs.declared.handles.Variant.{Variant}
use Rattle.members.specs.Handles.{HoldsItems, name_in, field_of, variant_of}
use Rattle.parts.proofs.Promise.{message_listed, enum_listed, flags_listed, union_listed, variant_listed, field_name, variant_name_lem, items_first, items_rest}

-- the name of an item of a shape that has one
pub named : (h : Shape) → is_named h ≡ true → (i : Item) → i.shape ≡ h → name_in i ≡ item_name i.image.bytes.now i.at
unfolding name_in
named h t i e = rw (e, t)

pub field_named : (f : Field) → name_in f.item ≡ (field_of f).name
field_named f = named shape.Field refl f.item f.is ∙ sym (field_name _ _ (rw f.is at f.item.here))

pub variant_named : (v : Variant) → name_in v.item ≡ (variant_of v).name
variant_named v = named shape.Variant refl v.item v.is ∙ sym (variant_name_lem _ _ (rw v.is at v.item.here))

module _ (s : List ℕ) (at : ℕ) (r : Run) where
  pub variant_fields : ItemHere shape.Variant s at → r ≡ variant_items s at → ItemsHere shape.Field s r.count r.start
  variant_fields h e = rw e (variant_listed s at h).here

-- a declaration of a kind holds items of its shape
module _ (d : Decl) where
  pub message_holds : (decl_of d).kind ≡ number message_kind → HoldsItems shape.Field d
  message_holds k = record { kind = omega arith; here = (message_listed d.image.bytes.now d.at d.here k).here }

  pub enum_holds : (decl_of d).kind ≡ number enum_kind → HoldsItems shape.Bare d
  enum_holds k = record { kind = omega arith; here = (enum_listed d.image.bytes.now d.at d.here k).here }

  pub flags_hold : (decl_of d).kind ≡ number flags_kind → HoldsItems shape.Bare d
  flags_hold k = record { kind = omega arith; here = (flags_listed d.image.bytes.now d.at d.here k).here }

  pub union_holds : (decl_of d).kind ≡ number union_kind → HoldsItems shape.Variant d
  union_holds k = record { kind = omega arith; here = (union_listed d.image.bytes.now d.at d.here k).here }

module _ {h : Shape} {d : Decl} (g : HoldsItems h d) where
  pub held_kind : (decl_of d).kind ≤ number union_kind
  held_kind = g.kind

  pub held_here : {r : Run} → r ≡ items_in d.image.bytes.now d.at → ItemsHere h d.image.bytes.now r.count r.start
  held_here e = rw e g.here

pub ruleset held = (held_kind, held_here)

-- so many items, not none: the first, and the others
pub not_none : {c : ℕ} → (c ≡ 0 → ⊥) → 0 < c
not_none {c = zero} f = absurd (f refl)
not_none {c = suc c} f = omega arith

module _ (h : Shape) (s : List ℕ) (c at : ℕ) (f : c ≡ 0 → ⊥) (g : ItemsHere h s c at) where
  pub first_here : ItemHere h s at
  first_here = items_first h s c at (not_none f) g

  pub others_here : {n : ℕ} → n ≡ item_end h s at → ItemsHere h s (c - 1) n
  others_here e = rw e (items_rest h s c at (not_none f) g)

-- what a step over places needs
pub ruleset stepping = (first_here, others_here, not_none)
