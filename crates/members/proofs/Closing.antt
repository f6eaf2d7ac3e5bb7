-- The tombstones of a body stand after its items. Assumes nothing.
use Rattle.std.proofs.Common.{◌≡◌, ℕ, zero, suc, ◌≤◌, length, refl, arith}
use Rattle.image.specs.Codes.{number, union_kind}
use Rattle.image.specs.Kinds.{kind_of}
use Rattle.parts.specs.Promise.{Closed, items_in, ItemsHere, variant_items, variant_tombstones, shape_by, tombstones_place, tombstone_items}
use Rattle.parts.specs.declared.Shape.{Shape}
use Rattle.parts.specs.declared.Shape.TheVariants as shape
use Rattle.parts.specs.declared.Run.{Run}
use Rattle.parts.specs.declared.handles.Image.{Image}
use Rattle.parts.specs.declared.handles.Decl.{Decl}
use Rattle.parts.specs.Handles.{decl_of}
use Rattle.parts.proofs.Promise.{head_there, decl_closed, variant_closed, closed_listed}
use Rattle.members.specs.Handles.{ItemsAt, HoldsItems, place_after}
use Rattle.members.specs.declared.handles.Items.{Items}
use Rattle.members.specs.declared.handles.Variant.{Variant}
use Rattle.members.proofs.Runs.{message_holds, enum_holds, flags_hold, union_holds}

-- an image has a format
pub format_there : (i : Image) → 2 ≤ length i.bytes.now
format_there i = omega (arith, head_there i.bytes.now i.accepted)

-- what closes it
module _ (x : Items) (g : Closed x.image.bytes.now (place_after x)) where
  pub closed_place : {n : ℕ} → n ≡ place_after x → Closed x.image.bytes.now n
  closed_place e = rw e g

  pub closed_here : {r : Run} → r ≡ tombstone_items x.image.bytes.now (place_after x) → ItemsHere shape.Number x.image.bytes.now r.count r.start
  closed_here e = rw e (closed_listed x.image.bytes.now (place_after x) g).here

pub ruleset closes = (format_there, closed_place, closed_here)

-- items that were found where a declaration of a kind with items has them
module _ (d : Decl) (l : (decl_of d).kind ≤ number union_kind) where
  pub decl_body : {x : Items} → ItemsAt d.image (shape_by (kind_of (decl_of d).kind)) (items_in d.image.bytes.now d.at) x → Closed x.image.bytes.now (place_after x)
  unfolding tombstones_place
  decl_body a = rw (a.image, a.shape, a.run) (decl_closed d.image.bytes.now d.at d.here l)

-- and where a variant has its fields
pub variant_body : (v : Variant) → {x : Items} → ItemsAt v.item.image shape.Field (variant_items v.item.image.bytes.now v.item.at) x → Closed x.image.bytes.now (place_after x)
unfolding variant_tombstones
variant_body v a = rw (a.image, a.shape, a.run) (variant_closed v.item.image.bytes.now v.item.at (rw v.is at v.item.here))

-- a declaration holds items of the shape of its kind
decl_holds : (d : Decl) → (decl_of d).kind ≤ number union_kind → HoldsItems (shape_by (kind_of (decl_of d).kind)) d
unfolding kind_of shape_by
decl_holds d l = go (decl_of d).kind refl l
  where
    go : (k : ℕ) → (decl_of d).kind ≡ k → k ≤ 3 → HoldsItems (shape_by (kind_of k)) d
    go zero e l = message_holds d e
    go (suc zero) e l = enum_holds d e
    go (suc (suc zero)) e l = flags_hold d e
    go (suc (suc (suc zero))) e l = union_holds d e
    go (suc (suc (suc (suc k)))) e l = absurd (omega arith)

-- so it does of the shape h, which the kind k has, and its tombstones stand after them
module _ (d : Decl) {k : ℕ} {h : Shape} (e : k ≡ (decl_of d).kind) (l : k ≤ number union_kind) (q : h ≡ shape_by (kind_of k)) where
  pub shape_holds : HoldsItems h d
  shape_holds = rw (q, e) (decl_holds d (rw e at l))

  pub shape_closed : {x : Items} → ItemsAt d.image h (items_in d.image.bytes.now d.at) x → Closed x.image.bytes.now (place_after x)
  shape_closed a = decl_body d (rw e at l) (rw (q, e) at a)
