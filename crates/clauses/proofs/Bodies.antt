-- The bodies of declarations, and of variants, are what the rules say of them: the ordinals that they use, and the numbers that they strike off.
-- Assumes nothing.
use mathlib.Core.Path.{◌≡◌, refl, sym}
use mathlib.Core.Bool.{false≢true}
use mathlib.Core.List.{[]}
use Prim.Native.Nat.{ℕ, zero, suc, ◌≤◌, ◌<◌}
use native.Mathlib.Omega.{arith}
use Rattle.maps.specs.Lists.{among, any}
use Rattle.image.specs.Schema.{Name}
use Rattle.parts.specs.Kinds.{kind_of}
use Rattle.parts.specs.Codes.{number, union_kind}
use Rattle.parts.specs.Promise.{items_in, shape_by, tombstones_place, variant_items, variant_tombstones}
use Rattle.parts.specs.declared.Shape.TheVariants as shape
use Rattle.parts.specs.declared.handles.Decl.{Decl}
use Rattle.parts.specs.Handles.{decl_of}
use Rattle.parts.proofs.Promise.{message_listed, enum_listed, flags_listed, union_listed, variant_listed, decl_struck, decl_unclosed, variant_struck}
use Rattle.members.specs.Handles.{ItemsAt, variant_of}
use Rattle.members.specs.Bodies.{struck_in}
use Rattle.members.specs.declared.handles.Items.{Items}
use Rattle.members.specs.declared.handles.Body.{Body}
use Rattle.members.specs.declared.handles.Variant.{Variant}
use Rattle.rules.specs.Tombstones.{used_by_fields, used_by_variants, used_in, used, compare_last, compare_last_in}
use Rattle.rules.proofs.Tombstones.{struck_off}
use Rattle.survivors.specs.Runs.{ordinals_of}
use Rattle.survivors.proofs.Runs.{listed_hold}
use Rattle.survivors.proofs.Used.{holds_ordinals}
use Rattle.clauses.specs.Tombstones.{of_bodies}

module _ (d : Decl) where
  used_as : (k : ℕ) → (decl_of d).kind ≡ k → k ≤ number union_kind → {x : Items} → ItemsAt d.image (shape_by (kind_of k)) (items_in d.image.bytes.now d.at) x
      → ordinals_of x ≡ used_in (kind_of k) (decl_of d)
  unfolding kind_of shape_by used_in used_by_fields used_by_variants
  used_as zero e l a = holds_ordinals (listed_hold a (message_listed d.image.bytes.now d.at d.here e))
  used_as (suc zero) e l a = holds_ordinals (listed_hold a (enum_listed d.image.bytes.now d.at d.here e))
  used_as (suc (suc zero)) e l a = holds_ordinals (listed_hold a (flags_listed d.image.bytes.now d.at d.here e))
  used_as (suc (suc (suc zero))) e l a = holds_ordinals (listed_hold a (union_listed d.image.bytes.now d.at d.here e))
  used_as (suc (suc (suc (suc k)))) e l a = absurd (omega arith)

  module _ (b : Body) (h : ((decl_of d).kind ≤ number union_kind) × ItemsAt d.image (shape_by (kind_of (decl_of d).kind)) (items_in d.image.bytes.now d.at) b.items) where
    decl_used : ordinals_of b.items ≡ used (decl_of d)
    unfolding used
    decl_used = used_as (decl_of d).kind refl h.0 h.1

    decl_off : struck_in b ≡ (decl_of d).tombstones
    unfolding tombstones_place
    decl_off = rw (h.1.image, h.1.shape, h.1.run) (sym (decl_struck d.image.bytes.now d.at d.here h.0))

  none_off : (number union_kind) < (decl_of d).kind → (decl_of d).tombstones ≡ []
  none_off l = decl_unclosed d.image.bytes.now d.at d.here l

-- nothing is reported of a declaration without a body
pub decls_silent : (d e : Decl) → (number union_kind) < (decl_of d).kind → compare_last (decl_of d) (decl_of e) ≡ []
unfolding among any
decls_silent d e l = (struck_off.declarations.silent (decl_of d) (decl_of e)).1 (λ n q. absurd (false≢true (rw (none_off d l) at q)))

-- nor if the other one of its kind has none
pub unlike_silent : (d e : Decl) → (decl_of e).kind ≡ (decl_of d).kind → (number union_kind) < (decl_of e).kind → compare_last (decl_of d) (decl_of e) ≡ []
unlike_silent d e q l = decls_silent d e (rw q at l)

-- ---- what is reported of bodies, otherwise said: of what they are the bodies of

module _ (d e : Decl) (b c : Body) where
  pub decls_told : ((decl_of d).kind ≤ number union_kind) × ItemsAt d.image (shape_by (kind_of (decl_of d).kind)) (items_in d.image.bytes.now d.at) b.items
      → ((decl_of e).kind ≤ number union_kind) × ItemsAt e.image (shape_by (kind_of (decl_of e).kind)) (items_in e.image.bytes.now e.at) c.items
      → {name : Name} → name ≡ (decl_of d).name → compare_last (decl_of d) (decl_of e) ≡ of_bodies name b c
  unfolding compare_last
  decls_told h k n = rw (n, ← decl_off d b h, ← decl_used e c k, ← decl_off e c k) refl

module _ (v : Variant) (b : Body) (a : ItemsAt v.item.image shape.Field (variant_items v.item.image.bytes.now v.item.at) b.items) where
  variant_used : ordinals_of b.items ≡ used_by_fields (variant_of v).fields
  unfolding used_by_fields
  variant_used = holds_ordinals (listed_hold a (variant_listed v.item.image.bytes.now v.item.at (rw v.is at v.item.here)))

  variant_off : struck_in b ≡ (variant_of v).tombstones
  unfolding variant_tombstones
  variant_off = rw (a.image, a.shape, a.run) (sym (variant_struck v.item.image.bytes.now v.item.at (rw v.is at v.item.here)))

module _ (v w : Variant) (b c : Body) where
  pub variants_told : ItemsAt v.item.image shape.Field (variant_items v.item.image.bytes.now v.item.at) b.items
      → ItemsAt w.item.image shape.Field (variant_items w.item.image.bytes.now w.item.at) c.items
      → (name : Name) → compare_last_in name (variant_of v) (variant_of w) ≡ of_bodies name b c
  unfolding compare_last_in
  variants_told h k name = rw (← variant_off v b h, ← variant_used w c k, ← variant_off w c k) refl
