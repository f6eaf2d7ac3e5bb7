-- What the handles of items stand for. Assumes nothing.
use Rattle.std.specs.Prelude.{◌≡◌, cond, [], ℕ, ◌≤◌}
use Rattle.image.specs.Schema.{Name, Field as FieldValue, Variant as VariantValue}
use Rattle.image.specs.Codes.{number, union_kind}
use Rattle.parts.specs.Promise.{ItemsHere, items_end, items_in, is_named, item_name, field_in, variant_in}
use Rattle.parts.specs.Handles.{decl_of}
use Rattle.parts.specs.declared.handles.Decl.{Decl}
use Rattle.parts.specs.declared.Shape.{Shape}
use Rattle.parts.specs.declared.Run.{Run}
use Rattle.parts.specs.declared.handles.Image.{Image}
use Rattle.members.specs.declared.places.Places.{Places}
use Rattle.members.specs.declared.handles.Items.{Items}
use Rattle.members.specs.declared.handles.Item.{Item}
use Rattle.members.specs.declared.handles.Field.{Field}
use Rattle.members.specs.declared.handles.Variant.{Variant}

-- the items of a shape that stand in an image, in a run of places
pub record ItemsAt (i : Image) (h : Shape) (n : Run) (r : Items) : Type 0 where
  pub image : r.image ≡ i
  pub shape : r.shape ≡ h
  pub run : r.run ≡ n

-- a declaration holds items, of a shape
pub record HoldsItems (h : Shape) (d : Decl) : Type 0 where
  pub kind : (decl_of d).kind ≤ number union_kind
  pub here : ItemsHere h d.image.bytes.now (items_in d.image.bytes.now d.at).count (items_in d.image.bytes.now d.at).start

-- the places of items
abbrev pub places_of : Items → Places
places_of x = record { bytes = x.image.bytes; shape = x.shape; run = x.run; here = x.here }

-- the place after items
abbrev pub place_after : Items → ℕ
place_after x = items_end x.shape x.image.bytes.now x.run.count x.run.start

-- the name of an item of a shape that has one
unfoldable pub name_in : Item → Name
name_in i = cond (is_named i.shape) (item_name i.image.bytes.now i.at) []

-- the field that a handle stands for, and the union's variant
abbrev pub field_of : Field → FieldValue
field_of f = field_in f.item.image.bytes.now f.item.at

abbrev pub variant_of : Variant → VariantValue
variant_of v = variant_in v.item.image.bytes.now v.item.at
