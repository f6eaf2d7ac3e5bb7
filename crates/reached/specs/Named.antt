-- What the compared types of items name. Assumes nothing.
use mathlib.Core.List.{List, [], flat_map}
use Rattle.std.specs.Prelude.{ℕ}
use Rattle.parts.specs.Promise.{ItemOf}
use Rattle.members.specs.declared.handles.Items.{Items}
use Rattle.parts.specs.declared.Shape.{Shape}
use Rattle.parts.specs.declared.Shape.TheVariants as shape
use Rattle.rules.specs.Survivors.{field_map}
use Rattle.rules.specs.Reached.{named_in}
use Rattle.survivors.specs.Runs.{item_map, items_of}

-- a field's type, and the fields of a union's variant
unfoldable pub item_names : (h : Shape) → ItemOf h → List ℕ
item_names shape.Field f = named_in f.type
item_names shape.Bare v = []
item_names shape.Number n = []
item_names shape.Variant v = flat_map (λ f. named_in f.type) (field_map v.fields)

-- those that stand
unfoldable pub named_items : (h : Shape) → Items → List ℕ
named_items h x = flat_map (item_names h) (item_map h (items_of h x))
