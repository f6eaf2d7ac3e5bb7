-- Two runs of numbered items, compared by ordinal: what is reported of them, part by part. Assumes nothing.
use Rattle.std.specs.Prelude.{List, ltb, Some}
use Rattle.maps.specs.Keyed.{lookup}
use Rattle.maps.specs.Compare.{Rules, unmatched, matched, between, compare}
use Rattle.parts.specs.Promise.{ItemOf}
use Rattle.parts.specs.Handles.{schema_in}
use Rattle.parts.specs.declared.Shape.{Shape}
use Rattle.parts.specs.declared.handles.Image.{Image}
use Rattle.members.specs.declared.handles.Item.{Item}
use Rattle.rules.specs.Changes.{Change}
use Rattle.rules.specs.Clauses.{Context, context}
use Rattle.survivors.specs.Answers.{ordinal_at}
use Rattle.survivors.specs.Runs.{item_of, item_ordinal, item_map, items_of}
use Rattle.lines.specs.Readings.{reading_of}
use Rattle.lines.specs.declared.Reading.{Reading}
use Rattle.items.specs.Owners.{shape_of, rules_of}
use Rattle.items.specs.Sides.{on, off}
use Rattle.items.specs.declared.Side.{Side}
use Rattle.items.specs.declared.Side.TheVariants as side
use Rattle.items.specs.declared.pairs.Pair.{Pair}

-- what the clauses compare types by: how these are read, each with its own image's registry
abbrev pub context_of : Reading → Image → Image → Context
context_of reading old new = context (reading_of reading) (schema_in old).registry (schema_in new).registry

module _ (x : Pair) where
  abbrev pub shape : Shape
  shape = shape_of x.of

  -- the items that stand on a side, and on the other
  abbrev pub standing : Side → List (ItemOf shape)
  standing s = item_map shape (items_of shape (on s x.old x.new))

  abbrev pub standing_off : Side → List (ItemOf shape)
  standing_off s = item_map shape (items_of shape (off s x.old x.new))

module _ (reading : Reading) (x : Pair) where
  abbrev pub rules : Rules (ItemOf (shape x)) Change
  rules = rules_of (context_of reading x.old.image x.new.image) x.of

  -- ---- what stands on one side only is gone or came

  abbrev pub lone : Side → ItemOf (shape x) → List Change
  lone side.Old = rules.gone
  lone side.New = rules.came

  unfoldable pub unmatched_items : Side → List Change
  unmatched_items s = between (item_ordinal (shape x)) ltb (unmatched (lone s)) (standing x s) (standing_off x s)

  -- of an item that stands on a side
  unfoldable pub unmatched_at : Side → Item → List Change
  unmatched_at s i = unmatched (lone s) (Some (item_of (shape x) i)) (lookup (item_ordinal (shape x)) ltb (ordinal_at i) (standing_off x s))

  -- ---- what stands on both was kept

  unfoldable pub kept_items : List Change
  kept_items = between (item_ordinal (shape x)) ltb (matched rules.kept) (standing x side.Old) (standing x side.New)

  -- of an old item that stands
  unfoldable pub kept_at : Item → List Change
  kept_at i = matched rules.kept (Some (item_of (shape x) i)) (lookup (item_ordinal (shape x)) ltb (ordinal_at i) (standing x side.New))

  -- ---- all of them

  unfoldable pub item_changes : List Change
  item_changes = compare (item_ordinal (shape x)) ltb rules (standing x side.Old) (standing x side.New)
