-- The items that stand in a run, marked by rising ordinal, for fields and variants alike: what a walk has yet to mark, its turns and its end. Assumes nothing.
use mathlib.Core.Path.{◌≡◌, refl, sym, ap, ◌∙◌}
use mathlib.Core.List.{List, [], ◌∷◌, flat_map, append-nil}
use Prim.Native.Nat.{ℕ}
use Rattle.std.specs.Prelude.{Option, None, Some}
use Rattle.maps.specs.Compare.{between}
use Rattle.maps.proofs.Lists.{all, flat_map_same, flat_map_flat_map}
use Rattle.image.specs.Schema.{Field, Variant}
use Rattle.parts.specs.Promise.{ItemOf, variant_items}
use Rattle.parts.specs.Handles.{tree_of}
use Rattle.parts.specs.declared.handles.TypeRef.{TypeRef}
use Rattle.parts.specs.declared.Shape.{Shape}
use Rattle.parts.proofs.Promise.{variant_listed}
use Rattle.members.specs.Handles.{ItemsAt}
use Rattle.members.specs.declared.handles.Items.{Items}
use Rattle.members.specs.declared.handles.Item.{Item}
use Rattle.rules.specs.Survivors.{field_map, variant_map}
use Rattle.rules.specs.Clauses.{field_types, variant_types}
use Rattle.rules.specs.Reached.{named_in, IdSet}
use Rattle.survivors.specs.Answers.{Among, StandsIn, NextItem}
use Rattle.survivors.specs.declared.standing.StandingItems.{StandingItems}
use Rattle.survivors.specs.Runs.{item_of, item_map, items_of, Holds}
use Rattle.survivors.proofs.Runs.{items_hold, listed_hold, next_among, among_shape}
use Rattle.survivors.proofs.Walks.{each, rest_items, items_start, items_done, items_turn}
use Rattle.reached.specs.Marks.{Marked}
use Rattle.reached.specs.Named.{item_names, named_items}
use Rattle.reached.proofs.Marking.{ready_in, marked_in, marked_as, Owing, owing_start, owing_ready, owing_turn, owing_done}

-- ---- what fields and variants name, item by item

pub fields_named : (fs : List Field) → flat_map named_in (field_types fs) ≡ flat_map (item_names Shape.Field) (field_map fs)
unfolding field_types item_names flat_map
fields_named fs =
    flat_map_flat_map (λ f. f.type ∷ []) named_in (field_map fs)
    ∙ flat_map_same (λ f. flat_map named_in (f.type ∷ [])) (item_names Shape.Field) (field_map fs) (all (λ f. append-nil (named_in f.type)) (field_map fs))

pub variants_named : (vs : List Variant) → flat_map named_in (variant_types vs) ≡ flat_map (item_names Shape.Variant) (variant_map vs)
unfolding variant_types item_names
variants_named vs =
    flat_map_flat_map (λ v. field_types v.fields) named_in (variant_map vs)
    ∙ flat_map_same (λ v. flat_map named_in (field_types v.fields)) (item_names Shape.Variant) (variant_map vs)
    (all (λ v. fields_named v.fields) (variant_map vs))

-- ---- a walk

module _ (h : Shape) (x : Items) where
  -- what is yet to be marked from an ordinal on
  unfoldable pub to_mark : Option ℕ → List ℕ
  to_mark after = rest_items h (each (item_names h)) (items_of h x) [] after

  -- a walk over the items: what the marks at its start are yet to have
  pub record Marking (m₀ : IdSet) (whole : List ℕ) (m : IdSet) (w : StandingItems) : Type 0 where
    pub items : w.items ≡ x
    pub owing : Owing x.image m₀ whole m (to_mark w.after)

  module _ (e : x.shape ≡ h) where
    pub items_first : {w : StandingItems} → StandsIn x w → {m : IdSet} → Marking m (named_items h x) m w
    unfolding named_items to_mark between each
    items_first s = record {
      items = s.items;
      owing = rw s.after (owing_start (sym (items_start h (each (item_names h)) (items_of h x) [])));
    }

    module _ {m₀ m : IdSet} {whole : List ℕ} {w : StandingItems} (v : Marking m₀ whole m w) {w' : StandingItems} where
      pub items_last : NextItem w None w' → Marked x.image m₀ whole m
      unfolding to_mark
      items_last n = owing_done v.owing (items_done h (each (item_names h)) (items_of h x) [] (items_hold h x e) (rw v.items at n.follows) refl)

      module _ {j : Item} (n : NextItem w (Some j) w') where
        met : Among x j
        met = next_among (items_hold h x e) (rw v.items at n.follows) refl

        pub item_shape : j.shape ≡ h
        item_shape = among_shape (items_hold h x e) met

        pub item_image : j.image ≡ x.image
        item_image = met.image

        pub items_go : {m' : IdSet} → Marked j.image m (item_names h (item_of h j)) m' → Marking m₀ whole m' w'
        unfolding to_mark each
        items_go d = record {
          items = n.items ∙ v.items;
          owing =
              rw n.after
              (owing_turn v.owing (items_turn h (each (item_names h)) (items_of h x) [] (items_hold h x e) (rw v.items at n.follows) refl) (marked_in item_image d));
        }

-- ---- the items of a declaration or of a variant

pub listed_marked : {h : Shape} {x : Items} {xs : List (ItemOf h)} → Holds h x xs → {m m' : IdSet} → Marked x.image m (named_items h x) m'
    → Marked x.image m (flat_map (item_names h) (item_map h xs)) m'
unfolding named_items
listed_marked {h} l d = marked_as d (ap (λ ys. flat_map (item_names h) (item_map h ys)) (sym l.are))

-- ---- an item

module _ (j : Item) where
  pub field_marked : (t : TypeRef) → t.image ≡ j.image → tree_of t ≡ (item_of Shape.Field j).type → {m m' : IdSet}
      → Marked t.image m (named_in (tree_of t)) m' → Marked j.image m (item_names Shape.Field (item_of Shape.Field j)) m'
  unfolding item_names
  field_marked t f g d = marked_as (marked_in f d) (ap named_in g)

  pub variant_marked : j.shape ≡ Shape.Variant → {y : Items} → ItemsAt j.image Shape.Field (variant_items j.image.bytes.now j.at) y → {m m' : IdSet}
      → Marked y.image m (named_items Shape.Field y) m' → Marked j.image m (item_names Shape.Variant (item_of Shape.Variant j)) m'
  unfolding item_names
  variant_marked g f d = rw f.image at (listed_marked (listed_hold f (variant_listed j.image.bytes.now j.at (rw g at j.here))) d)

-- what the code needs
pub ruleset walked = (items_first, items_last, item_shape, item_image, items_go, owing_ready, ready_in)

pub ruleset field_walk = (walked, field_marked)

pub ruleset variant_walk = (walked, variant_marked)
