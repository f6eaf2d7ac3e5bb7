-- What is reported of two runs of items, by their owner alone. Assumes nothing.
use Rattle.std.proofs.Common.{◌≡◌, List, [], refl}
use mathlib.Core.Bool.{Bool}
use mathlib.Core.List.{◌∷◌, flat_map}
use lib.Dec.{ltb}
use Rattle.std.specs.Prelude.{Option, None, Some}
use Rattle.maps.specs.Keyed.{lookup}
use Rattle.maps.specs.Compare.{matched, between, compare}
use Rattle.members.specs.declared.handles.Items.{Items}
use Rattle.rules.specs.Changes.{Change}
use Rattle.rules.specs.Clauses.{Context}
use Rattle.survivors.specs.Runs.{item_ordinal, item_map, items_of}
use Rattle.lines.specs.declared.Reading.{Reading}
use Rattle.items.specs.Items.{context_of, kept_items, item_changes}
use Rattle.items.specs.Owners.{shape_of, rules_of}
use Rattle.items.specs.declared.Owner.{Owner}
use Rattle.items.specs.declared.pairs.Pair.{Pair}

module _ (r : Context) (o : Owner) (x y : Items) where
  abbrev pub owned_changes : List Change
  owned_changes = compare (item_ordinal (shape_of o)) ltb (rules_of r o) (item_map (shape_of o) (items_of (shape_of o) x)) (item_map (shape_of o) (items_of (shape_of o) y))

  abbrev pub owned_kept : List Change
  owned_kept =
      between (item_ordinal (shape_of o)) ltb (matched (rules_of r o).kept) (item_map (shape_of o) (items_of (shape_of o) x)) (item_map (shape_of o) (items_of (shape_of o) y))

module _ (reading : Reading) (p : Pair) {o : Owner} (e : p.of ≡ o) {x y : Items} (f : p.old ≡ x) (g : p.new ≡ y) where
  pub changes_owned : item_changes reading p ≡ owned_changes (context_of reading x.image y.image) o x y
  unfolding item_changes
  changes_owned = (λ i. owned_changes (context_of reading (f i).image (g i).image) (e i) (f i) (g i))

  pub kept_owned : kept_items reading p ≡ owned_kept (context_of reading x.image y.image) o x y
  unfolding kept_items
  kept_owned = (λ i. owned_kept (context_of reading (f i).image (g i).image) (e i) (f i) (g i))

-- rules that report nothing of what was kept
pub kept_silent : {K E C : Type 0} (key : E → K) (lt : K → K → Bool) (m n : List E) → between key lt {C = C} (matched (λ e f. [])) m n ≡ []
unfolding between flat_map matched
kept_silent key lt [] n = refl
kept_silent {E = E} {C = C} key lt (e ∷ m) n = rw (none_matched {E = E} {C = C} e (lookup key lt (key e) n)) (kept_silent key lt m n)
  where
    none_matched : {E C : Type 0} (e : E) (o : Option E) → matched {C = C} (λ f g. []) (Some e) o ≡ []
    none_matched e None = refl
    none_matched e (Some f) = refl
