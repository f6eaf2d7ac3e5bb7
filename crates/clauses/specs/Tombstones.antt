-- The numbers that a body strikes off, by its items and those of another: what may have happened to one, the change, and what is reported of all.
-- Assumes nothing.
use Rattle.std.specs.Prelude.{Bool, ◌&&◌, not, List, ◌++◌, ℕ, None}
use mathlib.Core.List.{flat_map}
use Rattle.maps.specs.Lists.{among}
use Rattle.image.specs.Schema.{Name}
use Rattle.image.specs.Words.{bytes}
use Rattle.parts.specs.declared.Shape.TheVariants as shape
use Rattle.members.specs.Bodies.{struck_in}
use Rattle.members.specs.declared.handles.Items.{Items}
use Rattle.members.specs.declared.handles.Body.{Body}
use Rattle.text.specs.Decimal.{decimal}
use Rattle.rules.specs.Changes.{major, Change, change, kind_at, TombstoneReused, TombstoneDropped}
use Rattle.rules.specs.Tombstones.{rising_numbers, reused, dropped, compare_struck}
use Rattle.survivors.specs.Runs.{items_of, ordinals_of}
use Rattle.clauses.specs.declared.tombstones.TombstoneChange.{TombstoneChange}
use Rattle.clauses.specs.declared.tombstones.TombstoneChange.TheVariants.{Reused, Dropped}

-- ---- a number

abbrev pub tombstone_kind : TombstoneChange → ℕ
tombstone_kind Reused = kind_at TombstoneReused
tombstone_kind Dropped = kind_at TombstoneDropped

abbrev pub tombstone_verb : TombstoneChange → List ℕ
tombstone_verb Reused = bytes " was reused"
tombstone_verb Dropped = bytes " was dropped"

abbrev pub tombstone_change : TombstoneChange → Name → ℕ → Change
tombstone_change t d n = change (tombstone_kind t) major d None (bytes "tombstone @" ++ (decimal n ++ tombstone_verb t))

-- whether that happened to it, by the numbers that the new side uses and those that it strikes off
abbrev pub happened : TombstoneChange → List ℕ → List ℕ → ℕ → Bool
happened Reused new_used new_struck n = among n new_used
happened Dropped new_used new_struck n = not (among n new_used) && not (among n new_struck)

-- what the rules report of it
abbrev pub told_of : TombstoneChange → Name → List ℕ → List ℕ → ℕ → List Change
told_of Reused d new_used new_struck = reused d new_used
told_of Dropped d new_used new_struck = dropped d new_used new_struck

-- ---- all of them

unfoldable pub all_told : TombstoneChange → Name → Items → Items → Items → List Change
all_told t d old new still = flat_map (told_of t d (ordinals_of new) (ordinals_of still)) (rising_numbers (items_of shape.Number old))

abbrev pub of_bodies : Name → Body → Body → List Change
of_bodies d old new = compare_struck d (struck_in old) (ordinals_of new.items) (struck_in new)
