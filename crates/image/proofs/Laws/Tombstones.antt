-- Tombstones: a format without them, and one that stores them. Assumes nothing.
use mathlib.Core.Path.{◌≡◌, ◌∙◌}
use mathlib.Core.Bool.{true, false}
use mathlib.Core.List.{List}
use Prim.Native.Nat.{ℕ}
use Rattle.std.specs.Prelude.{Ok, ⊤}
use Rattle.image.specs.Formats.{has_tombstones}
use Rattle.image.specs.Parse.{Parsed, number_at, counted}
use Rattle.image.specs.Tombstones.{tombstones_at}
use Rattle.image.specs.Reads.{skip, read_of}
use Rattle.image.proofs.Laws.Formats.{stored_none, stored_read}
use Rattle.image.proofs.Laws.Repeats.{skip_counted}

module _ (format : ℕ) (s : List ℕ) (at : ℕ) where
  pub tombstones_none : false ≡ has_tombstones format → read_of (Ok at) ≡ skip (tombstones_at format s at)
  unfolding tombstones_at
  tombstones_none h = stored_none _ _ _ s at h

  pub tombstones_read : {r : Parsed ⊤} → true ≡ has_tombstones format → r ≡ skip (counted (λ t i. skip (number_at 4 t i)) s at)
      → r ≡ skip (tombstones_at format s at)
  unfolding tombstones_at
  tombstones_read h e = stored_read _ _ _ s at h (e ∙ skip_counted (number_at 4) s at)
