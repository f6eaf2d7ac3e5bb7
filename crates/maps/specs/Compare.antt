-- Two maps compared by key.
-- Assumes nothing.
use Rattle.std.specs.Prelude.{Bool, Option, None, Some}
use mathlib.Core.List.{List, [], ◌++◌, flat_map}
use Rattle.maps.specs.Keyed.{lookup}

-- What is reported of an entry of the old map that is gone, of an entry of the new map that came, and of an entry of the old map that was
-- kept, with that of the new map under the same key.
pub record Rules (E C : Type 0) : Type 0 where
  pub gone : E → List C
  pub came : E → List C
  pub kept : E → E → List C

-- of an entry of one map, if the other has none under its key
unfoldable pub unmatched : {E C : Type 0} → (E → List C) → Option E → Option E → List C
unmatched c None o = []
unmatched c (Some e) None = c e
unmatched c (Some e) (Some f) = []

-- of two entries under one key
unfoldable pub matched : {E C : Type 0} → (E → E → List C) → Option E → Option E → List C
matched c None o = []
matched c (Some e) None = []
matched c (Some e) (Some f) = c e f

module _ {K E : Type 0} (key : E → K) (lt : K → K → Bool) where
  -- what the entries of m, in their order, give with what n has under the same key
  unfoldable pub between : {C : Type 0} → (Option E → Option E → List C) → List E → List E → List C
  between g m n = flat_map (λ e. g (Some e) (lookup key lt (key e) n)) m

  -- first what is gone, then what came, then what was kept, each in the order of the keys
  unfoldable pub compare : {C : Type 0} → Rules E C → List E → List E → List C
  compare r old new =
      between (unmatched r.gone) old new ++ (between (unmatched r.came) new old ++ between (matched r.kept) old new)
