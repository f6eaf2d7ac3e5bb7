-- What a format stores: one without it, and one that stores it. Assumes nothing.
use mathlib.Core.Path.{◌≡◌, sym}
use mathlib.Core.Bool.{Bool, true, false}
use mathlib.Core.List.{List}
use Prim.Native.Nat.{ℕ}
use Rattle.std.specs.Prelude.{Ok, ⊤}
use Rattle.image.specs.Formats.{stored}
use Rattle.image.specs.Parse.{Parsed, pick}
use Rattle.image.specs.Reads.{skip, read_of}
use Rattle.image.proofs.Laws.Answers.{pick_true}

module _ {A : Type 0} (stores : Bool) (absent : A) (p : List ℕ → ℕ → Parsed A) (s : List ℕ) (at : ℕ) where
  pub stored_none : false ≡ stores → read_of (Ok at) ≡ skip (stored stores absent p s at)
  unfolding stored skip read_of pick
  stored_none h = rw (sym h)

  pub stored_read : {r : Parsed ⊤} → true ≡ stores → r ≡ skip (p s at) → r ≡ skip (stored stores absent p s at)
  unfolding stored
  stored_read h e = pick_true stores _ _ (sym h) e
