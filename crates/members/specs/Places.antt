-- What a walk over the places of items gives. Assumes nothing.
use Rattle.std.specs.Prelude.{◌≡◌, ℕ, ◌-◌, ◌<◌, Option, MatchOption}
use Rattle.parts.specs.Promise.{item_end}
use Rattle.members.specs.declared.places.Places.{Places}

-- a place is the first of places
pub record First (x : Places) (at : ℕ) : Type 0 where
  pub is : at ≡ x.run.start
  pub some : 0 < x.run.count

-- y is the places of x that come after the first
pub record Others (x y : Places) : Type 0 where
  pub bytes : y.bytes ≡ x.bytes
  pub shape : y.shape ≡ x.shape
  pub run : y.run ≡ record { start = item_end x.shape x.bytes.now x.run.start; count = x.run.count - 1 }

-- of places none is left, or they give the first and the others stay
abbrev pub Steps : Places → Option ℕ → Places → Type 0
Steps x r y = MatchOption r ((x.run.count ≡ 0) × (y ≡ x)) (λ at. First x at × Others x y)
