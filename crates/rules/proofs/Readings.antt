-- What the laws over any reading ask of it: that it reads types soundly, and of what it reports besides the clauses. A reading that reports
-- nothing besides asks for no more than the first. Assumes nothing.
use mathlib.Core.Path.{◌≡◌, refl}
use mathlib.Core.Bool.{Bool, false, cond}
use mathlib.Core.List.{List, []}
use Prim.Native.Nat.{ℕ}
use native.Mathlib.Omega.{arith}
use Rattle.maps.specs.Lists.{largest, total, count}
use Rattle.maps.proofs.Levels.{Chained, chained_small}
use Rattle.image.specs.Schema.{Name, Ty, Variant, Decl}
use Rattle.rules.specs.Equal.{Sound, never}
use Rattle.rules.specs.Changes.{level, Change}
use Rattle.rules.specs.Clauses.{Reading, clauses_by}
use Rattle.rules.specs.Verdict.{count_of}
use Rattle.rules.proofs.Mirror.{mirror, one_way}

-- the level of a change
abbrev pub level_of : Change → ℕ
level_of c = level c.bump

-- ---- for the distance rule

-- what f reports of two things that go together, under a name, where some things are odd
pub record Besides {E : Type 0} (Go : E → E → Type 0) (f : Name → E → E → List Change) (odd : E → Bool) : Type 0 where
  -- from the first of three to the third no more than to and from the second
  pub chained : (b : ℕ) (c d e : Name) (x y z : E) → Go x y → Go y z → Chained level_of b (f c x y) (f d y z) (f e x z)
  -- of a thing and itself nothing that counts, or of one that is odd what is Major
  pub self : (d : Name) (x : E) → largest level_of (f d x x) ≡ cond (odd x) 2 0
  -- both ways the same but for the kinds that need not be
  pub swap : (j : ℕ) → one_way j ≡ false → (d e : Name) (x y : E) → Go x y → count_of j (f d x y) ≡ count_of (mirror j) (f e y x)

abbrev pub OneKind : Decl → Decl → Type 0
OneKind x y = x.kind ≡ y.kind

abbrev pub AnyTwo : Variant → Variant → Type 0
AnyTwo v w = Unit {0}

-- what is odd: of which the change against itself counts
pub record Odd : Type 0 where
  pub types : Ty → Bool
  pub first : Decl → Bool
  pub last : Decl → Bool
  pub last_in : Variant → Bool

-- nothing but types
abbrev pub odd_types : (Ty → Bool) → Odd
odd_types odd = record { types = odd; first = never; last = never; last_in = never }

pub record Lawful (r : Reading) (odd : Odd) : Type 0 where
  pub types : Sound r.same odd.types
  pub first : Besides OneKind (λ d. r.first) odd.first
  pub last : Besides OneKind (λ d. r.last) odd.last
  pub last_in : Besides AnyTwo r.last_in odd.last_in

pub nothing_besides : {E : Type 0} {Go : E → E → Type 0} → Besides Go (λ d x y. []) never
unfolding largest count_of count total
nothing_besides = record { chained = λ b c d e x y z p q. chained_small (omega arith); self = λ d x. refl; swap = λ j o d e x y p. refl }

pub clauses_lawful : {same : Ty → Ty → Bool} {odd : Ty → Bool} → Sound same odd → Lawful (clauses_by same) (odd_types odd)
clauses_lawful sound = record { types = sound; first = nothing_besides; last = nothing_besides; last_in = nothing_besides }
