-- What is known of a place is a fact: of each there is one proof at most. Assumes nothing.
use Rattle.std.specs.Prelude.{ℕ, ◌≤◌, List}
use Rattle.std.proofs.Common.{refl}
use denote.Struct.Props.{props}
use Rattle.image.specs.Parse.{Parsed, ok, no}
use Rattle.image.specs.WellFormed.{Good}
use Rattle.parts.specs.declared.Run.{Run}
use Rattle.parts.specs.Promise.{Accepted, NamesHere, NamesIn, DeclHere, TypeHere}

pub good_prop : {A : Type 0} (p : Parsed A) → IsProp (Good p)
unfolding Good
good_prop (ok a n) x y = refl
good_prop (no k) x y = absurd x

pub accepted_prop : (s : List ℕ) → IsProp (Accepted s)
unfolding Accepted
accepted_prop s = good_prop _

pub decl_prop : (s : List ℕ) (at : ℕ) → IsProp (DeclHere s at)
unfolding DeclHere
decl_prop s at = good_prop _

pub type_prop : (left : ℕ) (s : List ℕ) (at : ℕ) → IsProp (TypeHere left s at)
type_prop left s at x y =
    let few_prop : IsProp (left ≤ 32) = Prim.hlevel props in
    λ i. record { few = few_prop x.few y.few i; good = good_prop _ x.good y.good i }

names_here_prop : (s : List ℕ) (count at : ℕ) → IsProp (NamesHere s count at)
unfolding NamesHere
names_here_prop s count at = good_prop _

pub names_prop : (s : List ℕ) (n : Run) → IsProp (NamesIn s n)
unfolding NamesIn
names_prop s n x y = λ i l. names_here_prop s n.count n.start (x l) (y l) i
