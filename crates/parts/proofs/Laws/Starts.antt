-- What starts a declaration, and its name by its kind. Assumes nothing.
use mathlib.Core.Path.{◌≡◌, refl}
use mathlib.Core.List.{List, []}
use Prim.Native.Nat.{ℕ, ◌+◌}
use native.Mathlib.Omega.{arith}
use native.Mathlib.Nat.{sub_self}
use borrow.Author.Tests.{ne_eqb}
use lib.ListN.{get_or}
use Rattle.image.specs.Codes.{number, impl_kind}
use Rattle.image.specs.Numbers.{kind_number}
use Rattle.image.specs.Schema.{Decl}
use Rattle.image.specs.declared.kinds.Kind.{Kind}
use Rattle.image.specs.declared.kinds.Kind.TheVariants as kind
use Rattle.parts.specs.Promise.{name_in, StartHere, start_kind, start_name}

-- the start of a declaration
pub record Started (s : List ℕ) (at : ℕ) (d : Decl) : Type 0 where
  pub here : StartHere s at
  pub kind : start_kind s at ≡ d.kind
  pub name : start_name s at ≡ d.name

module _ (s : List ℕ) (at : ℕ) where
  pub start_nameless : get_or s at 0 ≡ number impl_kind → start_name s at ≡ []
  unfolding start_name start_kind
  start_nameless e = rw e

  pub start_named : (get_or s at 0 ≡ number impl_kind → ⊥) → start_name s at ≡ name_in s (at + 1)
  unfolding start_name start_kind
  start_named n = rw (ne_eqb (get_or s at 0) 8 n)

-- only one kind is an impl
pub impl_only : (k : Kind) → (k ≡ kind.Impl → ⊥) → {n : ℕ} → kind_number k ≡ n → n ≡ number impl_kind → ⊥
impl_only kind.Message f e q = omega arith
impl_only kind.Enum f e q = omega arith
impl_only kind.Flags f e q = omega arith
impl_only kind.Union f e q = omega arith
impl_only kind.Newtype f e q = omega arith
impl_only kind.Config f e q = omega arith
impl_only kind.Alias f e q = omega arith
impl_only kind.Trait f e q = omega arith
impl_only kind.Impl f e q = f refl

-- what the code needs
pub ruleset starts = (start_nameless, start_named, impl_only, sub_self)
