-- A number beside the kind that it says, for proofs by kind that need the number too; and the words of kinds. Assumes nothing.
use mathlib.Core.Path.{◌≡◌, refl}
use Prim.Native.Nat.{ℕ, zero, suc, ◌≤◌, ◌<◌}
use native.Mathlib.Omega.{arith}
use lib.ListN.{length, get_or}
use Rattle.image.specs.Kinds.{Kind, kind_of}
use Rattle.image.specs.Codes.{number, message_kind, enum_kind, flags_kind, union_kind, newtype_kind, config_kind, alias_kind, trait_kind, impl_kind}
use Rattle.image.specs.Words.{bytes, kind_name, kind_names}

pub data Says : ℕ → Kind → Type 0 where
  message : Says (number message_kind) Kind.message
  enum : Says (number enum_kind) Kind.enum
  flags : Says (number flags_kind) Kind.flags
  union : Says (number union_kind) Kind.union
  newtype : Says (number newtype_kind) Kind.newtype
  config : Says (number config_kind) Kind.config
  alias : Says (number alias_kind) Kind.alias
  trait : Says (number trait_kind) Kind.trait
  impl : Says (number impl_kind) Kind.impl
  other : (n : ℕ) → (number impl_kind) < n → Says n Kind.other

pub says : (n : ℕ) → Says n (kind_of n)
unfolding kind_of
says zero = message
says (suc zero) = enum
says (suc (suc zero)) = flags
says (suc (suc (suc zero))) = union
says (suc (suc (suc (suc zero)))) = newtype
says (suc (suc (suc (suc (suc zero))))) = config
says (suc (suc (suc (suc (suc (suc zero)))))) = alias
says (suc (suc (suc (suc (suc (suc (suc zero))))))) = trait
says (suc (suc (suc (suc (suc (suc (suc (suc zero)))))))) = impl
says (suc (suc (suc (suc (suc (suc (suc (suc (suc k))))))))) = other (suc (suc (suc (suc (suc (suc (suc (suc (suc k))))))))) (omega arith)

-- the words of kinds: the table has each at its number, and none is longer than `generic_alias`
pub kind_named : (n : ℕ) → get_or kind_names n "" ≡ kind_name (kind_of n)
unfolding kind_of
kind_named zero = refl
kind_named (suc zero) = refl
kind_named (suc (suc zero)) = refl
kind_named (suc (suc (suc zero))) = refl
kind_named (suc (suc (suc (suc zero)))) = refl
kind_named (suc (suc (suc (suc (suc zero))))) = refl
kind_named (suc (suc (suc (suc (suc (suc zero)))))) = refl
kind_named (suc (suc (suc (suc (suc (suc (suc zero))))))) = refl
kind_named (suc (suc (suc (suc (suc (suc (suc (suc zero)))))))) = refl
kind_named (suc (suc (suc (suc (suc (suc (suc (suc (suc k))))))))) = refl

pub word_short : (kind : Kind) → length (bytes (kind_name kind)) ≤ 13
unfolding bytes
word_short Kind.message = omega arith
word_short Kind.enum = omega arith
word_short Kind.flags = omega arith
word_short Kind.union = omega arith
word_short Kind.newtype = omega arith
word_short Kind.config = omega arith
word_short Kind.alias = omega arith
word_short Kind.trait = omega arith
word_short Kind.impl = omega arith
word_short Kind.other = omega arith
