-- The kinds of declarations, for definitions that go by cases; their numbers are in Codes. Assumes nothing.
use Rattle.std.specs.Prelude.{ℕ, zero, suc}

-- what a number says: "A body is a u8 kind, then .."; `other` is no kind
pub data Kind : Type 0 where
  message enum flags union newtype config alias trait impl other : Kind

unfoldable pub kind_of : ℕ → Kind
kind_of zero = message
kind_of (suc zero) = enum
kind_of (suc (suc zero)) = flags
kind_of (suc (suc (suc zero))) = union
kind_of (suc (suc (suc (suc zero)))) = newtype
kind_of (suc (suc (suc (suc (suc zero))))) = config
kind_of (suc (suc (suc (suc (suc (suc zero)))))) = alias
kind_of (suc (suc (suc (suc (suc (suc (suc zero))))))) = trait
kind_of (suc (suc (suc (suc (suc (suc (suc (suc zero)))))))) = impl
kind_of (suc (suc (suc (suc (suc (suc (suc (suc (suc k))))))))) = other
