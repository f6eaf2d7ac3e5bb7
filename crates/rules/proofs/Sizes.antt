-- Sizes of what an image holds: no more than the bytes that hold it. Assumes nothing.
use mathlib.Core.List.{List}
use Prim.Native.Nat.{ℕ, ◌+◌}
use lib.ListN.{length}
use Rattle.maps.specs.Lists.{total}
use Rattle.image.specs.Schema.{Name, Ty, leaf, one, two, Field, Variant, Decl}

unfoldable pub names_size : List Name → ℕ
names_size ns = total (λ n. 1 + length n) ns

unfoldable pub numbers_size : List ℕ → ℕ
numbers_size ns = total (λ n. 1) ns

unfoldable pub type_size : Ty → ℕ
type_size (leaf l) = 1 + names_size l.names
type_size (one l t) = 1 + names_size l.names + type_size t
type_size (two l t u) = 1 + names_size l.names + (type_size t + type_size u)

unfoldable pub field_size : Field → ℕ
field_size f = length f.name + (f.encoding.deltas + type_size f.type)

unfoldable pub variant_size : Variant → ℕ
variant_size v = 1 + (length v.name + (total field_size v.fields + numbers_size v.tombstones))

unfoldable pub decl_size : Decl → ℕ
decl_size d = length d.name + (total field_size d.fields + (total variant_size d.variants + (type_size d.inner + numbers_size d.tombstones)))
