-- The verdict: bump, result, counts; and refusal 11. Assumes nothing.
use Rattle.std.specs.Prelude.{Bool, false, cond, ◌&&◌, List, ℕ, eqb, Option, None, Some}
use Rattle.maps.specs.Lists.{largest, count, any}
use Rattle.maps.specs.Keyed.{lookup}
use Rattle.maps.specs.Orders.{before}
use Rattle.image.specs.Schema.{Decl}
use Rattle.image.specs.Codes.{number, alias_kind}
use Rattle.rules.specs.Survivors.{name_of, View}
use Rattle.rules.specs.Changes.{level, Change}

-- "the bump (the largest; Patch if none)"
unfoldable pub bump_of : List Change → ℕ
bump_of cs = largest (λ c. level c.bump) cs

-- "the result (Breaking exactly at Major)": Breaking 1, Compatible 0
abbrev pub result_at : ℕ → ℕ
result_at bump = cond (eqb bump 2) 1 0

unfoldable pub result_of : List Change → ℕ
result_of cs = result_at (bump_of cs)

-- "the count for each of the .. names of `ChangeKind`"
unfoldable pub count_of : ℕ → List Change → ℕ
count_of kind cs = count (λ c. eqb c.kind kind) cs

-- 11: "survivors of one name are generic aliases in both images"
unfoldable pub alias : Decl → Bool
alias d = eqb d.kind (number alias_kind)

unfoldable pub is_alias : Option Decl → Bool
is_alias None = false
is_alias (Some d) = alias d

unfoldable pub alias_pair : View → View → Bool
alias_pair old new = any (λ d. alias d && is_alias (lookup name_of before d.name new.standing)) old.standing
