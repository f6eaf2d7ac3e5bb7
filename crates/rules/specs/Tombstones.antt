-- R-10, "Struck-off ordinals": what the mended verdict reports of the numbers that a body strikes off; which images strike off a number
-- and use it; and what holds of these definitions. Assumes nothing.
use Rattle.std.specs.Prelude.{◌≡◌, Bool, true, false, cond, not, ◌&&◌, ◌||◌, ◌⊎◌, ◌↔◌, List, [], map, ◌++◌, ℕ, ltb, None}
use mathlib.Core.List.{flat_map}
use Rattle.maps.specs.Lists.{count, any, among}
use Rattle.maps.specs.Keyed.{survivors}
use Rattle.maps.specs.Walk.{Rising}
use Rattle.image.specs.Schema.{Name, Field, Variant, Decl, Schema}
use Rattle.image.specs.Kinds.{Kind, kind_of, message, enum, flags, union, newtype, config, alias, trait, impl, other}
use Rattle.image.specs.Parse.{Parsed, ok, no}
use Rattle.image.specs.Image.{read_image}
use Rattle.image.specs.Words.{bytes}
use Rattle.text.specs.Decimal.{decimal}
use Rattle.rules.specs.Survivors.{field_map, variant_map, union_variants, declarations}
use Rattle.rules.specs.Changes.{major, level, Change, change, only, kind_at, TombstoneReused, TombstoneDropped}
use Rattle.rules.specs.Verdict.{bump_of, count_of}

-- "numbers rising", "Repeated tombstones count as one"
unfoldable pub rising_numbers : List ℕ → List ℕ
rising_numbers numbers = survivors (λ n. n) ltb numbers

-- ---- the numbers that a body uses: those of its items that survive

unfoldable pub used_by_fields : List Field → List ℕ
used_by_fields fs = map (λ f. f.ordinal) (field_map fs)

unfoldable pub used_by_variants : List Variant → List ℕ
used_by_variants vs = map (λ v. v.ordinal) (variant_map vs)

-- of a message the fields, of an enum or union the variants, of flags the bits
unfoldable pub used_in : Kind → Decl → List ℕ
used_in message d = used_by_fields d.fields
used_in enum d = used_by_variants d.variants
used_in flags d = used_by_variants d.variants
used_in union d = used_by_variants d.variants
used_in newtype d = []
used_in config d = []
used_in alias d = []
used_in trait d = []
used_in impl d = []
used_in other d = []

unfoldable pub used : Decl → List ℕ
used d = used_in (kind_of d.kind) d

-- ---- the changes

-- "TombstoneReused, Major, where the new side uses a number struck off in the old", "tombstone @3 was reused"
unfoldable pub reused : Name → List ℕ → ℕ → List Change
reused d new_used n =
    only (among n new_used)
    (change (kind_at TombstoneReused) major d None (bytes "tombstone @" ++ (decimal n ++ bytes " was reused")))

-- "TombstoneDropped, Major, where the new side neither uses nor strikes it off", "tombstone @3 was dropped"
unfoldable pub dropped : Name → List ℕ → List ℕ → ℕ → List Change
dropped d new_used new_struck n =
    only (not (among n new_used) && not (among n new_struck))
    (change (kind_at TombstoneDropped) major d None (bytes "tombstone @" ++ (decimal n ++ bytes " was dropped")))

-- "all reused before all dropped": of a body that strikes off some numbers, and one that uses some and strikes off some
unfoldable pub compare_struck : Name → List ℕ → List ℕ → List ℕ → List Change
compare_struck d old_struck new_used new_struck =
    flat_map (reused d new_used) (rising_numbers old_struck)
    ++ flat_map (dropped d new_used new_struck) (rising_numbers old_struck)

-- of two declarations of one kind: "last in their declaration"
unfoldable pub compare_last : Decl → Decl → List Change
compare_last old new = compare_struck old.name old.tombstones (used new) new.tombstones

-- of two variants of a union, "or variant (named as in clause 7)"
unfoldable pub compare_last_in : Name → Variant → Variant → List Change
compare_last_in d old new = compare_struck d old.tombstones (used_by_fields new.fields) new.tombstones

-- ---- "one that strikes off a number and uses it in the same surviving declaration, or surviving variant of one"

unfoldable pub uses : List ℕ → List ℕ → Bool
uses struck_off in_use = any (λ n. among n in_use) struck_off

-- in a surviving variant
unfoldable pub variant_uses : Decl → Bool
variant_uses d = any (λ v. uses v.tombstones (used_by_fields v.fields)) (union_variants (kind_of d.kind) d)

unfoldable pub decl_uses : Decl → Bool
decl_uses d = uses d.tombstones (used d) || variant_uses d

unfoldable pub schema_uses : Schema → Bool
schema_uses s = any decl_uses (declarations s)

unfoldable pub struck_used : Parsed Schema → Bool
struck_used (ok s n) = schema_uses s
struck_used (no k) = false

unfoldable pub uses_struck : List ℕ → Bool
uses_struck image = struck_used (read_image image)

-- ---- what holds of them

-- what is reported is Major
abbrev pub Breaks : List Change → Type 0
Breaks cs = bump_of cs ≡ level major

-- of things that strike off numbers and use some, and what is reported of two
module _ {E : Type 0} (report : E → E → List Change) (strikes used_by : E → List ℕ) where
  -- each number that the old one strikes off the new one strikes off as well, and does not use
  abbrev pub StillStruck : E → E → Type 0
  StillStruck old new = (n : ℕ) → among n (strikes old) ≡ true → (among n (used_by new) ≡ false) × (among n (strikes new) ≡ true)

  -- "Dropping is Major so that a chain cannot hide a reuse behind a middle release", nor anything else that is reported of first and last
  pub record NotHidden (first middle last : E) : Type 0 where
    pub reuse : (n : ℕ) → among n (strikes first) ≡ true → among n (used_by last) ≡ true → Breaks (report first middle) ⊎ Breaks (report middle last)
    pub anything : (report first last ≡ [] → ⊥) → Breaks (report first middle) ⊎ Breaks (report middle last)

  pub record Struck : Type 0 where
    -- for each number once: "where the new side uses a number struck off in the old", "where the new side neither uses nor strikes it off"
    pub times_reused : (old new : E)
        → count_of (kind_at TombstoneReused) (report old new) ≡ count (λ n. among n (used_by new)) (rising_numbers (strikes old))
    pub times_dropped : (old new : E)
        → count_of (kind_at TombstoneDropped) (report old new)
        ≡ count (λ n. not (among n (used_by new) || among n (strikes new))) (rising_numbers (strikes old))
    -- nothing is reported exactly if all that was struck off still is
    pub silent : (old new : E) → (report old new ≡ []) ↔ StillStruck old new
    pub not_hidden : (first middle last : E) → NotHidden first middle last
    -- of a thing and itself, if it uses what it strikes off
    pub itself : (x : E) → bump_of (report x x) ≡ cond (uses (strikes x) (used_by x)) (level major) 0

-- "uses": an item of that number survives exactly if there is one
pub record UsesSurvivors : Type 0 where
  pub fields : (n : ℕ) (fs : List Field) → among n (used_by_fields fs) ≡ among n (map (λ f. f.ordinal) fs)
  pub variants : (n : ℕ) (vs : List Variant) → among n (used_by_variants vs) ≡ among n (map (λ v. v.ordinal) vs)

pub record StruckOff : Type 0 where
  pub declarations : Struck compare_last (λ d. d.tombstones) used
  pub variants : (d : Name) → Struck (compare_last_in d) (λ v. v.tombstones) (λ v. used_by_fields v.fields)
  -- "numbers rising", and each a single time
  pub rising : (numbers : List ℕ) → Rising (λ n. n) ltb (rising_numbers numbers)
  pub listed : (n : ℕ) (numbers : List ℕ) → among n (rising_numbers numbers) ≡ among n numbers
  pub uses : UsesSurvivors
