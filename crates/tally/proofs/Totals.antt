-- A tally is that of its changes. Assumes nothing.
use mathlib.Core.Path.{◌≡◌, refl, sym, ap, ◌∙◌}
use mathlib.Core.Bool.{Bool, true, false, cond}
use mathlib.Core.List.{List, [], ◌∷◌, ◌++◌, flat_map}
use Prim.Native.Nat.{ℕ, zero, suc, ◌+◌, ◌-◌, ◌^◌, ◌≤◌, ◌<◌, min, max}
use native.Mathlib.Nat.{zero-add}
use native.Mathlib.Omega.{arith}
use borrow.Author.Tests.{eqb-true, eqb-false}
use lib.Dec.{eqb}
use lib.ListN.{length, length-append, get_or, set, replicate, length-set, get_or-replicate}
use lib.Seq.{get_or-set_same, get_or-set_other, ext_get_or}
use Rattle.maps.specs.Lists.{pass, largest, total, count}
use Rattle.maps.proofs.Lists.{pass_append, flat_map_append}
use Rattle.rules.specs.Changes.{level, kind_count, Change}
use Rattle.rules.specs.Changes as spec
use Rattle.rules.specs.Report.{change_line}
use Rattle.rules.specs.Verdict.{bump_of, count_of}
use Rattle.rules.specs.Answer.{counts}
use Rattle.rules.proofs.Answer.{counts_at}
use Rattle.rules.proofs.Texts.{line_some}
use Rattle.tally.specs.Tallies.{level_of, bump_value, bump_at, bump_for, larger, no_change, with_change, tallied, tally_from, lines_of, TallyOf}
use Rattle.tally.specs.declared.Bump.{Bump}
use Rattle.tally.specs.declared.Bump.TheVariants as bump
use Rattle.tally.specs.declared.Tally.{Tally}

pub tally_append : (t : Tally) (xs ys : List Change) → tally_from t (xs ++ ys) ≡ tally_from (tally_from t xs) ys
unfolding tally_from
tally_append t xs ys = pass_append tallied t xs ys

pub lines_append : (xs ys : List Change) → lines_of (xs ++ ys) ≡ lines_of xs ++ lines_of ys
unfolding lines_of
lines_append xs ys = flat_map_append change_line xs ys

-- each change has a byte or more
pub lines_many : (cs : List Change) → length cs ≤ length (lines_of cs)
unfolding lines_of flat_map
lines_many [] = omega arith
lines_many (c ∷ cs) = omega (arith, lines_many cs, line_some c, length-append (change_line c) (lines_of cs))

-- ---- each part of a tally

tally_changes : (t : Tally) (cs : List Change) → t.changes < 2 ^ 64 → (tally_from t cs).changes ≡ min (t.changes + length cs) (2 ^ 64 - 1)
unfolding tally_from pass tallied with_change
tally_changes t [] h = omega arith
tally_changes t (c ∷ cs) h = omega (arith, tally_changes (tallied t c) cs (omega arith))

level_most : (b : Bump) → level_of b ≤ 2
level_most bump.Patch = omega arith
level_most bump.Minor = omega arith
level_most bump.Major = omega arith

pub level_at : (l : ℕ) → l ≤ 2 → level_of (bump_at l) ≡ l
level_at zero h = refl
level_at (suc zero) h = refl
level_at (suc (suc zero)) h = refl
level_at (suc (suc (suc l))) h = absurd (omega arith)

pub level_for : (b : spec.Bump) → level_of (bump_for b) ≡ level b
unfolding level
level_for spec.patch = refl
level_for spec.minor = refl
level_for spec.major = refl

pub value_for : (b : Bump) → bump_for (bump_value b) ≡ b
value_for bump.Patch = refl
value_for bump.Minor = refl
value_for bump.Major = refl

pub level_value : (b : Bump) → level (bump_value b) ≡ level_of b
unfolding level
level_value bump.Patch = refl
level_value bump.Minor = refl
level_value bump.Major = refl

larger_level : (a b : Bump) → level_of (larger a b) ≡ max (level_of a) (level_of b)
larger_level a b = let k = level_most a in let l = level_most b in level_at (max (level_of a) (level_of b)) (omega arith)

tally_bump : (t : Tally) (cs : List Change) → level_of (tally_from t cs).bump ≡ max (level_of t.bump) (bump_of cs)
unfolding tally_from pass tallied with_change bump_of largest
tally_bump t [] = omega arith
tally_bump t (c ∷ cs) = omega (arith, tally_bump (tallied t c) cs, larger_level t.bump (bump_for c.bump), level_for c.bump)

tally_kinds : (t : Tally) (cs : List Change) → length (tally_from t cs).counts ≡ length t.counts
unfolding tally_from pass tallied with_change
tally_kinds t [] = refl
tally_kinds t (c ∷ cs) = tally_kinds (tallied t c) cs ∙ length-set t.counts c.kind (min (get_or t.counts c.kind 0 + 1) (2 ^ 64 - 1))

-- a count more at one place
set_count : (l : List ℕ) (i k : ℕ) → k < length l → get_or l k 0 < 2 ^ 64
    → get_or (set l i (min (get_or l i 0 + 1) (2 ^ 64 - 1))) k 0 ≡ min (get_or l k 0 + cond (eqb i k) 1 0) (2 ^ 64 - 1)
set_count l i k h m = go (eqb i k) refl
  where
    go : (b : Bool) → eqb i k ≡ b → get_or (set l i (min (get_or l i 0 + 1) (2 ^ 64 - 1))) k 0 ≡ min (get_or l k 0 + cond b 1 0) (2 ^ 64 - 1)
    go true e = let p : i ≡ k = eqb-true i k e in rw p (get_or-set_same l k (min (get_or l k 0 + 1) (2 ^ 64 - 1)) 0 h)
    go false e = get_or-set_other l i k (min (get_or l i 0 + 1) (2 ^ 64 - 1)) 0 (λ p. eqb-false i k e (sym p)) ∙ omega arith

tally_count : (t : Tally) (cs : List Change) (k : ℕ) → k < length t.counts → get_or t.counts k 0 < 2 ^ 64
    → get_or (tally_from t cs).counts k 0 ≡ min (get_or t.counts k 0 + count_of k cs) (2 ^ 64 - 1)
unfolding tally_from pass tallied with_change count_of count total
tally_count t [] k h m = omega arith
tally_count t (c ∷ cs) k h m =
    let one = set_count t.counts c.kind k h m in
    omega (arith, one, tally_count (tallied t c) cs k (rw length-set h) (omega (arith, one)))

-- of each kind there are no more than changes
count_few : (k : ℕ) (cs : List Change) → count_of k cs ≤ length cs
unfolding count_of count total
count_few k [] = omega arith
count_few k (c ∷ cs) = go (eqb c.kind k) (count_few k cs)
  where
    go : (b : Bool) → total (λ (a : Change). cond (eqb a.kind k) 1 0) cs ≤ length cs → cond b 1 0 + total (λ (a : Change). cond (eqb a.kind k) 1 0) cs ≤ suc (length cs)
    go true h = omega arith
    go false h = omega arith

pub counts_length : (n from : ℕ) (cs : List Change) → length (counts n from cs) ≡ n
unfolding counts
counts_length zero from cs = refl
counts_length (suc n) from cs = ap suc (counts_length n (suc from) cs)

-- ---- the tally of a list of fewer than 2 ^ 64 changes

pub tally_of : (cs : List Change) → length cs < 2 ^ 64 → TallyOf cs (tally_from no_change cs)
unfolding no_change
tally_of cs few = record {
  kinds = ext_get_or 0 (tally_from no_change cs).counts (counts kind_count 0 cs) (tally_kinds no_change cs ∙ sym (counts_length kind_count 0 cs))
      (λ k h.
      let below : k < kind_count = omega (arith, tally_kinds no_change cs) in
      let none : get_or {A = ℕ} (replicate kind_count 0) k 0 ≡ 0 = get_or-replicate {A = ℕ} kind_count k 0 0 below in
      tally_count no_change cs k below (omega (arith, none))
      ∙ omega (arith, none, few, count_few k cs, counts_at kind_count 0 k cs below, ap (λ (i : ℕ). count_of i cs) (zero-add k)));
  bump = omega (arith, tally_bump no_change cs);
  changes = omega (arith, few, tally_changes no_change cs (omega arith));
}
