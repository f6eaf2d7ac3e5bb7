-- Totals are those of their changes, of any list, and a tally counts what they do, of a list of fewer than 2 ^ 64. Assumes nothing.
use mathlib.Core.Path.{◌≡◌, refl, sym, ap, ◌∙◌}
use mathlib.Core.Bool.{Bool, true, false, cond}
use mathlib.Core.List.{List, [], ◌∷◌, flat_map}
use Prim.Native.Nat.{ℕ, ◌+◌, ◌^◌, ◌<◌, max}
use native.Mathlib.Nat.{zero-add}
use native.Mathlib.Omega.{arith}
use borrow.Author.Tests.{eqb-true, eqb-false}
use lib.Dec.{eqb}
use lib.ListN.{length, length-append, get_or, set, length-set, get_or-replicate}
use lib.Seq.{get_or-set_same, get_or-set_other, ext_get_or}
use Rattle.maps.specs.Lists.{pass, largest, total, count}
use Rattle.rules.specs.Changes.{kind_count, Change}
use Rattle.rules.specs.Report.{change_line}
use Rattle.rules.specs.Verdict.{bump_of, count_of}
use Rattle.rules.specs.Answer.{counts}
use Rattle.rules.proofs.Answer.{counts_at}
use Rattle.tally.specs.Tallies.{no_change, tally_from, lines_of}
use Rattle.tally.specs.Unbounded.{Totals, no_totals, with_total, totalled, totals_from, TotalsOf, Counts}
use Rattle.tally.proofs.Totals.{counts_length, tally_of}

-- ---- each part

pub totals_lines : (t : Totals) (cs : List Change) → (totals_from t cs).length ≡ t.length + length (lines_of cs)
unfolding totals_from pass totalled with_total lines_of flat_map
totals_lines t [] = omega arith
totals_lines t (c ∷ cs) = omega (arith, totals_lines (totalled t c) cs, length-append (change_line c) (lines_of cs))

totals_changes : (t : Totals) (cs : List Change) → (totals_from t cs).changes ≡ t.changes + length cs
unfolding totals_from pass totalled with_total
totals_changes t [] = omega arith
totals_changes t (c ∷ cs) = omega (arith, totals_changes (totalled t c) cs)

totals_level : (t : Totals) (cs : List Change) → (totals_from t cs).level ≡ max t.level (bump_of cs)
unfolding totals_from pass totalled with_total bump_of largest
totals_level t [] = omega arith
totals_level t (c ∷ cs) = omega (arith, totals_level (totalled t c) cs)

totals_kinds : (t : Totals) (cs : List Change) → length (totals_from t cs).counts ≡ length t.counts
unfolding totals_from pass totalled with_total
totals_kinds t [] = refl
totals_kinds t (c ∷ cs) = totals_kinds (totalled t c) cs ∙ length-set t.counts c.kind (get_or t.counts c.kind 0 + 1)

-- a count more at one place
set_one : (l : List ℕ) (i k : ℕ) → k < length l → get_or (set l i (get_or l i 0 + 1)) k 0 ≡ get_or l k 0 + cond (eqb i k) 1 0
set_one l i k h = go (eqb i k) refl
  where
    go : (b : Bool) → eqb i k ≡ b → get_or (set l i (get_or l i 0 + 1)) k 0 ≡ get_or l k 0 + cond b 1 0
    go true e = let p : i ≡ k = eqb-true i k e in rw p (get_or-set_same l k (get_or l k 0 + 1) 0 h)
    go false e = get_or-set_other l i k (get_or l i 0 + 1) 0 (λ p. eqb-false i k e (sym p)) ∙ omega arith

totals_count : (t : Totals) (cs : List Change) (k : ℕ) → k < length t.counts → get_or (totals_from t cs).counts k 0 ≡ get_or t.counts k 0 + count_of k cs
unfolding totals_from pass totalled with_total count_of count total
totals_count t [] k h = omega arith
totals_count t (c ∷ cs) k h =
    omega (
      arith,
      totals_count (totalled t c) cs k (rw length-set h),
      set_one t.counts c.kind k h,
    )

-- ---- the totals of a list, of any length

pub totals_of : (cs : List Change) → TotalsOf cs (totals_from no_totals cs)
unfolding no_totals
totals_of cs = record {
  kinds = ext_get_or 0 (totals_from no_totals cs).counts (counts kind_count 0 cs) (totals_kinds no_totals cs ∙ sym (counts_length kind_count 0 cs))
      (λ k h.
      let below : k < kind_count = omega (arith, totals_kinds no_totals cs) in
      totals_count no_totals cs k below
      ∙ omega (arith, get_or-replicate {A = ℕ} kind_count k 0 0 below, counts_at kind_count 0 k cs below, ap (λ (i : ℕ). count_of i cs) (zero-add k)));
  bump = omega (arith, totals_level no_totals cs);
  lines = omega (arith, totals_lines no_totals cs);
  changes = omega (arith, totals_changes no_totals cs);
}

-- ---- and the tally that the code has

pub tally_counts : (cs : List Change) → length cs < 2 ^ 64 → Counts (totals_from no_totals cs) (tally_from no_change cs)
tally_counts cs few =
    let r = tally_of cs few in
    let t = totals_of cs in
    record { kinds = r.kinds ∙ sym t.kinds; bump = r.bump ∙ sym t.bump; changes = r.changes ∙ sym t.changes }
