-- A line that is written into the part of a report's buffer after what is written. Assumes nothing.
use mathlib.Core.Path.{◌≡◌, refl, sym, ap, ◌∙◌}
use mathlib.Core.Bool.{Bool, true, false}
use mathlib.Core.List.{List, [], ◌∷◌, ◌++◌, flat_map, append-nil}
use Prim.Native.Nat.{ℕ, ◌+◌, ◌-◌, ◌^◌, ◌≤◌, ◌<◌, min}
use native.Mathlib.Nat.{zero-add}
use native.Mathlib.Omega.{arith}
use borrow.Author.Tests.{leb-true, leb-false}
use lib.Dec.{leb}
use lib.ListN.{length, take, drop, length-drop, drop_of_length-le}
use lib.Seq.{take_all, drop-drop}
use Rattle.text.specs.Text.{put}
use Rattle.text.specs.Writers.{after, Fills}
use Rattle.text.specs.declared.Writer.{Writer}
use Rattle.text.proofs.Writing.{put_nil}
use Rattle.text.proofs.Writers.{after_past, after_reached}
use Rattle.maps.specs.Lists.{pass}
use Rattle.rules.specs.Changes.{Change}
use Rattle.rules.specs.Report.{change_line}
use Rattle.tally.specs.Tallies.{bump_for, with_change, tallied, tally_from, lines_of}
use Rattle.tally.specs.declared.Bump.{Bump}
use Rattle.tally.specs.declared.Tally.{Tally}
use Rattle.lines.specs.Last.{last_line_of}
use Rattle.lines.specs.Reports.{writer_of, with_text, reported, Reports, Ends}
use Rattle.lines.specs.declared.Report.{Report}

-- the part of a buffer from a on, and the buffer with another part there, as the borrow checker has them
abbrev pub part : List ℕ → ℕ → List ℕ
part d a = take (length d - a) (drop a d)

abbrev pub with_part : List ℕ → ℕ → List ℕ → List ℕ
with_part d a ys = take a d ++ (ys ++ drop (length d - a) (drop a d))

part_drop : (d : List ℕ) (a : ℕ) → part d a ≡ drop a d
part_drop d a = take_all (length d - a) (drop a d) (rw length-drop (omega arith))

part_length : (d : List ℕ) (a : ℕ) → length (part d a) ≡ length d - a
part_length d a = ap length (part_drop d a) ∙ length-drop a d

with_part_lem : (d : List ℕ) (a : ℕ) (ys : List ℕ) → with_part d a ys ≡ take a d ++ ys
with_part_lem d a ys = rw (drop_of_length-le (drop a d) {i = length d - a} (rw length-drop (omega arith)), append-nil ys)

-- what is written from the start of the part stands at a
part_put : (d : List ℕ) (a : ℕ) (xs ys : List ℕ) → ys ≡ put (part d a) 0 xs → with_part d a ys ≡ put d a xs
unfolding put
part_put d a xs ys e =
    with_part_lem d a ys ∙ rw (e, part_drop d a, zero-add (length xs), drop-drop (length xs) a d)

-- a buffer after as much of a text as it reaches
module _ (w : Writer) (xs : List ℕ) (small : w.at < 2 ^ 64) (short : length w.out.now < 2 ^ 64) where
  abbrev Cut : ℕ → Type 0
  Cut done = after w xs ≡ record w { at = min (w.at + length xs) (2 ^ 64 - 1); out = record w.out { now = put w.out.now done (take (length w.out.now - done) xs) } }

  past : length w.out.now ≤ w.at → Cut (length w.out.now)
  past h =
      let none : length w.out.now - length w.out.now ≡ 0 = omega arith in
      let same : w.out.now ≡ put w.out.now (length w.out.now) (take (length w.out.now - length w.out.now) xs) =
      rw none (sym (put_nil w.out.now (length w.out.now))) in
      after_past w xs h small ∙ (λ i. record w { at = min (w.at + length xs) (2 ^ 64 - 1); out = record w.out { now = same i } })

  within : w.at ≤ length w.out.now → Cut w.at
  within h = go (leb (length xs) (length w.out.now - w.at)) refl
    where
      go : (b : Bool) → leb (length xs) (length w.out.now - w.at) ≡ b → Cut w.at
      go true t =
          let l = leb-true (length xs) (length w.out.now - w.at) t in
          let all : take (length xs) xs ≡ take (length w.out.now - w.at) xs =
          take_all (length xs) xs (omega arith) ∙ sym (take_all (length w.out.now - w.at) xs l) in
          after_reached w xs (length xs) (omega arith) (omega arith) (omega arith) (λ q. absurd (omega arith))
          ∙ (λ i. record w { at = min (w.at + length xs) (2 ^ 64 - 1); out = record w.out { now = put w.out.now w.at (all i) } })
      go false t =
          after_reached w xs (length w.out.now - w.at)
          (omega (arith, leb-false (length xs) (length w.out.now - w.at) t)) (omega arith) (omega arith) (λ q. omega arith)

  cut : {done : ℕ} → done ≡ min w.at (length w.out.now) → Cut done
  cut {done} e = go (leb w.at (length w.out.now)) refl
    where
      go : (b : Bool) → leb w.at (length w.out.now) ≡ b → Cut done
      go true t =
          let at : done ≡ w.at = omega (arith, e, leb-true w.at (length w.out.now) t) in
          rw at (within (leb-true w.at (length w.out.now) t))
      go false t =
          let end : done ≡ length w.out.now = omega (arith, e, leb-false w.at (length w.out.now) t) in
          rw end (past (omega (arith, leb-false w.at (length w.out.now) t)))

-- a text that is written into the part after the lines, and counted
pub lent : (r : Report) (xs : List ℕ) → r.length < 2 ^ 64 → length r.out.now < 2 ^ 64
    → {done : ℕ} → done ≡ min r.length (length r.out.now) → {n : ℕ} {ys : List ℕ} → Fills (part r.out.now done) xs n ys
    → with_text r xs ≡ record r { length = min (r.length + n) (2 ^ 64 - 1); out = record r.out { now = with_part r.out.now done ys } }
unfolding with_text
lent r xs small short {done} e {n} {ys} f =
    let at : min (r.length + length xs) (2 ^ 64 - 1) ≡ min (r.length + n) (2 ^ 64 - 1) = omega (arith, f.long) in
    let bytes : put r.out.now done (take (length r.out.now - done) xs) ≡ with_part r.out.now done ys =
    sym (part_put r.out.now done (take (length r.out.now - done) xs) ys (f.bytes ∙ ap (λ (k : ℕ). put (part r.out.now done) 0 (take k xs)) (part_length r.out.now done))) in
    ap (λ (w : Writer). record r { length = w.at; out = w.out }) (cut (writer_of r) xs small short e)
    ∙ (λ i. record r { length = at i; out = record r.out { now = bytes i } })

-- the line of a change, which is counted too
pub emitted : {r a : Report} (c : Change) → a ≡ with_text r (change_line c) → {weight : Bump} → weight ≡ bump_for c.bump
    → {t : Tally} → t ≡ with_change a.tally c.kind weight → Reports r (c ∷ []) (record a { tally = t })
unfolding reported with_text tally_from pass tallied lines_of flat_map
emitted {r} c w b q = record { is = rw (append-nil (change_line c), w, q, b, w) refl }

-- the last line
pub ended : {r a : Report} → a ≡ with_text r (last_line_of r.tally) → Ends r a
ended w = record { is = w }
