-- The verdict call and the report call together. Their contracts say that the one answers `verdict_by p old new selector`, and that the other
-- answers `text_length` of `report_by p old new room` and leaves `written` of it, p being the policy and room the buffer's length. So what is
-- proved of these holds of the calls: the distance rule (Distance), when each refusal is given (Refusals). Here: what a caller who asks for
-- the length first may rest on. Assumes nothing.
use mathlib.Core.Path.{◌≡◌, sym, ap, ◌∙◌}
use mathlib.Core.Logic.{◌↔◌}
use mathlib.Core.List.{List}
use Prim.Native.Nat.{ℕ, ◌≤◌, ◌<◌}
use native.Mathlib.Omega.{arith}
use lib.ListN.{length, take, drop, length-append}
use Rattle.image.specs.Words.{bytes}
use Rattle.rules.specs.Changes.{Change}
use Rattle.rules.specs.Report.{line, last_line, report}
use Rattle.rules.specs.Outcome.{select, text_length}
use Rattle.image.specs.Codes.{number, both_sides}
use Rattle.rules.specs.Answer.{Policy, outcome, verdict_by, report_by, returned_by, leaves_by}
use Rattle.rules.specs.Refusals.{Numbered}
use Rattle.rules.proofs.Outcomes.{text_of, length_selected, fit_enough, fit_some, text_written, rest_written}
use Rattle.rules.proofs.Answer.{changes_of, compared_of}
use Rattle.rules.proofs.Refusals.{report_refusals}

-- it has a byte, the last one
report_some : (cs : List Change) → 0 < length (report cs)
unfolding report last_line line bytes
report_some cs = simp length-append (omega arith)

module _ (p : Policy) (numbered : Numbered p) (old new : List ℕ) where
  verdict_some : select (outcome p old new) 0 ≡ 0 → 0 < text_length (outcome p old new)
  unfolding text_length
  verdict_some z = rw (compared_of p numbered old new z) (report_some (changes_of p old new))

  -- selector 4 of the verdict call is how large a buffer the report call needs, and what it then returns
  pub room_enough_lem : (d : List ℕ) → verdict_by p old new 4 ≤ length d → returned_by p old new d ≡ verdict_by p old new 4
  unfolding verdict_by report_by
  room_enough_lem d h = ap text_length (fit_enough (number both_sides) (length d) (outcome p old new) h) ∙ length_selected (outcome p old new)

  -- the text is the same in every buffer that is large enough
  pub same_text_lem : (d d' : List ℕ) → verdict_by p old new 4 ≤ length d → verdict_by p old new 4 ≤ length d'
      → take (returned_by p old new d) (leaves_by p old new d) ≡ take (returned_by p old new d') (leaves_by p old new d')
  unfolding verdict_by report_by
  same_text_lem d d' h h' = text_here d h ∙ sym (text_here d' h')
    where
      text_here : (d : List ℕ) → select (outcome p old new) 4 ≤ length d
          → take (returned_by p old new d) (leaves_by p old new d) ≡ text_of (outcome p old new)
      text_here d h = rw (fit_enough (number both_sides) (length d) (outcome p old new) h) (text_written (outcome p old new) d)

  -- "Bytes past the length stay", whatever is returned
  pub rest_stays_lem : (d : List ℕ) → drop (returned_by p old new d) (leaves_by p old new d) ≡ drop (returned_by p old new d) d
  rest_stays_lem d = rest_written (report_by p old new (length d)) d

  -- it returns 0 for a refusal and for nothing else
  pub none_refused : (d : List ℕ) → (returned_by p old new d ≡ 0) ↔ (select (report_by p old new (length d)) 0 ≡ 0 → ⊥)
  unfolding report_by
  none_refused d = (
    λ e z. absurd (omega (arith, fit_some (number both_sides) (length d) (outcome p old new) verdict_some z)),
    (report_refusals p numbered old new (length d)).nothing,
  )
