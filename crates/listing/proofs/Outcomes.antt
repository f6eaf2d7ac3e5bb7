-- An image and a buffer by stages: what is measured of an accepted one, the three cases, and what the listing call makes of them.
-- Assumes nothing.
use mathlib.Core.Path.{◌≡◌, refl, sym, ap, ◌∙◌}
use mathlib.Core.Bool.{Bool, true, false, cond}
use mathlib.Core.List.{List}
use Prim.Native.Nat.{ℕ, ◌-◌, ◌^◌, ◌≤◌, ◌<◌, min}
use native.Mathlib.Omega.{arith}
use borrow.Author.Tests.{le-leb, lt-leb, leb-true, leb-false}
use lib.Dec.{leb}
use native.Mathlib.Nat.{zero-add}
use lib.ListN.{length}
use lib.Seq.{take_all}
use Rattle.parts.specs.Promise.{Accepted, schema_of}
use Rattle.image.specs.declared.refusals.Refusal.{Refusal}
use Rattle.parts.specs.Handles.{Reads}
use Rattle.parts.specs.declared.handles.Image.{Image}
use Rattle.parts.proofs.Promise.{accepted_read, read_accepted, read_no}
use Rattle.text.specs.Text.{put}
use Rattle.text.specs.Writers.{Fills}
use Rattle.rules.specs.Outcome.{Outcome, refused, answered, text_only, fit, text_length, written}
use Rattle.parts.specs.Codes.{number, old_side}
use Rattle.rules.specs.Answer.{plain}
use Rattle.rules.specs.Refusals.{OneToTen, Decided, old_refused, old_alone, new_refused, new_alone, pair_refused, verdict}
use Rattle.rules.proofs.Answer.{decided}
use Rattle.tally.specs.Tallies.{no_change}
use Rattle.tally.specs.declared.Tally.{Tally}
use Rattle.verdicts.specs.Verdicts.{refused_by, answer_values, of_tally, outcome_values}
use Rattle.verdicts.specs.declared.Fault.{Fault}
use Rattle.verdicts.specs.declared.Verdict.{Verdict}
use Rattle.verdicts.specs.declared.Values.{Values}
use Rattle.verdicts.proofs.Selectors.{refusal_some}
use Rattle.std.specs.Prelude.{Result, Ok, Err}
use Rattle.listing.specs.Listing.{listing, accept, outcome, Wrote}
use Rattle.listing.specs.Refusals.{RefusedBy}
use Rattle.listing.proofs.Bounds.{listing_small}

abbrev text : List ℕ → List ℕ
text s = listing (schema_of s)

-- ---- an accepted image, by whether its listing fits

module _ (s : List ℕ) (g : Accepted s) where
  accepted_is : (room : ℕ) → outcome s room ≡ cond (leb (length (text s)) room) (text_only (text s)) (refused 12 (number old_side))
  unfolding outcome accept fit
  accepted_is room = rw (accepted_read s g).1

  fits_is : (room : ℕ) → length (text s) ≤ room → outcome s room ≡ text_only (text s)
  fits_is room h = accepted_is room ∙ rw (le-leb (length (text s)) room h)

  full_is : (room : ℕ) → room < length (text s) → outcome s room ≡ refused 12 (number old_side)
  full_is room h = accepted_is room ∙ rw (lt-leb (length (text s)) room h)

  -- ---- the pass that measures

  pub measured_is : {n : ℕ} → n ≡ min (length (text s)) (2 ^ 64 - 1) → n ≡ length (text s)
  measured_is q = omega (arith, q, listing_small s g)

  module _ (room : ℕ) {n : ℕ} (p : n ≡ length (text s)) where
    pub measured_full : room < n → refused_by 12 (number old_side) ≡ outcome_values (outcome s room)
    unfolding outcome_values
    measured_full h = sym (ap outcome_values (full_is room (omega arith)))

    pub measured_fits : n ≤ room → {t : Tally} → t ≡ no_change → of_tally t n ≡ outcome_values (outcome s room)
    unfolding outcome_values of_tally no_change
    measured_fits h q = rw (q, p) (sym (ap outcome_values (fits_is room (omega arith))))

-- ---- the three cases of an image and a buffer

module _ (s : List ℕ) (room : ℕ) where
  pub data Case : Outcome → Type 0 where
    turned : {k : ℕ} → OneToTen k → RefusedBy s k → Case (refused k (number old_side))
    full : Accepted s → room < length (text s) → Case (refused 12 (number old_side))
    fits : Accepted s → length (text s) ≤ room → Case (text_only (text s))

  held : Accepted s → Case (outcome s room)
  held g = rw (accepted_is s g room) (go (leb (length (text s)) room) refl)
    where
      go : (b : Bool) → leb (length (text s)) room ≡ b → Case (cond b (text_only (text s)) (refused 12 (number old_side)))
      go true q = fits g (leb-true (length (text s)) room q)
      go false q = full g (leb-false (length (text s)) room q)

  -- what is said of it against itself says it of the image alone
  pub case : Case (outcome s room)
  unfolding outcome accept fit
  case = go (decided plain s s)
    where
      go : {o : Outcome} → Decided plain s s o → Case (outcome s room)
      go (old_refused l p) = rw p (turned l p)
      go (old_alone p e) = held (read_accepted s p).0
      go (new_refused a l p) = held (read_accepted s a.read).0
      go (new_alone a p e) = held (read_accepted s p).0
      go (pair_refused a b e) = held (read_accepted s a.read).0
      go (verdict a b e) = held (read_accepted s a.read).0

-- ---- the listing call, by what is said first

module _ (s d : List ℕ) {w : Result Verdict Fault} where
  pub call_refused : {f : Fault} → w ≡ Err f → answer_values w ≡ outcome_values (outcome s (length d)) → Wrote s d 0 d
  unfolding answer_values outcome_values refused_by text_length written
  call_refused {f} p e = go (outcome s (length d)) refl
    where
      go : (o : Outcome) → outcome s (length d) ≡ o → Wrote s d 0 d
      go (refused k side) q = (rw q, rw q)
      go (answered a) q = absurd (refusal_some f.refusal (sym (ap (λ (r : Result Verdict Fault). (answer_values r).number) p) ∙ ap (λ (u : Values). u.number) e ∙ rw q))

  module _ {v : Verdict} (p : w ≡ Ok v) (e : answer_values w ≡ outcome_values (outcome s (length d))) where
    ready : Accepted s × (length (text s) ≤ length d)
    unfolding answer_values outcome_values refused_by
    ready = go (case s (length d)) (sym (ap (λ (u : Values). u.number) e) ∙ ap (λ (r : Result Verdict Fault). (answer_values r).number) p)
      where
        go : {o : Outcome} → Case s (length d) o → (outcome_values o).number ≡ 0 → Accepted s × (length (text s) ≤ length d)
        go (turned l p) q = absurd (omega arith)
        go (full g l) q = absurd (omega arith)
        go (fits g l) q = (g, l)

    pub call_done : {r : ℕ} {d' : List ℕ} → Fills d (text s) r d' → Wrote s d r d'
    unfolding text_length written put
    call_done f =
        let q = fits_is s ready.0 (length d) ready.1 in
        let all = take_all (length d) (text s) ready.1 in
        (rw q (measured_is s ready.0 f.long), rw q (f.bytes ∙ rw (all, zero-add (length (text s)))))

-- an image that is refused
pub refused_read : {s d : List ℕ} {r : Result Image Refusal} → Reads s r → {k : Refusal} → r ≡ Err k → Wrote s d 0 d
unfolding outcome accept fit text_length written
refused_read h e = (rw (read_no h e), rw (read_no h e))
