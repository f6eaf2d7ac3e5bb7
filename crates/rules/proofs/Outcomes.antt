-- Laws of outcomes, for the report and for the listing: what a refusal is, what fits in a buffer, and what is left there. Assumes nothing.
use mathlib.Core.Path.{◌≡◌, refl}
use mathlib.Core.Bool.{Bool, true, false, cond}
use mathlib.Core.List.{List, [], ◌∷◌}
use Prim.Native.Nat.{ℕ, ◌≤◌, ◌<◌}
use native.Mathlib.Omega.{arith}
use borrow.Author.Tests.{leb-true, leb-false}
use lib.Dec.{leb}
use lib.ListN.{length, take, drop, get_or-eq_default}
use lib.Seq.{take_at, drop_at}
use Rattle.rules.specs.Outcome.{Answer, Outcome, refused, answered, selected, select, fit, text_length, written}
use Rattle.rules.specs.Refusals.{Refusal}

-- ---- a refusal

pub refusal_is : (number side : ℕ) → Refusal (select (refused number side))
unfolding select selected
refusal_is number side = record { bump = refl; result = refl; rest = λ n h. get_or-eq_default (number ∷ side ∷ 2 ∷ 1 ∷ []) 0 h }

-- what has another number than 0 is one
pub not_answered : (o : Outcome) → (select o 0 ≡ 0 → ⊥) → Refusal (select o)
unfolding select selected
not_answered (refused number side) n = refusal_is number side
not_answered (answered a) n = absurd (n refl)

-- nothing is written of it
pub nothing_told : (o : Outcome) → (select o 0 ≡ 0 → ⊥) → text_length o ≡ 0
unfolding select selected text_length
nothing_told (refused number side) n = refl
nothing_told (answered a) n = absurd (n refl)

pub nothing_written : (o : Outcome) → (select o 0 ≡ 0 → ⊥) → (out : List ℕ) → written o out ≡ out
unfolding select selected written
nothing_written (refused number side) n out = refl
nothing_written (answered a) n out = absurd (n refl)

-- ---- in a buffer

pub length_selected : (o : Outcome) → text_length o ≡ select o 4
unfolding text_length select selected
length_selected (refused number side) = refl
length_selected (answered a) = refl

-- what an outcome becomes there
data Fitted (side room : ℕ) : Outcome → Outcome → Type 0 where
  stays : {number own : ℕ} → Fitted side room (refused number own) (refused number own)
  fits : {a : Answer} → length a.text ≤ room → Fitted side room (answered a) (answered a)
  full : {a : Answer} → room < length a.text → Fitted side room (answered a) (refused 12 side)

fitted : (side room : ℕ) (o : Outcome) → Fitted side room o (fit side room o)
unfolding fit
fitted side room (refused number own) = stays
fitted side room (answered a) = go (leb (length a.text) room) refl
  where
    go : (u : Bool) → leb (length a.text) room ≡ u → Fitted side room (answered a) (cond u (answered a) (refused 12 side))
    go true e = fits (leb-true (length a.text) room e)
    go false e = full (leb-false (length a.text) room e)

module _ (side room : ℕ) (o : Outcome) where
  -- 12, of what is not refused by 12 anyhow
  pub fit_full : (select o 0 ≡ 12 → ⊥) → select (fit side room o) 0 ≡ 12
      → (fit side room o ≡ refused 12 side) × ((select o 0 ≡ 0) × (room < select o 4))
  unfolding select selected
  fit_full = go (fitted side room o)
    where
      go : {u v : Outcome} → Fitted side room u v → (select u 0 ≡ 12 → ⊥) → select v 0 ≡ 12
          → (v ≡ refused 12 side) × ((select u 0 ≡ 0) × (room < select u 4))
      go stays n z = absurd (n z)
      go (fits l) n z = absurd (omega arith)
      go (full l) n z = (refl, (refl, l))

  pub fit_filled : (select o 0 ≡ 0) × (room < select o 4) → select (fit side room o) 0 ≡ 12
  unfolding select selected
  fit_filled = go (fitted side room o)
    where
      go : {u v : Outcome} → Fitted side room u v → (select u 0 ≡ 0) × (room < select u 4) → select v 0 ≡ 12
      go stays z = absurd (omega arith)
      go (fits l) z = absurd (omega (arith, z.1))
      go (full l) z = refl

  -- otherwise all is as it was
  pub fit_else : (select (fit side room o) 0 ≡ 12 → ⊥) → fit side room o ≡ o
  unfolding select selected
  fit_else = go (fitted side room o)
    where
      go : {u v : Outcome} → Fitted side room u v → (select v 0 ≡ 12 → ⊥) → v ≡ u
      go stays n = refl
      go (fits l) n = refl
      go (full l) n = absurd (n refl)

  pub fit_enough : select o 4 ≤ room → fit side room o ≡ o
  unfolding select selected
  fit_enough = go (fitted side room o)
    where
      go : {u v : Outcome} → Fitted side room u v → select u 4 ≤ room → v ≡ u
      go stays h = refl
      go (fits l) h = refl
      go (full l) h = absurd (omega arith)

  -- an answer that is not empty is none in a buffer either
  pub fit_some : (select o 0 ≡ 0 → 0 < text_length o) → select (fit side room o) 0 ≡ 0 → 0 < text_length (fit side room o)
  unfolding select selected
  fit_some = go (fitted side room o)
    where
      go : {u v : Outcome} → Fitted side room u v → (select u 0 ≡ 0 → 0 < text_length u) → select v 0 ≡ 0 → 0 < text_length v
      go stays h z = h z
      go (fits l) h z = h refl
      go (full l) h z = absurd (omega arith)

-- ---- what is left there

-- the text, empty if refused
unfoldable pub text_of : Outcome → List ℕ
text_of (refused number side) = []
text_of (answered a) = a.text

pub text_written : (o : Outcome) (d : List ℕ) → take (text_length o) (written o d) ≡ text_of o
unfolding text_length written text_of
text_written (refused number side) d = refl
text_written (answered a) d = take_at a.text (drop (length a.text) d) (length a.text) refl

pub rest_written : (o : Outcome) (d : List ℕ) → drop (text_length o) (written o d) ≡ drop (text_length o) d
unfolding text_length written
rest_written (refused number side) d = refl
rest_written (answered a) d = drop_at a.text (drop (length a.text) d) (length a.text) refl
