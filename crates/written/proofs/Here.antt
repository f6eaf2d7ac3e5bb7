-- Bytes that stand at a place of a list. Assumes nothing.
use mathlib.Core.Path.{◌≡◌, sym, ap, ◌∙◌}
use mathlib.Core.List.{List, [], ◌∷◌, ◌++◌, append_assoc, append-nil}
use Prim.Native.Nat.{ℕ, ◌+◌, ◌≤◌}
use native.Mathlib.Nat.{add-zero}
use native.Mathlib.Omega.{arith}
use lib.ListN.{length, get_or, take, drop, length-append, length-drop}
use lib.Seq.{drop-drop, get_or-drop, drop-append_seam, take-append_seam}
use Rattle.image.specs.Parse.{part}

-- w stands in s at `at`, and `rest` after it
pub record Here (s : List ℕ) (at : ℕ) (w : List ℕ) : Type 0 where
  pub rest : List ℕ
  pub is : drop at s ≡ w ++ rest
  pub from : at ≤ length s

-- the whole at its start
pub here_all : (s : List ℕ) → Here s 0 s
here_all s = record { rest = []; is = sym (append-nil s); from = omega arith }

pub here_fits : {s : List ℕ} {at : ℕ} {w : List ℕ} → Here s at w → at + length w ≤ length s
here_fits {s} {at} {w} h =
    let l = h.from in
    let d : length s ≡ at + (length w + length h.rest) = omega (arith, length-drop at s, ap length h.is, length-append w h.rest) in
    omega arith

-- of two that stand together: the first, and the second after it
pub here_first : {s : List ℕ} {at : ℕ} (w v : List ℕ) → Here s at (w ++ v) → Here s at w
here_first w v h = record { rest = v ++ h.rest; is = h.is ∙ append_assoc w v h.rest; from = h.from }

pub here_next : {s : List ℕ} {at : ℕ} (w v : List ℕ) → Here s at (w ++ v) → Here s (at + length w) v
here_next {s} {at} w v h =
    record {
      rest = h.rest;
      is = sym (drop-drop (length w) at s) ∙ ap (drop (length w)) (h.is ∙ append_assoc w v h.rest) ∙ drop-append_seam w (v ++ h.rest);
      from = here_fits (here_first w v h);
    }

-- as bytes
pub here_byte : {s : List ℕ} {at b : ℕ} {v : List ℕ} → Here s at (b ∷ v) → get_or s at 0 ≡ b
here_byte {s} {at} {b} h = rw (← (add-zero at), ← (get_or-drop at s 0 0)) (ap (λ (l : List ℕ). get_or l 0 0) h.is)

pub here_part : {s : List ℕ} {at : ℕ} {w : List ℕ} → Here s at w → part at (length w) s ≡ w
unfolding part
here_part {w = w} h = ap (take (length w)) h.is ∙ take-append_seam w h.rest

-- at the start of the part from there on
pub here_drop : {s : List ℕ} {at : ℕ} {w : List ℕ} → Here s at w → Here (drop at s) 0 w
here_drop h = record { rest = h.rest; is = h.is; from = omega arith }
