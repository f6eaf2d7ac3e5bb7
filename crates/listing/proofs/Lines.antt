-- The lines of a registry, one entry after the other. Assumes nothing.
use mathlib.Core.Path.{◌≡◌, refl, sym, ap, ap₂, ◌∙◌}
use Rattle.std.specs.Prelude.{Option, None}
use mathlib.Core.List.{List, [], ◌∷◌, ◌++◌}
use Prim.Native.Nat.{ℕ, zero, suc, ◌+◌, ◌≤◌, ◌<◌}
use native.Mathlib.Numerals.{add-one}
use native.Mathlib.Omega.{arith}
use lib.ListN.{length, get_or, drop, drop_of_length-le}
use Rattle.image.specs.Schema.{Decl}
use Rattle.parts.specs.Promise.{schema_of, start_kind, start_name, BodyIn, bytes_in}
use Rattle.text.specs.Writers.{after, Adds}
use Rattle.text.specs.declared.Writer.{Writer}
use Rattle.text.proofs.Writers.{left_after, none_after}
use Rattle.listing.specs.Listing.{line_of, entry_line, entry_text, lines_from}

-- ---- one entry

-- an empty one
pub none_text : (id : ℕ) {e : Option Decl} → e ≡ None → [] ≡ entry_text id e
unfolding entry_text
none_text id q = rw q

-- one with a body
pub body_text : {s : List ℕ} {id from count : ℕ} → BodyIn s id from count
    → line_of id (start_kind (bytes_in s from count) 0) (start_name (bytes_in s from count) 0) ≡ entry_text id (get_or (schema_of s).registry id None)
unfolding entry_text entry_line
body_text {id = id} b = ap₂ (line_of id) b.kind b.name ∙ sym (ap (entry_text id) b.is)

-- ---- all entries

next_drop : {A : Type 0} (d : A) (l : List A) (i : ℕ) → i < length l → drop i l ≡ get_or l i d ∷ drop (suc i) l
next_drop d [] i h = absurd (omega arith)
next_drop d (x ∷ l) zero h = refl
next_drop d (x ∷ l) (suc i) h = next_drop d l i (omega arith)

module _ (R : List (Option Decl)) where
  -- the lines of the entries from an id on
  abbrev pub lines_at : ℕ → List ℕ
  lines_at id = lines_from id (drop id R)

  turn : (id : ℕ) → id < length R → lines_at id ≡ entry_text id (get_or R id None) ++ lines_at (id + 1)
  unfolding lines_from
  turn id h = ap (lines_from id) (next_drop None R id h) ∙ rw (add-one id)

  done : (id : ℕ) → length R ≤ id → lines_at id ≡ []
  unfolding lines_from
  done id h = ap (lines_from id) (drop_of_length-le R {i = id} h)

  -- a writer of all lines from w on has come to the line of an id
  pub record Before (w : Writer) (id : ℕ) (v : Writer) : Type 0 where
    pub rest : after v (lines_at id) ≡ after w (lines_from 0 R)

  pub lines_start : {w : Writer} → Before w 0 w
  lines_start = record { rest = refl }

  module _ {w v : Writer} {id : ℕ} (o : Before w id v) where
    pub lines_next : {u : Writer} → id < length R → Adds v (entry_text id (get_or R id None)) u → Before w (id + 1) u
    lines_next h p = record { rest = left_after (lines_at (id + 1)) p (rw (turn id h) at o.rest) }

    pub lines_end : length R ≤ id → Adds w (lines_from 0 R) v
    lines_end h = none_after (rw (done id h) at o.rest)
