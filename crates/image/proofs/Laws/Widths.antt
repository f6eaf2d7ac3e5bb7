-- Widths, case by case: a format without them, and one that stores them. Assumes nothing.
use mathlib.Core.Path.{◌≡◌, refl, ◌∙◌, sym}
use mathlib.Core.Bool.{true, false}
use Rattle.std.specs.Prelude.{Some}
use mathlib.Core.List.{List}
use Prim.Native.Nat.{ℕ}
use lib.ListN.{get_or}
use Rattle.image.specs.Formats.{has_widths}
use Rattle.image.specs.Parse.{Parsed, byte_at}
use Rattle.image.specs.Widths.{wire_bytes, wire_bytes_at, width_at}
use Rattle.image.specs.Reads.{skip, Read, read_of}
use Rattle.image.proofs.Laws.Formats.{stored_none, stored_read}
use Rattle.image.proofs.Laws.Answers.{stop, next_is, skip_ok, pick_true, pick_false}
use Rattle.image.proofs.Laws.Numbers.{There}
use Rattle.std.specs.Prelude.{Ok, Err, ⊤}
use Rattle.image.specs.declared.refusals.Refusal.{Refusal}
use Rattle.image.specs.declared.refusals.Refusal.TheVariants.{Code}

module _ (format : ℕ) (wire : List ℕ → ℕ → Parsed ℕ) (s : List ℕ) (at : ℕ) where
  pub width_none : false ≡ has_widths format → read_of (Ok at) ≡ skip (width_at format wire s at)
  unfolding width_at
  width_none h = stored_none _ _ _ s at h

  pub width_read : {r : Parsed ⊤} → true ≡ has_widths format → r ≡ skip (wire s at) → r ≡ skip (width_at format wire s at)
  unfolding width_at
  width_read h e = stored_read _ _ _ s at h (e ∙ sym (skip_ok (wire s at) Some))

-- the wire bytes of flags: a byte that is not there, not one of the four, and one of them
module _ (s : List ℕ) (at : ℕ) where
  pub bytes_stop : {r : Read} {k : Refusal} → r ≡ Err k → read_of r ≡ skip (byte_at 8 s at) → read_of r ≡ skip (wire_bytes_at s at)
  unfolding wire_bytes_at
  bytes_stop h e = stop (byte_at 8 s at) _ h e

  module _ {n : ℕ} (b : There (byte_at 8 s at) s at n) where
    pub bytes_other : false ≡ wire_bytes (get_or s at 0) → read_of (Err Code) ≡ skip (wire_bytes_at s at)
    unfolding wire_bytes_at skip read_of
    bytes_other h = next_is _ b.is (pick_false (wire_bytes (get_or s at 0)) _ _ (sym h) refl)

    pub bytes_one : {r : Read} → true ≡ wire_bytes (get_or s at 0) → r ≡ Ok n → read_of r ≡ skip (wire_bytes_at s at)
    unfolding wire_bytes_at skip read_of
    bytes_one h e = next_is _ b.is (pick_true (wire_bytes (get_or s at 0)) _ _ (sym h) (rw e))
