-- Which declarations have a width, by format and kind, and where it stands, with the places after it. Assumes nothing.
use mathlib.Core.Path.{◌≡◌, refl, sym, ap, ◌∙◌}
use mathlib.Core.Bool.{Bool, true, false, cond, ◌||◌, false≢true}
use Rattle.std.specs.Prelude.{Option, None, Some}
use mathlib.Core.List.{List}
use Prim.Native.Nat.{ℕ, ◌+◌, ◌≤◌, ◌<◌}
use native.Mathlib.Omega.{arith}
use borrow.Author.Tests.{le-leb, lt-leb, eqb-true}
use lib.Dec.{eqb}
use lib.ListN.{length, get_or}
use Rattle.std.proofs.Math.Bool.{and-true, and-false}
use Rattle.image.specs.Codes.{number, enum_kind, flags_kind}
use Rattle.image.specs.Parse.{Parsed}
use Rattle.image.specs.Formats.{has_widths}
use Rattle.image.specs.Widths.{width_at}
use Rattle.image.specs.Image.{format}
use Rattle.image.specs.WellFormed.{Good, value_or}
use Rattle.image.proofs.Laws.Sure.{Sure, sure_then}
use Rattle.parts.specs.Promise.{name_end, items_at, decl_in, marked, marks_size, width_place, measured, stores_width, width_size, items_in}
use Rattle.parts.proofs.Laws.Steps.{Byte-read, width_is, itself}

-- which kinds have a width, in a format
pub measured_most : (kind : ℕ) → measured kind ≡ true → kind ≤ number flags_kind
unfolding measured
measured_most kind e = go (eqb kind 1) (eqb kind 2) refl refl e
  where
    go : (a b : Bool) → eqb kind 1 ≡ a → eqb kind 2 ≡ b → (a || b) ≡ true → kind ≤ 2
    go true b p q e = omega (arith, eqb-true kind 1 p)
    go false true p q e = omega (arith, eqb-true kind 2 q)
    go false false p q e = absurd (false≢true e)

module _ (f : ℕ) where
  pub stores : (kind : ℕ) → measured kind ≡ true → stores_width f kind ≡ has_widths f
  unfolding stores_width
  stores kind e = rw e (and-true (has_widths f))

  pub stores_not : (kind : ℕ) → measured kind ≡ false → stores_width f kind ≡ false
  unfolding stores_width
  stores_not kind e = rw e (and-false (has_widths f))

  pub stored_most : (kind : ℕ) → stores_width f kind ≡ true → kind ≤ number flags_kind
  stored_most kind e = go (measured kind) refl
    where
      go : (b : Bool) → measured kind ≡ b → kind ≤ 2
      go true m = measured_most kind m
      go false m = absurd (false≢true (sym (stores_not kind m) ∙ e))

-- a width at a place, where one is stored
pub record Stored (stored : Bool) (s : List ℕ) (at : ℕ) (w : Option ℕ) : Type 0 where
  pub there : stored ≡ true → at < length s
  pub is : w ≡ cond stored (Some (get_or s at 0)) None

pub width_sure_here : (f : ℕ) (wire : List ℕ → ℕ → Parsed ℕ) (s : List ℕ) (at : ℕ) → (Good (wire s at) → Byte-read s at (wire s at))
    → Sure (λ w n. Stored (has_widths f) s at w) (width_at f wire s at)
unfolding value_or
width_sure_here f wire s at h =
    sure_then (itself None (width_at f wire s at)) (λ w n q.
    let e = width_is s at f wire h q.0 in
    record { there = e.1; is = q.1 ∙ ap (value_or None) e.0 })

module _ (f : ℕ) (s : List ℕ) where
  -- no width, and one where the format stores it
  pub no_width_lem : (kind n : ℕ) → measured kind ≡ false → Stored (stores_width f kind) s n None
  no_width_lem kind n e = rw (stores_not f kind e) (record { there = λ z. absurd (false≢true z); is = refl })

  pub its_width : (kind : ℕ) {n k : ℕ} {w : Option ℕ} → measured kind ≡ true → n ≡ k → Stored (has_widths f) s n w → Stored (stores_width f kind) s k w
  its_width kind e q r = rw (stores f kind e) (rw q at r)

-- where the width stands is after the marks, if the kind has them
module _ (s : List ℕ) (at : ℕ) where
  pub place_by : {b : Bool} → marked (decl_in s at).kind ≡ b → width_place s at ≡ name_end s (at + 1) + cond b 1 0
  unfolding width_place marks_size
  place_by e = rw e

  pub place_marked : (decl_in s at).kind ≤ number enum_kind → width_place s at ≡ name_end s (at + 1) + 1
  unfolding marked
  place_marked l = place_by (le-leb (decl_in s at).kind 1 l)

  pub place_plain : (number enum_kind) < (decl_in s at).kind → width_place s at ≡ name_end s (at + 1)
  unfolding marked
  place_plain l =
      let z : name_end s (at + 1) + 0 ≡ name_end s (at + 1) = omega arith in
      place_by (lt-leb (decl_in s at).kind 1 l) ∙ z

  -- the count stands after it
  pub items_plain : stores_width (format s) (decl_in s at).kind ≡ false → items_in s at ≡ items_at s (width_place s at)
  unfolding items_in width_size
  items_plain e =
      let z : width_place s at + 0 ≡ width_place s at = omega arith in
      rw (e, z)

  pub items_wide : stores_width (format s) (decl_in s at).kind ≡ has_widths (format s) → items_in s at ≡ items_at s (width_place s at + cond (has_widths (format s)) 1 0)
  unfolding items_in width_size
  items_wide e = rw e
