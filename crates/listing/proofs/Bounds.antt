-- The listing of an accepted image is shorter than 2^62 bytes. Assumes nothing.
use mathlib.Core.Path.{◌≡◌, refl}
use Rattle.std.specs.Prelude.{Option, None, Some}
use mathlib.Core.List.{List, [], ◌∷◌}
use Prim.Native.Nat.{ℕ, suc, ◌+◌, ◌*◌, ◌^◌, ◌≤◌, ◌<◌}
use native.Mathlib.Omega.{arith}
use lib.ListN.{length, get_or, length-append}
use Rattle.image.specs.Schema.{Name, Decl}
use Rattle.image.specs.Words.{bytes}
use Rattle.parts.specs.Promise.{Accepted, schema_of}
use Rattle.parts.proofs.Promise.{accepted_most, entries_most, entry_short}
use Rattle.rules.proofs.Texts.{kind_length}
use Rattle.text.proofs.Numbers.{decimal_length}
use Rattle.listing.specs.Listing.{line_of, entry_line, entry_text, lines_from, listing}

line_length_lem : (id kind : ℕ) (name : Name) → length (line_of id kind name) ≤ 36 + length name
unfolding line_of bytes
line_length_lem id kind name = simp length-append (omega (arith, decimal_length id, kind_length kind))

lines_length : (most id : ℕ) (R : List (Option Decl)) → ((j : ℕ) → j < length R → (i : ℕ) → length (entry_text i (get_or R j None)) ≤ most)
    → length (lines_from id R) ≤ most * length R
unfolding lines_from
lines_length most id [] h = omega arith
lines_length most id (e ∷ R) h = simp length-append (omega (arith, h 0 (omega arith) id, lines_length most (suc id) R (λ j l. h (suc j) (omega arith))))

module _ (s : List ℕ) (g : Accepted s) where
  few : length (schema_of s).registry ≤ 32768
  few = omega (arith, entries_most s g, accepted_most s g)

  short : (j : ℕ) → j < length (schema_of s).registry → (i : ℕ) → length (entry_text i (get_or (schema_of s).registry j None)) ≤ 32804
  unfolding entry_text entry_line
  short j l i = go (get_or (schema_of s).registry j None) refl
    where
      go : (e : Option Decl) → get_or (schema_of s).registry j None ≡ e → length (entry_text i e) ≤ 32804
      go None q = omega arith
      go (Some d) q = omega (arith, line_length_lem i d.kind d.name, entry_short s g j l d q, accepted_most s g)

  lines_small : (id : ℕ) → length (lines_from id (schema_of s).registry) < 2 ^ 62
  lines_small id = omega (arith, lines_length 32804 id (schema_of s).registry short, few)

  pub listing_small : length (listing (schema_of s)) < 2 ^ 62
  unfolding listing
  listing_small = lines_small _
