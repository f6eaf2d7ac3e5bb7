-- In images that are accepted and not mixed enums and flags have a width, and no other kind has one. Assumes nothing.
use mathlib.Core.Path.{◌≡◌, refl, sym, subst}
use mathlib.Core.Bool.{true, not}
use Rattle.std.specs.Prelude.{Option, None, Some}
use mathlib.Core.List.{List, [], ◌∷◌, ◌++◌}
use Prim.Native.Nat.{ℕ, zero, suc, ◌≤◌}
use native.Mathlib.Omega.{arith}
use lib.Dec.{eqb, ltb}
use borrow.Author.Tests.{ltb-true}
use Rattle.maps.specs.Lists.{every, All}
use Rattle.maps.specs.Orders.{before}
use Rattle.maps.proofs.Survivors.{all_survivors, all_lookup}
use Rattle.maps.proofs.Tests.{no_both, both}
use Rattle.image.specs.Schema.{Name, unmarked, no_type, Decl, decl, struck, Schema}
use Rattle.image.specs.Formats.{has_widths}
use Rattle.image.specs.Parse.{ok}
use Rattle.image.specs.Image.{read_image}
use Rattle.image.specs.Words.{bytes}
use Rattle.refusals.specs.Refusals.{Known, one, two, three}
use Rattle.written.specs.Limits.{Each, also, end, Byte, absent, present, wire, WidthWithin, OpenWithin, DeclWithin, EntryWithin, empty, full}
use Rattle.written.proofs.Accepted.{accepted_exactly}
use Rattle.rules.specs.Equal.{same_option}
use Rattle.rules.specs.Survivors.{Registry, stands_for, resolved, listed, name_of, declarations}
use Rattle.rules.specs.Changes.{major, Change, change, only, from_to, kind_at, WidthChanged}
use Rattle.rules.specs.Refusals.{AcceptedPair}
use Rattle.rules.specs.Distance.{Image}
use Rattle.rules.specs.Widths.{show_width, compare_widths}
use Rattle.rules.specs.MendedRefusals.{Mixed}
use Rattle.rules.specs.PinnedMended.{bits, bits_wide}
use Rattle.rules.proofs.Computed.{reads, reports}
use Rattle.claims.specs.Widths.{Sized, WidthsTold, stored, none, Widths, WidthsMet}

-- ---- the width of a declaration, in a format that stores it

data HasWidth (d : Decl) : Type 0 where
  sized : {w : ℕ} → Sized d.kind → d.width ≡ Some w → HasWidth d
  unsized : ¬ Sized d.kind → d.width ≡ None → HasWidth d

module _ (f : ℕ) (stores : has_widths f ≡ true) where
  wire_there : {P : ℕ → Type 0} {w : Option ℕ} → WidthWithin f P w → (n : ℕ) × (w ≡ Some n)
  wire_there (absent e) = no_both stores e
  wire_there (present e (wire {w = n} p)) = (n, refl)

  open_width : {d : Decl} → OpenWithin f d → HasWidth d
  open_width (OpenWithin.message x a b) = unsized other refl
    where
      other : ¬ Sized 0
      other (Sized.enum e) = omega (arith, e)
      other (Sized.flags e) = omega (arith, e)
  open_width (OpenWithin.enum x w a b) = let t = wire_there w in sized (Sized.enum refl) t.1
  open_width (OpenWithin.flags x w a b) = let t = wire_there w in sized (Sized.flags refl) t.1
  open_width (OpenWithin.union x a b) = unsized other refl
    where
      other : ¬ Sized 3
      other (Sized.enum e) = omega (arith, e)
      other (Sized.flags e) = omega (arith, e)

  struck_width : {d : Decl} {ts : List ℕ} → HasWidth d → HasWidth (struck d ts)
  struck_width (sized s e) = sized s e
  struck_width (unsized n e) = unsized n e

  over : {k : ℕ} → 4 ≤ k → ¬ Sized k
  over h (Sized.enum e) = omega (arith, h, e)
  over h (Sized.flags e) = omega (arith, h, e)

  decl_width : {d : Decl} → DeclWithin f d → HasWidth d
  decl_width (DeclWithin.closing o t) = struck_width (open_width o)
  decl_width (DeclWithin.newtype x t) = unsized (over (omega arith)) refl
  decl_width (DeclWithin.config x) = unsized (over (omega arith)) refl
  decl_width (DeclWithin.alias x) = unsized (over (omega arith)) refl
  decl_width (DeclWithin.trait x) = unsized (over (omega arith)) refl
  decl_width DeclWithin.impl = unsized (over (omega arith)) refl

  -- ---- of what stands

  entry_there : (R : Registry) → Each (EntryWithin f) R → (i : ℕ) → EntryWithin f (stands_for R i)
  unfolding stands_for
  entry_there [] end i = empty
  entry_there (e ∷ R) (also p h) zero = p
  entry_there (e ∷ R) (also p h) (suc i) = entry_there R h i

  listed_widths : (R : Registry) → Each (EntryWithin f) R → (ids : List ℕ) → All HasWidth (listed R ids)
  unfolding listed resolved All
  listed_widths R h [] = tt
  listed_widths R h (i ∷ ids) = go (stands_for R i) (entry_there R h i) (listed_widths R h ids)
    where
      go : (o : Option Decl) → EntryWithin f o → All HasWidth (listed R ids) → All HasWidth (resolved o (listed R ids))
      go None p q = q
      go (Some d) (full p) q = (decl_width p, q)

-- ---- of an accepted image of a format that stores them

format_stores : {f : ℕ} → Known f → ¬ (f ≡ 1) → has_widths f ≡ true
unfolding has_widths
format_stores (one e) n = absurd (n e)
format_stores (two e) n = rw e refl
format_stores (three e) n = rw e refl

standing_widths : (s : Image) → Each Byte s → (x : Schema) (n : ℕ) → read_image s ≡ ok x n → ¬ (x.format ≡ 1) → All HasWidth (declarations x)
unfolding declarations
standing_widths s b x n p f =
    let w = ((accepted_exactly s b x n).0 p).0 in
    all_survivors name_of before HasWidth (listed x.registry x.ids) (listed_widths x.format (format_stores w.format f) x.registry w.entries x.ids)

-- what is told of two widths
abbrev shown : Name → Option ℕ → Option ℕ → List Change
shown name a b = only (not (same_option eqb a b)) (change (kind_at WidthChanged) major name None (bytes "width changed" ++ from_to (show_width a) (show_width b)))

told : (d e : Decl) → HasWidth d → HasWidth e → d.kind ≡ e.kind → WidthsTold d e (compare_widths d e)
unfolding compare_widths same_option show_width only
told d e (sized {w = w} s p) (sized {w = v} t q) k =
    subst (λ a. WidthsTold d e (shown d.name a e.width)) (sym p)
    (subst (λ b. WidthsTold d e (shown d.name (Some w) b)) (sym q) (stored s p q))
told d e (sized s p) (unsized n q) k = absurd (n (subst Sized k s))
told d e (unsized n p) (sized t q) k = absurd (n (subst Sized (sym k) t))
told d e (unsized n p) (unsized m q) k =
    subst (λ a. WidthsTold d e (shown d.name a e.width)) (sym p)
    (subst (λ b. WidthsTold d e (shown d.name None b)) (sym q) (none n p q))

pub widths : Widths
widths old new b c a d =
    let x = standing_widths old b a.old_schema a.old_end a.old_read (λ f. a.holds (Mixed.old f)) in
    let y = standing_widths new c a.new_schema a.new_end a.new_read (λ f. a.holds (Mixed.new f)) in
    told d.old d.new
    (all_lookup name_of before HasWidth d.name (declarations a.old_schema) d.old x d.in_old)
    (all_lookup name_of before HasWidth d.name (declarations a.new_schema) d.new y d.in_new) d.kind

-- ---- such images

bytes_each : (s : List ℕ) → every (λ b. ltb b 256) s ≡ true → Each Byte s
unfolding every
bytes_each [] e = end
bytes_each (b ∷ s) e = let h = both (ltb b 256) (every (λ c. ltb c 256) s) e in also (ltb-true b 256 h.0) (bytes_each s h.1)

-- the bytes of the names are their numbers: F 70, a 97
abbrev flags_of : ℕ → Decl
flags_of width = decl 2 (70 ∷ []) unmarked (Some width) [] (record { ordinal = 0; name = 97 ∷ []; fields = []; tombstones = [] } ∷ []) no_type

abbrev holds : ℕ → Schema
holds width = record { format = 2; registry = Some (flags_of width) ∷ []; ids = 0 ∷ []; namespace = [] }

two_both : ¬ Mixed (holds 1) (holds 2)
two_both (Mixed.old e) = omega (arith, e)
two_both (Mixed.new e) = omega (arith, e)
two_both (Mixed.old_three e n) = omega (arith, e)
two_both (Mixed.new_three e n) = omega (arith, e)

bits_pair : AcceptedPair bits bits_wide (λ x y. ¬ Mixed x y)
unfolding reads
bits_pair = record { old_schema = holds 1; new_schema = holds 2; old_end = 28; new_end = 28; old_read = refl; new_read = refl; holds = two_both }

pub widths_met : WidthsMet
unfolding reports every bits_pair
widths_met = record {
  old = bytes_each bits refl;
  new = bytes_each bits_wide refl;
  pair = bits_pair;
  shared = record { name = 70 ∷ []; old = flags_of 1; new = flags_of 2; in_old = refl; in_new = refl; kind = refl };
  told = refl;
}
