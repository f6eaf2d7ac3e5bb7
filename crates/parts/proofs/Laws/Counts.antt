-- What stands before the items of a declaration, by its kind; then a count and as many, and the tombstones that close it. Assumes nothing.
use mathlib.Core.Path.{◌≡◌, refl, ap, ◌∙◌}
use mathlib.Core.Bool.{cond}
use Rattle.std.specs.Prelude.{Option, None, Some}
use mathlib.Core.List.{List, []}
use Prim.Native.Nat.{ℕ, ◌+◌, ◌≤◌}
use lib.ListN.{length, get_or}
use Rattle.image.specs.Codes.{number, message_kind, enum_kind, flags_kind, union_kind}
use Rattle.image.specs.Schema.{Name, Marks, unmarked, no_type, Decl, decl, struck}
use Rattle.image.specs.Parse.{Parsed, ok, bind, many, counted}
use Rattle.image.specs.Names.{name_at}
use Rattle.image.specs.Fields.{marks_of, marks_at, field_at, bare_at, variant_at}
use Rattle.image.specs.Formats.{has_widths}
use Rattle.image.specs.Widths.{wire_bits_at, wire_bytes_at, width_at}
use Rattle.image.specs.Tombstones.{tombstones_at}
use Rattle.image.specs.Image.{format}
use Rattle.image.specs.Bodies.{message_at, enum_at, flags_at, union_at, closed}
use Rattle.image.specs.WellFormed.{Good, value_or, end_of}
use Rattle.image.proofs.Laws.Good.{good_first}
use Rattle.parts.specs.Promise.{no_decl, NameHere, name_in, name_end, items_at, Closed, tombstones_in}
use Rattle.parts.specs.declared.Run.{Run}
use Rattle.parts.proofs.Laws.Steps.{good_is, then_is, then_good, marks_is, Byte-read, wire_bits_is, wire_bytes_is, width_is, name_is}
use Rattle.parts.proofs.Laws.Items.{count_inside, counted_is, counted_good}

-- a list of items stands at its place, and is this; and so do the tombstones after it
pub record Counted {A : Type 0} (p : List ℕ → ℕ → Parsed A) (s : List ℕ) (n : Run) (xs : List A) (numbers : List ℕ) : Type 0 where
  pub inside : n.start ≤ length s
  pub good : Good (many p n.count s n.start)
  pub are : xs ≡ value_or [] (many p n.count s n.start)
  pub closed : Closed s (end_of (many p n.count s n.start))
  pub struck : numbers ≡ tombstones_in s (end_of (many p n.count s n.start))

-- a declaration, and the tombstones that close it
pub closing : List ℕ → Parsed Decl → Parsed Decl
closing s q = bind q (λ d n. bind (tombstones_at (format s) s n) (λ numbers m. ok (struck d numbers) m))

pub closed_is : (p : List ℕ → ℕ → Parsed Decl) (s : List ℕ) (at : ℕ) → closed (format s) p s at ≡ closing s (p s at)
unfolding closed closing
closed_is p s at = refl

pub closing_first : (s : List ℕ) (q : Parsed Decl) → Good (closing s q) → Good q
unfolding closing
closing_first s q g = good_first no_decl q _ g

-- a count and as many, at a place after what stands before them
module _ {A : Type 0} (p : List ℕ → ℕ → Parsed A) (s : List ℕ) (k : List A → Decl) (n : ℕ) where
  pub listed : Parsed Decl
  listed = bind (counted p s n) (λ xs m. ok (k xs) m)

  pub listed_counted : (list : Decl → List A) → ((xs : List A) (numbers : List ℕ) → list (struck (k xs) numbers) ≡ xs) → {q : Parsed Decl} → q ≡ listed
      → Good (closing s q) → Counted p s (items_at s n) (list (value_or no_decl (closing s q))) (value_or no_decl (closing s q)).tombstones
  unfolding closing listed items_at value_or Closed tombstones_in
  listed_counted list l {q} e g =
      let b = good_first [] (counted p s n) _ (rw e at (closing_first s q g)) in
      let r = counted_is p s n b ∙ good_is [] _ (counted_good p s n b) in
      let v = e ∙ then_is _ r in
      let t = good_first [] (tombstones_at (format s) s _) _ (then_good _ v g) in
      let w = then_is _ v ∙ then_is _ (good_is [] _ t) in
      record {
        inside = count_inside p s n b;
        good = counted_good p s n b;
        are = ap (λ (d : Parsed Decl). list (value_or no_decl d)) w ∙ l _ _;
        closed = t;
        struck = ap (λ (d : Parsed Decl). (value_or no_decl d).tombstones) w;
      }

-- what stands before the count, by the kind
module _ (f : ℕ) (s : List ℕ) (at : ℕ) where
  abbrev its_marks : Marks
  its_marks = marks_of (get_or s (name_end s at) 0)

  abbrev width_from : ℕ → Option ℕ
  width_from n = cond (has_widths f) (Some (get_or s n 0)) None

  module _ {A : Type 0} (h : Name → ℕ → Parsed A) where
    name_read : Good (bind (name_at 8 s at) h) → bind (name_at 8 s at) h ≡ h (name_in s at) (name_end s at)
    unfolding NameHere
    name_read g = then_is _ (name_is s at (good_first [] (name_at 8 s at) _ g))

  module _ {A : Type 0} (h : Marks → ℕ → Parsed A) where
    marks_read : (n : ℕ) → Good (bind (marks_at s n) h) → bind (marks_at s n) h ≡ h (marks_of (get_or s n 0)) (n + 1)
    marks_read n g = then_is _ (marks_is s n (good_first unmarked (marks_at s n) _ g)).0

  module _ {A : Type 0} (h : Option ℕ → ℕ → Parsed A) where
    width_read : (wire : List ℕ → ℕ → Parsed ℕ) (n : ℕ) → (Good (wire s n) → Byte-read s n (wire s n)) → Good (bind (width_at f wire s n) h)
        → bind (width_at f wire s n) h ≡ h (width_from n) (n + cond (has_widths f) 1 0)
    width_read wire n w g = then_is _ (width_is s n f wire w (good_first None (width_at f wire s n) _ g)).0

  pub message_listing : Good (message_at s at)
      → message_at s at ≡ listed field_at s (λ fs. decl (number message_kind) (name_in s at) its_marks None fs [] no_type) (name_end s at + 1)
  unfolding message_at listed
  message_listing g =
      let n = name_read _ g in
      n ∙ marks_read _ _ (rw n at g)

  pub enum_listing : Good (enum_at f s at)
      → enum_at f s at ≡ listed bare_at s (λ vs. decl (number enum_kind) (name_in s at) its_marks (width_from (name_end s at + 1)) [] vs no_type)
      (name_end s at + 1 + cond (has_widths f) 1 0)
  unfolding enum_at listed
  enum_listing g =
      let n = name_read _ g in
      let g₂ = rw n at g in
      let m = marks_read _ _ g₂ in
      n ∙ m ∙ width_read _ wire_bits_at _ (wire_bits_is s (name_end s at + 1)) (rw m at g₂)

  pub flags_listing : Good (flags_at f s at)
      → flags_at f s at ≡ listed bare_at s (λ vs. decl (number flags_kind) (name_in s at) unmarked (width_from (name_end s at)) [] vs no_type)
      (name_end s at + cond (has_widths f) 1 0)
  unfolding flags_at listed
  flags_listing g =
      let n = name_read _ g in
      n ∙ width_read _ wire_bytes_at _ (wire_bytes_is s (name_end s at)) (rw n at g)

  pub union_listing : Good (union_at f s at)
      → union_at f s at ≡ listed (variant_at f) s (λ vs. decl (number union_kind) (name_in s at) unmarked None [] vs no_type) (name_end s at)
  unfolding union_at listed
  union_listing g = name_read _ g
