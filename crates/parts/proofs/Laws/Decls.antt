-- Declarations at places of the image: their kinds, names, marks and widths. Assumes nothing.
use mathlib.Core.Path.{◌≡◌, refl, sym, ap, ◌∙◌}
use mathlib.Core.Bool.{Bool, true, false}
use Rattle.std.specs.Prelude.{Option, None, Some}
use mathlib.Core.List.{List, []}
use Prim.Native.Nat.{ℕ, ◌+◌, ◌≤◌, ◌<◌}
use native.Mathlib.Omega.{arith}
use borrow.Author.Tests.{eqb-true, eqb-false, leb-true, leb-false}
use lib.Dec.{eqb}
use lib.ListN.{length, get_or}
use Rattle.image.specs.Kinds.{Kind, kind_of}
use Rattle.image.specs.Codes.{number, message_kind, enum_kind, flags_kind, union_kind, newtype_kind, config_kind, alias_kind, trait_kind, impl_kind}
use Rattle.image.specs.Schema.{Name, Marks, unmarked, Ty, no_type, Field, Variant, Decl, decl}
use Rattle.image.specs.Parse.{Parsed, ok, byte_at, counted}
use Rattle.image.specs.Names.{name_at}
use Rattle.image.specs.Types.{type_at}
use Rattle.image.specs.Fields.{marks_of, marks_at, field_at, bare_at, variant_at}
use Rattle.image.specs.Formats.{has_widths}
use Rattle.image.specs.Tombstones.{tombstones_at}
use Rattle.image.specs.Widths.{wire_bits_at, wire_bytes_at}
use Rattle.image.specs.Image.{format}
use Rattle.image.specs.Bodies.{message_at, enum_at, flags_at, union_at, newtype_at, other_at, impl_at, closed, decl_at}
use Rattle.image.specs.WellFormed.{Good, value_or}
use Rattle.image.proofs.Laws.Sure.{Sure, sure_ok, sure_no, sure_bind, code_sure}
use Rattle.image.proofs.Laws.Good.{sure_good, good_first}
use Rattle.image.proofs.Laws.Kinds.{Says, message, enum, flags, union, newtype, config, alias, trait, impl, other, says}
use Rattle.parts.specs.Promise.{no_decl, NameHere, name_in, name_end, body_at, DeclHere, decl_in, marked, marks_size, width_place, measured, stores_width, start_kind, start_name}
use Rattle.parts.proofs.Laws.Steps.{then_is, byte_is, wire_bits_is, wire_bytes_is, itself, name_stands}
use Rattle.parts.proofs.Laws.Starts.{Started, start_nameless, start_named}
use Rattle.parts.proofs.Laws.Widths.{place_by, measured_most, stores, stores_not, stored_most, Stored, width_sure_here, no_width_lem, its_width}

-- the head of a declaration in a format: its kind, and by the kind a name, marks and a width, from `at` on
pub record Headed (f kind : ℕ) (s : List ℕ) (at : ℕ) (d : Decl) : Type 0 where
  pub is : d.kind ≡ kind
  pub most : kind ≤ number impl_kind
  pub nameless : (number trait_kind) < kind → d.name ≡ []
  pub named : kind < number impl_kind → NameHere s at × (d.name ≡ name_in s at)
  pub marked : kind ≤ number enum_kind → (name_end s at < length s) × (d.marks ≡ marks_of (get_or s (name_end s at) 0))
  pub plain : (number enum_kind) < kind → d.marks ≡ unmarked
  pub width : Stored (stores_width f kind) s (name_end s at + marks_size kind) d.width
  pub unclosed : (number union_kind) < kind → d.tombstones ≡ []

-- what is known of every answer
marks_sure_here : (s : List ℕ) (at : ℕ) → Sure (λ m n. (at < length s) × (m ≡ marks_of (get_or s at 0)) × (n ≡ at + 1)) (marks_at s at)
unfolding marks_at
marks_sure_here s at =
    sure_bind _ (code_sure 0 3 s at) (λ b n q. sure_ok ((let i = q.byte.inside in let j = q.byte.next in omega arith), ap marks_of q.byte.value, q.byte.next))

module _ (f : ℕ) (s : List ℕ) (at : ℕ) where
  abbrev Name-at : Name → ℕ → Type 0
  Name-at x n = NameHere s at × (x ≡ name_in s at) × (n ≡ name_end s at)

  abbrev Marks-at : ℕ → Marks → ℕ → Type 0
  Marks-at n m k = (n < length s) × (m ≡ marks_of (get_or s n 0)) × (k ≡ n + 1)

  name_sure_here : Sure Name-at (name_at 8 s at)
  unfolding NameHere name_in name_end
  name_sure_here = itself [] (name_at 8 s at)

  with_marks : (kind : ℕ) → kind ≤ 1 → {x : Name} {n : ℕ} → Name-at x n → {m : Marks} {k : ℕ} → Marks-at n m k → {w : Option ℕ}
      → Stored (stores_width f kind) s (name_end s at + marks_size kind) w → (fs : List Field) (vs : List Variant) → Headed f kind s at (decl kind x m w fs vs no_type)
  with_marks kind l (h, e, q) (i, r, _) v fs vs = record {
    is = refl;
    most = omega arith;
    nameless = λ z. absurd (omega arith);
    named = λ _. (h, e);
    marked = λ _. (rw q at i, r ∙ ap (λ (k : ℕ). marks_of (get_or s k 0)) q);
    plain = λ z. absurd (omega arith);
    width = v;
    unclosed = λ z. absurd (omega arith);
  }

  without : (kind : ℕ) → 1 < kind → kind < 8 → {x : Name} {n : ℕ} → Name-at x n → {w : Option ℕ} → Stored (stores_width f kind) s (name_end s at + marks_size kind) w
      → (fs : List Field) (vs : List Variant) (t : Ty) → Headed f kind s at (decl kind x unmarked w fs vs t)
  without kind l m (h, e, q) v fs vs t = record {
    is = refl;
    most = omega arith;
    nameless = λ z. absurd (omega arith);
    named = λ _. (h, e);
    marked = λ z. absurd (omega arith);
    plain = λ _. refl;
    width = v;
    unclosed = λ _. refl;
  }

  -- tombstones are no part of the head
  closed_head : {kind : ℕ} (p : List ℕ → ℕ → Parsed Decl) → kind ≤ number union_kind → Sure (λ d n. Headed f kind s at d) (p s at)
      → Sure (λ d n. Headed f kind s at d) (closed f p s at)
  unfolding closed
  closed_head p l h =
      sure_bind _ h (λ d n q.
      sure_bind _ (itself [] (tombstones_at f s n)) (λ ts m _.
      sure_ok (record {
        is = q.is;
        most = q.most;
        nameless = q.nameless;
        named = q.named;
        marked = q.marked;
        plain = q.plain;
        width = q.width;
        unclosed = λ z. absurd (omega arith);
      })))

  pub head_sure : {kind : ℕ} {k : Kind} → Says kind k → Sure (λ d n. Headed f kind s at d) (decl_at f k s at)
  unfolding decl_at message_at enum_at flags_at union_at newtype_at other_at impl_at measured marks_size marked
  head_sure message =
      closed_head message_at (omega arith)
      (sure_bind _ name_sure_here (λ x n q.
      sure_bind _ (marks_sure_here s n) (λ m k r.
      sure_bind _ (itself [] (counted field_at s k)) (λ fs i _.
      sure_ok (with_marks (number message_kind) (omega arith) q r (no_width_lem f s _ _ refl) fs [])))))
  head_sure enum =
      closed_head (enum_at f) (omega arith)
      (sure_bind _ name_sure_here (λ x n q.
      sure_bind _ (marks_sure_here s n) (λ m k r.
      sure_bind _ (width_sure_here f wire_bits_at s k (wire_bits_is s k)) (λ w j v.
      sure_bind _ (itself [] (counted bare_at s j)) (λ vs i _.
      sure_ok (with_marks (number enum_kind) (omega arith) q r (its_width f s _ refl (r.2 ∙ ap (λ (i : ℕ). i + 1) q.2) v) [] vs))))))
  head_sure flags =
      closed_head (flags_at f) (omega arith)
      (sure_bind _ name_sure_here (λ x n q.
      sure_bind _ (width_sure_here f wire_bytes_at s n (wire_bytes_is s n)) (λ w j v.
      sure_bind _ (itself [] (counted bare_at s j)) (λ vs i _.
      sure_ok (without (number flags_kind) (omega arith) (omega arith) q (its_width f s _ refl (let z : name_end s at ≡ name_end s at + 0 = omega arith in q.2 ∙ z) v) [] vs no_type)))))
  head_sure union =
      closed_head (union_at f) (omega arith)
      (sure_bind _ name_sure_here (λ x n q.
      sure_bind _ (itself [] (counted (variant_at f) s n)) (λ vs i _. sure_ok (without (number union_kind) (omega arith) (omega arith) q (no_width_lem f s _ _ refl) [] vs no_type))))
  head_sure newtype =
      sure_bind _ name_sure_here (λ x n q.
      sure_bind _ (itself no_type (type_at s n)) (λ t i _. sure_ok (without (number newtype_kind) (omega arith) (omega arith) q (no_width_lem f s _ _ refl) [] [] t)))
  head_sure config = sure_bind _ name_sure_here (λ x n q. sure_ok (without (number config_kind) (omega arith) (omega arith) q (no_width_lem f s _ _ refl) [] [] no_type))
  head_sure alias = sure_bind _ name_sure_here (λ x n q. sure_ok (without (number alias_kind) (omega arith) (omega arith) q (no_width_lem f s _ _ refl) [] [] no_type))
  head_sure trait = sure_bind _ name_sure_here (λ x n q. sure_ok (without (number trait_kind) (omega arith) (omega arith) q (no_width_lem f s _ _ refl) [] [] no_type))
  head_sure impl = sure_ok (record {
    is = refl;
    most = omega arith;
    nameless = λ _. refl;
    named = λ z. absurd (omega arith);
    marked = λ z. absurd (omega arith);
    plain = λ _. refl;
    width = no_width_lem f s _ _ refl;
    unclosed = λ _. refl;
  })
  head_sure (other _ _) = sure_no

-- it is what starts a declaration
pub headed_start : {f : ℕ} (s : List ℕ) (at : ℕ) {d : Decl} → at < length s → Headed f (get_or s at 0) s (at + 1) d → Started s at d
unfolding start_kind
headed_start s at {d} l h = record {
  here = record { there = l; kind = h.most; name = λ n. (h.named (below n)).0 };
  kind = sym h.is;
  name = go (eqb (get_or s at 0) 8) refl;
}
  where
    below : (get_or s at 0 ≡ 8 → ⊥) → get_or s at 0 < 8
    below n = omega (arith, h.most, n)

    go : (b : Bool) → eqb (get_or s at 0) 8 ≡ b → start_name s at ≡ d.name
    go true e =
        let i = eqb-true (get_or s at 0) 8 e in
        start_nameless s at i ∙ sym (h.nameless (omega arith))
    go false e =
        let n : get_or s at 0 ≡ 8 → ⊥ = eqb-false (get_or s at 0) 8 e in
        start_named s at n ∙ sym (h.named (below n)).1

-- a declaration is its kind, and what follows it
module _ (s : List ℕ) (at : ℕ) (g : DeclHere s at) where
  kind_byte : (byte_at 8 s at ≡ ok (get_or s at 0) (at + 1)) × (at < length s)
  unfolding DeclHere body_at
  kind_byte = byte_is s at 8 (good_first 0 (byte_at 8 s at) _ g)

  pub kind_there : at < length s
  kind_there = kind_byte.1

  body_is : body_at s at ≡ decl_at (format s) (kind_of (get_or s at 0)) s (at + 1)
  unfolding body_at
  body_is = then_is _ kind_byte.0

  pub decl_head : Headed (format s) (get_or s at 0) s (at + 1) (decl_in s at)
  unfolding DeclHere decl_in
  decl_head = rw body_is (sure_good no_decl (head_sure (format s) s (at + 1) (says (get_or s at 0))) (rw body_is at g))

  pub decl_kind : (decl_in s at).kind ≡ get_or s at 0
  decl_kind = decl_head.is

  pub decl_started : Started s at (decl_in s at)
  decl_started = headed_start s at kind_there decl_head

  -- what has a name has two bytes, so that the format can be read
  pub name_there : (decl_in s at).kind < number impl_kind → NameHere s (at + 1) × (2 ≤ length s)
  name_there l =
      let n = (decl_head.named (omega (arith, decl_kind))).0 in
      let h = name_stands s (at + 1) n in
      (n, omega arith)

  -- the marks, by whether the kind has them
  module _ (e : marked (decl_in s at).kind ≡ true) where
    marked_most : get_or s at 0 ≤ 1
    unfolding marked
    marked_most = omega (arith, decl_kind, leb-true (decl_in s at).kind 1 e)

    pub marked_name : NameHere s (at + 1)
    marked_name = (decl_head.named (omega (arith, marked_most))).0

    pub marks_there : name_end s (at + 1) < length s
    marks_there = (decl_head.marked marked_most).0

    pub marks_are : marks_of (get_or s (name_end s (at + 1)) 0) ≡ (decl_in s at).marks
    marks_are = sym (decl_head.marked marked_most).1

  pub marks_none : marked (decl_in s at).kind ≡ false → marks_of 0 ≡ (decl_in s at).marks
  unfolding marked marks_of
  marks_none e = sym (decl_head.plain (omega (arith, decl_kind, leb-false (decl_in s at).kind 1 e)))

  -- whether a width is stored, by the kind
  pub width_never : measured (decl_in s at).kind ≡ false → stores_width (format s) (decl_in s at).kind ≡ false
  width_never e = stores_not (format s) _ e

  pub width_by_format : measured (decl_in s at).kind ≡ true → (2 ≤ length s) × (stores_width (format s) (decl_in s at).kind ≡ has_widths (format s))
  width_by_format e =
      let m = measured_most (decl_in s at).kind e in
      ((name_there (omega arith)).1, stores (format s) _ e)

  pub width_named : stores_width (format s) (decl_in s at).kind ≡ true → (decl_in s at).kind < number impl_kind
  width_named e = let m = stored_most (format s) (decl_in s at).kind e in omega arith

  -- the width
  width_stored : Stored (stores_width (format s) (decl_in s at).kind) s (width_place s at) (decl_in s at).width
  unfolding width_place
  width_stored = rw decl_kind decl_head.width

  pub width_absent : stores_width (format s) (decl_in s at).kind ≡ false → (decl_in s at).width ≡ None
  width_absent e = width_stored.is ∙ rw e

  pub width_at_lem : stores_width (format s) (decl_in s at).kind ≡ true → (width_place s at < length s) × ((decl_in s at).width ≡ Some (get_or s (width_place s at) 0))
  width_at_lem e = (width_stored.there e, width_stored.is ∙ rw e)

  module _ (k : ℕ) (e : (decl_in s at).kind ≡ k) where
    of_kind_lem : body_at s at ≡ decl_at (format s) (kind_of k) s (at + 1)
    of_kind_lem = body_is ∙ ap (λ (n : ℕ). decl_at (format s) (kind_of n) s (at + 1)) (sym decl_kind ∙ e)

    pub kind_good : Good (decl_at (format s) (kind_of k) s (at + 1))
    unfolding DeclHere
    kind_good = rw of_kind_lem at g

    pub kind_value : decl_in s at ≡ value_or no_decl (decl_at (format s) (kind_of k) s (at + 1))
    unfolding decl_in
    kind_value = ap (value_or no_decl) of_kind_lem

-- what the code needs
pub ruleset heads = (decl_started, kind_there, name_there)

pub ruleset marks = (heads, marked_name, marks_there, marks_are, marks_none)

pub ruleset widths = (width_never, width_by_format, width_named, width_absent, width_at_lem)

pub ruleset width_places = (heads, marks_there, place_by)
