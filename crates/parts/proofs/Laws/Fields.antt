-- Encodings and limits at places of the image. Assumes nothing.
use mathlib.Core.Path.{◌≡◌, refl, sym, ap, ap₂, ◌∙◌}
use mathlib.Core.Bool.{Bool, true, false, ◌&&◌, false≢true}
use Rattle.std.specs.Prelude.{None, Some}
use mathlib.Core.List.{List}
use Prim.Native.Nat.{ℕ, zero, suc, ◌+◌, ◌%◌, ◌≤◌, ◌<◌}
use native.Mathlib.Omega.{arith}
use borrow.Author.Tests.{eqb-true, eqb-false, ne_eqb}
use lib.Dec.{eqb}
use lib.ListN.{length, get_or, drop}
use Rattle.image.specs.Schema.{Encoding, Field}
use Rattle.image.specs.Parse.{ok, bind, pick, little_endian, code_at, number_at}
use Rattle.image.specs.Fields.{marks_of, plain, delta, encoding_of, encoding_at, limit_at}
use Rattle.image.specs.WellFormed.{Good, value_or, end_of}
use Rattle.image.proofs.Laws.Sure.{Sure, sure_ok, sure_no, sure_bind, sure_pick, Byte, Coded, code_sure}
use Rattle.image.proofs.Laws.Good.{sure_good, good_first}
use Rattle.parts.specs.Promise.{name_end, ItemHere, field_in, marks_place, encoding_place, encoding_in, limit_place, type_place}
use Rattle.parts.specs.declared.Shape.TheVariants as shape
use Rattle.parts.proofs.Laws.Steps.{then_is, code_is, number_is}
use Rattle.parts.proofs.Laws.Items.{field_parts_lem}

-- an encoding is as many bytes 3 as it has deltas, and the base
pub record Encoded (left : ℕ) (s : List ℕ) (at : ℕ) (e : Encoding) (n : ℕ) : Type 0 where
  pub deltas : (k : ℕ) → k < e.deltas → get_or s (at + k) 0 ≡ 3
  pub base : e.base ≡ get_or s (at + e.deltas) 0
  pub few : e.deltas ≤ left
  pub low : e.base ≤ 2
  pub next : n ≡ at + e.deltas + 1
  pub inside : n ≤ length s

module _ (s : List ℕ) where
  base_only : (left at b n : ℕ) → Coded 0 3 s at b n → (b ≡ 3 → ⊥) → Encoded left s at (plain b) n
  unfolding plain
  base_only left at b n k f =
      let z : at ≡ at + 0 = omega arith in
      let q = k.byte in
      let e = q.next in
      let h = k.high in
      record {
        deltas = λ k l. absurd (omega arith);
        base = q.value ∙ ap (λ (i : ℕ). get_or s i 0) z;
        few = omega arith;
        low = omega arith;
        next = omega arith;
        inside = q.inside;
      }

  one_more : (left at b n m : ℕ) (e : Encoding) → Byte s at b n → b ≡ 3 → Encoded left s n e m → Encoded (suc left) s at (delta e) m
  unfolding delta
  one_more left at b n m e q t r =
      let w = r.few in
      let z : n + e.deltas ≡ at + suc e.deltas = (let x = q.next in omega arith) in
      let y = r.next in
      record {
        deltas = λ k l. before k l;
        base = r.base ∙ ap (λ (i : ℕ). get_or s i 0) z;
        few = omega arith;
        low = r.low;
        next = omega arith;
        inside = r.inside;
      }
    where
      before : (k : ℕ) → k < suc e.deltas → get_or s (at + k) 0 ≡ 3
      before zero l = let z : at + 0 ≡ at = omega arith in ap (λ (i : ℕ). get_or s i 0) z ∙ sym q.value ∙ t
      before (suc k) l = let z : at + suc k ≡ n + k = (let x = q.next in omega arith) in ap (λ (i : ℕ). get_or s i 0) z ∙ r.deltas k (omega arith)

  encoding_of_sure : (left at : ℕ) → Sure (Encoded left s at) (encoding_of left s at)
  unfolding encoding_of
  encoding_of_sure zero at =
      sure_bind _ (code_sure 0 3 s at) (λ b n q.
      sure_pick _ (λ h. sure_no) (λ h. sure_ok (base_only _ at b n q (eqb-false b 3 h))))
  encoding_of_sure (suc left) at =
      sure_bind _ (code_sure 0 3 s at) (λ b n q.
      sure_pick _
      (λ h. sure_bind _ (encoding_of_sure left n) (λ e m r. sure_ok (one_more left at b n m e q.byte (eqb-true b 3 h) r)))
      (λ h. sure_ok (base_only _ at b n q (eqb-false b 3 h))))

  encoding_stands : (at : ℕ) → Good (encoding_at s at) → Encoded 8 s at (encoding_in s at) (end_of (encoding_at s at))
  unfolding encoding_in encoding_at
  encoding_stands at g = sure_good (plain 0) (encoding_of_sure 8 at) g

-- a limit is a byte 0, or another and a number
module _ (s : List ℕ) (at : ℕ) (g : Good (limit_at s at)) where
  first : (code_at 0 1 s at ≡ ok (get_or s at 0) (at + 1)) × (at < length s)
  unfolding limit_at
  first = let h = code_is s at 0 1 (good_first 0 (code_at 0 1 s at) _ g) in (h.0, h.1)

  limit_there : at < length s
  limit_there = first.1

  limit_none : get_or s at 0 ≡ 0 → limit_at s at ≡ ok None (at + 1)
  unfolding limit_at pick
  limit_none e = then_is _ first.0 ∙ rw e

  limit_some : (get_or s at 0 ≡ 0 → ⊥) → limit_at s at ≡ bind (number_at 8 s (at + 1)) (λ v m. ok (Some v) m)
  unfolding limit_at pick
  limit_some f = then_is _ first.0 ∙ rw (ne_eqb (get_or s at 0) 0 f)

  limit_number : (get_or s at 0 ≡ 0 → ⊥) → (limit_at s at ≡ ok (Some (little_endian 8 (drop (at + 1) s))) (at + 1 + 8)) × (at + 1 + 8 ≤ length s)
  limit_number f =
      let e = limit_some f in
      let h = number_is s (at + 1) 8 (good_first 0 (number_at 8 s (at + 1)) _ (rw e at g)) in
      (e ∙ then_is _ h.0, h.1)

coding : ℕ → ℕ → Encoding
coding n b = record { deltas = n; base = b }

-- counting the deltas
module _ (s : List ℕ) (at : ℕ) (g : Good (encoding_at s at)) (n : ℕ) (l : n ≤ (encoding_in s at).deltas) where
  pub delta_there : at + n < length s
  delta_there = let h = encoding_stands s at g in let i = h.inside in let j = h.next in omega arith

  pub delta_more : get_or s (at + n) 0 ≡ 3 → n < (encoding_in s at).deltas
  delta_more e =
      let h = encoding_stands s at g in
      let low = h.low in
      let f : n ≡ (encoding_in s at).deltas → ⊥ = λ q. (let b : (encoding_in s at).base ≡ 3 = h.base ∙ ap (λ (k : ℕ). get_or s (at + k) 0) (sym q) ∙ e in omega arith) in
      omega arith

  pub delta_done : (get_or s (at + n) 0 ≡ 3 → ⊥) → n ≡ (encoding_in s at).deltas
  delta_done f =
      let h = encoding_stands s at g in
      let k : n < (encoding_in s at).deltas → ⊥ = λ q. f (h.deltas n q) in
      omega arith

-- the places and the values of a field's parts after the name, which ends at e
module _ (s : List ℕ) (at : ℕ) (g : ItemHere shape.Field s at) where
  module _ {e : ℕ} (q : e ≡ name_end s (at + 4)) where
    pub encoding_good : Good (encoding_at s (e + 1))
    unfolding encoding_place marks_place
    encoding_good = rw q (field_parts_lem s at g).encoding

    pub marks_there : e < length s
    unfolding marks_place
    marks_there = rw q (field_parts_lem s at g).marks

    pub deprecated_is : eqb (get_or s e 0 % 2) 1 ≡ (field_in s at).marks.deprecated
    unfolding marks_place marks_of
    deprecated_is = rw q (sym (ap (λ (f : Field). f.marks.deprecated) (field_parts_lem s at g).value))

    module _ {n : ℕ} (d : n ≡ (encoding_in s (e + 1)).deltas) where
      pub base_there : e + 1 + n < length s
      base_there = delta_there s (e + 1) encoding_good n (omega arith)

      pub limit_at_lem : e + 1 + n + 1 ≡ limit_place s at
      unfolding limit_place encoding_place marks_place
      limit_at_lem =
          let h = (encoding_stands s (e + 1) encoding_good).next in
          ap (λ (k : ℕ). e + 1 + k + 1) d ∙ sym h ∙ ap (λ (k : ℕ). end_of (encoding_at s (k + 1))) q

      pub base_low : get_or s (e + 1 + n) 0 ≤ 2
      base_low =
          let h = encoding_stands s (e + 1) encoding_good in
          let b : (encoding_in s (e + 1)).base ≡ get_or s (e + 1 + n) 0 = h.base ∙ ap (λ (k : ℕ). get_or s (e + 1 + k) 0) (sym d) in
          let low = h.low in
          omega arith

      pub coded : (b : ℕ) → get_or s (e + 1 + n) 0 ≡ b → ◌≡◌ {A = Encoding} (record { deltas = n; base = b }) (field_in s at).encoding
      unfolding coding encoding_in encoding_place marks_place
      coded b k =
          let h = (encoding_stands s (e + 1) encoding_good).base in
          ap₂ coding d (sym k ∙ ap (λ (k : ℕ). get_or s (e + 1 + k) 0) d ∙ sym h) ∙ ap (λ (k : ℕ). encoding_in s (k + 1)) q ∙ sym (ap (λ (f : Field). f.encoding) (field_parts_lem s at g).value)

  -- a default encoding and no limit
  module _ {e : ℕ} (q : e ≡ name_end s (at + 4)) where
    pub plain_there : e + 1 + 1 < length s
    plain_there =
        let l = limit_at_lem q refl in
        let p = limit_there s (limit_place s at) (field_parts_lem s at g).limit in
        omega arith

    no_delta : get_or s (e + 1) 0 ≡ 0 → 0 ≡ (encoding_in s (e + 1)).deltas
    no_delta z =
        let k : e + 1 + 0 ≡ e + 1 = omega arith in
        delta_done s (e + 1) (encoding_good q) 0 (omega arith) (λ t. let y : ◌≡◌ {A = ℕ} 0 3 = sym z ∙ ap (λ (i : ℕ). get_or s i 0) (sym k) ∙ t in omega arith)

    no_more : get_or s (e + 1) 0 ≡ 0 → get_or s (e + 1 + 1) 0 ≡ 0 → e + 1 + 2 ≡ type_place s at
    unfolding type_place end_of
    no_more z y =
        let l : e + 1 + 1 ≡ limit_place s at = (let m = limit_at_lem q (no_delta z) in omega arith) in
        let r = ap end_of (limit_none s (limit_place s at) (field_parts_lem s at g).limit (ap (λ (i : ℕ). get_or s i 0) (sym l) ∙ y)) in
        omega arith

    pub plain_type : {b : Bool} → b ≡ true → b ≡ (eqb (get_or s (e + 1) 0) 0 && eqb (get_or s (e + 1 + 1) 0) 0) → e + 1 + 2 ≡ type_place s at
    plain_type t h = go (eqb (get_or s (e + 1) 0) 0) (eqb (get_or s (e + 1 + 1) 0) 0) refl refl (sym h ∙ t)
      where
        go : (x y : Bool) → eqb (get_or s (e + 1) 0) 0 ≡ x → eqb (get_or s (e + 1 + 1) 0) 0 ≡ y → (x && y) ≡ true → e + 1 + 2 ≡ type_place s at
        go true true p r h = no_more (eqb-true (get_or s (e + 1) 0) 0 p) (eqb-true (get_or s (e + 1 + 1) 0) 0 r)
        go true false p r h = absurd (false≢true h)
        go false y p r h = absurd (false≢true h)

  limit_good : Good (limit_at s (limit_place s at))
  limit_good = (field_parts_lem s at g).limit

  module _ {p : ℕ} (q : p ≡ limit_place s at) where
    good : Good (limit_at s p)
    good = rw q limit_good

    pub place_there : p < length s
    place_there = limit_there s p good

    value : (field_in s at).limit ≡ value_or None (limit_at s p)
    value = ap (λ (f : Field). f.limit) (field_parts_lem s at g).value ∙ ap (λ (k : ℕ). value_or None (limit_at s k)) (sym q)

    type_at : type_place s at ≡ end_of (limit_at s p)
    unfolding type_place
    type_at = ap (λ (k : ℕ). end_of (limit_at s k)) (sym q)

    pub unlimited : get_or s p 0 ≡ 0 → (None ≡ (field_in s at).limit) × (p + 1 ≡ type_place s at)
    unfolding value_or end_of
    unlimited e = let r = limit_none s p good e in (sym (value ∙ ap (value_or None) r), sym (type_at ∙ ap end_of r))

    module _ (f : get_or s p 0 ≡ 0 → ⊥) where
      pub number_there : p + 1 + 8 ≤ length s
      number_there = (limit_number s p good f).1

      pub limited : {v : ℕ} → v ≡ little_endian 8 (drop (p + 1) s) → Some v ≡ (field_in s at).limit
      unfolding value_or
      limited e = sym (value ∙ ap (value_or None) (limit_number s p good f).0 ∙ ap Some (sym e))

      pub type_after : p + 9 ≡ type_place s at
      unfolding end_of
      type_after = let r = ap end_of (limit_number s p good f).0 in let t = type_at in omega arith

-- what the code needs
pub ruleset counting = (delta_there, delta_more, delta_done)

pub ruleset deprecation = (field_parts_lem, marks_there, deprecated_is)

pub ruleset encodings = (field_parts_lem, encoding_good, marks_there, base_there, base_low, limit_at_lem, coded)

pub ruleset limits = (place_there, unlimited, number_there, limited, type_after)

pub ruleset types = (field_parts_lem, marks_there, plain_there, plain_type, limits)
