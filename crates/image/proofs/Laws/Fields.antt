-- Encodings, limits and items: what the code's answers say of them. Assumes nothing.
use mathlib.Core.Path.{◌≡◌, refl, sym, ap, ◌∙◌}
use Rattle.std.specs.Prelude.{Some}
use mathlib.Core.List.{List, []}
use Prim.Native.Nat.{ℕ, zero, suc, ◌+◌, ◌-◌, ◌≤◌, ◌<◌}
use native.Mathlib.Omega.{arith}
use native.Mathlib.Numerals.{sub-one}
use borrow.Author.Tests.{ne_eqb}
use lib.ListN.{get_or}
use Rattle.image.specs.Schema.{Name, Variant}
use Rattle.image.specs.Parse.{Parsed, ok, no, bind, pick, code_at, number_at, counted}
use Rattle.image.specs.Names.{name_at}
use Rattle.image.specs.Types.{type_at}
use Rattle.image.specs.Tombstones.{tombstones_at}
use Rattle.image.specs.Fields.{marks_at, delta, encoding_of, encoding_at, limit_at, field_at, bare_at, variant_at}
use Rattle.image.specs.Reads.{skip, Read, read_of}
use Rattle.image.proofs.Laws.Answers.{Got, next, stop, skip_ok}
use Rattle.image.proofs.Laws.Numbers.{There}
use Rattle.std.specs.Prelude.{Ok, Err, ⊤}
use Rattle.image.specs.declared.refusals.Refusal.{Refusal}
use Rattle.image.specs.declared.refusals.Refusal.TheVariants.{Deep}

-- marks are a coded byte
pub marks_code : (s : List ℕ) (at : ℕ) → skip (code_at 0 3 s at) ≡ skip (marks_at s at)
unfolding marks_at
marks_code s at = sym (skip_ok (code_at 0 3 s at) _)

-- an encoding of at most `left` deltas: its byte is refused; it is no delta; a delta too many; a delta and an inner encoding
module _ (left : ℕ) (s : List ℕ) (at : ℕ) where
  encoding_stop : {x : Read} {k : Refusal} → x ≡ Err k → read_of x ≡ skip (code_at 0 3 s at) → read_of x ≡ skip (encoding_of left s at)
  unfolding encoding_of
  encoding_stop {x} h e = go left
    where
      go : (left : ℕ) → read_of x ≡ skip (encoding_of left s at)
      go zero = stop (code_at 0 3 s at) _ h e
      go (suc left) = stop (code_at 0 3 s at) _ h e

  module _ {n : ℕ} (b : There (code_at 0 3 s at) s at n) where
    encoding_plain : (get_or s at 0 ≡ 3 → ⊥) → read_of (Ok n) ≡ skip (encoding_of left s at)
    unfolding encoding_of bind skip read_of pick
    encoding_plain d = go left
      where
        go : (left : ℕ) → read_of (Ok n) ≡ skip (encoding_of left s at)
        go zero = simp (b.is, ne_eqb _ _ d)
        go (suc left) = simp (b.is, ne_eqb _ _ d)

    encoding_ninth : left ≡ 0 → get_or s at 0 ≡ 3 → read_of (Err Deep) ≡ skip (encoding_of left s at)
    unfolding encoding_of bind skip read_of pick
    encoding_ninth e d = simp (e, b.is, d)

    encoding_more : (left ≡ 0 → ⊥) → get_or s at 0 ≡ 3 → skip (encoding_of (left - 1) s n) ≡ skip (encoding_of left s at)
    unfolding encoding_of bind pick
    encoding_more p d = go left p
      where
        go : (left : ℕ) → (left ≡ 0 → ⊥) → skip (encoding_of (left - 1) s n) ≡ skip (encoding_of left s at)
        go zero p = absurd (p refl)
        go (suc left) p = simp (sub-one, b.is, d) (sym (skip_ok (encoding_of left s n) delta))

-- The invariant of the loop over the codes of an encoding, of which `done` were deltas: what it answers for the one that starts here is its
-- answer t; after the ninth delta that is a refusal.
pub record Within (s : List ℕ) (here done : ℕ) (t : Parsed ⊤) : Type 0 where
  pub more : done ≤ 8 → skip (encoding_of (8 - done) s here) ≡ t
  pub deep : 8 < done → read_of (Err Deep) ≡ t

pub within_start : (s : List ℕ) (at : ℕ) → Within s at 0 (skip (encoding_at s at))
unfolding encoding_at
within_start s at = record { more = λ _. refl; deep = λ h. absurd (omega arith) }

-- i is where the code is that is read
module _ {s : List ℕ} {here done : ℕ} {t : Parsed ⊤} (w : Within s here done t) (few : done < 9) {i : ℕ} (z : i ≡ here) where
  now : skip (encoding_of (8 - done) s i) ≡ t
  now = rw z (w.more (omega arith))

  pub within_stop : {x : Read} {k : Refusal} → x ≡ Err k → read_of x ≡ skip (code_at 0 3 s i) → read_of x ≡ t
  within_stop h e = encoding_stop (8 - done) s i h e ∙ now

  module _ {n : ℕ} (b : There (code_at 0 3 s i) s i n) where
    pub within_plain : (get_or s i 0 ≡ 3 → ⊥) → read_of (Ok n) ≡ t
    within_plain d = encoding_plain (8 - done) s i b d ∙ now

    -- and m is where the next one is
    pub within_more : {m : ℕ} → m ≡ n → get_or s i 0 ≡ 3 → Within s m (done + 1) t
    within_more {m} y d = record {
      more = λ h.
          let l : 8 - (done + 1) ≡ 8 - done - 1 = omega arith in
          rw (l, y) (encoding_more (8 - done) s i b (omega arith) d ∙ now);
      deep = λ h. encoding_ninth (8 - done) s i b (omega arith) d ∙ now;
    }

-- a limit: its byte is refused; it is 0; it is 1, and a number follows
module _ (s : List ℕ) (at : ℕ) where
  pub limit_stop : {x : Read} {k : Refusal} → x ≡ Err k → read_of x ≡ skip (code_at 0 1 s at) → read_of x ≡ skip (limit_at s at)
  unfolding limit_at
  limit_stop h e = stop _ _ h e

  module _ {n : ℕ} (b : There (code_at 0 1 s at) s at n) where
    pub limit_none : get_or s at 0 ≡ 0 → read_of (Ok n) ≡ skip (limit_at s at)
    unfolding limit_at bind skip read_of pick
    limit_none e = simp (b.is, e)

    pub limit_number : (get_or s at 0 ≡ 0 → ⊥) → skip (number_at 8 s n) ≡ skip (limit_at s at)
    unfolding limit_at bind pick
    limit_number e = simp (b.is, ne_eqb _ _ e) (sym (skip_ok (number_at 8 s n) Some))

-- what starts with an ordinal and a name starts with a bare item
bare_first : {B : Type 0} (s : List ℕ) (at : ℕ) (f : ℕ → Name → ℕ → Parsed B)
    → bind (bare_at s at) (λ v n. f v.ordinal v.name n) ≡ bind (number_at 4 s at) (λ o n. bind (name_at 8 s n) (λ x m. f o x m))
unfolding bare_at bind
bare_first s at f = go (number_at 4 s at)
  where
    bare : ℕ → Name → Variant
    bare o x = record { ordinal = o; name = x; fields = []; tombstones = [] }

    name : (o : ℕ) (q : Parsed Name) → bind (bind q (λ x m. ok (bare o x) m)) (λ v n. f v.ordinal v.name n) ≡ bind q (λ x m. f o x m)
    name o (ok x m) = refl
    name o (no k) = refl

    go : (p : Parsed ℕ) → bind (bind p (λ o n. bind (name_at 8 s n) (λ x m. ok (bare o x) m))) (λ v n. f v.ordinal v.name n)
        ≡ bind p (λ o n. bind (name_at 8 s n) (λ x m. f o x m))
    go (ok o n) = name o (name_at 8 s n)
    go (no k) = refl

module _ {B : Type 0} (s : List ℕ) (at : ℕ) (f : ℕ → Name → ℕ → Parsed B) where
  bare_stop : {x : Read} {k : Refusal} → x ≡ Err k → read_of x ≡ skip (bare_at s at)
      → read_of x ≡ skip (bind (number_at 4 s at) (λ o n. bind (name_at 8 s n) (λ x m. f o x m)))
  bare_stop h e = stop (bare_at s at) _ h e ∙ ap skip (bare_first s at f)

  bare_next : {r : Parsed ⊤} {n : ℕ} → Got (bare_at s at) n → ((o : ℕ) (y : Name) → r ≡ skip (f o y n))
      → r ≡ skip (bind (number_at 4 s at) (λ o n. bind (name_at 8 s n) (λ x m. f o x m)))
  bare_next b g = next _ b (λ v. g v.ordinal v.name) ∙ ap skip (bare_first s at f)

module _ (s : List ℕ) (at : ℕ) where
  -- a bare item: its ordinal refused, or its name's answer
  pub ordinal_stop : {x : Read} {k : Refusal} → x ≡ Err k → read_of x ≡ skip (number_at 4 s at) → read_of x ≡ skip (bare_at s at)
  unfolding bare_at
  ordinal_stop h e = stop _ _ h e

  pub ordinal_name : {r : Parsed ⊤} {n : ℕ} → Got (number_at 4 s at) n → r ≡ skip (name_at 8 s n) → r ≡ skip (bare_at s at)
  unfolding bare_at
  ordinal_name {n = n} o q = next _ o (λ _. q ∙ sym (skip_ok (name_at 8 s n) _))

  -- a variant of a union: its ordinal and name refused, or its fields, or its tombstones' answer
  module _ (format : ℕ) where
    pub variant_stop : {x : Read} {k : Refusal} → x ≡ Err k → read_of x ≡ skip (bare_at s at) → read_of x ≡ skip (variant_at format s at)
    unfolding variant_at
    variant_stop h e = bare_stop s at _ h e

    module _ {n : ℕ} (b : Got (bare_at s at) n) where
      pub variant_fields : {x : Read} {k : Refusal} → x ≡ Err k → read_of x ≡ skip (counted field_at s n) → read_of x ≡ skip (variant_at format s at)
      unfolding variant_at
      variant_fields h e = bare_next s at _ b (λ o y. stop _ _ h e)

      pub variant_tombstones : {m : ℕ} → Got (counted field_at s n) m → {r : Parsed ⊤} → r ≡ skip (tombstones_at format s m) → r ≡ skip (variant_at format s at)
      unfolding variant_at
      variant_tombstones {m} f q = bare_next s at _ b (λ o y. next _ f (λ _. q ∙ sym (skip_ok (tombstones_at format s m) _)))

  -- a field: the first part refused, or the one after those that were read, or the type's answer
  pub field_stop : {x : Read} {k : Refusal} → x ≡ Err k → read_of x ≡ skip (bare_at s at) → read_of x ≡ skip (field_at s at)
  unfolding field_at
  field_stop h e = bare_stop s at _ h e

  module _ {n₁ : ℕ} (b : Got (bare_at s at) n₁) where
    pub field_marks : {x : Read} {k : Refusal} → x ≡ Err k → read_of x ≡ skip (marks_at s n₁) → read_of x ≡ skip (field_at s at)
    unfolding field_at
    field_marks h e = bare_next s at _ b (λ _ _. stop _ _ h e)

    module _ {n₂ : ℕ} (m : Got (marks_at s n₁) n₂) where
      pub field_encoding : {x : Read} {k : Refusal} → x ≡ Err k → read_of x ≡ skip (encoding_at s n₂) → read_of x ≡ skip (field_at s at)
      unfolding field_at
      field_encoding h e = bare_next s at _ b (λ _ _. next _ m (λ _. stop _ _ h e))

      module _ {n₃ : ℕ} (e : Got (encoding_at s n₂) n₃) where
        pub field_limit : {x : Read} {k : Refusal} → x ≡ Err k → read_of x ≡ skip (limit_at s n₃) → read_of x ≡ skip (field_at s at)
        unfolding field_at
        field_limit h q = bare_next s at _ b (λ _ _. next _ m (λ _. next _ e (λ _. stop _ _ h q)))

        pub field_type : {n₄ : ℕ} → Got (limit_at s n₃) n₄ → {r : Parsed ⊤} → r ≡ skip (type_at s n₄) → r ≡ skip (field_at s at)
        unfolding field_at
        field_type {n₄} l q =
            bare_next s at _ b (λ _ _.
            next _ m (λ _.
            next _ e (λ _.
            next _ l (λ _.
            q ∙ sym (skip_ok (type_at s n₄) _)))))
