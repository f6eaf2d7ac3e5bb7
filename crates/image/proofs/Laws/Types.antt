-- Labels and types: what the code's answers say of them. Assumes nothing.
use mathlib.Core.Path.{◌≡◌, refl, sym, ap, ◌∙◌}
use mathlib.Core.Bool.{Bool, true, false, cond, ◌&&◌}
use mathlib.Core.List.{List}
use Prim.Native.Nat.{ℕ, zero, suc, ◌+◌, ◌-◌, ◌≤◌, ◌<◌}
use native.Mathlib.Omega.{arith}
use native.Mathlib.Numerals.{sub-one}
use borrow.Author.Tests.{leb-true, leb-false, lt-ltb, lt-leb, ne_eqb}
use lib.ListN.{length, get_or, take, drop, length-drop}
use lib.Seq.{take_all}
use lib.Dec.{leb, eqb}
use Rattle.image.specs.Schema.{Label, Ty}
use Rattle.image.specs.Parse.{Parsed, ok, no, bind, pick, within, byte_at}
use Rattle.image.specs.Names.{names_at}
use Rattle.image.specs.Types.{Follows, nothing, bits, unknown, follows_tag, inner_types, after_tag, label_of, inner_at, type_of}
use Rattle.image.specs.Reads.{skip, Read, read_of}
use Rattle.image.proofs.Laws.Answers.{Got, got, next, next_is, stop, skip_ok, within_at, within_no}
use Rattle.image.proofs.Laws.Sure.{sure_at, sure_got, label_sure, type_sure}
use Rattle.image.proofs.Laws.Numbers.{There}
use Rattle.std.specs.Prelude.{Ok, Err, ⊤}
use Rattle.image.specs.Numbers.{tag_number}
use Rattle.image.specs.declared.tags.Tag.{Tag}
use Rattle.image.specs.declared.tags.Tag.TheVariants as tag
use Rattle.image.specs.declared.refusals.Refusal.{Refusal}
use Rattle.image.specs.declared.refusals.Refusal.TheVariants.{Code, Deep}

-- what is read of `&s[n..]` is read of the part that starts at n
pub from_start : {A : Type 0} (p : List ℕ → Parsed A) (s : List ℕ) (n : ℕ) {x : Parsed ⊤} → x ≡ skip (p (take (length s - n) (drop n s)))
    → x ≡ skip (p (drop n s))
from_start p s n h =
    h ∙ ap (λ (l : List ℕ). skip (p l)) (take_all (length s - n) (drop n s) (let e = length-drop n s in omega arith))

-- a label whose tag is t, by what follows t
pub label_by : (s : List ℕ) {n : ℕ} {x : Parsed ⊤} (t : ℕ) (f : Follows) → There (byte_at 8 s 0) s 0 n → get_or s 0 0 ≡ t → follows_tag t ≡ f
    → x ≡ skip (after_tag t f s n) → x ≡ skip (label_of s)
unfolding label_of bind
label_by s t f b k q e = simp (b.is, k, q) e

-- at most two inner types
pub inner_most : (tag : ℕ) → inner_types tag ≤ 2
unfolding inner_types
inner_most tag = go (leb 4 tag && leb tag 15) (leb 8 tag && leb tag 9)
  where
    go : (a b : Bool) → cond a (cond b 2 1) 0 ≤ 2
    go true true = omega arith
    go true false = omega arith
    go false b = omega arith

pub follows_unknown : (tag : ℕ) → (tag ≡ 16 → ⊥) → 15 < tag → follows_tag tag ≡ unknown
unfolding follows_tag
follows_unknown tag f h =
    let ne : (k : ℕ) → k ≤ 15 → eqb tag k ≡ false = λ k l. ne_eqb tag k (omega arith) in
    rw (ne 0 (omega arith), ne 1 (omega arith), ne 2 (omega arith), ne 3 (omega arith), ne 6 (omega arith), ne_eqb tag 16 f, lt-leb tag 15 h)

-- bits: a count and as many names
pub bits_as : (s : List ℕ) (at : ℕ) {n : ℕ} {x : Parsed ⊤} → There (byte_at 8 s at) s at n → x ≡ skip (names_at 8 (get_or s at 0) s n)
    → x ≡ skip (after_tag 16 bits s at)
unfolding after_tag
bits_as s at {n} b e = next_is _ b.is (e ∙ sym (skip_ok (names_at 8 (get_or s at 0) s n) _))

-- how many inner types: those of a tag that stands for a number
pub tagged : {i k n : ℕ} → i ≡ inner_types k → k ≡ n → i ≡ inner_types n
tagged e q = e ∙ ap inner_types q

-- the number that a tag was read from
pub tag_is : {t u : Tag} {n : ℕ} → tag_number t ≡ n → t ≡ u → n ≡ tag_number u
tag_is e q = sym e ∙ ap tag_number q

-- what follows the other tags, and what follows no tag
pub tag_nothing : (t : Tag) → (t ≡ tag.Primitive → ⊥) → (t ≡ tag.SubByte → ⊥) → (t ≡ tag.Semantic → ⊥) → (t ≡ tag.Named → ⊥)
    → (t ≡ tag.FixedArray → ⊥) → (t ≡ tag.Bits → ⊥) → follows_tag (tag_number t) ≡ nothing
unfolding follows_tag
tag_nothing tag.Primitive a b c d e f = absurd (a refl)
tag_nothing tag.SubByte a b c d e f = absurd (b refl)
tag_nothing tag.Semantic a b c d e f = absurd (c refl)
tag_nothing tag.Named a b c d e f = absurd (d refl)
tag_nothing tag.Optional a b c d e f = refl
tag_nothing tag.Array a b c d e f = refl
tag_nothing tag.FixedArray a b c d e f = absurd (e refl)
tag_nothing tag.Set a b c d e f = refl
tag_nothing tag.Map a b c d e f = refl
tag_nothing tag.Result a b c d e f = refl
tag_nothing tag.Vec2 a b c d e f = refl
tag_nothing tag.Vec3 a b c d e f = refl
tag_nothing tag.Vec4 a b c d e f = refl
tag_nothing tag.Quat a b c d e f = refl
tag_nothing tag.Mat3 a b c d e f = refl
tag_nothing tag.Mat4 a b c d e f = refl
tag_nothing tag.Bits a b c d e f = absurd (f refl)

pub tag_unknown : (s : List ℕ) {n : ℕ} → There (byte_at 8 s 0) s 0 n → 16 < get_or s 0 0 → read_of (Err Code) ≡ skip (label_of s)
unfolding read_of skip after_tag
tag_unknown s b h = label_by s _ unknown b refl (follows_unknown (get_or s 0 0) (omega arith) (omega arith)) refl

-- a type that is refused before its tag is read, or by its label
pub type_deep : (d : ℕ) (s : List ℕ) → d ≡ 0 → read_of (Err Deep) ≡ skip (type_of d s)
unfolding type_of skip read_of
type_deep d s e = rw e

pub type_stop : (d : ℕ) (s : List ℕ) {x : Read} {k : Refusal} → (d ≡ 0 → ⊥) → x ≡ Err k → read_of x ≡ skip (label_of s) → read_of x ≡ skip (type_of d s)
unfolding type_of
type_stop zero s p h e = absurd (p refl)
type_stop (suc d) s p h e = stop (label_of s) _ h e

-- a type whose label was read goes on with its inner types
pub type_label : (d : ℕ) (s : List ℕ) {x : Read} {r : Parsed ⊤} {n : ℕ} → (d ≡ 0 → ⊥) → x ≡ Ok n → read_of x ≡ skip (label_of s)
    → ((l : Label) → r ≡ skip (inner_at (inner_types (get_or s 0 0)) l (type_of (d - 1)) s n)) → r ≡ skip (type_of d s)
unfolding type_of
type_label zero s p h e g = absurd (p refl)
type_label (suc d) s {n = n} p h e g =
    let (l, q, r) = sure_at (label_sure s) h e in
    next_is _ q (rw sub-one at (g l) ∙ ap (λ (tag : ℕ). skip (inner_at (inner_types tag) l (type_of d) s n)) (sym r.tagged))

-- a label that was read has a tag
pub label_most : (s : List ℕ) {x : Read} {n : ℕ} → x ≡ Ok n → read_of x ≡ skip (label_of s) → get_or s 0 0 ≤ 16
unfolding label_of after_tag bind byte_at pick
label_most s {n = n} h e = go (leb (get_or s 0 0) 16) refl (got h e)
  where
    go : (b : Bool) → leb (get_or s 0 0) 16 ≡ b → Got (label_of s) n → get_or s 0 0 ≤ 16
    go true q g = leb-true _ _ q
    go false q g =
        let l = (sure_got (label_sure s) g).there in
        let t : 16 < get_or s 0 0 = leb-false _ _ q in
        let u : label_of s ≡ no 9 = rw (lt-ltb 0 (length s) l, follows_unknown (get_or s 0 0) (omega arith) (omega arith)) refl in
        absurd (let z : ◌≡◌ {A = Parsed Label} (no 9) (ok g.value n) = sym u ∙ g.is in let v : ⊥ = cc in v)

-- where a label ends
pub label_within : (s : List ℕ) {x : Read} {n : ℕ} → x ≡ Ok n → read_of x ≡ skip (label_of s) → (0 < length s) × (n ≤ length s)
label_within s h e =
    let (l, q, r) = sure_at (label_sure s) h e in
    (r.there, r.inside)

-- where an inner type ends
pub inner_within : (d : ℕ) (s : List ℕ) (at : ℕ) {x : Read} {n : ℕ} → at ≤ length s → x ≡ Ok n → read_of x ≡ skip (type_of d (drop at s))
    → at + n ≤ length s
inner_within d s at l h e =
    let (t, q, r) = sure_at (type_sure d (drop at s)) h e in
    let z = length-drop at s in
    omega arith

-- the inner types: none; the first refused; one; the second refused; two
module _ (i : ℕ) (l : Label) (p : List ℕ → Parsed Ty) (s : List ℕ) (at : ℕ) where
  pub inner_none : i ≡ 0 → read_of (Ok at) ≡ skip (inner_at i l p s at)
  unfolding inner_at skip read_of
  inner_none e = rw e

  pub inner_stop : {x : Read} {k : Refusal} → (i ≡ 0 → ⊥) → x ≡ Err k → read_of x ≡ skip (p (drop at s)) → read_of x ≡ skip (inner_at i l p s at)
  unfolding inner_at
  inner_stop {x} f h e = go i f
    where
      go : (j : ℕ) → (j ≡ 0 → ⊥) → read_of x ≡ skip (inner_at j l p s at)
      go zero f = absurd (f refl)
      go (suc zero) f = stop _ _ h (within_no p s at h e)
      go (suc (suc j)) f = stop _ _ h (within_no p s at h e)

  pub inner_one : {x : Read} {n : ℕ} → i ≡ 1 → x ≡ Ok n → read_of x ≡ skip (p (drop at s)) → read_of (Ok (at + n)) ≡ skip (inner_at i l p s at)
  unfolding inner_at
  inner_one {x} {n} q h e = rw q (within_at p s at h e ∙ sym (skip_ok _ _))

  module _ {x : Read} {n : ℕ} (f : i ≡ 0 → ⊥) (g : i ≡ 1 → ⊥) (h : x ≡ Ok n) (e : read_of x ≡ skip (p (drop at s))) where
    inner_second : {r : Parsed ⊤} → r ≡ skip (within p s (at + n)) → r ≡ skip (inner_at i l p s at)
    unfolding inner_at
    inner_second {r} e' = go i f g
      where
        go : (j : ℕ) → (j ≡ 0 → ⊥) → (j ≡ 1 → ⊥) → r ≡ skip (inner_at j l p s at)
        go zero f g = absurd (f refl)
        go (suc zero) f g = absurd (g refl)
        go (suc (suc j)) f g =
            next _ (got refl (within_at p s at h e)) (λ t. e' ∙ sym (skip_ok (within p s (at + n)) _))

    pub inner_two_stop : {y : Read} {k : Refusal} → y ≡ Err k → read_of y ≡ skip (p (drop (at + n) s)) → read_of y ≡ skip (inner_at i l p s at)
    inner_two_stop h' e' = inner_second (within_no p s (at + n) h' e')

    pub inner_two : {y : Read} {m : ℕ} → y ≡ Ok m → read_of y ≡ skip (p (drop (at + n) s)) → read_of (Ok (at + n + m)) ≡ skip (inner_at i l p s at)
    inner_two h' e' = inner_second (within_at p s (at + n) h' e')
