-- Labels at places of the image, by their tags. Assumes nothing.
use mathlib.Core.Path.{◌≡◌, refl, sym, ap, ◌∙◌}
use mathlib.Core.Bool.{Bool, true, false, cond}
use mathlib.Core.List.{List, [], map}
use Prim.Native.Nat.{ℕ, zero, suc, ◌+◌, ◌≤◌, ◌<◌}
use native.Mathlib.Omega.{arith}
use borrow.Author.Tests.{eqb-true, eqb-false, leb-true}
use lib.Dec.{eqb, leb}
use lib.ListN.{length, get_or, drop, length-drop}
use lib.Seq.{get_or-drop}
use Rattle.image.specs.Codes.{number, primitive_tag, sub_byte_tag, semantic_tag, named_tag, fixed_array_tag, bits_tag}
use Rattle.image.specs.Numbers.{tag_number}
use Rattle.image.specs.declared.tags.Tag.{Tag}
use Rattle.image.specs.declared.tags.Tag.TheVariants as tag
use Rattle.image.specs.Schema.{Label, label}
use Rattle.image.specs.Parse.{Parsed, ok, bind, little_endian, byte_at, code_at, number_at}
use Rattle.image.specs.Names.{name_at, names_at}
use Rattle.image.specs.Types.{Follows, code, sub_byte, identity, size, nothing, bits, unknown, follows_tag, after_tag, label_of}
use Rattle.image.specs.WellFormed.{Good, value_or, end_of}
use Rattle.image.specs.WellFormed.{label_in as first_label}
use Rattle.image.proofs.Laws.Good.{good_first}
use Rattle.image.proofs.Laws.Trees.{label_tag}
use Rattle.image.proofs.Laws.Types.{tag_nothing}
use Rattle.parts.specs.Promise.{no_label, NamesHere, NamesListed, names_end, name_end, name_in, name_places, LabelHere, label_in, label_end, bits_in, Regular}
use Rattle.parts.proofs.Laws.Kept.{Kept, kept_good, kept_value, kept_end, part_from, byte_kept, after_kept, kept_bind}
use Rattle.parts.proofs.Laws.Steps.{good_is, then_is, then_good, byte_is, code_is, number_is}
use Rattle.parts.proofs.Laws.Places.{many_places}

-- a tag by what follows it
data Tagged : ℕ → Follows → Type 0 where
  primitive : Tagged 0 (code 13)
  sub_byte_lem : Tagged 1 sub_byte
  semantic : Tagged 2 (code 5)
  named : Tagged 3 identity
  fixed : Tagged 6 size
  of_bits_lem : Tagged 16 bits
  bare : {tag : ℕ} → (tag ≡ 0 → ⊥) → (tag ≡ 1 → ⊥) → (tag ≡ 2 → ⊥) → (tag ≡ 3 → ⊥) → (tag ≡ 6 → ⊥) → tag ≤ 15 → Tagged tag nothing
  none : {tag : ℕ} → Tagged tag unknown

either : (tag k : ℕ) (x y : Follows) → Tagged k x → ((tag ≡ k → ⊥) → Tagged tag y) → Tagged tag (cond (eqb tag k) x y)
either tag k x y t rest = go (eqb tag k) refl
  where
    go : (b : Bool) → eqb tag k ≡ b → Tagged tag (cond b x y)
    go true e = rw (eqb-true tag k e) t
    go false e = rest (eqb-false tag k e)

tagged : (tag : ℕ) → Tagged tag (follows_tag tag)
unfolding follows_tag
tagged tag =
    either tag 0 _ _ primitive (λ n₀. either tag 1 _ _ sub_byte_lem (λ n₁. either tag 2 _ _ semantic (λ n₂. either tag 3 _ _ named (λ n₃.
    either tag 6 _ _ fixed (λ n₆. either tag 16 _ _ of_bits_lem (λ _. go n₀ n₁ n₂ n₃ n₆ (leb tag 15) refl))))))
  where
    go : (tag ≡ 0 → ⊥) → (tag ≡ 1 → ⊥) → (tag ≡ 2 → ⊥) → (tag ≡ 3 → ⊥) → (tag ≡ 6 → ⊥) → (b : Bool) → leb tag 15 ≡ b → Tagged tag (cond b nothing unknown)
    go n₀ n₁ n₂ n₃ n₆ true e = bare n₀ n₁ n₂ n₃ n₆ (leb-true tag 15 e)
    go n₀ n₁ n₂ n₃ n₆ false e = none

-- what stands after a tag, at n: the label, its end, and that its bytes are there
abbrev After : Follows → ℕ → List ℕ → ℕ → Type 0
After (code most) tag s n = (after_tag tag (code most) s n ≡ ok (label tag (get_or s n 0) 0 []) (n + 1)) × (n < length s) × (get_or s n 0 ≤ most)
After sub_byte tag s n =
    (after_tag tag sub_byte s n ≡ ok (label tag (get_or s n 0) (get_or s (n + 1) 0) []) (n + 1 + 1))
    × (n + 1 < length s) × (get_or s n 0 ≤ 1) × ((1 ≤ get_or s (n + 1) 0) × (get_or s (n + 1) 0 ≤ 64))
After identity tag s n = (after_tag tag identity s n ≡ ok (label tag (little_endian 4 (drop n s)) 0 []) (n + 4)) × (n + 4 ≤ length s)
After size tag s n = (after_tag tag size s n ≡ ok (label tag (little_endian 8 (drop n s)) 0 []) (n + 8)) × (n + 8 ≤ length s)
After nothing tag s n = (after_tag tag nothing s n ≡ ok (label tag 0 0 []) n) × Unit {0}
After bits tag s n =
    (after_tag tag bits s n ≡ ok (label tag 0 0 (value_or [] (names_at 8 (get_or s n 0) s (n + 1)))) (end_of (names_at 8 (get_or s n 0) s (n + 1))))
    × (n < length s) × Good (names_at 8 (get_or s n 0) s (n + 1))
After unknown tag s n = ⊥

after : (f : Follows) (tag : ℕ) (s : List ℕ) (n : ℕ) → Good (after_tag tag f s n) → After f tag s n
unfolding after_tag Good
after (code most) tag s n g =
    let h = code_is s n 0 most (good_first 0 (code_at 0 most s n) _ g) in
    (then_is _ h.0, h.1, h.3)
after sub_byte tag s n g =
    let h = code_is s n 0 1 (good_first 0 (code_at 0 1 s n) _ g) in
    let k = code_is s (n + 1) 1 64 (good_first 0 (code_at 1 64 s (n + 1)) _ (then_good _ h.0 g)) in
    (then_is _ h.0 ∙ then_is _ k.0, k.1, h.3, (k.2, k.3))
after identity tag s n g =
    let h = number_is s n 4 (good_first 0 (number_at 4 s n) _ g) in
    (then_is _ h.0, h.1)
after size tag s n g =
    let h = number_is s n 8 (good_first 0 (number_at 8 s n) _ g) in
    (then_is _ h.0, h.1)
after nothing tag s n g = (refl, tt)
after bits tag s n g =
    let h = byte_is s n 8 (good_first 0 (byte_at 8 s n) _ g) in
    let k = good_first [] (names_at 8 (get_or s n 0) s (n + 1)) _ (then_good _ h.0 g) in
    (then_is _ h.0 ∙ then_is _ (good_is [] _ k), h.1, k)
after unknown tag s n g = g

-- the same label, read at its place in the whole list
label_at : List ℕ → ℕ → Parsed Label
label_at s at = bind (byte_at 8 s at) (λ tag n. after_tag tag (follows_tag tag) s n)

module _ (s : List ℕ) (at : ℕ) (g : LabelHere s at) where
  pub label_there : at < length s
  unfolding LabelHere
  label_there = let h = (label_tag (drop at s) g).there in let e = length-drop at s in omega arith

  moved : Kept at (label_of (drop at s)) (label_at s at)
  unfolding label_of label_at
  moved =
      let z : at + 0 ≡ at = omega arith in
      let l = label_there in
      let p = part_from at s (omega arith) in
      kept_bind _ _ (rw z at (byte_kept p 8 8 0)) (λ tag n. after_kept p tag (follows_tag tag) n)

  first : Good (label_at s at)
  unfolding LabelHere
  first = kept_good moved g

  tag_at : label_at s at ≡ after_tag (get_or s at 0) (follows_tag (get_or s at 0)) s (at + 1)
  unfolding label_at
  tag_at = then_is _ (byte_is s at 8 (good_first 0 (byte_at 8 s at) _ first)).0

  label_value : label_in s at ≡ value_or no_label (label_at s at)
  unfolding LabelHere label_in
  label_value = sym (kept_value no_label moved g)

  label_end_lem : label_end s at ≡ end_of (label_at s at)
  unfolding LabelHere label_end
  label_end_lem = sym (kept_end moved g)

  -- its tag is the first byte
  pub label_tag_is : (label_in s at).tag ≡ get_or s at 0
  unfolding LabelHere label_in first_label
  label_tag_is =
      let z : at + 0 ≡ at = omega arith in
      (label_tag (drop at s) g).tagged ∙ get_or-drop at s 0 0 ∙ ap (λ (i : ℕ). get_or s i 0) z

  -- by what follows the tag
  label_after : (f : Follows) → follows_tag (get_or s at 0) ≡ f → After f (get_or s at 0) s (at + 1)
  label_after f e = after f (get_or s at 0) s (at + 1) (rw (tag_at, e) at first)

  label_is : (f : Follows) → follows_tag (get_or s at 0) ≡ f → (l : Label) (n : ℕ) → after_tag (get_or s at 0) f s (at + 1) ≡ ok l n → (label_in s at ≡ l) × (label_end s at ≡ n)
  unfolding value_or end_of
  label_is f e l n q =
      let r = tag_at ∙ ap (λ (k : Follows). after_tag (get_or s at 0) k s (at + 1)) e ∙ q in
      (label_value ∙ ap (value_or no_label) r, label_end_lem ∙ ap end_of r)

-- what a tag has is within its values, and what it has not is 0 or empty
only_first : (t first : ℕ) → t ≤ 16 → (t ≡ 1 → ⊥) → (t ≡ 0 → first ≤ 13) → (t ≡ 2 → first ≤ 5) → (3 < t → (t ≡ 6 → ⊥) → first ≡ 0) → Regular (label t first 0 [])
only_first t _ l u p q f = record {
  most = l;
  primitive = p;
  sign = λ z. absurd (u z);
  bits = λ z. absurd (u z);
  semantic = q;
  first = f;
  second = λ _. refl;
  names = λ _. refl;
}

pub label_regular : (s : List ℕ) (at : ℕ) → LabelHere s at → Regular (label_in s at)
label_regular s at g = go (tagged (get_or s at 0)) refl refl
  where
    tag : ℕ
    tag = get_or s at 0

    by : (f : Follows) {l : Label} {n : ℕ} → follows_tag tag ≡ f → after_tag tag f s (at + 1) ≡ ok l n → Regular l → Regular (label_in s at)
    by f {l} {n} q e d = rw (label_is s at g f q l n e).0 d

    -- of a tag that has nothing but a first number, or nothing
    other : (first : ℕ) → 2 < tag → tag ≤ 15 → (3 < tag → (tag ≡ 6 → ⊥) → first ≡ 0) → Regular (label tag first 0 [])
    other first l m f = only_first tag first (omega arith) (λ z. omega arith) (λ z. absurd (omega arith)) (λ z. absurd (omega arith)) f

    go : {t : ℕ} {f : Follows} → Tagged t f → tag ≡ t → follows_tag tag ≡ f → Regular (label_in s at)
    go primitive z q =
        let p = label_after s at g (code 13) q in
        by (code 13) q p.0 (only_first tag _ (omega arith) (λ y. omega arith) (λ _. p.2) (λ y. absurd (omega arith)) (λ a b. absurd (omega arith)))
    go semantic z q =
        let p = label_after s at g (code 5) q in
        by (code 5) q p.0 (only_first tag _ (omega arith) (λ y. omega arith) (λ y. absurd (omega arith)) (λ _. p.2) (λ a b. absurd (omega arith)))
    go named z q = by identity q (label_after s at g identity q).0 (other _ (omega arith) (omega arith) (λ a b. absurd (omega arith)))
    go fixed z q = by size q (label_after s at g size q).0 (other _ (omega arith) (omega arith) (λ a b. absurd (b z)))
    go (bare n₀ n₁ n₂ n₃ n₆ l) z q = by nothing q (label_after s at g nothing q).0 (other 0 (omega arith) (omega arith) (λ a b. refl))
    go sub_byte_lem z q =
        let p = label_after s at g sub_byte q in
        by sub_byte q p.0 (record {
          most = omega arith;
          primitive = λ y. absurd (omega arith);
          sign = λ _. p.2;
          bits = λ _. p.3;
          semantic = λ y. absurd (omega arith);
          first = λ a b. absurd (omega arith);
          second = λ b. absurd (b z);
          names = λ _. refl;
        })
    go of_bits_lem z q = by bits q (label_after s at g bits q).0 (record {
      most = omega arith;
      primitive = λ y. absurd (omega arith);
      sign = λ y. absurd (omega arith);
      bits = λ y. absurd (omega arith);
      semantic = λ y. absurd (omega arith);
      first = λ a b. refl;
      second = λ _. refl;
      names = λ b. absurd (b z);
    })
    go none z q = absurd (label_after s at g unknown q)

-- the parts of a label by its tag
module _ (s : List ℕ) (at : ℕ) (g : LabelHere s at) where
  module _ (t : ℕ) (f : Follows) (e : (label_in s at).tag ≡ t) (q : follows_tag t ≡ f) where
    follows : follows_tag (get_or s at 0) ≡ f
    follows = ap follows_tag (sym (label_tag_is s at g) ∙ e) ∙ q

    pub parts : After f (get_or s at 0) s (at + 1)
    parts = label_after s at g f follows

    value : {l : Label} {n : ℕ} → after_tag (get_or s at 0) f s (at + 1) ≡ ok l n → label_in s at ≡ l
    value {l} {n} r = (label_is s at g f follows l n r).0

  pub code_part : (label_in s at).tag ≤ 2 → ((label_in s at).first ≡ get_or s (at + 1) 0) × (at + 1 < length s)
  unfolding follows_tag
  code_part l = go (label_in s at).tag l refl
    where
      go : (t : ℕ) → t ≤ 2 → (label_in s at).tag ≡ t → ((label_in s at).first ≡ get_or s (at + 1) 0) × (at + 1 < length s)
      go zero l e = let p = parts 0 (code 13) e refl in (ap (λ (x : Label). x.first) (value 0 (code 13) e refl p.0), p.1)
      go (suc zero) l e = let p = parts 1 sub_byte e refl in (ap (λ (x : Label). x.first) (value 1 sub_byte e refl p.0), (let i = p.1 in omega arith))
      go (suc (suc zero)) l e = let p = parts 2 (code 5) e refl in (ap (λ (x : Label). x.first) (value 2 (code 5) e refl p.0), p.1)
      go (suc (suc (suc k))) l e = absurd (omega arith)

  pub width_part : (label_in s at).tag ≡ 1 → ((label_in s at).second ≡ get_or s (at + 2) 0) × (at + 2 < length s)
  unfolding follows_tag
  width_part e =
      let p = parts 1 sub_byte e refl in
      let z : at + 1 + 1 ≡ at + 2 = omega arith in
      (ap (λ (x : Label). x.second) (value 1 sub_byte e refl p.0) ∙ ap (λ (i : ℕ). get_or s i 0) z, (let i = p.1 in omega arith))

  pub id_part : (label_in s at).tag ≡ 3 → ((label_in s at).first ≡ little_endian 4 (drop (at + 1) s)) × (at + 1 + 4 ≤ length s)
  unfolding follows_tag
  id_part e = let p = parts 3 identity e refl in (ap (λ (x : Label). x.first) (value 3 identity e refl p.0), p.1)

  pub size_part : (label_in s at).tag ≡ 6 → ((label_in s at).first ≡ little_endian 8 (drop (at + 1) s)) × (at + 1 + 8 ≤ length s)
  unfolding follows_tag
  size_part e = let p = parts 6 size e refl in (ap (λ (x : Label). x.first) (value 6 size e refl p.0), p.1)

  -- bits: a count and as many names
  pub count_part : (label_in s at).tag ≡ 16 → at + 1 < length s
  unfolding follows_tag
  count_part e = (parts 16 bits e refl).1

  pub bits_listed : (label_in s at).tag ≡ 16 → NamesListed s (bits_in s at) (label_in s at).names
  unfolding follows_tag NamesHere bits_in name_places name_in name_end names_at
  bits_listed e =
      let p = parts 16 bits e refl in
      let z : at + 1 + 1 ≡ at + 2 = omega arith in
      record {
        here = rw z at p.2;
        are = ap (λ (x : Label). x.names) (value 16 bits e refl p.0)
            ∙ many_places [] (name_at 8) s _ _ p.2
            ∙ ap (λ (n : ℕ). map (name_in s) (name_places s (get_or s (at + 1) 0) n)) z;
      }

-- where a label ends, by what follows its tag
abbrev pub Ended : Follows → List ℕ → ℕ → Type 0
Ended (code most) s at = (label_end s at ≡ at + 2) × (at + 2 ≤ length s)
Ended sub_byte s at = (label_end s at ≡ at + 3) × (at + 3 ≤ length s)
Ended identity s at = (label_end s at ≡ at + 5) × (at + 5 ≤ length s)
Ended size s at = (label_end s at ≡ at + 9) × (at + 9 ≤ length s)
Ended nothing s at = (label_end s at ≡ at + 1) × (at + 1 ≤ length s)
Ended bits s at = (label_end s at ≡ names_end s (get_or s (at + 1) 0) (at + 2)) × (at + 1 < length s) × NamesHere s (get_or s (at + 1) 0) (at + 2)
Ended unknown s at = ⊥

module _ (s : List ℕ) (at : ℕ) (g : LabelHere s at) where
  ends : (f : Follows) → follows_tag (get_or s at 0) ≡ f → {l : Label} {n : ℕ} → after_tag (get_or s at 0) f s (at + 1) ≡ ok l n → label_end s at ≡ n
  ends f q {l} {n} r = (label_is s at g f q l n r).1

  by_follows : (f : Follows) → follows_tag (get_or s at 0) ≡ f → Ended f s at
  unfolding NamesHere names_end
  by_follows (code most) q = let p = label_after s at g (code most) q in let e = ends (code most) q p.0 in let i = p.1 in (omega arith, omega arith)
  by_follows sub_byte q = let p = label_after s at g sub_byte q in let e = ends sub_byte q p.0 in let i = p.1 in (omega arith, omega arith)
  by_follows identity q = let p = label_after s at g identity q in let e = ends identity q p.0 in let i = p.1 in (omega arith, omega arith)
  by_follows size q = let p = label_after s at g size q in let e = ends size q p.0 in let i = p.1 in (omega arith, omega arith)
  by_follows nothing q = let p = label_after s at g nothing q in let e = ends nothing q p.0 in let i = label_there s at g in (e, omega arith)
  by_follows bits q =
      let p = label_after s at g bits q in
      let z : at + 1 + 1 ≡ at + 2 = omega arith in
      (ends bits q p.0 ∙ ap (λ (n : ℕ). end_of (names_at 8 (get_or s (at + 1) 0) s n)) z, p.1, rw z at p.2)
  by_follows unknown q = label_after s at g unknown q

  pub ended : {t : ℕ} (f : Follows) → (label_in s at).tag ≡ t → follows_tag t ≡ f → Ended f s at
  ended f e q = by_follows f (ap follows_tag (sym (label_tag_is s at g) ∙ e) ∙ q)

  -- by the tag
  pub end_primitive : (label_in s at).tag ≡ number primitive_tag → Ended (code 13) s at
  unfolding follows_tag
  end_primitive e = ended (code 13) e refl

  pub end_sub_byte : (label_in s at).tag ≡ number sub_byte_tag → Ended sub_byte s at
  unfolding follows_tag
  end_sub_byte e = ended sub_byte e refl

  pub end_semantic : (label_in s at).tag ≡ number semantic_tag → Ended (code 5) s at
  unfolding follows_tag
  end_semantic e = ended (code 5) e refl

  pub end_named : (label_in s at).tag ≡ number named_tag → Ended identity s at
  unfolding follows_tag
  end_named e = ended identity e refl

  pub end_fixed : (label_in s at).tag ≡ number fixed_array_tag → Ended size s at
  unfolding follows_tag
  end_fixed e = ended size e refl

  pub end_bits : (label_in s at).tag ≡ number bits_tag → Ended bits s at
  unfolding follows_tag
  end_bits e = ended bits e refl

  pub end_other : (t : Tag) → tag_number t ≡ (label_in s at).tag → (t ≡ tag.Primitive → ⊥) → (t ≡ tag.SubByte → ⊥) → (t ≡ tag.Semantic → ⊥) → (t ≡ tag.Named → ⊥)
      → (t ≡ tag.FixedArray → ⊥) → (t ≡ tag.Bits → ⊥) → Ended nothing s at
  end_other t e a b c d f h = ended nothing (sym e) (tag_nothing t a b c d f h)

-- what the code needs
pub ruleset labels = (label_there, label_tag_is, label_regular)

pub ruleset label_parts = (code_part, width_part, id_part, size_part, count_part)

pub ruleset label_ends = (end_primitive, end_sub_byte, end_semantic, end_named, end_fixed, end_bits)
