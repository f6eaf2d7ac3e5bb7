-- How the code skips what it need not read: so many names, and the nodes of a type with those that are still to come. Assumes nothing.
use mathlib.Core.Path.{◌≡◌, refl, sym, ap, ◌∙◌}
use mathlib.Core.List.{List, [], ◌∷◌}
use Prim.Native.Nat.{ℕ, zero, suc, ◌+◌, ◌-◌, ◌≤◌, ◌<◌}
use native.Mathlib.Omega.{arith}
use lib.ListN.{length, drop}
use Rattle.image.specs.Schema.{Label, Ty, one, two, no_type}
use Rattle.image.specs.Parse.{Parsed, ok, no, bind, shift, within, many}
use Rattle.image.specs.Names.{name_at, names_at}
use Rattle.image.specs.Types.{Follows, code, sub_byte, identity, size, nothing, bits, unknown, follows_tag, inner_types, after_tag, label_of, inner_at, type_of, type_at}
use Rattle.image.specs.WellFormed.{Good, end_of}
use Rattle.image.specs.WellFormed.{label_in as first_label}
use Rattle.image.specs.Reads.{skip}
use Rattle.image.proofs.Laws.Sure.{Sure, sure_ok, sure_no, sure_bind, sure_then, byte_sure, code_sure, number_sure, name_sure}
use Rattle.image.proofs.Laws.Types.{inner_most}
use Rattle.image.proofs.Laws.Good.{sure_good, good_first, bind_is, many_first, many_rest, many_end}
use Rattle.parts.specs.Promise.{no_label, NameHere, name_end, NamesHere, names_end, LabelHere, label_in, label_end, TypeHere, type_end}
use Rattle.parts.proofs.Laws.Kept.{kept_good, kept_end, part_from, many_kept, within_kept, type_kept}
use Rattle.parts.proofs.Laws.Places.{many_none, many_make, many_append, many_turn, many_done}
use Rattle.parts.proofs.Laws.Labels.{label_there}
use Rattle.parts.proofs.Laws.Trees.{type_label}
use Rattle.parts.proofs.Laws.Items.{type_here, type_at_is}

-- so many names
module _ (s : List ℕ) (c at : ℕ) where
  pub names_done : c ≤ 0 → names_end s c at ≡ at
  unfolding names_end names_at
  names_done l = many_done [] (name_at 8) s c at l

  module _ (l : 0 < c) (g : NamesHere s c at) where
    pub names_first : NameHere s at
    unfolding NamesHere NameHere names_at
    names_first = many_first [] (name_at 8) c s at l g

    pub names_rest : NamesHere s (c - 1) (name_end s at)
    unfolding NamesHere name_end names_at
    names_rest = many_rest [] (name_at 8) c s at l g

    pub names_turn : (d n : ℕ) → d + 1 ≡ c → n ≡ name_end s at → NamesHere s d n × (names_end s d n ≡ names_end s c at)
    unfolding NamesHere name_end names_end names_at
    names_turn d n q e =
        let z : d ≡ c - 1 = omega arith in
        rw z (many_turn [] (name_at 8) s c at n l g e)

-- reads go forward
many_forward : {A : Type 0} (p : List ℕ → ℕ → Parsed A) (s : List ℕ) → ((at : ℕ) → Sure (λ _ n. at ≤ n) (p s at)) → (c at : ℕ) → Sure (λ _ n. at ≤ n) (many p c s at)
unfolding many
many_forward p s q zero at = let l : at ≤ at = omega arith in sure_ok l
many_forward p s q (suc c) at = sure_bind _ (q at) (λ x n i. sure_bind _ (many_forward p s q c n) (λ xs m j. sure_ok (omega arith)))

name_forward : (s : List ℕ) (at : ℕ) → Sure (λ _ n. at ≤ n) (name_at 8 s at)
name_forward s at = sure_then (name_sure 8 s at) (λ x n q. let e = q.next in omega arith)

after_forward : (tag : ℕ) (f : Follows) (s : List ℕ) (at : ℕ) → Sure (λ _ n. at ≤ n) (after_tag tag f s at)
unfolding after_tag names_at
after_forward tag (code hi) s at = sure_bind _ (code_sure 0 hi s at) (λ a n q. sure_ok (let e = q.byte.next in omega arith))
after_forward tag sub_byte s at =
    sure_bind _ (code_sure 0 1 s at) (λ a n q. sure_bind _ (code_sure 1 64 s n) (λ b m r. sure_ok (let e = q.byte.next in let d = r.byte.next in omega arith)))
after_forward tag identity s at = sure_bind _ (number_sure 4 s at) (λ a n q. sure_ok (let e = q.next in omega arith))
after_forward tag size s at = sure_bind _ (number_sure 8 s at) (λ a n q. sure_ok (let e = q.next in omega arith))
after_forward tag nothing s at = let l : at ≤ at = omega arith in sure_ok l
after_forward tag bits s at =
    sure_bind _ (byte_sure 8 s at) (λ k n q. sure_bind _ (many_forward (name_at 8) s (name_forward s) k n) (λ xs m r. sure_ok (let e = q.next in omega arith)))
after_forward tag unknown s at = sure_no

label_forward : (s : List ℕ) → Sure (λ _ n. 1 ≤ n) (label_of s)
unfolding label_of
label_forward s = sure_bind _ (byte_sure 8 s 0) (λ t n q. sure_then (after_forward t (follows_tag t) s n) (λ l m r. let e = q.next in omega arith))

pub label_longer : (s : List ℕ) (at : ℕ) → LabelHere s at → at < label_end s at
unfolding LabelHere label_end
label_longer s at g = let h = sure_good no_label (label_forward (drop at s)) g in omega arith

good_within : (p : List ℕ → Parsed Ty) (s : List ℕ) (at : ℕ) → Good (p (drop at s)) → Good (within p s at)
unfolding within shift Good
good_within p s at g = go (p (drop at s)) g
  where
    go : (q : Parsed Ty) → Good q → Good (shift at q)
    go (ok a n) g = tt
    go (no k) g = g

-- answers that end at one place
same_end : {A B : Type 0} (p : Parsed A) (q : Parsed B) → skip p ≡ skip q → Good p → Good q × (end_of q ≡ end_of p)
unfolding skip Good end_of
same_end (ok a n) (ok b m) e g = (tt, (let d : m ≡ n = cc in d))
same_end (ok a n) (no k) e g = absurd (let z : ⊥ = cc in z)
same_end (no k) q e g = absurd g

-- the inner types of a node stand one after the other, and the last one ends it
one_type : (l : Label) (q : Parsed Ty) → skip (bind q (λ t n. ok (one l t) n)) ≡ skip (bind q (λ t n. bind (ok [] n) (λ ts m. ok (t ∷ ts) m)))
unfolding skip bind
one_type l (ok t n) = refl
one_type l (no k) = refl

two_types : (l : Label) (r : ℕ → Parsed Ty) (q : Parsed Ty)
    → skip (bind q (λ t n. bind (r n) (λ u m. ok (two l t u) m)))
    ≡ skip (bind q (λ t n. bind (bind (r n) (λ u m. bind (ok [] m) (λ us k. ok (u ∷ us) k))) (λ ts m. ok (t ∷ ts) m)))
unfolding skip bind
two_types l r (ok t n) = go (r n)
  where
    go : (q : Parsed Ty) → skip (bind q (λ u m. ok (two l t u) m)) ≡ skip (bind (bind q (λ u m. bind (ok [] m) (λ us k. ok (u ∷ us) k))) (λ ts m. ok (t ∷ ts) m))
    go (ok u m) = refl
    go (no k) = refl
two_types l r (no k) = refl

inner_ends : (i : ℕ) → i ≤ 2 → (l : Label) (p : List ℕ → Parsed Ty) (s : List ℕ) (at : ℕ) → skip (inner_at i l p s at) ≡ skip (many (within p) i s at)
unfolding inner_at many skip
inner_ends zero h l p s at = refl
inner_ends (suc zero) h l p s at = one_type l (within p s at)
inner_ends (suc (suc zero)) h l p s at = two_types l (within p s) (within p s at)
inner_ends (suc (suc (suc k))) h l p s at = absurd (omega arith)

node_of : (d : ℕ) (t : List ℕ) → Good (type_of (suc d) t)
    → type_of (suc d) t ≡ inner_at (inner_types (first_label t).tag) (first_label t) (type_of d) t (end_of (label_of t))
unfolding type_of first_label
node_of d t g = bind_is no_label (label_of t) _ (good_first no_label (label_of t) _ g)

-- the inner types of a part's node, in the part and in the list that it is the end of
module _ (d : ℕ) (t : List ℕ) (g : Good (type_of (suc d) t)) where
  abbrev count : ℕ
  count = inner_types (first_label t).tag

  inner_part : Good (many (within (type_of d)) count t (end_of (label_of t))) × (end_of (many (within (type_of d)) count t (end_of (label_of t))) ≡ end_of (type_of (suc d) t))
  inner_part =
      let e = node_of d t g in
      let r = same_end _ _ (inner_ends count (inner_most _) (first_label t) (type_of d) t (end_of (label_of t))) (rw e at g) in
      (r.0, r.1 ∙ ap end_of (sym e))

module _ (s : List ℕ) (at : ℕ) (h : TypeHere 32 s at) (l : at ≤ length s) where
  pub node_inner : Good (many type_at (inner_types (label_in s at).tag) s (label_end s at)) × (end_of (many type_at (inner_types (label_in s at).tag) s (label_end s at)) ≡ type_end s at)
  unfolding label_in first_label label_end type_end type_at
  node_inner =
      let r = inner_part 31 (drop at s) h.good in
      let k = many_kept (within (type_of 31)) (within (type_of 32)) (within_kept (type_of 31) (type_of 32) (type_kept 31 32 (omega arith)) (part_from at s l)) (count 31 (drop at s) h.good) (end_of (label_of (drop at s))) in
      (kept_good k r.0, kept_end k r.0 ∙ ap (λ (n : ℕ). at + n) r.1)

-- so many types, of which the first is replaced by its inner types
pub types_start : (s : List ℕ) (at : ℕ) → TypeHere 32 s at → Good (many type_at 1 s at) × (end_of (many type_at 1 s at) ≡ type_end s at)
unfolding end_of Good type_at
types_start s at h =
    let g = good_within (type_of 32) s at h.good in
    let e = ap end_of (type_at_is s at g) in
    let n = many_none no_type type_at s (end_of (type_at s at)) in
    let r = many_make no_type type_at s 0 at g (rw n tt) in
    (r.0, r.1 ∙ ap end_of n ∙ e)

pub types_done : (s : List ℕ) (c at : ℕ) → c ≤ 0 → end_of (many type_at c s at) ≡ at
types_done s c at l = many_done no_type type_at s c at l

module _ (s : List ℕ) (c at : ℕ) (l : 0 < c) (g : Good (many type_at c s at)) where
  first : Good (type_at s at)
  first = many_first no_type type_at c s at l g

  types_first : TypeHere 32 s at
  types_first = type_here s at first

  pub types_label : LabelHere s at
  types_label = type_label s at 32 types_first

  pub types_turn : (i n : ℕ) → i ≡ inner_types (label_in s at).tag → n ≡ label_end s at
      → Good (many type_at (c - 1 + i) s n) × (end_of (many type_at (c - 1 + i) s n) ≡ end_of (many type_at c s at))
  unfolding end_of
  types_turn i n q k =
      let j = inner_types (label_in s at).tag in
      let z : c - 1 + i ≡ j + (c - 1) = omega arith in
      let t = label_there s at types_label in
      let r = node_inner s at types_first (omega arith) in
      let e : end_of (type_at s at) ≡ end_of (many type_at j s (label_end s at)) = ap end_of (type_at_is s at first) ∙ sym r.1 in
      let o = many_append no_type type_at s j (c - 1) (label_end s at) r.0 (rw e at (many_rest no_type type_at c s at l g)) in
      rw (k, z) (o.0, o.1 ∙ ap (λ (m : ℕ). end_of (many type_at (c - 1) s m)) (sym e) ∙ sym (many_end no_type type_at c s at l g))

-- what the code needs
pub ruleset names = (names_first, names_turn, names_done)

pub ruleset types = (types_done, types_label, label_longer, label_there, inner_most)
