-- R-10: what is reported of the numbers that a body strikes off, by what specs/Tombstones says of it (`StruckOff`), and as what a reading
-- reports besides the clauses: it is chained, Major of a body and itself if that uses what it strikes off, and counted under its own kinds
-- alone. Assumes nothing.
use mathlib.Core.Path.{◌≡◌, refl, sym, ap, ◌∙◌}
use mathlib.Core.Bool.{Bool, true, false, cond, not, ◌&&◌, ◌||◌, or-false, or-true}
use mathlib.Core.Logic.{◌⊎◌, inl, inr}
use mathlib.Core.List.{List, [], ◌∷◌, flat_map}
use Prim.Native.Nat.{ℕ}
use native.Mathlib.Omega.{arith}
use lib.Dec.{eqb}
use borrow.Author.Tests.{eqb-true}
use Rattle.std.proofs.lemmas.Bool.{false_from_ne_true}
use Rattle.maps.specs.Lists.{largest, total, count, All, any, among}
use Rattle.maps.proofs.Lists.{all, all_map, largest_same, largest_flat_map, total_same, total_flat_map, count_append}
use Rattle.maps.proofs.Orders.{by_number}
use Rattle.maps.proofs.Survivors.{rising}
use Rattle.maps.proofs.Levels.{Chained, chained_small}
use Rattle.maps.proofs.Reorderings.{In, all_listed}
use Rattle.maps.proofs.Any.{any_each, any_same, any_or, any_in, any_found, any_survivors, largest_any, among_in, among_survivors}
use Rattle.maps.proofs.Tests.{no_both}
use Rattle.image.specs.Schema.{Name}
use Rattle.rules.specs.Survivors.{ordinal_of, field_map, variant_ordinal, variant_map}
use Rattle.rules.specs.Changes.{major, level, Change, only, kind_at, TombstoneReused, TombstoneDropped}
use Rattle.rules.specs.Verdict.{bump_of, count_of}
use Rattle.rules.specs.Tombstones.{rising_numbers, used_by_fields, used_by_variants, used, reused, dropped, compare_struck, compare_last, compare_last_in, uses, Breaks, NotHidden, Struck, StruckOff}
use Rattle.rules.proofs.Equal.{numbers}
use Rattle.rules.proofs.Mirror.{exchange, mirror, mirror_test, one_way, apart}
use Rattle.rules.proofs.Readings.{level_of, Besides, OneKind, AnyTwo}
use Rattle.rules.proofs.Chain.{first_major, second_major}
use Rattle.rules.proofs.Self.{score, then_score}
use Rattle.rules.proofs.Unreported.{all_append, all_flat_map, only_all, Of, Other, none_counted}

rising_any : (p : ℕ → Bool) (l : List ℕ) → any p (rising_numbers l) ≡ any p l
unfolding rising_numbers
rising_any p l = any_survivors (λ n. n) by_number p l

-- ---- of which numbers something is reported: those that the new side uses, or strikes off no more

unfoldable told : List ℕ → List ℕ → ℕ → Bool
told new_used new_struck n = among n new_used || not (among n new_struck)

told_by : (u t : List ℕ) (n : ℕ) → (among n u || (not (among n u) && not (among n t))) ≡ told u t n
unfolding told
told_by u t n = go (among n u)
  where
    go : (a : Bool) → (a || (not a && not (among n t))) ≡ (a || not (among n t))
    go true = refl
    go false = refl

-- if a number that is struck off is told, then one is, and the other way
told_any : (s u t : List ℕ) (n : ℕ) → among n s ≡ true → told u t n ≡ true → any (told u t) s ≡ true
unfolding among
told_any s u t n a e = let f = any_found (eqb n) s a in any_in (told u t) f.1 (rw (← eqb-true n f.0 f.2) e)

-- so of three either the second strikes it off, and it is told from there, or it is told to there
told_on : (s u t v w : List ℕ) → any (told v w) s ≡ true → (any (told u t) s ≡ true) ⊎ (any (told v w) t ≡ true)
unfolding told
told_on s u t v w e = let f = any_found (told v w) s e in go f.0 f.1 f.2 (among f.0 t) refl
  where
    go : (n : ℕ) → In n s → told v w n ≡ true → (b : Bool) → among n t ≡ b → (any (told u t) s ≡ true) ⊎ (any (told v w) t ≡ true)
    go n i h true p = inr (told_any t v w n p h)
    go n i h false p = inl (any_in (told u t) i (rw p (or-true (among n u))))

-- ---- what is reported is Major

only_level : (test : Bool) (c : Change) → c.bump ≡ major → largest level_of (only test c) ≡ score test
unfolding only largest level
only_level true c m = omega (arith, ap level m)
only_level false c m = refl

each_level : (f : ℕ → List Change) (p : ℕ → Bool) → ((n : ℕ) → largest level_of (f n) ≡ score (p n)) → (l : List ℕ)
    → largest level_of (flat_map f l) ≡ score (any p l)
each_level f p h l = largest_flat_map f level_of l ∙ largest_same _ _ l (all h l) ∙ largest_any p l

-- 2 if something is told, else 0
struck_level : (d : Name) (s u t : List ℕ) → largest level_of (compare_struck d s u t) ≡ score (any (told u t) s)
unfolding compare_struck reused dropped
struck_level d s u t =
    then_score _ _ (flat_map (reused d u) (rising_numbers s)) (flat_map (dropped d u t) (rising_numbers s))
    (each_level (reused d u) (λ n. among n u) (λ n. only_level _ _ refl) (rising_numbers s))
    (each_level (dropped d u t) (λ n. not (among n u) && not (among n t)) (λ n. only_level _ _ refl) (rising_numbers s))
    ∙ ap score
    (sym (any_or (λ n. among n u) (λ n. not (among n u) && not (among n t)) (rising_numbers s))
    ∙ any_same _ (told u t) (told_by u t) (rising_numbers s)
    ∙ rising_any (told u t) s)

module _ (P : Change → Type 0) where
  -- what all changes of the two kinds have, all that are reported have
  pub struck_all : (d : Name) → ((u : List ℕ) (n : ℕ) → All P (reused d u n)) → ((u t : List ℕ) (n : ℕ) → All P (dropped d u t n)) → (s u t : List ℕ)
      → All P (compare_struck d s u t)
  unfolding compare_struck
  struck_all d p q s u t =
      all_append P _ _ (all_flat_map P (reused d u) (p u) (rising_numbers s)) (all_flat_map P (dropped d u t) (q u t) (rising_numbers s))

struck_major : (d : Name) (s u t : List ℕ) → All (λ c. c.bump ≡ major) (compare_struck d s u t)
unfolding reused dropped
struck_major d = struck_all _ d (λ u n. only_all _ _ _ refl) (λ u t n. only_all _ _ _ refl)

majors_none : (cs : List Change) → All (λ c. c.bump ≡ major) cs → largest level_of cs ≡ 0 → cs ≡ []
unfolding All largest level
majors_none [] h z = refl
majors_none (c ∷ cs) h z = absurd (omega (arith, ap level h.0, z))

-- ---- where nothing is told nothing is reported, and only there

module _ (d : Name) (s u t : List ℕ) where
  untold : any (told u t) s ≡ false → compare_struck d s u t ≡ []
  untold e = majors_none _ (struck_major d s u t) (struck_level d s u t ∙ ap score e)

  breaks : any (told u t) s ≡ true → Breaks (compare_struck d s u t)
  unfolding bump_of level
  breaks e = struck_level d s u t ∙ ap score e

  -- a number that is struck off and used
  pub reuse_breaks : (n : ℕ) → among n s ≡ true → among n u ≡ true → Breaks (compare_struck d s u t)
  unfolding told
  reuse_breaks n a b = breaks (told_any s u t n a (rw b))

  abbrev Still : Type 0
  Still = (n : ℕ) → among n s ≡ true → (among n u ≡ false) × (among n t ≡ true)

  silent_still : compare_struck d s u t ≡ [] → Still
  unfolding told largest
  silent_still e n a = go (among n u) (among n t) (told_any s u t n a) (sym (struck_level d s u t) ∙ ap (largest level_of) e)
    where
      go : (b c : Bool) → ((b || not c) ≡ true → any (told u t) s ≡ true) → score (any (told u t) s) ≡ 0 → (b ≡ false) × (c ≡ true)
      go true c h z = absurd (omega (arith, ap score (h refl), z))
      go false true h z = (refl, refl)
      go false false h z = absurd (omega (arith, ap score (h refl), z))

  still_silent : Still → compare_struck d s u t ≡ []
  unfolding told
  still_silent h = untold (false_from_ne_true _ (λ e. go (any_found (told u t) s e)))
    where
      go : (n : ℕ) × In n s × (told u t n ≡ true) → ⊥
      go f = let q = h f.0 (among_in f.1) in no_both f.2 (rw (q.0, q.1))

-- of a body and itself: what it strikes off it does not drop
struck_self : (d : Name) (s u : List ℕ) → largest level_of (compare_struck d s u s) ≡ cond (uses s u) 2 0
unfolding uses told
struck_self d s u =
    struck_level d s u s
    ∙ ap score (any_each (told u s) (λ n. among n u) s
    (all_map {P = λ n. In n s} {Q = λ n. told u s n ≡ among n u} (λ n i. rw (among_in i) (or-false (among n u))) s (all_listed s)))

-- ---- how often a kind is reported: once for each number that passes its test

count_only : (j : ℕ) (test : Bool) (c : Change) → c.kind ≡ j → count_of j (only test c) ≡ cond test 1 0
unfolding only count_of count total
count_only j true c e = rw (e, numbers.self j) (omega arith)
count_only j false c e = refl

count_each : (j : ℕ) (f : ℕ → List Change) (p : ℕ → Bool) → ((n : ℕ) → count_of j (f n) ≡ cond (p n) 1 0) → (l : List ℕ)
    → count_of j (flat_map f l) ≡ count p l
unfolding count_of count
count_each j f p h l = total_flat_map f (λ c. cond (eqb c.kind j) 1 0) l ∙ total_same _ _ l (all h l)

module _ (d : Name) (s u t : List ℕ) where
  -- of the two parts, the one has none of the other's kind
  abbrev ReusedPart : List Change
  ReusedPart = flat_map (reused d u) (rising_numbers s)

  abbrev DroppedPart : List Change
  DroppedPart = flat_map (dropped d u t) (rising_numbers s)

  reused_counted : count_of (kind_at TombstoneReused) (compare_struck d s u t) ≡ count (λ n. among n u) (rising_numbers s)
  unfolding compare_struck reused dropped count_of
  reused_counted =
      omega (
        arith,
        count_append (λ c. eqb c.kind (kind_at TombstoneReused)) ReusedPart DroppedPart,
        count_each (kind_at TombstoneReused) (reused d u) (λ n. among n u) (λ n. count_only _ _ _ refl) (rising_numbers s),
        none_counted (kind_at TombstoneReused) DroppedPart
            (all_flat_map (Other (kind_at TombstoneReused)) (dropped d u t) (λ n. only_all (Other (kind_at TombstoneReused)) _ _ refl) (rising_numbers s)),
      )

  dropped_counted : count_of (kind_at TombstoneDropped) (compare_struck d s u t)
      ≡ count (λ n. not (among n u || among n t)) (rising_numbers s)
  unfolding compare_struck reused dropped count_of
  dropped_counted =
      omega (
        arith,
        count_append (λ c. eqb c.kind (kind_at TombstoneDropped)) ReusedPart DroppedPart,
        none_counted (kind_at TombstoneDropped) ReusedPart
            (all_flat_map (Other (kind_at TombstoneDropped)) (reused d u) (λ n. only_all (Other (kind_at TombstoneDropped)) _ _ refl) (rising_numbers s)),
        count_each (kind_at TombstoneDropped) (dropped d u t) (λ n. not (among n u || among n t))
            (λ n. count_only _ _ _ refl ∙ ap (λ b. cond b 1 0) (neither (among n u) (among n t))) (rising_numbers s),
      )
    where
      neither : (a b : Bool) → (not a && not b) ≡ not (a || b)
      neither true b = refl
      neither false b = refl

-- ---- what specs/Tombstones says of it: of things, by what they strike off and use, and by a name of what is reported of two

module _ {E : Type 0} (name : E → Name) (strikes used_by : E → List ℕ) where
  abbrev report : E → E → List Change
  report x y = compare_struck (name x) (strikes x) (used_by y) (strikes y)

  module _ (x y z : E) where
    steps : any (told (used_by z) (strikes z)) (strikes x) ≡ true → Breaks (report x y) ⊎ Breaks (report y z)
    steps p = turn (told_on (strikes x) (used_by y) (strikes y) (used_by z) (strikes z) p)
      where
        turn : (any (told (used_by y) (strikes y)) (strikes x) ≡ true) ⊎ (any (told (used_by z) (strikes z)) (strikes y) ≡ true)
            → Breaks (report x y) ⊎ Breaks (report y z)
        turn (inl q) = inl (breaks (name x) (strikes x) (used_by y) (strikes y) q)
        turn (inr q) = inr (breaks (name y) (strikes y) (used_by z) (strikes z) q)

    not_hidden_lem : NotHidden report strikes used_by x y z
    unfolding told
    not_hidden_lem = record {
      reuse = λ n a b. steps (told_any (strikes x) (used_by z) (strikes z) n a (rw b));
      anything = λ h. go (any (told (used_by z) (strikes z)) (strikes x)) refl h;
    }
      where
        go : (b : Bool) → any (told (used_by z) (strikes z)) (strikes x) ≡ b → (report x z ≡ [] → ⊥) → Breaks (report x y) ⊎ Breaks (report y z)
        go true p h = steps p
        go false p h = absurd (h (untold (name x) (strikes x) (used_by z) (strikes z) p))

  struck_lem : Struck report strikes used_by
  unfolding bump_of level
  struck_lem = record {
    times_reused = λ x y. reused_counted (name x) (strikes x) (used_by y) (strikes y);
    times_dropped = λ x y. dropped_counted (name x) (strikes x) (used_by y) (strikes y);
    silent = λ x y. (
      silent_still (name x) (strikes x) (used_by y) (strikes y),
      still_silent (name x) (strikes x) (used_by y) (strikes y),
    );
    not_hidden = not_hidden_lem;
    itself = λ x. struck_self (name x) (strikes x) (used_by x);
  }

pub struck_off : StruckOff
unfolding compare_last compare_last_in rising_numbers used_by_fields field_map used_by_variants variant_map among
struck_off = record {
  declarations = struck_lem (λ d. d.name) (λ d. d.tombstones) used;
  variants = λ d. struck_lem (λ v. d) (λ v. v.tombstones) (λ v. used_by_fields v.fields);
  rising = rising (λ n. n) by_number;
  listed = λ n l. rising_any (eqb n) l;
  uses = record { fields = among_survivors ordinal_of; variants = among_survivors variant_ordinal };
}

-- ---- what a reading reports besides the clauses

struck_chained : (b : ℕ) (c d e : Name) (s u t v w : List ℕ)
    → Chained level_of b (compare_struck c s u t) (compare_struck d t v w) (compare_struck e s v w)
struck_chained b c d e s u t v w = go (any (told v w) s) refl
  where
    on : (any (told u t) s ≡ true) ⊎ (any (told v w) t ≡ true) → Chained level_of b (compare_struck c s u t) (compare_struck d t v w) (compare_struck e s v w)
    on (inl q) = first_major (omega (arith, struck_level c s u t ∙ ap score q))
    on (inr q) = second_major (omega (arith, struck_level d t v w ∙ ap score q))

    go : (a : Bool) → any (told v w) s ≡ a → Chained level_of b (compare_struck c s u t) (compare_struck d t v w) (compare_struck e s v w)
    go true p = on (told_on s u t v w p)
    go false p = chained_small (omega (arith, struck_level e s v w ∙ ap score p))

-- none of another kind
pub struck_other : (j : ℕ) → eqb (kind_at TombstoneReused) j ≡ false → eqb (kind_at TombstoneDropped) j ≡ false → (d : Name) (s u t : List ℕ)
    → All (Other j) (compare_struck d s u t)
unfolding reused dropped
struck_other j p q d = struck_all _ d (λ u n. only_all (Other j) _ _ p) (λ u t n. only_all (Other j) _ _ q)

pub struck_of : (kinds : List ℕ) → among (kind_at TombstoneReused) kinds ≡ true → among (kind_at TombstoneDropped) kinds ≡ true → (d : Name)
    → (s u t : List ℕ) → All (Of kinds) (compare_struck d s u t)
unfolding reused dropped
struck_of kinds p q d = struck_all _ d (λ u n. only_all (Of kinds) _ _ p) (λ u t n. only_all (Of kinds) _ _ q)

-- and so under a kind that is counted both ways it is counted neither way
struck_swap : (j : ℕ) → one_way j ≡ false → (d e : Name) (s u t s′ u′ t′ : List ℕ)
    → count_of j (compare_struck d s u t) ≡ count_of (mirror j) (compare_struck e s′ u′ t′)
unfolding one_way mirror exchange
struck_swap j b d e s u t s′ u′ t′ =
    let p : eqb (kind_at TombstoneReused) j ≡ false = apart j (kind_at TombstoneReused) b refl in
    let q : eqb (kind_at TombstoneDropped) j ≡ false = apart j (kind_at TombstoneDropped) b refl in
    none_counted j _ (struck_other j p q d s u t)
    ∙ sym (none_counted (mirror j) _
    (struck_other (mirror j) (sym (mirror_test (kind_at TombstoneReused) j) ∙ p) (sym (mirror_test (kind_at TombstoneDropped) j) ∙ q) e s′ u′ t′))

-- of two declarations of one kind, and of two variants
pub last_besides : Besides OneKind (λ d. compare_last) (λ x. uses x.tombstones (used x))
unfolding compare_last
last_besides = record {
  chained = λ b c d e x y z p q. struck_chained b _ _ _ x.tombstones (used y) y.tombstones (used z) z.tombstones;
  self = λ d x. struck_self x.name x.tombstones (used x);
  swap = λ j o d e x y p. struck_swap j o _ _ x.tombstones (used y) y.tombstones y.tombstones (used x) x.tombstones;
}

pub last_in_besides : Besides AnyTwo compare_last_in (λ v. uses v.tombstones (used_by_fields v.fields))
unfolding compare_last_in
last_in_besides = record {
  chained = λ b c d e v w x p q.
      struck_chained b c d e v.tombstones (used_by_fields w.fields) w.tombstones (used_by_fields x.fields) x.tombstones;
  self = λ d v. struck_self d v.tombstones (used_by_fields v.fields);
  swap = λ j o d e v w p.
      struck_swap j o d e v.tombstones (used_by_fields w.fields) w.tombstones w.tombstones (used_by_fields v.fields) v.tombstones;
}
