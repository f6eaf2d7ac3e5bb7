-- Lists of changes without some kinds. A reading that reports of these kinds alone besides the clauses reports without them what the clauses
-- do; so it does where none of them is reported. Assumes nothing.
use mathlib.Core.Path.{◌≡◌, refl, sym, ap, ◌∙◌}
use mathlib.Core.Bool.{Bool, true, false, cond, not}
use mathlib.Core.List.{List, [], ◌∷◌, ◌++◌, flat_map}
use Prim.Native.Nat.{ℕ, ◌+◌}
use native.Mathlib.Omega.{arith}
use lib.Dec.{eqb}
use borrow.Author.Tests.{eqb-true}
use Rattle.maps.specs.Lists.{total, count, All, any, among}
use Rattle.maps.proofs.Lists.{all, all_map, flat_map_append}
use Rattle.maps.proofs.Tests.{no_both}
use Rattle.image.specs.Schema.{Ty}
use Rattle.rules.specs.Survivors.{View}
use Rattle.rules.specs.Changes.{Change, only}
use Rattle.rules.specs.Clauses.{Reading, clauses_by, changes}
use Rattle.rules.specs.Verdict.{count_of}
use Rattle.rules.specs.AllElse.{without}
use Rattle.rules.proofs.Unreported.{clause_kinds, none_counted, changes_other, clauses_ordinary, Of, Adds}
use Rattle.rules.proofs.Related.{Joins, Together, changes_together}

-- of none of these kinds
abbrev pub NotOf : List ℕ → Change → Type 0
NotOf kinds c = among c.kind kinds ≡ false

-- none is counted
zero_other : (j : ℕ) (cs : List Change) → count_of j cs ≡ 0 → All (λ c. eqb c.kind j ≡ false) cs
unfolding count_of count total All
zero_other j [] z = tt
zero_other j (c ∷ cs) z = go (eqb c.kind j) refl z (zero_other j cs)
  where
    go : (b : Bool) → eqb c.kind j ≡ b → cond b 1 0 + count_of j cs ≡ 0 → (count_of j cs ≡ 0 → All (λ c. eqb c.kind j ≡ false) cs)
        → (eqb c.kind j ≡ false) × All (λ c. eqb c.kind j ≡ false) cs
    go true p z ih = absurd (omega (arith, z))
    go false p z ih = (p, ih (omega (arith, z)))

pub both_all : {A : Type 0} {P Q R : A → Type 0} → ((a : A) → P a → Q a → R a) → (l : List A) → All P l → All Q l → All R l
unfolding All
both_all f [] h k = tt
both_all f (a ∷ l) h k = (f a h.0 k.0, both_all f l h.1 k.1)

pub uncounted : (kinds : List ℕ) (cs : List Change) → All (λ j. count_of j cs ≡ 0) kinds → All (NotOf kinds) cs
unfolding among any All
uncounted [] cs h = all (λ c. refl) cs
uncounted (j ∷ kinds) cs h = both_all {P = λ c. eqb c.kind j ≡ false} {Q = NotOf kinds} {R = NotOf (j ∷ kinds)} (λ c p q. rw (p, q)) cs (zero_other j cs h.0) (uncounted kinds cs h.1)

-- ---- without some kinds

module _ (kinds : List ℕ) where
  abbrev pub Alike : List Change → List Change → Type 0
  Alike cs ds = without kinds cs ≡ without kinds ds

  -- what is of these kinds is gone, and what is of none of them stays
  pub none_left : (cs : List Change) → All (Of kinds) cs → without kinds cs ≡ []
  unfolding without flat_map only All
  none_left [] h = refl
  none_left (c ∷ cs) h = rw (h.0) (none_left cs h.1)

  pub all_left : (cs : List Change) → All (NotOf kinds) cs → without kinds cs ≡ cs
  unfolding without flat_map only All
  all_left [] h = refl
  all_left (c ∷ cs) h = rw (h.0) (ap (λ l. c ∷ l) (all_left cs h.1))

  pub alike_joins : Joins Alike
  unfolding without
  alike_joins = record {
    same = λ cs. refl;
    both = λ a b c d p q. flat_map_append _ a c ∙ (rw (p, q) (sym (flat_map_append _ b d)));
  }

  -- what is of these kinds is alike, whatever it is
  pub gone_alike : (cs ds : List Change) → All (Of kinds) cs → All (Of kinds) ds → Alike cs ds
  gone_alike cs ds h k = none_left cs h ∙ sym (none_left ds k)

  -- another kind is counted as before
  pub count_without : (j : ℕ) → among j kinds ≡ false → (cs : List Change) → count_of j (without kinds cs) ≡ count_of j cs
  unfolding without flat_map only count_of count total
  count_without j e [] = refl
  count_without j e (c ∷ cs) = go (among c.kind kinds) (eqb c.kind j) refl refl (count_without j e cs)
    where
      go : (b d : Bool) → among c.kind kinds ≡ b → eqb c.kind j ≡ d → count_of j (without kinds cs) ≡ count_of j cs
          → count_of j (only (not b) c ++ without kinds cs) ≡ cond d 1 0 + count_of j cs
      go true true p q ih = no_both (rw (← eqb-true c.kind j q) p) e
      go true false p q ih = omega (arith, ih)
      go false true p q ih = rw q (omega (arith, ih))
      go false false p q ih = rw q (omega (arith, ih))

-- ---- a reading that reports of these kinds alone besides the clauses

-- which no clause reports
abbrev pub Unclaused : List ℕ → Type 0
Unclaused kinds = All (λ j. among j clause_kinds ≡ false) kinds

pub clauses_stay : (kinds : List ℕ) → Unclaused kinds → (same : Ty → Ty → Bool) (x y : View) → All (NotOf kinds) (changes (clauses_by same) x y)
clauses_stay kinds out same x y =
    uncounted kinds _ (all_map {P = λ j. among j clause_kinds ≡ false} {Q = λ j. count_of j (changes (clauses_by same) x y) ≡ 0}
    (λ j e. none_counted j _ (changes_other j e (clauses_by same) (clauses_ordinary same j) x y)) kinds out)

module _ (kinds : List ℕ) (out : Unclaused kinds) (r : Reading) (adds : Adds kinds r) where
  besides_together : Together (Alike kinds) r (clauses_by r.same)
  unfolding All
  besides_together = record {
    types = λ t u c e. refl;
    first = λ x y. gone_alike kinds _ [] (adds.first x y) tt;
    last = λ x y. gone_alike kinds _ [] (adds.last x y) tt;
    last_in = λ d v w. gone_alike kinds _ [] (adds.last_in d v w) tt;
  }

  pub clauses_left : (x y : View) → without kinds (changes r x y) ≡ changes (clauses_by r.same) x y
  clauses_left x y =
      changes_together (Alike kinds) (alike_joins kinds) r (clauses_by r.same) besides_together x y
      ∙ all_left kinds _ (clauses_stay kinds out r.same x y)

  pub without_besides : (x y : View) → All (NotOf kinds) (changes r x y) → changes r x y ≡ changes (clauses_by r.same) x y
  without_besides x y n = sym (all_left kinds (changes r x y) n) ∙ clauses_left x y
