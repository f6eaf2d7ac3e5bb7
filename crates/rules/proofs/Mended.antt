-- R-5: the three answers of the type comparison, and the mended verdict, which R-6 and R-10 add to: where it is that of document 01, and its
-- bound and distance rule, by the laws over any reading. Assumes nothing.
use mathlib.Core.Path.{◌≡◌, refl, sym, ap, ◌∙◌, subst}
use mathlib.Core.Bool.{Bool, true, false, not, ◌&&◌, ◌||◌, and-false, false≢true}
use mathlib.Core.Logic.{⊎_elim, ◌↔◌}
use mathlib.Core.List.{List, [], ◌∷◌}
use Rattle.std.specs.Prelude.{Option, None, Some}
use Rattle.std.proofs.lemmas.Option.{none-some}
use Prim.Native.Nat.{◌+◌}
use native.Mathlib.Omega.{arith}
use borrow.Author.Tests.{ltb-true}
use lib.Dec.{ltb}
use Rattle.maps.specs.Lists.{All, any, among}
use Rattle.maps.proofs.Any.{any_never, none_in}
use Rattle.image.specs.Schema.{Ty, Schema}
use Rattle.image.specs.Codes.{number, mixed_refusal, both_sides}
use Rattle.image.specs.Parse.{Parsed, ok, no}
use Rattle.image.specs.Image.{read_image}
use Rattle.std.proofs.lemmas.Bool.{false_from_ne_true}
use Rattle.maps.proofs.Tests.{no_both}
use Rattle.maps.proofs.Reorderings.{In}
use Rattle.rules.specs.Equal.{Sound, never}
use Rattle.rules.specs.Survivors.{declarations, View, view_of}
use Rattle.rules.specs.Types.{resolve, same_label, same_type, holds_vector}
use Rattle.rules.specs.Changes.{Change, kind_count, ordinal_kinds}
use Rattle.rules.specs.Clauses.{clauses_by, changes, compared_types}
use Rattle.rules.specs.Verdict.{count_of}
use Rattle.rules.specs.Tombstones.{used_by_fields, used, compare_last, compare_last_in, uses, variant_uses, decl_uses, schema_uses, struck_used, uses_struck}
use Rattle.rules.specs.Outcome.{Outcome, selected, select}
use Rattle.rules.specs.Answer.{Fault, fault, plain_reading, plain, compared, first_fault, judged, on_side, alias_check, compare_pair, accept_new, accept_old, outcome, verdict_by}
use Rattle.rules.specs.Distance.{vector_compared, holds_vectors, DistanceRule}
use Rattle.rules.specs.Mended.{equal, alike, different, equal_trees, likeness_by, likeness, read_as, ThreeAnswers, mended_type, mended_reading, mixed, mended, mended_kinds, Otherwise}
use Rattle.rules.proofs.Types.{labels, tree_equal, tree_self, types, holds_resolved}
use Rattle.rules.proofs.Agreed.{changes_agree}
use Rattle.rules.proofs.Answer.{count_selected}
use Rattle.rules.proofs.Standing.{view_rises}
use Rattle.rules.proofs.MendedRefusals.{mixed_fault, unmixed_checks, mended_numbers, mended_numbered}
use Rattle.rules.proofs.Bound.{Bounded, survivors_sized}
use Rattle.rules.proofs.Distance.{read_distance_rule}
use Rattle.rules.proofs.Readings.{Odd, Lawful}
use Rattle.rules.proofs.Self.{odd_variants, odd_decl, odd_view}
use Rattle.rules.proofs.Sizes.{variant_size, decl_size}
use Rattle.rules.proofs.Scales.{heavy, type_one}
use Rattle.rules.proofs.Weights.{Light}
use Rattle.rules.proofs.Unreported.{Adds, Ordinary, adds_ordinary}
use Rattle.rules.proofs.Widths.{widths_besides, widths_of, widths_weight}
use Rattle.rules.proofs.Tombstones.{struck_of, last_besides, last_in_besides}
use Rattle.rules.proofs.TombstoneLines.{last_weight, last_in_weight}
use Rattle.rules.proofs.Otherwise.{both_all, uncounted, Unclaused, without_besides}

-- ---- the answers

-- trees that are equal so are the same
trees_same : (t u : Ty) → equal_trees t u ≡ true → t ≡ u
unfolding equal_trees
trees_same t u e = tree_equal same_label labels.equal t u e

trees_self : (t : Ty) → equal_trees t t ≡ true
unfolding equal_trees
trees_self t = tree_self same_label labels.self t

-- equal by document 01: the trees are equal so, and no tag of 10 to 15 occurs
split : (t u : Ty) → same_type t u ≡ (equal_trees t u && not (holds_vector t))
split t u = go (equal_trees t u) (same_type t u) refl refl
  where
    go : (a b : Bool) → equal_trees t u ≡ a → same_type t u ≡ b → b ≡ (a && not (holds_vector t))
    go true b p q = sym q ∙ ap (same_type t) (sym (trees_same t u p)) ∙ types.self t
    go false true p q = no_both (subst (λ v. equal_trees t v ≡ true) (types.equal t u q) (trees_self t)) p
    go false false p q = refl

-- by whether the trees are equal so and whether one of the tags occurs
module _ where
  third_by : (a h : Bool) → (likeness_by a h ≡ alike) ↔ ((a ≡ true) × (h ≡ true))
  unfolding likeness_by read_as
  third_by true true = (λ e. (refl, refl), λ p. refl)
  third_by true false = (λ e. absurd (false≢true (sym (ap (read_as false) e))), λ p. absurd (false≢true p.1))
  third_by false h = (λ e. absurd (false≢true (ap (read_as true) e)), λ p. absurd (false≢true p.0))

  first_by : (a h : Bool) → (likeness_by a h ≡ equal) ↔ ((a && not h) ≡ true)
  unfolding likeness_by read_as
  first_by true true = (λ e. absurd (false≢true (ap (read_as false) e)), λ p. absurd (false≢true p))
  first_by true false = (λ e. refl, λ p. refl)
  first_by false h = (λ e. absurd (false≢true (ap (read_as true) e)), λ p. absurd (false≢true p))

  second_by : (a h : Bool) → (likeness_by a h ≡ different) ↔ (a ≡ false)
  unfolding likeness_by read_as
  second_by true true = (λ e. ap (read_as true) e, λ p. absurd (false≢true (sym p)))
  second_by true false = (λ e. ap (read_as true) e, λ p. absurd (false≢true (sym p)))
  second_by false h = (λ e. refl, λ p. refl)

  plain_by : (a h : Bool) → (a && not h) ≡ read_as false (likeness_by a h)
  unfolding likeness_by read_as
  plain_by true true = refl
  plain_by true false = refl
  plain_by false h = refl

  mended_by : (a h : Bool) → read_as true (likeness_by a h) ≡ a
  unfolding likeness_by read_as
  mended_by true true = refl
  mended_by true false = refl
  mended_by false h = refl

pub three_answers : (t u : Ty) → ThreeAnswers t u
unfolding likeness
three_answers t u = record {
  third = third_by (equal_trees t u) (holds_vector t);
  occurs = λ e. ap holds_vector (trees_same t u e);
  first = rw (split t u) (first_by (equal_trees t u) (holds_vector t));
  second = second_by (equal_trees t u) (holds_vector t);
  plainly = split t u ∙ plain_by (equal_trees t u) (holds_vector t);
}

-- ---- the mended reading: equal if the trees are

mended_trees : (t u : Ty) → mended_type t u ≡ equal_trees t u
unfolding mended_type likeness
mended_trees t u = mended_by (equal_trees t u) (holds_vector t)

pub mended_types : Sound mended_type never
mended_types = record {
  equal = λ t u e. trees_same t u (sym (mended_trees t u) ∙ e);
  self = λ t. mended_trees t t ∙ trees_self t;
}

-- ---- where there are no vectors on one side, document 01 reads types so too

both_false : (b : Bool) → (b && b) ≡ false → b ≡ false
both_false true q = q
both_false false q = q

without : (t u : Ty) → (holds_vector t && holds_vector u) ≡ false → mended_type t u ≡ same_type t u
without t u e = mended_trees t u ∙ (go (equal_trees t u) refl ∙ sym (split t u))
  where
    go : (a : Bool) → equal_trees t u ≡ a → equal_trees t u ≡ (equal_trees t u && not (holds_vector t))
    go true p = rw (p, both_false (holds_vector t) (subst (λ v. (holds_vector t && holds_vector v) ≡ false) (sym (trees_same t u p)) e))
    go false p = rw p

views_agree : (x y : View) → (any holds_vector (compared_types x) && any holds_vector (compared_types y)) ≡ false
    → changes (clauses_by mended_type) x y ≡ changes plain_reading x y
views_agree x y e =
    changes_agree mended_type same_type x y λ t u i j.
    without (resolve x.registry t) (resolve y.registry u)
    (rw (holds_resolved x.registry t, holds_resolved y.registry u) (go (any holds_vector (compared_types x)) refl i j))
  where
    go : (b : Bool) → any holds_vector (compared_types x) ≡ b → {t u : Ty} → In t (compared_types x) → In u (compared_types y)
        → (holds_vector t && holds_vector u) ≡ false
    go true p {t} i j = rw (none_in holds_vector (rw p at e) j) (and-false (holds_vector t))
    go false p i j = rw (none_in holds_vector p i)

-- ---- what is reported besides: widths, then the clauses, then tombstones

pub mended_adds : Adds mended_kinds mended_reading
unfolding among any compare_last compare_last_in
mended_adds = record {
  first = widths_of mended_kinds refl;
  last = λ x y. struck_of mended_kinds refl refl x.name x.tombstones (used y) y.tombstones;
  last_in = λ d v w. struck_of mended_kinds refl refl d v.tombstones (used_by_fields w.fields) w.tombstones;
}

-- no clause reports these kinds
pub mended_unclaused : Unclaused mended_kinds
unfolding among any All
mended_unclaused = (refl, (refl, (refl, tt)))

-- where none of these kinds is counted, all that is reported is the same
changes_otherwise : (x y : View) → (any holds_vector (compared_types x) && any holds_vector (compared_types y)) ≡ false
    → All (λ j. count_of j (changes mended_reading x y) ≡ 0) mended_kinds → changes mended_reading x y ≡ changes plain_reading x y
changes_otherwise x y e z =
    without_besides mended_kinds mended_unclaused mended_reading mended_adds x y (uncounted mended_kinds _ z) ∙ views_agree x y e

-- as the verdict call tells them
abbrev Uncounted : Outcome → Type 0
Uncounted o = All (λ j. select o (5 + j) ≡ 0) mended_kinds

counted_none : (cs : List Change) → Uncounted (compared cs) → All (λ j. count_of j cs ≡ 0) mended_kinds
unfolding All
counted_none cs z =
    both_all {P = λ j. ltb j kind_count ≡ true} {Q = λ j. select (compared cs) (5 + j) ≡ 0}
    (λ j l q. sym (count_selected j (ltb-true j kind_count l) cs) ∙ q) mended_kinds (refl, (refl, (refl, tt))) z

-- of two images of which 16 is not given
pair_otherwise : (x y : Schema) → (select (compare_pair mended x y) 0 ≡ number mixed_refusal → ⊥) → Uncounted (compare_pair mended x y)
    → (any holds_vector (compared_types (view_of x)) && any holds_vector (compared_types (view_of y))) ≡ false → compare_pair mended x y ≡ compare_pair plain x y
unfolding compare_pair judged select selected
pair_otherwise x y n w e =
    let p = false_from_ne_true (mixed x y) (λ m. n (given (mixed_fault x y m))) in
    rw (unmixed_checks x y p) (go (first_fault (alias_check view_of ∷ []) x y) (unmixed_checks x y p))
  where
    given : first_fault mended.pair x y ≡ Some (fault 16 (number both_sides)) → select (judged (first_fault mended.pair x y) (compared (changes mended_reading (view_of x) (view_of y)))) 0 ≡ 16
    given q = rw q

    go : (o : Option Fault) → first_fault mended.pair x y ≡ o
        → judged o (compared (changes mended_reading (view_of x) (view_of y))) ≡ judged o (compared (changes plain_reading (view_of x) (view_of y)))
    go None q = ap compared (changes_otherwise (view_of x) (view_of y) e (counted_none _ (rw q at w)))
    go (Some f) q = refl

pub otherwise : Otherwise
unfolding holds_vectors vector_compared verdict_by outcome accept_old accept_new on_side judged
otherwise old new = go (read_image old) (read_image new)
  where
    go : (r q : Parsed Schema) → (select (accept_old mended r q) 0 ≡ number mixed_refusal → ⊥) → Uncounted (accept_old mended r q)
        → (vector_compared view_of r && vector_compared view_of q) ≡ false → accept_old mended r q ≡ accept_old plain r q
    go (ok x m) (ok y n) f w e = pair_otherwise x y f w e
    go (ok x m) (no k) f w e = refl
    go (no k) q f w e = refl

-- ---- the mended verdict

mended_light : Light mended_reading
unfolding heavy decl_size variant_size
mended_light = record {
  decls = λ x y h. omega (arith, widths_weight x y, last_weight x y (omega (arith, h)), type_one x.inner);
  variants = λ d h v w. omega (arith, last_in_weight d h v w);
}

pub mended_bounded : Bounded mended
mended_bounded = record {
  view = survivors_sized;
  light = mended_light;
  alone = λ x k e. absurd (none-some k e);
  pair = λ x y f e.
      let q = mended_numbers x y f e in
      (⊎_elim (λ z. omega (arith, z)) (λ z. omega (arith, z)) q.0, omega (arith, q.1));
}

-- the three counts that are always 0
pub mended_ordinary : All (λ j. Ordinary j mended_reading) ordinal_kinds
unfolding All among any
mended_ordinary = (adds_ordinary mended_adds _ refl, (adds_ordinary mended_adds _ refl, (adds_ordinary mended_adds _ refl, tt)))

-- no type is odd, and a body is if it uses what it strikes off
abbrev pub mended_odd : Odd
mended_odd = record {
  types = never;
  first = never;
  last = λ d. uses d.tombstones (used d);
  last_in = λ v. uses v.tombstones (used_by_fields v.fields);
}

pub mended_lawful : Lawful mended_reading mended_odd
mended_lawful = record { types = mended_types; first = widths_besides; last = last_besides; last_in = last_in_besides }

odd_used : (s : Schema) → odd_view mended_odd (view_of s) ≡ schema_uses s
unfolding odd_view odd_decl odd_variants decl_uses variant_uses schema_uses view_of
odd_used s =
    ap (λ b. b || any (odd_decl mended_odd) (declarations s)) (any_never (compared_types (view_of s)))

-- R-5: "there every image that gets a verdict against itself is at distance 0 from itself. The chain rule covers the mended verdict as well.";
-- R-10: "one that strikes off a number and uses it .. is now at distance 2 from itself; every other one stays at 0"
pub mended_distance_rule : DistanceRule (verdict_by mended) uses_struck
unfolding uses_struck struck_used
mended_distance_rule = read_distance_rule mended mended_numbered view_rises mended_lawful struck_used (λ s n. odd_used s)
