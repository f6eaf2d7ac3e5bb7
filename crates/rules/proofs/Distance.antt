-- The distance rule, demand 3, over byte lists: of any policy that compares rising views by a lawful reading, and so of the
-- verdict call of document 01. Assumes nothing.
use mathlib.Core.Path.{◌≡◌, refl, sym, ap, ◌∙◌}
use mathlib.Core.Bool.{Bool, true, cond, not, ◌&&◌}
use mathlib.Core.List.{List, [], ◌∷◌}
use Prim.Native.Nat.{ℕ, ◌+◌, ◌≤◌, ◌<◌, max}
use native.Mathlib.Omega.{arith}
use lib.Dec.{eqb, ltb}
use borrow.Author.Tests.{ltb-true, eqb-true, not-true}
use Rattle.maps.specs.Lists.{All}
use Rattle.maps.specs.Orders.{before}
use Rattle.maps.specs.Walk.{Rising}
use Rattle.maps.proofs.Lists.{all_map}
use Rattle.maps.proofs.Any.{any_same}
use Rattle.image.specs.Schema.{Schema}
use Rattle.image.specs.Parse.{Parsed, ok}
use Rattle.image.specs.Image.{read_image}
use Rattle.maps.proofs.Tests.{both}
use Rattle.rules.specs.Survivors.{name_of, View, view_of}
use Rattle.rules.specs.Types.{holds_vector}
use Rattle.rules.specs.Changes.{kind_count, kind_at, FieldAdded, FieldRemoved, VariantAdded, VariantRemoved, DeclarationAdded, DeclarationRemoved, FlagsBitAdded, FlagsBitRemoved}
use Rattle.rules.specs.Clauses.{compared_types}
use Rattle.rules.specs.Verdict.{bump_of, count_of}
use Rattle.rules.specs.Outcome.{selected, select}
use Rattle.rules.specs.Answer.{Policy, verdict_by, plain, verdict_of}
use Rattle.rules.specs.Refusals.{Numbered}
use Rattle.rules.specs.Distance.{Image, vector_compared, last, other_kinds, Verdict, distance, count_between, Steps, largest_step, Swapped, DistanceRule, holds_vectors}
use Rattle.rules.proofs.Types.{types, holds_resolved}
use Rattle.rules.proofs.Chain.{changes_chained}
use Rattle.rules.proofs.Self.{odd_view, odd_view_types, changes_self}
use Rattle.rules.proofs.Mirror.{mirror, one_way}
use Rattle.rules.proofs.Readings.{Odd, odd_types, Lawful, clauses_lawful}
use Rattle.rules.proofs.Swap.{changes_swap}
use Rattle.rules.proofs.Answer.{schema_of, settled, changes_of, compared_of, count_selected, plain_numbered}
use Rattle.rules.proofs.Standing.{view_rises}

-- whether the count of one kind is that of another the other way
unfoldable turned : ℕ → ℕ → Bool
turned j k = ltb j kind_count && (ltb k kind_count && (not (one_way j) && eqb (mirror j) k))

module _ (p : Policy) (numbered : Numbered p) (rise : (s : Schema) → Rising name_of before (p.view s).standing) {odd : Odd}
    (lawful : Lawful p.reading odd) where
  -- what is compared of an image
  abbrev view_in : Image → View
  view_in a = p.view (schema_of (read_image a))

  -- whether something compared is odd
  abbrev odd_in : Image → Bool
  odd_in a = odd_view odd (view_in a)

  pub distance_is : (a b : Image) → Verdict (verdict_by p) a b → distance (verdict_by p) a b ≡ bump_of (changes_of p a b)
  unfolding Verdict distance verdict_by select selected
  distance_is a b v = ap (λ o. select o 2) (compared_of p numbered a b v)

  -- ---- chain

  triangle : (a b c : Image) → bump_of (changes_of p a c) ≤ max (bump_of (changes_of p a b)) (bump_of (changes_of p b c))
  unfolding changes_of bump_of
  triangle a b c = omega (arith, (changes_chained lawful (view_in a) (view_in b) (view_in c) (rise _) (rise _)).bound)

  pub reach : (a b : Image) (rest : List Image) → Steps (verdict_by p) a (b ∷ rest)
      → bump_of (changes_of p a (last b rest)) ≤ largest_step (verdict_by p) a (b ∷ rest)
  unfolding Steps last largest_step
  reach a b [] s = omega (arith, distance_is a b s.0)
  reach a b (c ∷ rest) s = omega (arith, distance_is a b s.0, triangle a b (last c rest), reach b c rest s.1)

  -- ---- swap

  counted_is : (kind : ℕ) → kind < kind_count → (a b : Image) → Verdict (verdict_by p) a b
      → count_between (verdict_by p) kind a b ≡ count_of kind (changes_of p a b)
  unfolding Verdict count_between verdict_by
  counted_is kind h a b v = ap (λ o. select o (5 + kind)) (compared_of p numbered a b v) ∙ count_selected kind h (changes_of p a b)

  module _ (a b : Image) (v : Verdict (verdict_by p) a b) (w : Verdict (verdict_by p) b a) where
    count_swap : (j k : ℕ) → turned j k ≡ true → count_between (verdict_by p) j a b ≡ count_between (verdict_by p) k b a
    unfolding turned changes_of
    count_swap j k e =
        let h = both (ltb j kind_count) _ e in
        let q = both (ltb k kind_count) _ h.1 in
        let r = both (not (one_way j)) _ q.1 in
        counted_is j (ltb-true j kind_count h.0) a b v
        ∙ (changes_swap lawful j (not-true (one_way j) r.0) (view_in a) (view_in b) (rise _) (rise _)
        ∙ (ap (λ i. count_of i (changes_of p b a)) (eqb-true (mirror j) k r.1)
        ∙ sym (counted_is k (ltb-true k kind_count q.0) b a w)))

    swapped : Swapped (verdict_by p) a b
    unfolding turned mirror one_way All
    swapped = record {
      declarations = count_swap (kind_at DeclarationRemoved) (kind_at DeclarationAdded) refl;
      fields = count_swap (kind_at FieldRemoved) (kind_at FieldAdded) refl;
      variants = count_swap (kind_at VariantRemoved) (kind_at VariantAdded) refl;
      bits = count_swap (kind_at FlagsBitRemoved) (kind_at FlagsBitAdded) refl;
      others = all_map (λ kind. count_swap kind kind) other_kinds (refl, (refl, (refl, (refl, (refl, (refl, (refl, (refl, (refl, (refl, tt))))))))));
    }

  pub distance_rule_of : DistanceRule (verdict_by p) odd_in
  unfolding distance bump_of changes_of
  distance_rule_of = record {
    chain = λ first second rest s v. omega (arith, distance_is first (last second rest) v, reach first second rest s);
    self = λ a v. distance_is a a v ∙ changes_self lawful (view_in a) (rise _);
    swap = swapped;
  }

-- the same of images that are odd in other words
pub odd_alike : {verdict : Image → Image → ℕ → ℕ} {odd odd' : Image → Bool} → DistanceRule verdict odd
    → ((a : Image) → Verdict verdict a a → odd a ≡ odd' a) → DistanceRule verdict odd'
odd_alike rule e = record { chain = rule.chain; self = λ a v. rule.self a v ∙ ap (λ u. cond u 2 0) (e a v); swap = rule.swap }

-- ---- of an image that gets a verdict, by what is odd in its schema; and of a reading that reports nothing besides, in whose eyes a type is odd
-- if it holds a vector, quaternion or matrix node, as document 01 reads types

module _ (p : Policy) (numbered : Numbered p) (rise : (s : Schema) → Rising name_of before (p.view s).standing) where
  module _ {odd : Odd} (lawful : Lawful p.reading odd) (odd_read : Parsed Schema → Bool)
      (same : (s : Schema) (n : ℕ) → odd_view odd (p.view s) ≡ odd_read (ok s n)) where
    odd_is : (r : Parsed Schema) (s : Schema) (n : ℕ) → r ≡ ok s n → odd_view odd (p.view (schema_of r)) ≡ odd_read r
    unfolding schema_of
    odd_is r s n e = rw e (same s n)

    pub read_distance_rule : DistanceRule (verdict_by p) (λ a. odd_read (read_image a))
    unfolding Verdict verdict_by
    read_distance_rule =
        odd_alike (distance_rule_of p numbered rise lawful)
        (λ a v. let t = settled p numbered a a v in odd_is (read_image a) t.old_schema t.old.end t.old.read)

  pub vector_distance_rule : Lawful p.reading (odd_types holds_vector) → DistanceRule (verdict_by p) (holds_vectors p.view)
  unfolding holds_vectors vector_compared
  vector_distance_rule lawful =
      read_distance_rule lawful (vector_compared p.view)
      (λ s n. odd_view_types holds_vector (p.view s) ∙ any_same _ holds_vector (holds_resolved (p.view s).registry) (compared_types (p.view s)))

-- ---- the verdict call of document 01

pub distance_rule : DistanceRule verdict_of (holds_vectors view_of)
distance_rule = vector_distance_rule plain plain_numbered view_rises (clauses_lawful types)
