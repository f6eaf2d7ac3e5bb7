-- The declarations that may stand, by position: how many there are, what each is, and that they are those which `standing_with` lists.
-- Assumes nothing.
use mathlib.Core.Path.{◌≡◌, refl, sym, ap, ◌∙◌}
use mathlib.Core.Bool.{true, false, cond}
use Rattle.std.specs.Prelude.{Option, None}
use mathlib.Core.List.{List, [], ◌∷◌, ◌++◌, map}
use Prim.Native.Nat.{ℕ, zero, suc, ◌+◌, ◌-◌, ◌≤◌, ◌<◌}
use native.Mathlib.Numerals.{unary_clauses}
use native.Mathlib.Omega.{arith}
use lib.ListN.{length, get_or}
use Rattle.image.specs.Schema.{Schema}
use Rattle.parts.specs.Handles.{schema_in, Resolves}
use Rattle.parts.specs.declared.handles.Decl.{Decl}
use Rattle.parts.proofs.Promise.{accepted_most, ids_most}
use Rattle.rules.specs.Survivors.{Registry, stands_for, resolved, listed}
use Rattle.rules.specs.Reached.{IdSet}
use Rattle.rules.specs.Imports.{marked_ids}
use Rattle.survivors.specs.Candidates.{candidates_from, candidates, Candidate, present}
use Rattle.survivors.specs.declared.decls.Declarations.{Declarations}

module _ (R : Registry) where
  -- the listed ones
  length_listed : (ids : List ℕ) → length (map (stands_for R) ids) ≡ length ids
  length_listed [] = refl
  length_listed (id ∷ ids) = ap suc (length_listed ids)

  at_listed : (ids : List ℕ) (i : ℕ) → i < length ids → get_or (map (stands_for R) ids) i None ≡ stands_for R (get_or ids i 0)
  at_listed [] i h = absurd (omega arith)
  at_listed (id ∷ ids) zero h = refl
  at_listed (id ∷ ids) (suc i) h = at_listed ids i (omega arith)

  present_listed : (ids : List ℕ) → present (map (stands_for R) ids) ≡ listed R ids
  unfolding present listed
  present_listed [] = refl
  present_listed (id ∷ ids) = ap (resolved (stands_for R id)) (present_listed ids)

  -- and those of a set before them
  length_from : (id : ℕ) (m : IdSet) (ids : List ℕ) → length (candidates_from R id m ids) ≡ length m + length ids
  unfolding candidates_from
  length_from id [] ids = length_listed ids ∙ omega arith
  length_from id (b ∷ m) ids = ap suc (length_from (suc id) m ids) ∙ omega arith

  at_marked : (id : ℕ) (m : IdSet) (ids : List ℕ) (i : ℕ) → i < length m
      → get_or (candidates_from R id m ids) i None ≡ cond (get_or m i false) (stands_for R (id + i)) None
  unfolding candidates_from
  at_marked id [] ids i h = absurd (omega arith)
  at_marked id (b ∷ m) ids zero h = ap (λ j. cond b (stands_for R j) None) (omega arith)
  at_marked id (b ∷ m) ids (suc i) h =
      at_marked (suc id) m ids i (omega arith) ∙ ap (λ j. cond (get_or m i false) (stands_for R j) None) (omega arith)

  at_after : (id : ℕ) (m : IdSet) (ids : List ℕ) (i : ℕ) → length m ≤ i → i < length m + length ids
      → get_or (candidates_from R id m ids) i None ≡ stands_for R (get_or ids (i - length m) 0)
  unfolding candidates_from
  at_after id [] ids i h k = simp unary_clauses (at_listed ids i (omega arith))
  at_after id (b ∷ m) ids zero h k = absurd (omega arith)
  at_after id (b ∷ m) ids (suc i) h k = at_after (suc id) m ids i (omega arith) (omega arith) ∙ ap (λ j. stands_for R (get_or ids j 0)) (omega arith)

  present_from : (id : ℕ) (m : IdSet) (ids : List ℕ) → present (candidates_from R id m ids) ≡ listed R (marked_ids id m ++ ids)
  unfolding candidates_from present listed marked_ids resolved
  present_from id [] ids = present_listed ids
  present_from id (true ∷ m) ids = ap (resolved (stands_for R id)) (present_from (suc id) m ids)
  present_from id (false ∷ m) ids = present_from (suc id) m ids

module _ (ds : Declarations) where
  abbrev own : Schema
  own = schema_in ds.image

  abbrev set : IdSet
  set = ds.reached.now

  pub present_candidates : present (candidates ds) ≡ listed own.registry (marked_ids 0 set ++ own.ids)
  unfolding candidates
  present_candidates = present_from own.registry 0 set own.ids

  pub candidates_length : length (candidates ds) ≡ length set + length own.ids
  unfolding candidates
  candidates_length = length_from own.registry 0 set own.ids

  pub listed_most : length own.ids ≤ 32768
  listed_most = omega (arith, ids_most _ ds.image.accepted, accepted_most _ ds.image.accepted)

  -- at a position of the set that has its id or not, and past the set
  module _ (i : ℕ) where
    marked_at : i < length set → get_or (candidates ds) i None ≡ cond (get_or set i false) (stands_for own.registry i) None
    unfolding candidates
    marked_at h = at_marked own.registry 0 set own.ids i h ∙ ap (λ j. cond (get_or set i false) (stands_for own.registry j) None) (omega arith)

    pub not_in_set : i < length set → get_or set i false ≡ false → Candidate ds i None
    not_in_set h e = record { value = sym (marked_at h ∙ ap (λ b. cond b (stands_for own.registry i) None) e); image = tt }

    pub in_set : i < length set → get_or set i false ≡ true → {r : Option Decl} → Resolves ds.image i r → Candidate ds i r
    unfolding stands_for
    in_set h e v = record { value = v.value ∙ sym (marked_at h ∙ ap (λ b. cond b (stands_for own.registry i) None) e); image = v.image }

    pub past_set : length set ≤ i → i < length (candidates ds) → {id : ℕ} → id ≡ get_or own.ids (i - length set) 0 → {r : Option Decl}
        → Resolves ds.image id r → Candidate ds i r
    unfolding stands_for candidates
    past_set h k e v = record {
      value = v.value ∙ (ap (stands_for own.registry) e ∙ sym (at_after own.registry 0 set own.ids i h (omega (arith, candidates_length))));
      image = v.image;
    }

-- what the code needs
pub ruleset counts = (candidates_length, listed_most)

pub ruleset positions = (candidates_length, not_in_set, in_set, past_set)
