-- The searches over the declarations that may stand: a turn, the ways out. Assumes nothing.
use mathlib.Core.Path.{◌≡◌, refl, sym, ap, ◌∙◌}
use mathlib.Core.Bool.{Bool, true, false, cond, ◌&&◌}
use Rattle.std.specs.Prelude.{Option, None, Some, IfSome}
use mathlib.Core.List.{List, [], ◌∷◌, ◌++◌, flat_map}
use Prim.Native.Nat.{ℕ, zero, suc, ◌+◌, ◌-◌, ◌≤◌, ◌<◌}
use native.Mathlib.Numerals.{add-one}
use native.Mathlib.Omega.{arith}
use lib.ListN.{length, get_or, take, drop, drop_of_length-le}
use lib.Seq.{drop-cons}
use Rattle.maps.specs.Lists.{every}
use Rattle.maps.specs.Orders.{same, before}
use Rattle.maps.specs.Keyed.{lookup}
use Rattle.std.specs.Option.{option_map, is_some}
use Rattle.std.specs.Borrow.{Bor}
use Rattle.maps.specs.Walk.{latest, following, better, least, covers}
use Rattle.maps.proofs.Names.{by_name}
use Rattle.maps.proofs.Searches.{latest_start, latest_nothing, latest_skips, latest_other, latest_found, lookup_latest, least_cons, least_nil}
use Rattle.maps.proofs.Walking.{following_least}
use Rattle.image.specs.Schema.{Name, Decl as Declaration}
use Rattle.parts.specs.Handles.{decl_of}
use Rattle.parts.specs.declared.handles.Image.{Image}
use Rattle.parts.specs.declared.handles.Decl.{Decl}
use Rattle.rules.specs.Survivors.{resolved, name_of}
use Rattle.rules.specs.Imports.{standing_with}
use Rattle.survivors.specs.Answers.{standing_of, named, Survives, Follows, name_with, nearer_name, nearer_decl, namesake_in, names_covered}
use Rattle.survivors.specs.Candidates.{candidates, Candidate, present}
use Rattle.survivors.specs.declared.decls.Declarations.{Declarations}
use Rattle.survivors.proofs.Laws.Better.{some_map}
use Rattle.survivors.proofs.Laws.Candidates.{present_candidates}
use Rattle.survivors.proofs.Laws.Nearest.{decl_none, Named, by_names}

-- what one entry adds to those that may stand
unfoldable pub shown : Option Declaration → List Declaration
shown o = resolved o []

present_flat : (l : List (Option Declaration)) → present l ≡ flat_map shown l
unfolding present resolved flat_map shown
present_flat [] = refl
present_flat (o ∷ l) = go o (present_flat l)
  where
    go : (o : Option Declaration) → present l ≡ flat_map shown l → resolved o (present l) ≡ resolved o [] ++ flat_map shown l
    go None e = e
    go (Some d) e = rw e

positive : (i : ℕ) → (i ≡ 0 → ⊥) → 0 < i
positive zero z = absurd (z refl)
positive (suc i) z = omega arith

-- ---- from the end

module _ (ds : Declarations) (name : Name) where
  -- what is found going back from a position
  unfoldable pub back : ℕ → Option Declaration
  back i = latest name_of before name (flat_map shown (take i (candidates ds)))

-- that is what stands under the name
pub record Left (ds : Declarations) (name : Name) (i : ℕ) : Type 0 where
  pub most : i ≤ length (candidates ds)
  pub found : back ds name i ≡ lookup name_of before name (standing_of ds)

module _ {ds : Declarations} {name : Name} where
  pub left_start : (n : ℕ) → n ≡ length (candidates ds) → Left ds name n
  unfolding back standing_with
  left_start n e = record {
    most = omega arith;
    found =
        ap (back ds name) e
        ∙ latest_start name_of before name shown (candidates ds)
        ∙ ap (latest name_of before name) (sym (present_flat (candidates ds)) ∙ present_candidates ds)
        ∙ sym (lookup_latest name_of by_name name _);
  }

  module _ {i : ℕ} (k : Left ds name i) where
    pub left_end : i ≡ 0 → Survives (standing_of ds) ds.image name None
    unfolding back
    left_end e = record { value = sym (latest_nothing name_of before name shown (candidates ds) i e) ∙ k.found; image = tt }

    -- a turn, at the declaration before the position
    module _ (z : i ≡ 0 → ⊥) where
      h : 0 < i
      h = positive i z

      less : i - 1 ≤ length (candidates ds)
      less = omega (arith, k.most)

      module _ {r : Option Decl} (v : Candidate ds (i - 1) r) where
        pub left_skips : r ≡ None → Left ds name (i - 1)
        unfolding back shown resolved
        left_skips u = record { most = less; found = sym (latest_skips name_of before name shown (candidates ds) None i h k.most (rw (← v.value, u))) ∙ k.found }

        module _ {d : Decl} (u : r ≡ Some d) {own : Name} (w : own ≡ (decl_of d).name) where
          one : shown (get_or (candidates ds) (i - 1) None) ≡ decl_of d ∷ []
          unfolding shown resolved
          one = rw (← v.value, u)

          pub left_other : false ≡ same before name own → Left ds name (i - 1)
          unfolding back
          left_other n = record {
            most = less;
            found = sym (latest_other name_of before name shown (candidates ds) None i h k.most (decl_of d) one (rw w at (sym n))) ∙ k.found;
          }

          pub left_found : true ≡ same before name own → Survives (standing_of ds) ds.image name (Some d)
          unfolding back
          left_found n = record {
            value = sym (latest_found name_of before name shown (candidates ds) None i h k.most (decl_of d) one (rw w at (sym n))) ∙ k.found;
            image = rw u at v.image;
          }

-- ---- from the front

module _ (ds : Declarations) (b : Option Name) where
  -- what is found going on from a position, with the best declaration so far
  unfoldable pub ahead : Option Declaration → ℕ → Option Declaration
  ahead best i = least name_of before b best (present (drop i (candidates ds)))

  ahead_start : ahead None 0 ≡ following name_of before b (standing_of ds)
  unfolding ahead standing_with
  ahead_start = ap (least name_of before b None) (present_candidates ds) ∙ sym (following_least name_of by_name b _)

  ahead_end : (best : Option Declaration) (i : ℕ) → length (candidates ds) ≤ i → ahead best i ≡ best
  unfolding ahead present
  ahead_end best i h = rw (drop_of_length-le (candidates ds) h) (least_nil name_of before b best)

  -- the best after an entry more
  abbrev after : Option Declaration → Option Declaration → Option Declaration
  after best o = cond (nearer_decl b best o) o best

  least_resolved : (best o : Option Declaration) (l : List Declaration)
      → least name_of before b best (resolved o l) ≡ least name_of before b (after best o) l
  unfolding resolved nearer_decl better
  least_resolved best None l = refl
  least_resolved best (Some d) l = least_cons name_of before b best d l

  -- a turn, at what a position stands for
  ahead_turn : (best o : Option Declaration) (i : ℕ) → i < length (candidates ds) → o ≡ get_or (candidates ds) i None
      → ahead best i ≡ ahead (after best o) (i + 1)
  unfolding ahead present
  ahead_turn best o i h e = rw (add-one, drop-cons (candidates ds) i None h, ← e) (least_resolved best o (present (drop (suc i) (candidates ds))))

-- that is the next one
pub record Met (ds : Declarations) (bound : Option Decl) (best : Option (Bor Name × Decl)) (i : ℕ) : Type 0 where
  pub next : ahead ds (named bound) (option_map (λ b. decl_of b.1) best) i ≡ following name_of before (named bound) (standing_of ds)
  pub image : IfSome best (λ b. b.1.image ≡ ds.image)
  pub name : Named best

module _ {ds : Declarations} {bound : Option Decl} where
  pub met_start : Met ds bound None 0
  met_start = record { next = ahead_start ds (named bound); image = tt; name = tt }

  module _ {best : Option (Bor Name × Decl)} {i : ℕ} (k : Met ds bound best i) where
    module _ (h : length (candidates ds) ≤ i) where
      met_value : option_map (λ b. decl_of b.1) best ≡ following name_of before (named bound) (standing_of ds)
      met_value = sym (ahead_end ds (named bound) (option_map (λ b. decl_of b.1) best) i h) ∙ k.next

      pub met_none : best ≡ None → Follows (standing_of ds) ds.image bound None
      met_none e = record { value = rw e at met_value; image = tt }

      pub met_some : {b : Bor Name × Decl} → best ≡ Some b → Follows (standing_of ds) ds.image bound (Some b.1)
      met_some e = record { value = rw e at met_value; image = rw e at k.image }

    -- a turn, at what the position stands for
    module _ (h : i < length (candidates ds)) {r : Option Decl} (v : Candidate ds i r) where
      met_turn : (best' : Option (Bor Name × Decl)) {t : Bool}
          → t ≡ nearer_decl (named bound) (option_map (λ b. decl_of b.1) best) (option_map decl_of r)
          → option_map (λ b. decl_of b.1) best' ≡ cond t (option_map decl_of r) (option_map (λ b. decl_of b.1) best)
          → ahead ds (named bound) (option_map (λ b. decl_of b.1) best') (i + 1) ≡ following name_of before (named bound) (standing_of ds)
      met_turn best' q e =
          sym (ahead_turn ds (named bound) (option_map (λ b. decl_of b.1) best) (option_map decl_of r) i h v.value ∙ rw (← q, ← e) refl) ∙ k.next

      pub met_skipped : r ≡ None → Met ds bound best (i + 1)
      unfolding nearer_decl
      met_skipped e = record { next = met_turn best {t = false} (rw e refl) refl; image = k.image; name = k.name }

      -- t: the declaration takes the place of the best
      module _ {d : Decl} (e : r ≡ Some d) {b : Option Name} (u : b ≡ named bound) {t : Bool} where
        told : {n : Name} → n ≡ (decl_of d).name → t ≡ nearer_name b (name_with best) n
            → t ≡ nearer_decl (named bound) (option_map (λ b. decl_of b.1) best) (option_map decl_of r)
        told m q = rw (e, ← u) (q ∙ by_names b best k.name d m)

        pub met_taken : {n : Bor Name} → n.now ≡ (decl_of d).name → t ≡ nearer_name b (name_with best) n.now → t ≡ true → Met ds bound (Some (n, d)) (i + 1)
        met_taken {n} m q w = record { next = met_turn (Some (n, d)) (told m q) (rw (w, e) refl); image = rw e at v.image; name = m }

        pub met_left : {n : Name} → n ≡ (decl_of d).name → t ≡ nearer_name b (name_with best) n → t ≡ false → Met ds bound best (i + 1)
        met_left m q w = record { next = met_turn best (told m q) (rw w refl); image = k.image; name = k.name }

-- ---- whether n has each name, from the front

module _ (n : List Declaration) (ds : Declarations) where
  unfoldable pub named_from : ℕ → Bool
  named_from i = covers name_of before n (present (drop i (candidates ds)))

-- those from a position on, if it has all
pub record Covering (n : List Declaration) (ds : Declarations) (i : ℕ) : Type 0 where
  pub rest : named_from n ds i ≡ names_covered n ds

covers_resolved : (n : List Declaration) (o : Option Declaration) (l : List Declaration)
    → covers name_of before n (resolved o l) ≡ (namesake_in n o && covers name_of before n l)
unfolding covers every resolved namesake_in
covers_resolved n None l = refl
covers_resolved n (Some d) l = refl

module _ {n : List Declaration} {ds : Declarations} where
  pub covering_start : Covering n ds 0
  unfolding named_from names_covered
  covering_start = record { rest = ap (covers name_of before n) (present_candidates ds) }

  module _ {i : ℕ} (k : Covering n ds i) where
    pub covering_end : length (candidates ds) ≤ i → true ≡ names_covered n ds
    unfolding named_from present covers every
    covering_end h = rw (drop_of_length-le (candidates ds) h) at k.rest

    module _ (h : i < length (candidates ds)) {r : Option Decl} (v : Candidate ds i r) {t : Bool} (q : t ≡ namesake_in n (option_map decl_of r)) where
      step : (t && named_from n ds (i + 1)) ≡ names_covered n ds
      unfolding named_from present
      step =
          rw (add-one, q)
          (sym (rw (drop-cons (candidates ds) i None h, ← v.value) (covers_resolved n (option_map decl_of r) (present (drop (suc i) (candidates ds)))))
          ∙ k.rest)

      pub covering_not : t ≡ false → false ≡ names_covered n ds
      covering_not w = rw w at step

      pub covering_turn : t ≡ true → Covering n ds (i + 1)
      covering_turn w = record { rest = rw w at step }

-- of one declaration, by what stands under its name
module _ (n : List Declaration) {r : Option Decl} where
  pub namesake_skips : r ≡ None → true ≡ namesake_in n (option_map decl_of r)
  unfolding namesake_in
  namesake_skips e = rw (decl_none e)

  pub namesake_found : {d : Decl} → r ≡ Some d → {own : Name} → own ≡ (decl_of d).name → {i : Image} {o : Option Decl} → Survives n i own o
      → is_some o ≡ namesake_in n (option_map decl_of r)
  unfolding namesake_in
  namesake_found e w {i} {o} h = rw (e, ← w, ← h.value) (some_map decl_of o)

-- what the code needs
pub ruleset backward = (left_start, left_end, left_skips, left_other, left_found)

pub ruleset forward = (met_start, met_none, met_some, met_skipped, met_taken, met_left)

pub ruleset covering = (covering_start, covering_end, covering_not, covering_turn)

pub ruleset namesakes = (namesake_skips, namesake_found)
