-- Entries of which each became another one with its key: what stands of them, what is found, and what two such maps give when they are
-- compared. Assumes nothing.
use mathlib.Core.Path.{◌≡◌, refl, sym, ap, ◌∙◌}
use mathlib.Core.Bool.{Bool, true, false, cond}
use mathlib.Core.List.{List, [], ◌∷◌, map, Forall₂}
use Rattle.std.specs.Prelude.{Some, option_map}
use Rattle.std.proofs.lemmas.List.{map-id}
use Rattle.maps.specs.Lists.{pass}
use Rattle.maps.specs.Orders.{same}
use Rattle.maps.specs.Keyed.{insert, survivors, lookup}
use Rattle.maps.specs.Compare.{Rules, compare}
use Rattle.maps.proofs.Lists.{pass_view}
use Rattle.maps.proofs.Alike.{compare_alike_lem}

-- a pass by steps that give the same
pub pass_same : {S A : Type 0} (step step' : S → A → S) → ((s : S) (a : A) → step s a ≡ step' s a) → (s : S) (l : List A)
    → pass step s l ≡ pass step' s l
pass_same step step' e s l = pass_view step step' (λ t. t) e s l

pub pass_map : {S A B : Type 0} (step : S → B → S) (g : A → B) (s : S) (l : List A) → pass step s (map g l) ≡ pass (λ t a. step t (g a)) s l
unfolding pass
pass_map step g s [] = refl
pass_map step g s (a ∷ l) = pass_map step g (step s (g a)) l

module _ {K E : Type 0} (key : E → K) (lt : K → K → Bool) (g : E → E) (keeps : (e : E) → key (g e) ≡ key e) where
  insert_map : (m : List E) (e : E) → map g (insert key lt m e) ≡ insert key lt (map g m) (g e)
  unfolding insert
  insert_map [] e = refl
  insert_map (f ∷ m) e = rw (keeps e, keeps f) (go (lt (key e) (key f)) (lt (key f) (key e)) (insert_map m e))
    where
      go : (u v : Bool) → map g (insert key lt m e) ≡ insert key lt (map g m) (g e)
          → map g (cond u (e ∷ f ∷ m) (cond v (f ∷ insert key lt m e) (e ∷ m)))
          ≡ cond u (g e ∷ g f ∷ map g m) (cond v (g f ∷ insert key lt (map g m) (g e)) (g e ∷ map g m))
      go true v ih = refl
      go false true ih = ap (λ l. g f ∷ l) ih
      go false false ih = refl

  pub survivors_map : (l : List E) → survivors key lt (map g l) ≡ map g (survivors key lt l)
  unfolding survivors
  survivors_map l =
      pass_map (insert key lt) g [] l ∙ sym (pass_view (insert key lt) (λ m e. insert key lt m (g e)) (map g) insert_map [] l)

  pub lookup_map : (k : K) (m : List E) → lookup key lt k (map g m) ≡ option_map g (lookup key lt k m)
  unfolding lookup
  lookup_map k [] = refl
  lookup_map k (e ∷ m) = rw (keeps e) (go (same lt k (key e)) (lookup_map k m))
    where
      go : (u : Bool) → lookup key lt k (map g m) ≡ option_map g (lookup key lt k m)
          → cond u (Some (g e)) (lookup key lt k (map g m)) ≡ option_map g (cond u (Some e) (lookup key lt k m))
      go true ih = refl
      go false ih = ih

  -- each of the mapped list is what one became
  became_each : (l : List E) → Forall₂ (λ e f. e ≡ g f) (map g l) l
  became_each [] = Forall₂.nil
  became_each (e ∷ l) = Forall₂.cons refl (became_each l)

  -- by rules that give of what entries became what others give of the entries
  pub compare_map : {C : Type 0} (r s : Rules E C) → ((e : E) → r.gone (g e) ≡ s.gone e) → ((e : E) → r.came (g e) ≡ s.came e)
      → ((e f : E) → r.kept (g e) (g f) ≡ s.kept e f) → (m n : List E) → compare key lt r (map g m) (map g n) ≡ compare key lt s m n
  compare_map r s gone came kept m n =
      compare_alike_lem key lt {P = λ e f. e ≡ g f} {Q = λ e f. e ≡ g f} (λ e f p. ap key p ∙ keeps f) (λ e f p. ap key p ∙ keeps f) r s
      (λ e f p. ap r.gone p ∙ gone f) (λ e f p. ap r.came p ∙ came f)
      (λ d e f h p q. ap (λ x. r.kept x f) p ∙ ap (r.kept (g e)) q ∙ kept e h) (became_each m) (became_each n)

-- by rules that give the same
pub compare_rules : {K E C : Type 0} (key : E → K) (lt : K → K → Bool) (r s : Rules E C) → ((e : E) → r.gone e ≡ s.gone e)
    → ((e : E) → r.came e ≡ s.came e) → ((e f : E) → r.kept e f ≡ s.kept e f) → (m n : List E) → compare key lt r m n ≡ compare key lt s m n
compare_rules {E = E} key lt r s gone came kept m n =
    let h = compare_map key lt (λ (e : E). e) (λ e. refl) r s gone came kept m n in rw (map-id m, map-id n) at h
