-- Laws of specs/Lists.
-- Assumes nothing.
use mathlib.Core.Path.{◌≡◌, refl, sym, ap, ◌∙◌}
use mathlib.Core.Bool.{Bool, true, false, cond, ◌&&◌}
use mathlib.Core.List.{List, [], ◌∷◌, ◌++◌, flat_map, append_assoc}
use Prim.Native.Nat.{ℕ, ◌+◌, ◌≤◌, max}
use native.Mathlib.Omega.{arith}
use lib.ListN.{length, length-append}
use Rattle.maps.specs.Lists.{pass, largest, total, count, every, All}
use Rattle.maps.proofs.Tests.{no_both}

-- ---- all elements

pub all : {A : Type 0} {P : A → Type 0} → ((a : A) → P a) → (l : List A) → All P l
unfolding All
all h [] = tt
all h (a ∷ l) = (h a, all h l)

pub all_map : {A : Type 0} {P Q : A → Type 0} → ((a : A) → P a → Q a) → (l : List A) → All P l → All Q l
unfolding All
all_map f [] h = tt
all_map f (a ∷ l) h = (f a h.0, all_map f l h.1)

pub every_all : {A : Type 0} (p : A → Bool) (l : List A) → every p l ≡ true → All (λ a. p a ≡ true) l
unfolding every All
every_all p [] e = tt
every_all p (a ∷ l) e = go (p a) refl e (every_all p l)
  where
    go : (u : Bool) → p a ≡ u → (u && every p l) ≡ true → (every p l ≡ true → All (λ b. p b ≡ true) l) → (p a ≡ true) × All (λ b. p b ≡ true) l
    go true q f ih = (q, ih f)
    go false q f ih = no_both f refl

-- ---- passes

module _ {S A : Type 0} (step : S → A → S) where
  pub pass_append : (s : S) (xs ys : List A) → pass step s (xs ++ ys) ≡ pass step (pass step s xs) ys
  unfolding pass
  pass_append s [] ys = refl
  pass_append s (a ∷ xs) ys = pass_append (step s a) xs ys

  -- what each step keeps
  pub pass_keeps : (P : S → Type 0) (Q : A → Type 0) → ((s : S) (a : A) → P s → Q a → P (step s a)) → (s : S) (l : List A) → P s → All Q l → P (pass step s l)
  unfolding pass All
  pass_keeps P Q k s [] h q = h
  pass_keeps P Q k s (a ∷ l) h q = pass_keeps P Q k (step s a) l (k s a h q.0) q.1

-- a view of the pass is a pass of the view
pub pass_view : {S T A : Type 0} (step : S → A → S) (step' : T → A → T) (v : S → T) → ((s : S) (a : A) → v (step s a) ≡ step' (v s) a)
    → (s : S) (l : List A) → v (pass step s l) ≡ pass step' (v s) l
unfolding pass
pass_view step step' v e s [] = refl
pass_view step step' v e s (a ∷ l) = pass_view step step' v e (step s a) l ∙ ap (λ t. pass step' t l) (e s a)

-- ---- the largest, and the sum

module _ {A : Type 0} (w : A → ℕ) where
  pub largest_append : (xs ys : List A) → largest w (xs ++ ys) ≡ max (largest w xs) (largest w ys)
  unfolding largest
  largest_append [] ys = omega arith
  largest_append (a ∷ xs) ys = omega (arith, largest_append xs ys)

  -- a bound of both parts is one of the whole, and the other way
  pub largest_whole : (b : ℕ) (xs ys : List A) → largest w xs ≤ b → largest w ys ≤ b → largest w (xs ++ ys) ≤ b
  largest_whole b xs ys h k = omega (arith, largest_append xs ys)

  pub largest_parts : (b : ℕ) (xs ys : List A) → largest w (xs ++ ys) ≤ b → (largest w xs ≤ b) × (largest w ys ≤ b)
  largest_parts b xs ys h = omega (arith, largest_append xs ys)

  pub largest_bound : (b : ℕ) (l : List A) → All (λ a. w a ≤ b) l → largest w l ≤ b
  unfolding largest All
  largest_bound b [] h = omega arith
  largest_bound b (a ∷ l) h = omega (arith, h.0, largest_bound b l h.1)

  pub largest_each : (l : List A) → All (λ a. w a ≤ largest w l) l
  unfolding largest All
  largest_each [] = tt
  largest_each (a ∷ l) = (omega arith, all_map (λ b h. omega (arith, h)) l (largest_each l))

  pub total_append : (xs ys : List A) → total w (xs ++ ys) ≡ total w xs + total w ys
  unfolding total
  total_append [] ys = omega arith
  total_append (a ∷ xs) ys = omega (arith, total_append xs ys)

module _ {A : Type 0} (v w : A → ℕ) where
  pub largest_same : (l : List A) → All (λ a. v a ≡ w a) l → largest v l ≡ largest w l
  unfolding largest All
  largest_same [] h = refl
  largest_same (a ∷ l) h = omega (arith, h.0, largest_same l h.1)

  pub total_same : (l : List A) → All (λ a. v a ≡ w a) l → total v l ≡ total w l
  unfolding total All
  total_same [] h = refl
  total_same (a ∷ l) h = omega (arith, h.0, total_same l h.1)

  pub total_less : (l : List A) → All (λ a. v a ≤ w a) l → total v l ≤ total w l
  unfolding total All
  total_less [] h = omega arith
  total_less (a ∷ l) h = omega (arith, h.0, total_less l h.1)

  pub total_sum : (l : List A) → total (λ a. v a + w a) l ≡ total v l + total w l
  unfolding total
  total_sum [] = refl
  total_sum (a ∷ l) = omega (arith, total_sum l)

pub total_zero : {A : Type 0} (l : List A) → total (λ a. 0) l ≡ 0
unfolding total
total_zero [] = refl
total_zero (a ∷ l) = omega (arith, total_zero l)

pub count_append : {A : Type 0} (p : A → Bool) (xs ys : List A) → count p (xs ++ ys) ≡ count p xs + count p ys
unfolding count
count_append p = total_append (λ a. cond (p a) 1 0)

-- ---- lists put together

pub flat_map_none : {A C : Type 0} (l : List A) → flat_map {B = C} (λ (a : A). []) l ≡ []
unfolding flat_map
flat_map_none [] = refl
flat_map_none (a ∷ l) = flat_map_none l

module _ {A C : Type 0} (f : A → List C) where
  pub flat_map_append : (xs ys : List A) → flat_map f (xs ++ ys) ≡ flat_map f xs ++ flat_map f ys
  unfolding flat_map
  flat_map_append [] ys = refl
  flat_map_append (a ∷ xs) ys = rw (flat_map_append xs ys) (sym (append_assoc (f a) (flat_map f xs) (flat_map f ys)))

  pub length_flat_map : (l : List A) → length (flat_map f l) ≡ total (λ a. length (f a)) l
  unfolding flat_map total
  length_flat_map [] = refl
  length_flat_map (a ∷ l) = omega (arith, length-append (f a) (flat_map f l), length_flat_map l)

  pub flat_map_same : (g : A → List C) (l : List A) → All (λ a. f a ≡ g a) l → flat_map f l ≡ flat_map g l
  unfolding flat_map All
  flat_map_same g [] h = refl
  flat_map_same g (a ∷ l) h = rw (h.0, flat_map_same g l h.1)

  pub largest_flat_map : (w : C → ℕ) (l : List A) → largest w (flat_map f l) ≡ largest (λ a. largest w (f a)) l
  unfolding largest flat_map
  largest_flat_map w [] = refl
  largest_flat_map w (a ∷ l) = omega (arith, largest_append w (f a) (flat_map f l), largest_flat_map w l)

  pub total_flat_map : (w : C → ℕ) (l : List A) → total w (flat_map f l) ≡ total (λ a. total w (f a)) l
  unfolding total flat_map
  total_flat_map w [] = refl
  total_flat_map w (a ∷ l) = omega (arith, total_append w (f a) (flat_map f l), total_flat_map w l)

pub flat_map_flat_map : {A B C : Type 0} (f : A → List B) (g : B → List C) (l : List A) → flat_map g (flat_map f l) ≡ flat_map (λ a. flat_map g (f a)) l
unfolding flat_map
flat_map_flat_map f g [] = refl
flat_map_flat_map f g (a ∷ l) = flat_map_append g (f a) (flat_map f l) ∙ ap (λ x. flat_map g (f a) ++ x) (flat_map_flat_map f g l)
