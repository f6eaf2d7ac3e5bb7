-- Laws of `any`, the test whether one of a list passes: over lists made of others, and over what survives of a list; and of `among`, which
-- says that a number is listed. Assumes nothing.
use mathlib.Core.Path.{◌≡◌, refl, sym, ap, ◌∙◌, subst}
use mathlib.Core.Bool.{Bool, true, false, cond, ◌||◌, or-false}
use mathlib.Core.Logic.{◌⊎◌, inl, inr}
use mathlib.Core.List.Memᴰ
use mathlib.Core.List.{List, [], ◌∷◌, ◌++◌, map, flat_map}
use Prim.Native.Nat.{ℕ, max}
use native.Mathlib.Omega.{arith}
use borrow.Author.Tests.{eqb-true, eq-eqb}
use lib.Dec.{eqb, ltb}
use Rattle.maps.specs.Lists.{pass, largest, any, among, All}
use Rattle.maps.specs.Orders.{Strict}
use Rattle.maps.specs.Keyed.{insert, survivors}
use Rattle.maps.proofs.Lists.{all, all_map, pass_view}
use Rattle.maps.proofs.Orders.{by_number}
use Rattle.maps.proofs.Survivors.{insert_cases}
use Rattle.maps.proofs.Reorderings.{In, all_listed}
use Rattle.maps.proofs.Tests.{no_both}

-- ---- tests

or_first : (a b : Bool) → a ≡ true → (a || b) ≡ true
or_first a b p = rw p

or_second : (a : Bool) {b : Bool} → b ≡ true → (a || b) ≡ true
or_second true p = refl
or_second false p = p

or_assoc : (a b c : Bool) → ((a || b) || c) ≡ (a || (b || c))
or_assoc true b c = refl
or_assoc false b c = refl

or_last : (a b c : Bool) → (a || (b || c)) ≡ ((b || c) || a)
or_last true b c = sym (or_second (b || c) refl)
or_last false b c = sym (or-false (b || c))

or_swap : (a b c d : Bool) → ((a || b) || (c || d)) ≡ ((a || c) || (b || d))
or_swap true b c d = refl
or_swap false true true d = refl
or_swap false true false d = refl
or_swap false false c d = refl

-- ---- of the elements

module _ {A : Type 0} where
  pub any_each : (p q : A → Bool) (l : List A) → All (λ a. p a ≡ q a) l → any p l ≡ any q l
  unfolding any All
  any_each p q [] h = refl
  any_each p q (a ∷ l) h = rw (h.0, any_each p q l h.1)

  pub any_same : (p q : A → Bool) → ((a : A) → p a ≡ q a) → (l : List A) → any p l ≡ any q l
  any_same p q h l = any_each p q l (all h l)

  pub any_never : (l : List A) → any (λ a. false) l ≡ false
  unfolding any
  any_never [] = refl
  any_never (a ∷ l) = any_never l

  -- one of two tests
  pub any_or : (p q : A → Bool) (l : List A) → any (λ a. p a || q a) l ≡ (any p l || any q l)
  unfolding any
  any_or p q [] = refl
  any_or p q (a ∷ l) = rw (any_or p q l) (or_swap (p a) (q a) (any p l) (any q l))

  any_append : (p : A → Bool) (l m : List A) → any p (l ++ m) ≡ (any p l || any p m)
  unfolding any
  any_append p [] m = refl
  any_append p (a ∷ l) m = rw (any_append p l m) (sym (or_assoc (p a) (any p l) (any p m)))

  -- the largest of 2 for those that pass
  pub largest_any : (p : A → Bool) (l : List A) → largest (λ a. cond (p a) 2 0) l ≡ cond (any p l) 2 0
  unfolding largest any
  largest_any p [] = refl
  largest_any p (a ∷ l) = go (p a) (any p l) (largest_any p l)
    where
      go : (u v : Bool) → largest (λ a. cond (p a) 2 0) l ≡ cond v 2 0
          → max (cond u 2 0) (largest (λ a. cond (p a) 2 0) l) ≡ cond (u || v) 2 0
      go true true ih = omega arith
      go true false ih = omega arith
      go false v ih = omega (arith, ih)

  -- one that is listed and passes; none that is listed passes
  pub any_in : (p : A → Bool) {a : A} {l : List A} → In a l → p a ≡ true → any p l ≡ true
  unfolding any
  any_in p {l = b ∷ l} (Memᴰ.head e) q = or_first (p b) (any p l) (ap p (sym e) ∙ q)
  any_in p {l = b ∷ l} (Memᴰ.tail i) q = or_second (p b) (any_in p i q)
  any_in p {l = []} i q = elim i [ ]

  pub none_in : (p : A → Bool) {a : A} {l : List A} → any p l ≡ false → In a l → p a ≡ false
  none_in p {a = a} e i = go (p a) refl
    where
      go : (u : Bool) → p a ≡ u → u ≡ false
      go true q = no_both (any_in p i q) e
      go false q = refl

  -- the same of all
  pub any_none : (p : A → Bool) (l : List A) → any p l ≡ false → All (λ a. p a ≡ false) l
  any_none p l e = all_map {P = λ a. In a l} {Q = λ a. p a ≡ false} (λ a i. none_in p e i) l (all_listed l)

  pub none_any : (p : A → Bool) (l : List A) → All (λ a. p a ≡ false) l → any p l ≡ false
  none_any p l h = any_each p (λ a. false) l h ∙ any_never l

  pub any_found : (p : A → Bool) (l : List A) → any p l ≡ true → (a : A) × In a l × (p a ≡ true)
  unfolding any
  any_found p [] e = no_both e refl
  any_found p (a ∷ l) e = go (p a) refl e (any_found p l)
    where
      go : (u : Bool) → p a ≡ u → (u || any p l) ≡ true → (any p l ≡ true → (b : A) × In b l × (p b ≡ true))
          → (b : A) × In b (a ∷ l) × (p b ≡ true)
      go true q f ih = (a, Memᴰ.head refl, q)
      go false q f ih = let t = ih f in (t.0, Memᴰ.tail t.1, t.2)

module _ {A B : Type 0} (p : B → Bool) where
  pub any_flat_map : (f : A → List B) (l : List A) → any p (flat_map f l) ≡ any (λ a. any p (f a)) l
  unfolding any flat_map
  any_flat_map f [] = refl
  any_flat_map f (a ∷ l) = any_append p (f a) (flat_map f l) ∙ ap (λ u. any p (f a) || u) (any_flat_map f l)

  pub any_map : (g : A → B) (l : List A) → any p (map g l) ≡ any (λ a. p (g a)) l
  unfolding any
  any_map g [] = refl
  any_map g (a ∷ l) = ap (λ u. p (g a) || u) (any_map g l)

-- ---- what survives: for a test of its keys it does not matter what was replaced, since the later has the same key

module _ {K E : Type 0} {lt : K → K → Bool} (key : E → K) (S : Strict K lt) (p : K → Bool) where
  by_key : E → Bool
  by_key e = p (key e)

  any_insert : (m : List E) (e : E) → any by_key (insert key lt m e) ≡ (any by_key m || by_key e)
  unfolding any insert by_key
  any_insert [] e = or-false (by_key e)
  any_insert (f ∷ m) e =
      insert_cases key lt f m e (λ l. any by_key l ≡ ((by_key f || any by_key m) || by_key e))
      (λ u. or_last (by_key e) (by_key f) (any by_key m))
      (λ u v. ap (λ b. by_key f || b) (any_insert m e) ∙ sym (or_assoc (by_key f) (any by_key m) (by_key e)))
      (λ u v. replaced (by_key e) (by_key f) (any by_key m) (ap p (S.total (key e) (key f) u v)))
    where
      replaced : (a b c : Bool) → a ≡ b → (a || c) ≡ ((b || c) || a)
      replaced true b c e = rw (← e)
      replaced false b c e = rw (← e) (sym (or-false c))

  -- of one after the other
  any_pass : (b : Bool) (l : List E) → pass (λ c e. c || by_key e) b l ≡ (b || any by_key l)
  unfolding pass any
  any_pass b [] = sym (or-false b)
  any_pass b (e ∷ l) = any_pass (b || by_key e) l ∙ or_assoc b (by_key e) (any by_key l)

  pub any_survivors : (l : List E) → any (λ e. p (key e)) (survivors key lt l) ≡ any (λ e. p (key e)) l
  unfolding survivors any by_key
  any_survivors l = pass_view (insert key lt) (λ b e. b || p (key e)) (any (λ e. p (key e))) any_insert [] l ∙ any_pass false l

-- ---- numbers that are listed

pub among_in : {n : ℕ} {l : List ℕ} → In n l → among n l ≡ true
unfolding among
among_in {n = n} i = any_in (eqb n) i (eq-eqb n n refl)

pub among_found : (n : ℕ) (l : List ℕ) → among n l ≡ true → In n l
unfolding among
among_found n l e = let f = any_found (eqb n) l e in subst (λ m. In m l) (sym (eqb-true n f.0 f.2)) f.1

pub among_none : {A : Type 0} (n : ℕ) → among n [] ≡ true → A
among_none n e = elim (among_found n [] e) [ ]

pub among_here : (n : ℕ) (l : List ℕ) → among n (n ∷ l) ≡ true
among_here n l = among_in (Memᴰ.head refl)

pub among_more : (n m : ℕ) (l : List ℕ) → among n l ≡ true → among n (m ∷ l) ≡ true
among_more n m l e = among_in (Memᴰ.tail (among_found n l e))

-- the first, or one of the others
pub among_cons : (n m : ℕ) (l : List ℕ) → among n (m ∷ l) ≡ true → (n ≡ m) ⊎ (among n l ≡ true)
among_cons n m l e = go (among_found n (m ∷ l) e)
  where
    go : In n (m ∷ l) → (n ≡ m) ⊎ (among n l ≡ true)
    go (Memᴰ.head p) = inl p
    go (Memᴰ.tail i) = inr (among_in i)

pub among_flat_map : {A : Type 0} (f : A → List ℕ) (n : ℕ) {a : A} {l : List A} → In a l → among n (f a) ≡ true → among n (flat_map f l) ≡ true
unfolding among
among_flat_map f n {l = l} i e = any_flat_map (eqb n) f l ∙ any_in (λ a. any (eqb n) (f a)) i e

-- what survives has the same numbers
pub among_survivors : {E : Type 0} (key : E → ℕ) (n : ℕ) (l : List E) → among n (map key (survivors key ltb l)) ≡ among n (map key l)
unfolding among
among_survivors key n l =
    any_map (eqb n) key (survivors key ltb l) ∙ any_survivors key by_number (eqb n) l ∙ sym (any_map (eqb n) key l)
