-- What is known of every answer of a parser: of a value and the position after it, and of a refusal. Assumes nothing.
use mathlib.Core.Path.{◌≡◌, refl}
use mathlib.Core.Bool.{Bool, true, false}
use mathlib.Core.List.{List}
use Prim.Native.Nat.{ℕ, zero, suc}
use lib.ListN.{drop}
use Rattle.image.specs.Parse.{Parsed, ok, no, bind, pick, shift, within, many}

pub data Told {A : Type 0} (P : A → ℕ → Type 0) (Q : ℕ → Type 0) : Parsed A → Type 0 where
  told_ok : {a : A} {n : ℕ} → P a n → Told P Q (ok a n)
  told_no : {k : ℕ} → Q k → Told P Q (no k)

-- where nothing needs to be known of a value
abbrev pub Any : {A : Type 0} → A → ℕ → Type 0
Any a n = Unit

pub told_bind : {A B : Type 0} {P : A → ℕ → Type 0} {R : B → ℕ → Type 0} {Q : ℕ → Type 0} {p : Parsed A} (f : A → ℕ → Parsed B)
    → Told P Q p → ((a : A) (n : ℕ) → P a n → Told R Q (f a n)) → Told R Q (bind p f)
unfolding bind
told_bind f (told_ok {a = a} {n = n} h) g = g a n h
told_bind f (told_no h) g = told_no h

pub told_pick : {A : Type 0} {P : A → ℕ → Type 0} {Q : ℕ → Type 0} (b : Bool) {x y : Parsed A}
    → (b ≡ true → Told P Q x) → (b ≡ false → Told P Q y) → Told P Q (pick b x y)
unfolding pick
told_pick true f g = f refl
told_pick false f g = g refl

pub told_then : {A : Type 0} {P R : A → ℕ → Type 0} {Q U : ℕ → Type 0} {p : Parsed A}
    → Told P Q p → ((a : A) (n : ℕ) → P a n → R a n) → ((k : ℕ) → Q k → U k) → Told R U p
told_then (told_ok {a = a} {n = n} h) f g = told_ok (f a n h)
told_then (told_no {k = k} h) f g = told_no (g k h)

pub told_both : {A : Type 0} {P R : A → ℕ → Type 0} {Q U : ℕ → Type 0} {p : Parsed A} → Told P Q p → Told R U p → Told (λ a n. P a n × R a n) U p
told_both (told_ok h) (told_ok g) = told_ok (h, g)
told_both (told_no h) (told_no g) = told_no g

told_shift : {A : Type 0} {Q : ℕ → Type 0} (at : ℕ) {x : Parsed A} → Told Any Q x → Told Any Q (shift at x)
unfolding shift
told_shift at (told_ok h) = told_ok tt
told_shift at (told_no h) = told_no h

pub told_within : {A : Type 0} {Q : ℕ → Type 0} (p : List ℕ → Parsed A) → ((s : List ℕ) → Told Any Q (p s))
    → (s : List ℕ) (at : ℕ) → Told Any Q (within p s at)
unfolding within
told_within p h s at = told_shift at (h (drop at s))

pub told_many : {A : Type 0} {Q : ℕ → Type 0} (p : List ℕ → ℕ → Parsed A) → ((s : List ℕ) (at : ℕ) → Told Any Q (p s at))
    → (count : ℕ) (s : List ℕ) (at : ℕ) → Told Any Q (many p count s at)
unfolding many
told_many p h zero s at = told_ok tt
told_many p h (suc count) s at = told_bind _ (h s at) (λ x n _. told_bind _ (told_many p h count s n) (λ xs m _. told_ok tt))
