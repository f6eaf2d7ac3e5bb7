-- The tests of specs/Equal are sound, and what holds of every sound test. Assumes nothing.
use mathlib.Core.Path.{◌≡◌, refl, sym}
use mathlib.Core.Bool.{Bool, true, false, ◌&&◌, beq, false≢true}
use Rattle.std.specs.Prelude.{Option, None, Some}
use mathlib.Core.List.{List, [], ◌∷◌}
use lib.Dec.{eqb}
use borrow.Author.Tests.{eqb-true, eq-eqb}
use Rattle.maps.proofs.Tests.{both}
use Rattle.rules.specs.Equal.{same_list, same_option, same_name, same_names, Sound, never}

-- ---- two tests that hold

pub join : {a b : Bool} → a ≡ true → b ≡ true → (a && b) ≡ true
join p q = rw (p, q)

-- ---- what holds of every sound test

module _ {A : Type 0} {same : A → A → Bool} {odd : A → Bool} (S : Sound same odd) where
  pub same_trans : (a b c : A) → same a b ≡ true → same b c ≡ true → same a c ≡ true
  same_trans a b c p q = rw (S.equal a b p) q

  pub same_sym : (a b : A) → same a b ≡ same b a
  same_sym a b = go (same a b) (same b a) refl refl
    where
      go : (x y : Bool) → same a b ≡ x → same b a ≡ y → x ≡ y
      go true true p q = refl
      go false false p q = refl
      go true false p q = cc (S.equal a b p)
      go false true p q = cc (S.equal b a q)

-- two tests as one
pub pairs : {A B : Type 0} {s : A → A → Bool} {t : B → B → Bool} → Sound s never → Sound t never
    → Sound (λ (p q : A × B). s p.0 q.0 && t p.1 q.1) never
pairs {s = s} {t = t} S T = record {
  equal = λ p q e.
      let h = both (s p.0 q.0) (t p.1 q.1) e in
      let u = S.equal p.0 q.0 h.0 in
      let v = T.equal p.1 q.1 h.1 in
      λ i. (u i, v i);
  self = λ p. join (S.self p.0) (T.self p.1);
}

-- ---- numbers, marks, lists, what may be absent, names

pub numbers : Sound eqb never
numbers = record { equal = eqb-true; self = λ n. eq-eqb n n refl }

pub marks : Sound beq never
marks = record { equal = equal; self = self }
  where
    equal : (a b : Bool) → beq a b ≡ true → a ≡ b
    equal true true e = refl
    equal true false e = sym e
    equal false true e = e
    equal false false e = refl

    self : (a : Bool) → beq a a ≡ true
    self true = refl
    self false = refl

module _ {A : Type 0} {same : A → A → Bool} (S : Sound same never) where
  list_equal : (a b : List A) → same_list same a b ≡ true → a ≡ b
  unfolding same_list
  list_equal [] [] e = refl
  list_equal [] (y ∷ ys) e = absurd (false≢true e)
  list_equal (x ∷ xs) [] e = absurd (false≢true e)
  list_equal (x ∷ xs) (y ∷ ys) e =
      let h = both (same x y) (same_list same xs ys) e in
      cc (S.equal x y h.0, list_equal xs ys h.1)

  list_self : (a : List A) → same_list same a a ≡ true
  unfolding same_list
  list_self [] = refl
  list_self (x ∷ xs) = join (S.self x) (list_self xs)

  pub lists : Sound (same_list same) never
  lists = record { equal = list_equal; self = list_self }

  option_equal : (a b : Option A) → same_option same a b ≡ true → a ≡ b
  unfolding same_option
  option_equal None None e = refl
  option_equal None (Some b) e = absurd (false≢true e)
  option_equal (Some a) None e = absurd (false≢true e)
  option_equal (Some a) (Some b) e = cc (S.equal a b e)

  option_self : (a : Option A) → same_option same a a ≡ true
  unfolding same_option
  option_self None = refl
  option_self (Some a) = S.self a

  pub options : Sound (same_option same) never
  options = record { equal = option_equal; self = option_self }

pub names : Sound same_name never
unfolding same_name
names = record { equal = (lists numbers).equal; self = (lists numbers).self }

pub name_lists : Sound same_names never
unfolding same_names
name_lists = record { equal = (lists names).equal; self = (lists names).self }
