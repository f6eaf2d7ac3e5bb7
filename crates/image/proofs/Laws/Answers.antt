-- How the code's answers follow the parsers. Each read of the code ensures `read_of r ≡ skip p`; what follows a read is a `bind`.
-- Assumes nothing.
use mathlib.Core.Path.{◌≡◌, refl, sym, ap, ◌∙◌}
use mathlib.Core.Bool.{Bool, true, false}
use mathlib.Core.List.{List}
use Prim.Native.Nat.{ℕ, ◌+◌}
use lib.ListN.{drop}
use Rattle.std.specs.Prelude.{Ok, Err, ⊤}
use Rattle.image.specs.Numbers.{refusal_number}
use Rattle.image.specs.Parse.{Parsed, ok, no, bind, pick, shift, within}
use Rattle.image.specs.Reads.{Read, read_of, skip}
use Rattle.image.specs.declared.refusals.Refusal.{Refusal}

-- what the code's two answers say
was_ok : {x : Read} {n : ℕ} → x ≡ Ok n → read_of x ≡ ok tt n
unfolding read_of
was_ok h = rw h

was_err : {x : Read} {k : Refusal} → x ≡ Err k → read_of x ≡ no (refusal_number k)
unfolding read_of
was_err h = rw h

-- a refusal stays as it is
pub stop : {A B : Type 0} (p : Parsed A) (f : A → ℕ → Parsed B) {x : Read} {k : Refusal} → x ≡ Err k → read_of x ≡ skip p
    → read_of x ≡ skip (bind p f)
unfolding skip bind
stop (ok a m) f {x} {k} h e = let z : no (refusal_number k) ≡ ok tt m = sym (was_err h) ∙ e in cc
stop (no j) f h e = e

-- a parser that answered a value, and n
pub record Got {A : Type 0} (p : Parsed A) (n : ℕ) : Type 0 where
  pub value : A
  pub is : p ≡ ok value n

pub got : {A : Type 0} {p : Parsed A} {x : Read} {n : ℕ} → x ≡ Ok n → read_of x ≡ skip p → Got p n
unfolding skip
got {A} {p} {x} {n} h e = go p (sym (was_ok h) ∙ e)
  where
    go : (q : Parsed A) → ok tt n ≡ skip q → Got q n
    go (ok a m) e = record { value = a; is = ap (ok a) (let d : m ≡ n = cc in d) }
    go (no k) e = absurd (let z : ⊥ = cc in z)

-- so what follows it is what f says of every value at n
pub next : {A B : Type 0} {p : Parsed A} (f : A → ℕ → Parsed B) {r : Parsed ⊤} {n : ℕ} → Got p n → ((a : A) → r ≡ skip (f a n))
    → r ≡ skip (bind p f)
unfolding bind
next f g h = rw g.is (h g.value)

-- or what it says of the one value that it can be
pub next_is : {A B : Type 0} {p : Parsed A} (f : A → ℕ → Parsed B) {r : Parsed ⊤} {a : A} {n : ℕ} → p ≡ ok a n → r ≡ skip (f a n)
    → r ≡ skip (bind p f)
unfolding bind
next_is f e h = rw e h

-- what is made of the value does not matter to the answer
pub skip_ok : {A B : Type 0} (p : Parsed A) (g : A → B) → skip (bind p (λ a m. ok (g a) m)) ≡ skip p
unfolding skip bind
skip_ok (ok a m) g = refl
skip_ok (no k) g = refl

-- a test between two reads
module _ {A : Type 0} (b : Bool) (p q : Parsed A) {r : Parsed ⊤} where
  pub pick_true : b ≡ true → r ≡ skip p → r ≡ skip (pick b p q)
  unfolding pick
  pick_true e h = rw e h

  pub pick_false : b ≡ false → r ≡ skip q → r ≡ skip (pick b p q)
  unfolding pick
  pick_false e h = rw e h

-- a part's answer as the whole's
module _ {A : Type 0} (p : List ℕ → Parsed A) (s : List ℕ) (at : ℕ) {x : Read} where
  pub within_at : {n : ℕ} → x ≡ Ok n → read_of x ≡ skip (p (drop at s)) → read_of (Ok (at + n)) ≡ skip (within p s at)
  unfolding within skip read_of shift
  within_at {n} h e = go (p (drop at s)) (sym (was_ok h) ∙ e)
    where
      go : (q : Parsed A) → ok tt n ≡ skip q → ok tt (at + n) ≡ skip (shift at q)
      go (ok a m) e = let d : n ≡ m = cc in rw d
      go (no k) e = absurd (let z : ⊥ = cc in z)

  pub within_no : {k : Refusal} → x ≡ Err k → read_of x ≡ skip (p (drop at s)) → read_of x ≡ skip (within p s at)
  unfolding within skip shift
  within_no {k} h e = go (p (drop at s)) e
    where
      go : (q : Parsed A) → read_of x ≡ skip q → read_of x ≡ skip (shift at q)
      go (ok a m) e = let z : no (refusal_number k) ≡ ok tt m = sym (was_err h) ∙ e in cc
      go (no j) e = e
