-- Numbers, coded bytes, names and lists are read back where they were written. Assumes nothing.
use mathlib.Core.Path.{◌≡◌, refl, sym, ap, ◌∙◌}
use mathlib.Core.List.{List, [], ◌∷◌, ◌++◌}
use Prim.Native.Nat.{ℕ, zero, suc, ◌+◌, ◌/◌, ◌^◌, ◌≤◌, ◌<◌}
use native.Mathlib.Omega.{arith}
use native.Mathlib.Nat.{add-zero}
use borrow.Author.Tests.{lt-ltb, le-leb}
use lib.ListN.{length, drop, length-append}
use Rattle.image.specs.Schema.{Name}
use Rattle.image.specs.Parse.{Parsed, ok, bind, pick, byte_at, code_at, little_endian, number_at, many, counted}
use Rattle.image.specs.Names.{name_at, names_at}
use Rattle.written.specs.Writer.{digits, write_each, write_counted, write_name}
use Rattle.written.specs.Limits.{Each, end, also, Few, NameWithin}
use Rattle.written.proofs.Here.{Here, here_fits, here_first, here_next, here_byte, here_part}

-- p reads x from w, wherever w stands
abbrev pub Reads : {A : Type 0} → (List ℕ → ℕ → Parsed A) → List ℕ → A → Type 0
Reads p w x = (s : List ℕ) (at : ℕ) → Here s at w → p s at ≡ ok x (at + length w)

-- what was read is handed on
pub got : {A B : Type 0} {p : Parsed A} (f : A → ℕ → Parsed B) {x : A} {n : ℕ} {r : Parsed B} → p ≡ ok x n → f x n ≡ r → bind p f ≡ r
unfolding bind
got f e g = rw e g

-- nothing was written
pub stay : {A : Type 0} (x : A) (at : ℕ) → ok x at ≡ ok x (at + 0)
stay x at = ap (ok x) (sym (add-zero at))

-- one after the other
pub seq : {A B : Type 0} {s : List ℕ} {at : ℕ} (w v : List ℕ) → Here s at (w ++ v) → {p : Parsed A} (f : A → ℕ → Parsed B) {x : A} {y : B}
    → (Here s at w → p ≡ ok x (at + length w)) → (Here s (at + length w) v → f x (at + length w) ≡ ok y (at + length w + length v))
    → bind p f ≡ ok y (at + length (w ++ v))
seq {at = at} w v h f {y = y} first next =
    let e : at + length w + length v ≡ at + length (w ++ v) = omega (arith, length-append w v) in
    got f (first (here_first w v h)) (next (here_next w v h) ∙ ap (ok y) e)

pub byte_back : (short b : ℕ) → Reads (byte_at short) (b ∷ []) b
unfolding byte_at pick
byte_back short b s at h =
    let l : at < length s = omega (arith, here_fits h) in
    simp (lt-ltb _ _ l, here_byte h)

pub code_back : (lo hi b : ℕ) → lo ≤ b → b ≤ hi → Reads (code_at lo hi) (b ∷ []) b
unfolding code_at pick
code_back lo hi b low high s at h = got _ (byte_back 8 b s at h) (simp (le-leb _ _ low, le-leb _ _ high))

-- numbers
pub length_digits : (w v : ℕ) → length (digits w v) ≡ w
unfolding digits
length_digits zero v = refl
length_digits (suc w) v = ap suc (length_digits w (v / 256))

pub digits_back : (w v : ℕ) (rest : List ℕ) → v < 256 ^ w → little_endian w (digits w v ++ rest) ≡ v
unfolding digits little_endian
digits_back zero v rest h = omega arith
digits_back (suc w) v rest h =
    let l : v / 256 < 256 ^ w = omega arith in
    rw (digits_back w (v / 256) rest l) (omega arith)

pub here_number : {s : List ℕ} {at : ℕ} (w v : ℕ) → v < 256 ^ w → Here s at (digits w v) → little_endian w (drop at s) ≡ v
here_number w v l h = ap (little_endian w) h.is ∙ digits_back w v h.rest l

pub number_back : (w v : ℕ) → v < 256 ^ w → Reads (number_at w) (digits w v) v
unfolding number_at pick
number_back w v l s at h =
    let f : at + w ≤ length s = omega (arith, here_fits h, length_digits w v) in
    simp (le-leb _ _ f, here_number w v l h, length_digits)

-- names
pub name_back : (short : ℕ) (x : Name) → NameWithin x → Reads (name_at short) (write_name x) x
unfolding name_at write_name pick
name_back short x q s at h =
    seq (length x ∷ []) x h _ (byte_back short (length x) s at) (λ g. simp (le-leb _ _ (here_fits g), here_part g, q.allowed))

-- lists
pub each_back : {A : Type 0} (p : List ℕ → ℕ → Parsed A) (w : A → List ℕ) (P : A → Type 0) → ((x : A) → P x → Reads p (w x) x)
    → (xs : List A) → Each P xs → Reads (many p (length xs)) (write_each w xs) xs
unfolding many write_each
each_back p w P back [] end s at h = stay [] at
each_back p w P back (x ∷ xs) (also q qs) s at h =
    seq (w x) _ h _ (back x q s at) (λ g. got _ (each_back p w P back xs qs s _ g) refl)

pub counted_back : {A : Type 0} (p : List ℕ → ℕ → Parsed A) (w : A → List ℕ) (P : A → Type 0) → ((x : A) → P x → Reads p (w x) x)
    → (xs : List A) → Few xs → Each P xs → Reads (counted p) (write_counted w xs) xs
unfolding counted write_counted
counted_back p w P back xs few qs s at h =
    seq (digits 2 (length xs)) _ h _ (number_back 2 (length xs) few s at) (each_back p w P back xs qs s _)

pub names_back : (short : ℕ) (xs : List Name) → Each NameWithin xs → Reads (names_at short (length xs)) (write_each write_name xs) xs
unfolding names_at
names_back short xs qs = each_back (name_at short) write_name NameWithin (name_back short) xs qs
