-- What the answers of the code's reads say of the definitions. Assumes nothing.
use Rattle.std.specs.Prelude.{◌≡◌, ℕ, ◌≤◌, List, length, Result, Ok, Err, IfOk, ⊤}
use Rattle.std.specs.Borrow.{Bor}
use Rattle.image.specs.Codes.{number, not_refused}
use Rattle.image.specs.Numbers.{refusal_number}
use Rattle.image.specs.Parse.{Parsed, ok, no}
use Rattle.image.specs.declared.refusals.Refusal.{Refusal}

-- what a read answers
abbrev pub Read : Type 0
Read = Result ℕ Refusal

-- the position after a value, or the refusal's number
unfoldable pub read_of : Read → Parsed ⊤
read_of (Ok n) = ok tt n
read_of (Err e) = no (refusal_number e)

-- a parse without its value
unfoldable pub skip : {A : Type 0} → Parsed A → Parsed ⊤
skip (ok a n) = ok tt n
skip (no k) = no k

-- document 01's number of a parse: 0 where it gives a value
unfoldable pub refusal : {A : Type 0} → Parsed A → ℕ
refusal (ok a n) = (number not_refused)
refusal (no k) = k

-- every position of a list, its end included, is carried
abbrev pub Carries : (ℕ → Type 0) → List ℕ → Type 0
Carries carried s = (n : ℕ) → n ≤ length s → carried n

-- A read that is handed to a function, with its positions held in P, by what its calls ask and return: it may be called on a list whose
-- positions are carried, it reads as p says, and no further than the list goes.
abbrev pub ReadsAt : {P : Type 0} → (Bor (List ℕ) → P → Type 0) → (ℕ → Type 0) → Type 0
ReadsAt {P} asks carried = (s : Bor (List ℕ)) (at : P) → Carries carried s.now → asks s at

abbrev pub ReadsAs : {P : Type 0} → (Bor (List ℕ) → P → Read → Type 0) → (P → ℕ) → (List ℕ → ℕ → Parsed ⊤) → Type 0
ReadsAs {P} returns place p = (s : Bor (List ℕ)) (at : P) (r : Read) → returns s at r → read_of r ≡ p s.now (place at)

-- so do two, of narrow positions and of wide ones
abbrev pub ReadAlike : (Bor (List ℕ) → ℕ → Read → Type 0) → (Bor (List ℕ) → ℕ → Read → Type 0) → (List ℕ → ℕ → Parsed ⊤)
    → Type 0
ReadAlike narrow wide p = ReadsAs narrow (λ i. i) p × ReadsAs wide (λ i. i) p

abbrev pub ReadsInside : {P : Type 0} → (Bor (List ℕ) → P → Read → Type 0) → Type 0
ReadsInside {P} returns = (s : Bor (List ℕ)) (at : P) (r : Read) → returns s at r → IfOk r (λ n. n ≤ length s.now)
