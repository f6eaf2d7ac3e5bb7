-- What reading at a position of a byte list gives: a value and the position after it, or the number of a refusal. Assumes nothing.
use Rattle.std.specs.Prelude.{Bool, true, false, ◌&&◌, List, [], ◌∷◌, ℕ, zero, suc, ◌+◌, ◌*◌, ltb, leb, length, get_or, take, drop}
use Rattle.image.specs.Codes.{number, body_refusal, code_refusal}

pub data Parsed (A : Type 0) : Type 0 where
  ok : A → ℕ → Parsed A
  no : ℕ → Parsed A

-- the first answer, and if it is a value what follows it: the first fault met is the answer
unfoldable pub bind : {A B : Type 0} → Parsed A → (A → ℕ → Parsed B) → Parsed B
bind (ok a n) f = f a n
bind (no k) f = no k

-- the first answer where a test holds, else the second
unfoldable pub pick : {A : Type 0} → Bool → Parsed A → Parsed A → Parsed A
pick true x y = x
pick false x y = y

-- what follows where a test holds, else the refusal
abbrev pub need : {A : Type 0} → Bool → ℕ → Parsed A → Parsed A
need test number x = pick test x (no number)

-- an answer of a part that starts at `by`, as one of the whole
unfoldable pub shift : {A : Type 0} → ℕ → Parsed A → Parsed A
shift by (ok a n) = ok a (by + n)
shift by (no k) = no k

-- a parser of a part, at the part that starts at `at`
unfoldable pub within : {A : Type 0} → (List ℕ → Parsed A) → List ℕ → ℕ → Parsed A
within p s at = shift at (p (drop at s))

-- `count` elements from a position on
unfoldable pub part : ℕ → ℕ → List ℕ → List ℕ
part from count s = take count (drop from s)

-- a byte; `short` is the refusal where the list ends before it
unfoldable pub byte_at : ℕ → List ℕ → ℕ → Parsed ℕ
byte_at short s at = need (ltb at (length s)) short (ok (get_or s at 0) (at + 1))

-- a coded byte from lo to hi
unfoldable pub code_at : ℕ → ℕ → List ℕ → ℕ → Parsed ℕ
code_at lo hi s at = bind (byte_at (number body_refusal) s at) (λ b n. need (leb lo b && leb b hi) (number code_refusal) (ok b n))

-- the number of the first w bytes, the lowest first
unfoldable pub little_endian : ℕ → List ℕ → ℕ
little_endian zero s = 0
little_endian (suc w) s = get_or s 0 0 + 256 * little_endian w (drop 1 s)

-- a number of w bytes
unfoldable pub number_at : ℕ → List ℕ → ℕ → Parsed ℕ
number_at w s at = need (leb (at + w) (length s)) (number body_refusal) (ok (little_endian w (drop at s)) (at + w))

-- so many of a kind, one after the other
unfoldable pub many : {A : Type 0} → (List ℕ → ℕ → Parsed A) → ℕ → List ℕ → ℕ → Parsed (List A)
many p zero s at = ok [] at
many p (suc count) s at = bind (p s at) (λ x n. bind (many p count s n) (λ xs m. ok (x ∷ xs) m))

-- a u16 count, and as many
unfoldable pub counted : {A : Type 0} → (List ℕ → ℕ → Parsed A) → List ℕ → ℕ → Parsed (List A)
counted p s at = bind (number_at 2 s at) (λ count n. many p count s n)
