-- The contents: each entry is placed as it should be and the last body ends the image, or something is misplaced. Assumes nothing.
use mathlib.Core.Path.{◌≡◌, refl, sym, ap, ◌∙◌}
use mathlib.Core.Bool.{Bool, true, false, cond, ◌&&◌}
use mathlib.Core.List.{List}
use Prim.Native.Nat.{ℕ, zero, suc, ◌+◌, ◌≤◌, ◌<◌}
use native.Mathlib.Omega.{arith}
use native.Mathlib.Numerals.{add-one}
use native.Mathlib.Decide.{dec_lt}
use borrow.Author.Tests.{leb-true, leb-false, eqb-true, eqb-false}
use lib.Dec.{leb, eqb}
use lib.ListN.{length}
use Rattle.image.specs.Image.{entry_count, entry_offset, entry_length, laid}
use Rattle.refusals.specs.Refusals.{body_start, Placed, empty, full, Misplaced, entry, after}

-- of the entries from the i-th on, by what `laid` says of them
pub data Laid (s : List ℕ) (i : ℕ) : Bool → Type 0 where
  good : ((j : ℕ) → i ≤ j → j < entry_count s → Placed s j) → body_start s (entry_count s) ≡ length s → Laid s i true
  wrong : Misplaced s → Laid s i false

and_laid : (s : List ℕ) (i : ℕ) (a b : Bool) → (a ≡ true → Laid s i b) → (a ≡ false → Misplaced s) → Laid s i (a && b)
and_laid s i true b f g = f refl
and_laid s i false b f g = wrong (g refl)

-- one entry before those that follow
before_laid : (s : List ℕ) (i : ℕ) {b : Bool} → Placed s i → Laid s (i + 1) b → Laid s i b
before_laid s i p (good h e) = good (λ j low high. go j low high (dec_lt i j)) e
  where
    go : (j : ℕ) → i ≤ j → j < entry_count s → Dec (i < j) → Placed s j
    go j low high (yes l) = h j (omega arith) high
    go j low high (no l) = let z : j ≡ i = omega arith in rw z p
before_laid s i p (wrong m) = wrong m

-- an entry that is placed: of no length it has no offset; of some length it starts where it should and ends in the image
pub placed_empty : {s : List ℕ} {i : ℕ} → Placed s i → entry_length s i ≡ 0 → entry_offset s i ≡ 0
placed_empty (empty o n) z = o
placed_empty (full n o l) z = absurd (omega arith)

pub placed_full : {s : List ℕ} {i : ℕ} → Placed s i → ¬ (entry_length s i ≡ 0) → (entry_offset s i ≡ body_start s i) × (body_start s (suc i) ≤ length s)
placed_full (empty o n) z = absurd (z n)
placed_full (full n o l) z = (o, l)

pub laid_told : (s : List ℕ) (count i at : ℕ) → at ≡ body_start s i → at ≤ length s → i + count ≡ entry_count s → Laid s i (laid count s i at)
unfolding laid body_start
laid_told s zero i at e l z = go (eqb at (length s)) refl
  where
    last : at ≡ body_start s (entry_count s)
    last = let n : i ≡ entry_count s = omega arith in e ∙ ap (body_start s) n

    go : (b : Bool) → eqb at (length s) ≡ b → Laid s i b
    go true h = good (λ j low high. absurd (omega arith)) (sym last ∙ eqb-true _ _ h)
    go false h = wrong (after (let n : ¬ (at ≡ length s) = eqb-false _ _ h in omega (arith, last)))
laid_told s (suc count) i at e l z = go (eqb size 0) refl (laid_told s count (i + 1))
  where
    size : ℕ
    size = entry_length s i

    offset : ℕ
    offset = entry_offset s i

    rest : ℕ → Bool
    rest n = laid count s (i + 1) n

    next : at + size ≡ body_start s (suc i)
    next = ap (λ (n : ℕ). n + size) e

    after_one : at + size ≡ body_start s (i + 1)
    after_one = next ∙ ap (body_start s) (sym (add-one i))

    at_fault : ¬ Placed s i → Misplaced s
    at_fault f = entry i (omega arith) f

    go : (b : Bool) → eqb size 0 ≡ b
        → ((n : ℕ) → n ≡ body_start s (i + 1) → n ≤ length s → i + 1 + count ≡ entry_count s → Laid s (i + 1) (rest n))
        → Laid s i (cond b (eqb offset 0 && rest at) (eqb offset at && (leb (at + size) (length s) && rest (at + size))))
    go true h later =
        let n : size ≡ 0 = eqb-true _ _ h in
        let same : at ≡ body_start s (i + 1) = omega (arith, after_one) in
        and_laid s i _ _
        (λ q. before_laid s i (empty (eqb-true _ _ q) n) (later at same l (omega arith)))
        (λ q. at_fault (λ p. eqb-false _ _ q (placed_empty p n)))
    go false h later =
        let n : ¬ (size ≡ 0) = eqb-false _ _ h in
        and_laid s i _ _
        (λ q. and_laid s i _ _
        (λ r.
        let k : at + size ≤ length s = leb-true _ _ r in
        before_laid s i (full (omega arith) (eqb-true _ _ q ∙ e) (rw (← next) k)) (later (at + size) after_one k (omega arith)))
        (λ r. at_fault (λ p.
        let k : length s < at + size = leb-false _ _ r in
        let f = (placed_full p n).1 in
        omega (arith, next))))
        (λ q. at_fault (λ p. eqb-false _ _ q ((placed_full p n).0 ∙ sym e)))
