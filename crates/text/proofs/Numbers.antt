-- A number in decimal: what the library prints of it, and how long it is. Assumes nothing.
use mathlib.Core.Path.{◌≡◌, refl, ap, ◌∙◌}
use mathlib.Core.Bool.{Bool, true, false, cond}
use mathlib.Core.List.{List, [], ◌∷◌, ◌++◌, append-nil}
use Prim.Native.Nat.{ℕ, zero, suc, ◌+◌, ◌-◌, ◌/◌, ◌%◌, ◌^◌, ◌≤◌, ◌<◌}
use native.Mathlib.Omega.{arith}
use borrow.Author.Tests.{lt-ltb, ltb-true, ltb-false}
use lib.Dec.{ltb}
use lib.ListN.{length, take, drop, length-append}
use lib.Seq.{take_all}
use Rattle.std.specs.Prelude.{decimal as shown}
use Rattle.std.proofs.lemmas.Fmt.{decimal_digit, decimal_step}
use Rattle.text.specs.Decimal.{digits, decimal}

digits_printed : (d n : ℕ) → n < 10 ^ suc d → n < 2 ^ 64 → shown n ≡ digits (suc d) n
unfolding digits
digits_printed zero n h s = decimal_digit n (omega arith) ∙ rw (lt-ltb n 10 (omega arith)) refl
digits_printed (suc d) n h s = go (ltb n 10) refl (λ l. digits_printed d (n / 10) (omega arith) (omega arith))
  where
    go : (b : Bool) → ltb n 10 ≡ b → (10 ≤ n → shown (n / 10) ≡ digits (suc d) (n / 10)) → shown n ≡ cond b ((48 + n) ∷ []) (digits (suc d) (n / 10) ++ ((48 + n % 10) ∷ []))
    go true e f = decimal_digit n (ltb-true n 10 e)
    go false e f =
        let l : 10 ≤ n = ltb-false n 10 e in
        decimal_step n l s ∙ ap (λ (x : List ℕ). x ++ ((48 + n % 10) ∷ [])) (f l)

pub printed : (n : ℕ) → n < 2 ^ 64 → shown n ≡ decimal n
unfolding decimal
printed n h = digits_printed 19 n (omega arith) h

-- how many digits there are
digits_length : (d n : ℕ) → length (digits d n) ≤ d
unfolding digits
digits_length zero n = omega arith
digits_length (suc d) n = go (ltb n 10) (digits_length d (n / 10))
  where
    go : (a : Bool) → length (digits d (n / 10)) ≤ d → length (cond a ((48 + n) ∷ []) (digits d (n / 10) ++ ((48 + n % 10) ∷ []))) ≤ suc d
    go true h = omega arith
    go false h = omega (arith, length-append (digits d (n / 10)) ((48 + n % 10) ∷ []))

pub decimal_length : (n : ℕ) → length (decimal n) ≤ 20
unfolding decimal
decimal_length n = digits_length 20 n

pub short : (n : ℕ) → n < 2 ^ 64 → length (shown n) ≤ 20
short n h = rw (printed n h) (decimal_length n)

-- its digits, which the library leaves at the end of 20 bytes
pub at_the_end : (n from : ℕ) (bytes : List ℕ) → n < 2 ^ 64 → from + length (shown n) ≡ 20 → drop from bytes ≡ shown n ++ [] → take (20 - from) (drop from bytes) ≡ decimal n
at_the_end n from bytes s all are = let e = are ∙ append-nil (shown n) in take_all (20 - from) (drop from bytes) (rw e (omega (arith, all))) ∙ e ∙ printed n s

-- what the code needs
pub ruleset showing = (short, at_the_end)
