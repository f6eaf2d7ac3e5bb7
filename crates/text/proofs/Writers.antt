-- A writer after text, and then after more. Assumes nothing.
use Rattle.std.proofs.Common.{◌≡◌, List, [], ◌∷◌, ◌++◌, ℕ, ◌+◌, ◌-◌, ◌^◌, ◌≤◌, ◌<◌, min, length, take, drop, refl, ap, sym, ◌∙◌, add-zero, append-nil, arith}
use Rattle.std.proofs.Math.ListN.{length-set, set, take-append-drop, length-drop}
use Rattle.std.proofs.Math.Seq.{paste, paste-zero, paste-suc, length-take-le, take_all}
use Rattle.std.proofs.lemmas.List.{set_past}
use mathlib.Core.Bool.{Bool, true, false}
use borrow.Author.Tests.{leb-true, leb-false}
use lib.Dec.{leb}
use Rattle.text.specs.Text.{put}
use Rattle.text.specs.Writers.{after, after_byte, Adds, Fills}
use Rattle.text.specs.declared.Writer.{Writer}
use Rattle.text.proofs.Writing.{paste_put, put_length, put_nil, put_put}

pub after_after : (w : Writer) (xs ys : List ℕ) → after (after w xs) ys ≡ after w (xs ++ ys)
unfolding after
after_after w [] ys = refl
after_after w (x ∷ xs) ys = after_after (after_byte w x) xs ys

-- ---- one text after the other

-- nothing yet
pub adds_nil : {w : Writer} → Adds w [] w
unfolding after
adds_nil = record { is = refl }

-- a text, and then another
pub adds_more : {w v u : Writer} {xs ys : List ℕ} → Adds w xs v → Adds v ys u → Adds w (xs ++ ys) u
adds_more {w} {v} {u} {xs} {ys} e f = record { is = f.is ∙ ap (λ (k : Writer). after k ys) e.is ∙ after_after w xs ys }

-- the same text otherwise written
pub adds_as : {w v : Writer} {xs ys : List ℕ} → xs ≡ ys → Adds w xs v → Adds w ys v
adds_as e a = record { is = rw (← e) a.is }

-- what is left of a text, where its first part is written
pub left_after : {w v t : Writer} {xs : List ℕ} (ys : List ℕ) → Adds w xs v → after w (xs ++ ys) ≡ t → after v ys ≡ t
left_after {w} {v} {t} {xs} ys a e = ap (λ (k : Writer). after k ys) a.is ∙ after_after w xs ys ∙ e

-- nothing is left
pub none_after : {w u : Writer} {zs : List ℕ} → after w [] ≡ after u zs → Adds u zs w
unfolding after
none_after e = record { is = e }

-- ---- what a writer then has

after_at : (w : Writer) (xs : List ℕ) → w.at < 2 ^ 64 → (after w xs).at ≡ min (w.at + length xs) (2 ^ 64 - 1)
unfolding after
after_at w [] h = omega arith
after_at w (x ∷ xs) h = omega (arith, after_at (after_byte w x) xs (omega arith))

after_name : (w : Writer) (xs : List ℕ) → (after w xs).out.ghost_name ≡ w.out.ghost_name
unfolding after
after_name w [] = refl
after_name w (x ∷ xs) = after_name (after_byte w x) xs

set_put : (d : List ℕ) (at x : ℕ) → at < length d → set d at x ≡ put d at (x ∷ [])
set_put d at x h =
    ap (λ (l : List ℕ). set l at x) (paste-zero d at (x ∷ []))
    ∙ ap (λ (k : ℕ). set (paste d at (x ∷ []) 0) k x) (sym (add-zero at))
    ∙ paste-suc d at (x ∷ []) 0 0 (omega arith) (omega arith)
    ∙ paste_put d at (x ∷ [])

after_bytes : (w : Writer) (xs : List ℕ) → w.at + length xs ≤ length w.out.now → w.at + length xs < 2 ^ 64 → (after w xs).out.now ≡ put w.out.now w.at xs
unfolding after
after_bytes w [] h k = sym (put_nil w.out.now w.at)
after_bytes w (x ∷ xs) h k =
    after_bytes (after_byte w x) xs (simp length-set (omega arith)) (omega arith)
    ∙ ap (λ (n : ℕ). put (set w.out.now w.at x) n xs) (omega arith)
    ∙ ap (λ (l : List ℕ). put l (w.at + 1) xs) (set_put w.out.now w.at x (omega arith))
    ∙ put_put w.out.now w.at (x ∷ []) xs (omega arith)

after_frame : (w : Writer) (xs : List ℕ) → after w xs ≡ record w { at = (after w xs).at; out = record w.out { now = (after w xs).out.now } }
unfolding after
after_frame w [] = refl
after_frame w (x ∷ xs) = after_frame (after_byte w x) xs

-- all fits
after_fits : (w : Writer) (xs : List ℕ) → w.at + length xs ≤ length w.out.now → w.at + length xs < 2 ^ 64
    → after w xs ≡ record w { at = w.at + length xs; out = record w.out { now = put w.out.now w.at xs } }
after_fits w xs h k =
    let at : (after w xs).at ≡ w.at + length xs = after_at w xs (omega arith) ∙ omega arith in
    let bytes = after_bytes w xs h k in
    after_frame w xs ∙ (λ i. record w { at = at i; out = record w.out { now = bytes i } })

-- nothing fits
pub after_past : (w : Writer) (xs : List ℕ) → length w.out.now ≤ w.at → w.at < 2 ^ 64 → after w xs ≡ record w { at = min (w.at + length xs) (2 ^ 64 - 1) }
unfolding after
after_past w [] h k = let e : w.at ≡ min (w.at + 0) (2 ^ 64 - 1) = omega arith in λ i. record w { at = e i }
after_past w (x ∷ xs) h k =
    let same : set w.out.now w.at x ≡ w.out.now = set_past w.out.now w.at x h in
    let e : min (min (w.at + 1) (2 ^ 64 - 1) + length xs) (2 ^ 64 - 1) ≡ min (w.at + length (x ∷ xs)) (2 ^ 64 - 1) = omega arith in
    after_past (after_byte w x) xs (rw same (omega arith)) (omega arith) ∙ (λ i. record w { at = e i; out = record w.out { now = same i } })

-- what of a text fits, in front of what does not
after_cut : (w : Writer) (ys zs : List ℕ) → w.at + length ys ≤ length w.out.now → w.at + length ys < 2 ^ 64 → (0 < length zs → length w.out.now ≤ w.at + length ys)
    → (after w (ys ++ zs)).out.now ≡ put w.out.now w.at ys
after_cut w ys [] h k l = ap (λ (xs : List ℕ). (after w xs).out.now) (append-nil ys) ∙ after_bytes w ys h k
after_cut w ys (z ∷ zs) h k l =
    let fits = after_fits w ys h k in
    let all : length (put w.out.now w.at ys) ≡ length w.out.now = put_length w.out.now w.at ys h in
    ap (λ (u : Writer). u.out.now)
    (sym (after_after w ys (z ∷ zs))
    ∙ ap (λ (u : Writer). after u (z ∷ zs)) fits
    ∙ after_past (record w { at = w.at + length ys; out = record w.out { now = put w.out.now w.at ys } }) (z ∷ zs) (omega (arith, all, l (omega arith))) k)

-- the first n bytes fit
pub after_reached : (w : Writer) (xs : List ℕ) (n : ℕ) → n ≤ length xs → w.at + n ≤ length w.out.now → w.at + n < 2 ^ 64 → (n < length xs → length w.out.now ≤ w.at + n)
    → after w xs ≡ record w { at = min (w.at + length xs) (2 ^ 64 - 1); out = record w.out { now = put w.out.now w.at (take n xs) } }
after_reached w xs n l h k p =
    let some : length (take n xs) ≡ n = length-take-le n xs l in
    let at = after_at w xs (omega arith) in
    let bytes : (after w xs).out.now ≡ put w.out.now w.at (take n xs) =
    ap (λ (ys : List ℕ). (after w ys).out.now) (sym (take-append-drop n xs))
    ∙ after_cut w (take n xs) (drop n xs) (omega (arith, some)) (omega (arith, some)) (λ q. omega (arith, some, p (omega (arith, q, length-drop n xs)))) in
    after_frame w xs ∙ (λ i. record w { at = at i; out = record w.out { now = bytes i } })

-- ---- a whole text, from the start of a buffer

module _ {w v : Writer} {xs : List ℕ} (a : Adds w xs v) where
  pub adds_name : v.out.ghost_name ≡ w.out.ghost_name
  adds_name = ap (λ (k : Writer). k.out.ghost_name) a.is ∙ after_name w xs

  module _ (e : w.at ≡ 0) where
    pub adds_at : v.at ≡ min (length xs) (2 ^ 64 - 1)
    adds_at = ap (λ (k : Writer). k.at) a.is ∙ after_at w xs (omega arith) ∙ rw e (omega arith)

    bytes_all : length xs ≤ length w.out.now → length w.out.now < 2 ^ 64 → v.out.now ≡ put w.out.now 0 (take (length w.out.now) xs)
    bytes_all h k =
        ap (λ (u : Writer). u.out.now) a.is
        ∙ after_bytes w xs (omega arith) (omega arith)
        ∙ ap (λ (n : ℕ). put w.out.now n xs) e
        ∙ ap (put w.out.now 0) (sym (take_all (length w.out.now) xs h))

    bytes_some : length w.out.now ≤ length xs → length w.out.now < 2 ^ 64 → v.out.now ≡ put w.out.now 0 (take (length w.out.now) xs)
    bytes_some h k =
        ap (λ (u : Writer). u.out.now) (a.is ∙ after_reached w xs (length w.out.now) h (omega arith) (omega arith) (λ l. omega arith))
        ∙ ap (λ (n : ℕ). put w.out.now n (take (length w.out.now) xs)) e

    bytes_are : length w.out.now < 2 ^ 64 → v.out.now ≡ put w.out.now 0 (take (length w.out.now) xs)
    bytes_are k = go (leb (length xs) (length w.out.now)) refl
      where
        go : (b : Bool) → leb (length xs) (length w.out.now) ≡ b → v.out.now ≡ put w.out.now 0 (take (length w.out.now) xs)
        go true t = bytes_all (leb-true (length xs) (length w.out.now) t) k
        go false t = bytes_some (omega (arith, leb-false (length xs) (length w.out.now) t)) k

    pub fills : {d : List ℕ} → w.out.now ≡ d → length d < 2 ^ 64 → {d' : List ℕ} → d' ≡ v.out.now → Fills d xs v.at d'
    fills f l q = record { long = adds_at; bytes = q ∙ rw (← f) (bytes_are (rw f l)) }
