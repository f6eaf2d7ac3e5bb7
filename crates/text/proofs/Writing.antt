-- A buffer with text at a place. Assumes nothing.
use mathlib.Core.Path.{◌≡◌, sym, ap, ◌∙◌}
use mathlib.Core.List.{List, [], ◌++◌, append_assoc}
use Prim.Native.Nat.{ℕ, ◌+◌, ◌≤◌}
use native.Mathlib.Nat.{add_assoc, le_refl}
use lib.ListN.{length, take, drop, length-append}
use lib.Seq.{length-take-le, take-length, take_at, drop_at, drop-drop, paste, length-paste, paste-zero}
use Rattle.text.specs.Text.{put}

-- a copy of all is the text in its place
pub paste_put : (d : List ℕ) (at : ℕ) (xs : List ℕ) → paste d at xs (length xs) ≡ put d at xs
unfolding put
paste_put d at xs = rw (take-length, append_assoc)

pub put_length : (d : List ℕ) (at : ℕ) (xs : List ℕ) → at + length xs ≤ length d → length (put d at xs) ≡ length d
put_length d at xs h = rw (← paste_put d at xs) (length-paste d at xs (length xs) h (le_refl (length xs)))

pub put_nil : (d : List ℕ) (at : ℕ) → put d at [] ≡ d
put_nil d at = sym (paste-zero d at [] ∙ paste_put d at [])

-- text after text is the two as one
pub put_put : (d : List ℕ) (at : ℕ) (xs ys : List ℕ) → at ≤ length d → put (put d at xs) (at + length xs) ys ≡ put d at (xs ++ ys)
unfolding put
put_put d at xs ys h =
    let n : length (take at d ++ xs) ≡ at + length xs = length-append (take at d) xs ∙ ap (λ (k : ℕ). k + length xs) (length-take-le at d h) in
    let rest : List ℕ = drop (at + length xs) d in
    let front : take (at + length xs) ((take at d ++ xs) ++ rest) ≡ take at d ++ xs = take_at (take at d ++ xs) rest (at + length xs) n in
    let back : drop (at + length xs + length ys) ((take at d ++ xs) ++ rest) ≡ drop (at + length (xs ++ ys)) d =
    sym (drop-drop (length ys) (at + length xs) ((take at d ++ xs) ++ rest))
    ∙ ap (drop (length ys)) (drop_at (take at d ++ xs) rest (at + length xs) n)
    ∙ drop-drop (length ys) (at + length xs) d
    ∙ ap (λ (k : ℕ). drop k d) (add_assoc at (length xs) (length ys) ∙ ap (λ (k : ℕ). at + k) (sym (length-append xs ys))) in
    rw (← append_assoc (take at d) xs rest, front, back, append_assoc (take at d) xs, append_assoc xs ys)
