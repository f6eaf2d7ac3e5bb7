-- A text in pieces. Assumes nothing.
use mathlib.Core.Path.{◌≡◌, refl, sym}
use mathlib.Core.List.{List, [], ◌∷◌, ◌++◌, append-nil}

-- lists one after the other, p₀ ++ (p₁ ++ ..)
unfoldable pub together : {A : Type 0} → List (List A) → List A
together [] = []
together (p ∷ []) = p
together (p ∷ q ∷ ps) = p ++ together (q ∷ ps)

pub together_cons : {A : Type 0} (p : List A) (ps : List (List A)) → together (p ∷ ps) ≡ p ++ together ps
unfolding together
together_cons p [] = sym (append-nil p)
together_cons p (q ∷ ps) = refl
