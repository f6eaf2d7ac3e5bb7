-- A line of a report in pieces, for a writer. Assumes nothing.
use mathlib.Core.Path.{◌≡◌, refl, sym, ap, ◌∙◌}
use mathlib.Core.List.{List, [], ◌∷◌, ◌++◌, append_assoc}
use Prim.Native.Nat.{ℕ}
use Rattle.image.specs.Words.{bytes}
use Rattle.rules.specs.Text.{joined}
use Rattle.rules.specs.Report.{line}
use Rattle.text.proofs.Pieces.{together, together_cons}

-- parts with a `;` between each two and byte 10 after the last
unfoldable pub line_pieces : List (List ℕ) → List (List ℕ)
line_pieces [] = bytes "\n" ∷ []
line_pieces (p ∷ []) = p ∷ bytes "\n" ∷ []
line_pieces (p ∷ q ∷ ps) = p ∷ bytes ";" ∷ line_pieces (q ∷ ps)

pub line_pieces_lem : (ps : List (List ℕ)) → line ps ≡ together (line_pieces ps)
unfolding line joined line_pieces together
line_pieces_lem [] = refl
line_pieces_lem (p ∷ []) = refl
line_pieces_lem (p ∷ q ∷ ps) =
    append_assoc p (bytes ";" ++ joined (bytes ";") (q ∷ ps)) (bytes "\n")
    ∙ ap (λ (l : List ℕ). p ++ l) (append_assoc (bytes ";") (joined (bytes ";") (q ∷ ps)) (bytes "\n") ∙ ap (λ (l : List ℕ). bytes ";" ++ l) (line_pieces_lem (q ∷ ps)) ∙ sym (together_cons (bytes ";") (line_pieces (q ∷ ps))))
