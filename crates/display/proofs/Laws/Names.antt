-- Names with a text between each two, one after the other. Assumes nothing.
use Rattle.std.proofs.Common.{◌≡◌, refl, sym, ap, append-nil, ◌∙◌, List, [], ◌∷◌, ◌++◌, ℕ}
use Rattle.image.specs.Schema.{Name}
use Rattle.rules.specs.Text.{joined}
use Rattle.text.specs.Writers.{after}
use Rattle.text.specs.declared.Writer.{Writer}
use Rattle.text.proofs.Writers.{after_after}

-- the names after the first, each with what stands before it
unfoldable pub others : List ℕ → List Name → List ℕ
others between [] = []
others between (name ∷ names) = between ++ (name ++ others between names)

module _ (w : Writer) (between : List ℕ) where
  pub no_others : after w (others between []) ≡ w
  unfolding others after
  no_others = refl

  pub none_joined : after w (joined between []) ≡ w
  unfolding joined after
  none_joined = refl

  module _ (name : Name) where
    pub next_other : (names : List Name) → after w (others between (name ∷ names)) ≡ after (after (after w between) name) (others between names)
    unfolding others
    next_other names = sym (after_after (after w between) name (others between names) ∙ after_after w between (name ++ others between names))

    joined_some : (names : List Name) → joined between (name ∷ names) ≡ name ++ others between names
    unfolding joined others
    joined_some [] = sym (append-nil name)
    joined_some (n ∷ names) = go n names name
      where
        go : (n : Name) (names : List Name) (m : Name) → joined between (m ∷ n ∷ names) ≡ m ++ others between (n ∷ names)
        go n [] m = ap (λ (l : List ℕ). m ++ (between ++ l)) (sym (append-nil n))
        go n (k ∷ names) m = ap (λ (l : List ℕ). m ++ (between ++ l)) (go k names n)

    pub first_joined : (names : List Name) → after w (joined between (name ∷ names)) ≡ after (after w name) (others between names)
    first_joined names = ap (after w) (joined_some names) ∙ sym (after_after w name (others between names))

-- what the code needs
pub ruleset naming = (no_others, none_joined, next_other, first_joined)
