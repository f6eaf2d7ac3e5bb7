-- Small laws of tests. Assumes nothing.
use mathlib.Core.Path.{◌≡◌, refl, sym, ◌∙◌}
use mathlib.Core.Bool.{Bool, true, false, ◌&&◌, true≢false}

pub no_both : {A : Type 0} {b : Bool} → b ≡ true → b ≡ false → A
no_both p q = absurd (true≢false (sym p ∙ q))

-- two tests hold if both do
pub both : (a b : Bool) → a && b ≡ true → (a ≡ true) × (b ≡ true)
both true b e = (refl, e)
both false b e = no_both e refl
