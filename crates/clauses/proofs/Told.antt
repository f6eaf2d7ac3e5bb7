-- A clause that reports a change if a test passes, and nothing if it does not. Assumes nothing.
use mathlib.Core.Bool.{Bool, true, false}
use Rattle.std.proofs.Common.{◌≡◌, ℕ, [], ◌∷◌, refl}
use Rattle.std.specs.Prelude.{Option, None, Some}
use Rattle.std.specs.Option.{option_eq}
use lib.Dec.{eqb}
use Rattle.rules.specs.Equal.{same_option}
use Rattle.rules.specs.Changes.{Change, only}
use Rattle.lines.specs.Reports.{Reports}
use Rattle.lines.specs.declared.Report.{Report}
use Rattle.lines.proofs.Reports.{reports_none, reports_as}

-- nothing
pub silent : {test : Bool} (c : Change) → test ≡ false → {r : Report} → Reports r (only test c) r
unfolding only
silent c e = reports_none (rw e refl)

-- the change
pub told : {test : Bool} {c : Change} (d : Change) → test ≡ true → d ≡ c → {r r' : Report} → Reports r (d ∷ []) r' → Reports r (only test c) r'
unfolding only
told d e f h = reports_as (rw (e, f) refl) h

-- ---- what may be absent: std's equality is that of rules

pub same_options : (a b : Option ℕ) → option_eq eqb a b ≡ same_option eqb a b
unfolding same_option
same_options None None = refl
same_options None (Some y) = refl
same_options (Some x) None = refl
same_options (Some x) (Some y) = refl
