-- R-6: "The mended verdict reports a differing width between two enums or two flags as WidthChanged, Major, without a field, first in that
-- declaration, with the detail "width changed from 8 to 16", both numbers as stored": of two images that are accepted and not mixed. The
-- definition compares the widths of any two declarations of one kind, and shows one that is not there as nothing; in such images enums and
-- flags have a width, and no other kind has one. Assumes nothing.
use Rattle.std.specs.Prelude.{◌≡◌, not, List, [], ◌∷◌, ◌++◌, ℕ, eqb, None, Some}
use Rattle.image.specs.Schema.{Name, Decl}
use Rattle.image.specs.Codes.{number, enum_kind, flags_kind}
use Rattle.image.specs.Words.{bytes}
use Rattle.text.specs.Decimal.{decimal}
use Rattle.written.specs.Limits.{Each, Byte}
use Rattle.rules.specs.Changes.{major, Change, change, only, from_to, kind_at, WidthChanged}
use Rattle.rules.specs.Refusals.{AcceptedPair}
use Rattle.rules.specs.Distance.{Image}
use Rattle.rules.specs.Mended.{mended_reading}
use Rattle.rules.specs.MendedRefusals.{Mixed}
use Rattle.rules.specs.Reuse.{SharedDecl}
use Rattle.rules.specs.PinnedMended.{bits, bits_wide}

-- "enums or .. flags"
pub data Sized (kind : ℕ) : Type 0 where
  enum : kind ≡ number enum_kind → Sized kind
  flags : kind ≡ number flags_kind → Sized kind

-- the change, by both numbers
abbrev pub width_changed : Name → ℕ → ℕ → Change
width_changed name from to = change (kind_at WidthChanged) major name None (bytes "width changed" ++ from_to (decimal from) (decimal to))

-- what is told first of two declarations
pub data WidthsTold (d e : Decl) : List Change → Type 0 where
  stored : {from to : ℕ} → Sized d.kind → d.width ≡ Some from → e.width ≡ Some to
      → WidthsTold d e (only (not (eqb from to)) (width_changed d.name from to))
  none : ¬ Sized d.kind → d.width ≡ None → e.width ≡ None → WidthsTold d e []

-- of every two that are shared and of one kind
abbrev pub Widths : Type 0
Widths = (old new : Image) → Each Byte old → Each Byte new → (a : AcceptedPair old new (λ x y. ¬ Mixed x y)) → (d : SharedDecl a.old_schema a.new_schema)
    → WidthsTold d.old d.new (mended_reading.first d.old d.new)

-- such images: flags of one wire byte, and of two
pub record WidthsMet : Type 0 where
  pub old : Each Byte bits
  pub new : Each Byte bits_wide
  pub pair : AcceptedPair bits bits_wide (λ x y. ¬ Mixed x y)
  pub shared : SharedDecl pair.old_schema pair.new_schema
  pub told : mended_reading.first shared.old shared.new ≡ width_changed (bytes "F") 1 2 ∷ []
