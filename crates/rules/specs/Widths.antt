-- R-6, "Widths written out": what the mended verdict reports of widths. Assumes nothing.
use Rattle.std.specs.Prelude.{not, ◌++◌, List, [], ℕ, eqb, Option, None, Some}
use Rattle.image.specs.Schema.{Decl}
use Rattle.image.specs.Words.{bytes}
use Rattle.text.specs.Decimal.{decimal}
use Rattle.rules.specs.Equal.{same_option}
use Rattle.rules.specs.Changes.{major, Change, change, only, from_to, kind_at, WidthChanged}

-- as it is stored; a format without widths, which this verdict refuses, has nothing to show
unfoldable pub show_width : Option ℕ → List ℕ
show_width None = []
show_width (Some w) = decimal w

-- "reports a differing width between two enums or two flags as WidthChanged, Major, without a field, .. with the detail "width changed from 8
-- to 16", both numbers as stored". Of two declarations of one kind; other kinds have no width.
unfoldable pub compare_widths : Decl → Decl → List Change
compare_widths old new =
    only (not (same_option eqb old.width new.width))
    (change (kind_at WidthChanged) major old.name None (bytes "width changed" ++ from_to (show_width old.width) (show_width new.width)))
