-- The tally of a list of changes by numbers of any size, with the length of its lines: what a tally counts, as long as no count is the largest
-- number. Assumes nothing.
use Rattle.std.specs.Prelude.{◌≡◌, ℕ, ◌+◌, max, length, get_or, set, replicate}
use mathlib.Core.List.{List}
use Rattle.maps.specs.Lists.{pass}
use Rattle.rules.specs.Changes.{level, kind_count, Change}
use Rattle.rules.specs.Report.{change_line}
use Rattle.rules.specs.Verdict.{bump_of}
use Rattle.rules.specs.Answer.{counts}
use Rattle.tally.specs.Tallies.{level_of, lines_of}
use Rattle.tally.specs.declared.Tally.{Tally}

pub record Totals : Type 0 where
  pub counts : List ℕ
  pub level : ℕ
  pub length : ℕ
  pub changes : ℕ

-- of no change
unfoldable pub no_totals : Totals
no_totals = record { counts = replicate kind_count 0; level = 0; length = 0; changes = 0 }

-- with a change more, of a kind and a level, whose line has n bytes
unfoldable pub with_total : Totals → ℕ → ℕ → ℕ → Totals
with_total t kind l n = record {
  counts = set t.counts kind (get_or t.counts kind 0 + 1);
  level = max t.level l;
  length = t.length + n;
  changes = t.changes + 1;
}

unfoldable pub totalled : Totals → Change → Totals
totalled t c = with_total t c.kind (level c.bump) (length (change_line c))

-- with the changes cs more
unfoldable pub totals_from : Totals → List Change → Totals
totals_from t cs = pass totalled t cs

-- totals are those of the changes cs
pub record TotalsOf (cs : List Change) (t : Totals) : Type 0 where
  pub kinds : t.counts ≡ counts kind_count 0 cs
  pub bump : t.level ≡ bump_of cs
  pub lines : t.length ≡ length (lines_of cs)
  pub changes : t.changes ≡ length cs

-- a tally counts what these do
pub record Counts (t : Totals) (r : Tally) : Type 0 where
  pub kinds : r.counts ≡ t.counts
  pub bump : level_of r.bump ≡ t.level
  pub changes : r.changes ≡ t.changes
