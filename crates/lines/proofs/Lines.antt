-- The line of a site in pieces, and the last line of a tally. Assumes nothing.
use mathlib.Core.Path.{◌≡◌}
use mathlib.Core.List.{List, [], ◌∷◌}
use Rattle.rules.specs.Changes.{Change}
use Rattle.rules.specs.Verdict.{result_at}
use Rattle.rules.specs.Report.{change_word, bump_word, result_word, field_part, change_line, last_line}
use Rattle.text.proofs.Pieces.{together}
use Rattle.text.specs.Decimal.{decimal}
use Rattle.tally.specs.Tallies.{TallyOf, kind_number, level_of}
use Rattle.tally.proofs.Totals.{level_value}
use Rattle.tally.specs.declared.Tally.{Tally}
use Rattle.tally.proofs.Lines.{line_pieces, line_pieces_lem}
use Rattle.lines.specs.Sites.{change_of}
use Rattle.details.specs.Details.{declaration_of, field_of, detail_text}
use Rattle.lines.specs.Last.{last_line_of}
use Rattle.lines.specs.declared.Site.{Site}

pub site_line :
    (s : Site)
    → change_line (change_of s)
    ≡ together (line_pieces (change_word (kind_number s.kind) ∷ bump_word (level_of s.bump) ∷ declaration_of s.scope
    ∷ field_part (field_of s.field) ∷ detail_text s.detail ∷ []))
unfolding change_line
site_line s =
    rw (level_value s.bump)
    (line_pieces_lem (change_word (kind_number s.kind) ∷ bump_word (level_of s.bump) ∷ declaration_of s.scope
    ∷ field_part (field_of s.field) ∷ detail_text s.detail ∷ []))

pub last_pieces : (t : Tally) → last_line_of t ≡ together (line_pieces (result_word (result_at (level_of t.bump)) ∷ bump_word (level_of t.bump) ∷ decimal t.changes ∷ []))
unfolding last_line_of
last_pieces t = line_pieces_lem (result_word (result_at (level_of t.bump)) ∷ bump_word (level_of t.bump) ∷ decimal t.changes ∷ [])

-- the last line of a tally is that of its changes
pub last_line_lem : (cs : List Change) (t : Tally) → TallyOf cs t → last_line_of t ≡ last_line cs
unfolding last_line_of last_line
last_line_lem cs t o = rw (o.bump, o.changes)
