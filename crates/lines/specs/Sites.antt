-- The change that a site stands for, in the texts of rules. Assumes nothing.
use Rattle.std.specs.Prelude.{◌++◌, None}
use Rattle.image.specs.Words.{bytes}
use Rattle.rules.specs.Changes.{Change, change, major, from_to}
use Rattle.tally.specs.Tallies.{kind_number, bump_value}
use Rattle.tally.specs.declared.ChangeKind.{ChangeKind}
use Rattle.details.specs.Details.{declaration_of, field_of, subject_text, value_text, detail_text}
use Rattle.details.specs.declared.Scope.{Scope}
use Rattle.details.specs.declared.Subject.{Subject}
use Rattle.details.specs.declared.Value.{Value}
use Rattle.lines.specs.declared.Site.{Site}

abbrev pub change_of : Site → Change
change_of s = change (kind_number s.kind) (bump_value s.bump) (declaration_of s.scope) (field_of s.field) (detail_text s.detail)

-- SUBJECT changed from WAS to IS
abbrev pub value_changed : ChangeKind → Scope → Subject → Value → Value → Change
value_changed kind scope subject was is =
    change (kind_number kind) major (declaration_of scope) None (subject_text subject ++ (bytes " changed" ++ from_to (value_text was) (value_text is)))
