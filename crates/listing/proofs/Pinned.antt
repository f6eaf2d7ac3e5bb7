-- What is computed from the definition alone: entries that are empty have no line and keep their ids; an impl has the empty name; a listing
-- of no line is empty. Assumes nothing.
use mathlib.Core.Path.{◌≡◌, refl}
use Rattle.std.specs.Prelude.{None, Some}
use mathlib.Core.List.{[], ◌∷◌}
use Rattle.image.specs.Schema.{unmarked, no_type, decl, Schema}
use Rattle.parts.specs.Kinds.{kind_of}
use Rattle.image.specs.Words.{bytes, kind_word}
use Rattle.text.specs.Decimal.{digits, decimal}
use Rattle.listing.specs.Listing.{line_of, entry_line, entry_text, lines_from, listing}

pub two : Schema
unfolding bytes
two = record {
  format = 1;
  registry = None ∷ Some (decl 0 (bytes "Drive") unmarked None [] [] no_type) ∷ None ∷ Some (decl 8 [] unmarked None [] [] no_type) ∷ None ∷ [];
  ids = 3 ∷ 1 ∷ [];
  namespace = [];
}

pub two_lines : listing two ≡ bytes "1;message;Drive\n3;impl;\n"
unfolding two listing lines_from entry_text entry_line line_of decimal digits kind_of kind_word bytes
two_lines = refl

pub no_line : listing (record { format = 1; registry = None ∷ None ∷ []; ids = []; namespace = [] }) ≡ []
unfolding listing lines_from entry_text
no_line = refl
