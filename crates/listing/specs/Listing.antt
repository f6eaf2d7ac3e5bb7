-- The contents listing of one image: document 01, "From Rust shapes". Assumes nothing.
use Rattle.std.specs.Prelude.{◌≡◌, List, [], ◌∷◌, ◌++◌, ℕ, suc, length, get_or, Option, None, Some}
use Rattle.image.specs.Schema.{Name, Decl, Schema}
use Rattle.image.specs.Words.{bytes, kind_word}
use Rattle.image.specs.Parse.{Parsed, ok, no}
use Rattle.image.specs.Image.{read_image}
use Rattle.parts.specs.Promise.{schema_of}
use Rattle.text.specs.Decimal.{decimal}
use Rattle.rules.specs.Outcome.{Outcome, refused, text_only, select, fit, text_length, written}
use Rattle.parts.specs.Codes.{number, old_side}

-- ---- the text

-- "id, the kind's word from `decl_kind_name` and the name, parted by `;`. Each line ends with byte 10, ids are decimal"
unfoldable pub line_of : ℕ → ℕ → Name → List ℕ
line_of id kind name = decimal id ++ (bytes ";" ++ (kind_word kind ++ (bytes ";" ++ (name ++ bytes "\n"))))

unfoldable pub entry_line : ℕ → Decl → List ℕ
entry_line id d = line_of id d.kind d.name

-- "a line for each entry that isn't empty"
unfoldable pub entry_text : ℕ → Option Decl → List ℕ
entry_text id None = []
entry_text id (Some d) = entry_line id d

-- "in id order": entries, the first of which has this id
unfoldable pub lines_from : ℕ → List (Option Decl) → List ℕ
lines_from id [] = []
lines_from id (e ∷ es) = entry_text id e ++ lines_from (suc id) es

-- of an entry of an accepted image
abbrev pub entry_in : List ℕ → ℕ → List ℕ
entry_in image id = entry_text id (get_or (schema_of image).registry id None)

unfoldable pub listing : Schema → List ℕ
listing x = lines_from 0 x.registry

-- ---- an image and a buffer

-- "for one accepted image"; "by 1 to 10 .., always with side old"
unfoldable pub accept : Parsed Schema → Outcome
accept (ok x n) = text_only (listing x)
accept (no k) = refused k (number old_side)

-- 12: longer than the buffer, which has room for so many bytes
unfoldable pub outcome : List ℕ → ℕ → Outcome
outcome image room = fit (number old_side) room (accept (read_image image))

-- the verdict call, by selector: "0 the number, 1 the side .., 4 the length", and of a refusal bump and result "as the report does"; else 0
unfoldable pub listing_verdict : List ℕ → ℕ → ℕ → ℕ
listing_verdict image room selector = select (outcome image room) selector

-- the listing call with the buffer out: what it returns, and the buffer
abbrev pub Wrote : List ℕ → List ℕ → ℕ → List ℕ → Type 0
Wrote image out r out' = (r ≡ text_length (outcome image (length out))) × (out' ≡ written (outcome image (length out)) out)
