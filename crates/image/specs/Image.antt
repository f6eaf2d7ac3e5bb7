-- A whole image: head, contents, ids, namespace, bodies; and the order of the refusals. Assumes nothing.
use Rattle.std.specs.Prelude.{Bool, cond, ◌&&◌, List, [], ◌∷◌, ℕ, zero, suc, ◌+◌, ◌*◌, eqb, leb, length, drop}
use Rattle.std.specs.Prelude.{Option, None, Some}
use Rattle.image.specs.Codes.{number, long_refusal, short_head_refusal, format_refusal, crowded_refusal, contents_refusal}
use Rattle.image.specs.Schema.{Decl, Schema}
use Rattle.image.specs.Formats.{known}
use Rattle.image.specs.Parse.{Parsed, ok, bind, pick, need, part, little_endian}
use Rattle.image.specs.Names.{names_at}
use Rattle.image.specs.Bodies.{body_of}

unfoldable pub u16_at : List ℕ → ℕ → ℕ
u16_at s at = little_endian 2 (drop at s)

-- "Head: u16 format ..; u16 N registry entries; u16 M declaration ids; u16 S namespace segments."
unfoldable pub format : List ℕ → ℕ
format s = u16_at s 0

unfoldable pub entry_count : List ℕ → ℕ
entry_count s = u16_at s 2

unfoldable pub id_count : List ℕ → ℕ
id_count s = u16_at s 4

unfoldable pub segment_count : List ℕ → ℕ
segment_count s = u16_at s 6

-- "N pairs of u16 offset (from the image's first byte) and u16 length"
unfoldable pub entry_offset : List ℕ → ℕ → ℕ
entry_offset s i = u16_at s (8 + 4 * i)

unfoldable pub entry_length : List ℕ → ℕ → ℕ
entry_length s i = u16_at s (10 + 4 * i)

-- "Then M ids of u32, any value." Where they start, and where they end.
unfoldable pub ids_at : List ℕ → ℕ
ids_at s = 8 + 4 * entry_count s

unfoldable pub segments_at : List ℕ → ℕ
segments_at s = ids_at s + 4 * id_count s

-- so many ids from a position on
unfoldable pub ids_from : ℕ → List ℕ → ℕ → List ℕ
ids_from zero s at = []
ids_from (suc count) s at = little_endian 4 (drop at s) ∷ ids_from count s (at + 4)

-- "1, eight bytes there (2), 3, 4"; what the head gives is the format
unfoldable pub head_of : List ℕ → Parsed ℕ
head_of s =
    need (leb (length s) 32768) (number long_refusal)
    (need (leb 8 (length s)) (number short_head_refusal)
    (need (known (format s)) (number format_refusal)
    (need (leb (entry_count s) 512 && (leb (id_count s) 512 && leb (segment_count s) 16)) (number crowded_refusal)
    (ok (format s) 8))))

-- the contents and the ids are there
unfoldable pub tables_of : List ℕ → Parsed (List ℕ)
tables_of s = need (leb (segments_at s) (length s)) (number short_head_refusal) (ok (ids_from (id_count s) s (ids_at s)) (segments_at s))

-- "Then the bodies, in contents order, without gaps, the last ending the image. With no body the names end the image." And: "0 and 0 for
-- an empty entry; any other entry has a length of 1 or more". So of `count` entries from the i-th on, whose bodies start at `at`.
unfoldable pub laid : ℕ → List ℕ → ℕ → ℕ → Bool
laid zero s i at = eqb at (length s)
laid (suc count) s i at =
    cond (eqb (entry_length s i) 0)
    (eqb (entry_offset s i) 0 && laid count s (i + 1) at)
    (eqb (entry_offset s i) at && (leb (at + entry_length s i) (length s) && laid count s (i + 1) (at + entry_length s i)))

-- the declaration of the i-th entry, if it has one, in a format
unfoldable pub entry_of : ℕ → List ℕ → ℕ → Parsed (Option Decl)
entry_of f s i =
    pick (eqb (entry_length s i) 0)
    (ok None 0)
    (bind (body_of f (part (entry_offset s i) (entry_length s i) s)) (λ d n. ok (Some d) n))

-- `count` entries from the i-th on: "then bodies from left to right, first fault met"
unfoldable pub entries_of : ℕ → ℕ → List ℕ → ℕ → Parsed (List (Option Decl))
entries_of f zero s i = ok [] (length s)
entries_of f (suc count) s i = bind (entry_of f s i) (λ e n. bind (entries_of f count s (i + 1)) (λ es m. ok (e ∷ es) m))

-- "in each 1, eight bytes there (2), 3, 4, rest of 2 and the segments' 7 from left to right, 5, then bodies from left to right"
unfoldable pub read_image : List ℕ → Parsed Schema
read_image s =
    bind (head_of s) (λ f n₁.
    bind (tables_of s) (λ ids n₂.
    bind (names_at (number short_head_refusal) (segment_count s) s n₂) (λ names n₃.
    need (laid (entry_count s) s 0 n₃) (number contents_refusal)
    (bind (entries_of f (entry_count s) s 0) (λ es n₄.
    ok (record { format = f; registry = es; ids = ids; namespace = names }) n₄)))))
