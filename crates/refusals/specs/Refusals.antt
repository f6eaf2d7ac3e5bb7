-- Document 01's table, "Given exactly if", for 1 to 5: what must hold of the bytes, apart from how they are read. 01's order is part of
-- each: "1, eight bytes there (2), 3, 4, rest of 2 and the segments' 7 from left to right, 5". Assumes nothing.
use Rattle.std.specs.Prelude.{◌≡◌, true, ◌↔◌, List, ℕ, zero, suc, ◌+◌, ◌≤◌, ◌<◌, length, get_or}
use Rattle.image.specs.Codes.{number, long_refusal, short_head_refusal, format_refusal, crowded_refusal, contents_refusal}
use Rattle.image.specs.Parse.{no}
use Rattle.image.specs.Names.{name_byte}
use Rattle.image.specs.Image.{format, entry_count, id_count, segment_count, entry_offset, entry_length, segments_at, read_image}

-- 1 long: "image over 32,768 bytes"
abbrev pub Long : List ℕ → Type 0
Long s = 32768 < length s

-- neither long nor without its first eight bytes
pub record Eight (s : List ℕ) : Type 0 where
  pub fits : length s ≤ 32768
  pub there : 8 ≤ length s

-- the formats: "refusal 3 now means none of 1, 2, 3"
pub data Known (n : ℕ) : Type 0 where
  one : n ≡ 1 → Known n
  two : n ≡ 2 → Known n
  three : n ≡ 3 → Known n

-- 3 format: "none of 1, 2, 3"
pub record Format (s : List ℕ) : Type 0 where
  pub eight : Eight s
  pub other : ¬ Known (format s)

-- 4 crowded: "N or M over 512, S over 16"
pub data Over (s : List ℕ) : Type 0 where
  entries : 512 < entry_count s → Over s
  ids : 512 < id_count s → Over s
  segments : 16 < segment_count s → Over s

pub record Crowded (s : List ℕ) : Type 0 where
  pub eight : Eight s
  pub known : Known (format s)
  pub over : Over s

-- the head is there and as it should be
pub record Head (s : List ℕ) : Type 0 where
  pub eight : Eight s
  pub known : Known (format s)
  pub entries : entry_count s ≤ 512
  pub ids : id_count s ≤ 512
  pub segments : segment_count s ≤ 16

-- where the i-th segment of the namespace starts: the first after the ids, each other one after the length and the bytes of the one before
unfoldable pub segment_at : List ℕ → ℕ → ℕ
segment_at s zero = segments_at s
segment_at s (suc i) = segment_at s i + 1 + get_or s (segment_at s i) 0

-- the i-th segment stands in the image, and each of its bytes is allowed
pub record Segment (s : List ℕ) (i : ℕ) : Type 0 where
  pub inside : segment_at s (suc i) ≤ length s
  pub allowed : (k : ℕ) → segment_at s i < k → k < segment_at s (suc i) → name_byte (get_or s k 0) ≡ true

-- 2 short head: "head, contents, ids or namespace run past the end". Of the namespace: some segment does, and each before it is a name.
pub data ShortHead (s : List ℕ) : Type 0 where
  head : length s < 8 → ShortHead s
  tables : Head s → length s < segments_at s → ShortHead s
  namespace : Head s → (i : ℕ) → i < segment_count s → ((j : ℕ) → j < i → Segment s j) → length s < segment_at s (suc i) → ShortHead s

-- where the bodies of the entries before the i-th end: "in contents order, without gaps"
unfoldable pub body_start : List ℕ → ℕ → ℕ
body_start s zero = segment_at s (segment_count s)
body_start s (suc i) = body_start s i + entry_length s i

-- the i-th entry is "0 and 0 for an empty entry", or its body has a byte, starts where those before it end, and stands in the image
pub data Placed (s : List ℕ) (i : ℕ) : Type 0 where
  empty : entry_offset s i ≡ 0 → entry_length s i ≡ 0 → Placed s i
  full : 1 ≤ entry_length s i → entry_offset s i ≡ body_start s i → body_start s (suc i) ≤ length s → Placed s i

pub data Misplaced (s : List ℕ) : Type 0 where
  entry : (i : ℕ) → i < entry_count s → ¬ Placed s i → Misplaced s
  after : body_start s (entry_count s) < length s → Misplaced s

-- head, contents, ids and namespace are there, and the namespace's bytes are allowed
pub record Tables (s : List ℕ) : Type 0 where
  pub head : Head s
  pub inside : segments_at s ≤ length s
  pub segments : (j : ℕ) → j < segment_count s → Segment s j

-- 5 contents: "entry not as above, or bytes after the last body (after the names, if no body)"
pub record Contents (s : List ℕ) : Type 0 where
  pub tables : Tables s
  pub misplaced : Misplaced s

-- each is given "exactly if"
pub record ExactlyIf (s : List ℕ) : Type 0 where
  pub long : (read_image s ≡ no (number long_refusal)) ↔ Long s
  pub short_head : (read_image s ≡ no (number short_head_refusal)) ↔ ShortHead s
  pub format : (read_image s ≡ no (number format_refusal)) ↔ Format s
  pub crowded : (read_image s ≡ no (number crowded_refusal)) ↔ Crowded s
  pub contents : (read_image s ≡ no (number contents_refusal)) ↔ Contents s
