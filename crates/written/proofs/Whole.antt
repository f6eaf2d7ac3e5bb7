-- A whole image is read back as it was written: nothing valid is refused. Assumes nothing.
use mathlib.Core.Path.{◌≡◌, refl, ap, ap₂, ◌∙◌}
use mathlib.Core.Bool.{true}
use Rattle.std.specs.Prelude.{Option, None, Some}
use mathlib.Core.List.{List, [], ◌∷◌, ◌++◌}
use Prim.Native.Nat.{ℕ, ◌+◌, ◌*◌, ◌^◌, ◌≤◌, ◌<◌}
use native.Mathlib.Omega.{arith}
use borrow.Author.Tests.{le-leb, eq-eqb, ne_eqb}
use lib.ListN.{length, length-append}
use Rattle.image.specs.Schema.{Decl, Schema}
use Rattle.image.specs.Parse.{ok, bind, pick}
use Rattle.image.specs.Names.{names_at}
use Rattle.image.specs.Image.{u16_at, format, entry_count, id_count, segment_count, entry_offset, entry_length, ids_at, segments_at, ids_from, head_of, tables_of, laid, entry_of, entries_of, read_image}
use Rattle.written.specs.Writer.{digits, write_each, write_name, write_body, write_entry, write_contents, write_head, bodies_at, write}
use Rattle.written.specs.Limits.{Each, end, also, U32, DeclWithin, EntryWithin, empty, full, Within}
use Rattle.refusals.specs.Refusals.{Known, one, two, three}
use Rattle.refusals.proofs.Refusals.{head_passed}
use Rattle.written.proofs.Here.{Here, here_all, here_fits, here_first, here_next, here_part}
use Rattle.written.proofs.Pieces.{got, here_number, names_back}
use Rattle.written.proofs.Items.{body_back}

-- a u16, as the head and the contents have it
u16_back : {s : List ℕ} {at : ℕ} (v : ℕ) → v < 2 ^ 16 → Here s at (digits 2 v) → u16_at s at ≡ v
unfolding u16_at
u16_back v l h = here_number 2 v l h

-- the ids
ids_back : (ids : List ℕ) → Each U32 ids → (s : List ℕ) (at : ℕ) → Here s at (write_each (digits 4) ids) → ids_from (length ids) s at ≡ ids
unfolding ids_from write_each digits
ids_back [] end s at h = refl
ids_back (i ∷ ids) (also q qs) s at h =
    ap₂ ◌∷◌ (here_number 4 i q (here_first (digits 4 i) _ h)) (ids_back ids qs s (at + 4) (here_next (digits 4 i) _ h))

ids_length : (ids : List ℕ) → length (write_each (digits 4) ids) ≡ 4 * length ids
unfolding write_each digits
ids_length [] = refl
ids_length (i ∷ ids) = omega (arith, ids_length ids)

contents_length : (f : ℕ) (es : List (Option Decl)) (at : ℕ) → length (write_contents f es at) ≡ 4 * length es
unfolding write_contents digits
contents_length f [] at = refl
contents_length f (None ∷ es) at = omega (arith, contents_length f es at)
contents_length f (Some d ∷ es) at = omega (arith, contents_length f es (at + length (write_body f d)))

-- the i-th pair of the contents, and the pairs after it
record Pair (s : List ℕ) (i offset size : ℕ) (after : List ℕ) : Type 0 where
  pub offset_is : entry_offset s i ≡ offset
  pub size_is : entry_length s i ≡ size
  pub next : Here s (8 + 4 * (i + 1)) after

pair_back : {s : List ℕ} (i offset size : ℕ) (after : List ℕ) → offset < 2 ^ 16 → size < 2 ^ 16
    → Here s (8 + 4 * i) (digits 2 offset ++ (digits 2 size ++ after)) → Pair s i offset size after
unfolding entry_offset entry_length digits
pair_back {s} i offset size after l m h =
    record {
      offset_is = u16_back offset l (here_first (digits 2 offset) _ h);
      size_is = u16_back size m (rw e at (here_first (digits 2 size) _ second));
      next = rw n at (here_next (digits 2 size) _ second);
    }
  where
    second : Here s (8 + 4 * i + 2) (digits 2 size ++ after)
    second = here_next (digits 2 offset) _ h

    e : 8 + 4 * i + 2 ≡ 10 + 4 * i
    e = omega arith

    n : 8 + 4 * i + 2 + 2 ≡ 8 + 4 * (i + 1)
    n = omega arith

some_byte : (f : ℕ) (d : Decl) → ¬ (length (write_body f d) ≡ 0)
unfolding write_body
some_byte f d e = omega arith

-- of entries from the i-th on, whose bodies start at `at`: they are laid out as they should be, and are read back
abbrev Read : ℕ → List (Option Decl) → List ℕ → ℕ → ℕ → Type 0
Read f es s i at = (laid (length es) s i at ≡ true) × (entries_of f (length es) s i ≡ ok es (length s))

empty_back : (f : ℕ) (es : List (Option Decl)) (s : List ℕ) (i at : ℕ) → entry_offset s i ≡ 0 → entry_length s i ≡ 0 → Read f es s (i + 1) at
    → Read f (None ∷ es) s i at
unfolding laid entries_of entry_of pick bind
empty_back f es s i at o n r = (simp (o, n, r.0), simp (n, r.1))

full_back : (f : ℕ) (d : Decl) → DeclWithin f d → (es : List (Option Decl)) (s : List ℕ) (i at : ℕ) → entry_offset s i ≡ at
    → entry_length s i ≡ length (write_body f d)
    → Here s at (write_body f d) → Read f es s (i + 1) (at + length (write_body f d)) → Read f (Some d ∷ es) s i at
unfolding laid entries_of entry_of pick bind
full_back f d q es s i at o n h r = (
  simp (o, n, ne_eqb _ 0 (some_byte f d), eq-eqb at at refl, le-leb _ _ (here_fits h), r.0),
  simp (o, n, ne_eqb _ 0 (some_byte f d), here_part h, body_back f d q, r.1),
)

entries_back : (f : ℕ) (es : List (Option Decl)) → Each (EntryWithin f) es → (s : List ℕ) → length s ≤ 32768 → (i at : ℕ)
    → Here s (8 + 4 * i) (write_contents f es at) → Here s at (write_each (write_entry f) es) → at + length (write_each (write_entry f) es) ≡ length s
    → Read f es s i at
unfolding laid entries_of write_contents write_each write_entry
entries_back f [] end s l i at h g e = (eq-eqb at (length s) (omega arith), refl)
entries_back f (None ∷ es) (also empty qs) s l i at h g e =
    let p = pair_back i 0 0 (write_contents f es at) (omega arith) (omega arith) h in
    empty_back f es s i at p.offset_is p.size_is (entries_back f es qs s l (i + 1) at p.next g e)
entries_back f (Some d ∷ es) (also (full q) qs) s l i at h g e =
    let b = here_first (write_body f d) (write_each (write_entry f) es) g in
    let fits : at + length (write_body f d) ≤ length s = here_fits b in
    let p = pair_back i at (length (write_body f d)) (write_contents f es (at + length (write_body f d))) (omega arith) (omega arith) h in
    full_back f d q es s i at p.offset_is p.size_is b
    (entries_back f es qs s l (i + 1) (at + length (write_body f d)) p.next (here_next (write_body f d) (write_each (write_entry f) es) g)
    (omega (arith, length-append (write_body f d) (write_each (write_entry f) es))))

-- the head of what is written
record Front (s : Schema) : Type 0 where
  pub stored : format (write s) ≡ s.format
  pub entries : entry_count (write s) ≡ length s.registry
  pub ids : id_count (write s) ≡ length s.ids
  pub segments : segment_count (write s) ≡ length s.namespace

-- a format that is read is a u16
format_few : {n : ℕ} → Known n → n < 2 ^ 16
format_few (one e) = omega arith
format_few (two e) = omega arith
format_few (three e) = omega arith

front : (s : Schema) → Within s → Front s
unfolding write write_head format entry_count id_count segment_count digits
front s q =
    record {
      stored = u16_back s.format (format_few q.format) (here_first (digits 2 s.format) _ at0);
      entries = u16_back N (omega (arith, q.entry_count)) (here_first (digits 2 N) _ at2);
      ids = u16_back M (omega (arith, q.id_count)) (here_first (digits 2 M) _ at4);
      segments = u16_back S (omega (arith, q.segment_count)) (here_next (digits 2 M) _ at4);
    }
  where
    N : ℕ
    N = length s.registry

    M : ℕ
    M = length s.ids

    S : ℕ
    S = length s.namespace

    at0 : Here (write s) 0 (write_head s)
    at0 = here_first (write_head s) _ (here_all (write s))

    at2 : Here (write s) 2 (digits 2 N ++ (digits 2 M ++ digits 2 S))
    at2 = here_next (digits 2 s.format) _ at0

    at4 : Here (write s) 4 (digits 2 M ++ digits 2 S)
    at4 = here_next (digits 2 N) _ at2

-- its tables and bodies, each where it stands
record Back (s : Schema) : Type 0 where
  pub contents : Here (write s) 8 (write_contents s.format s.registry (bodies_at s))
  pub ids : Here (write s) (8 + 4 * length s.registry) (write_each (digits 4) s.ids)
  pub names : Here (write s) (8 + 4 * length s.registry + 4 * length s.ids) (write_each write_name s.namespace)
  pub bodies : Here (write s) (bodies_at s) (write_each (write_entry s.format) s.registry)
  pub ends : bodies_at s + length (write_each (write_entry s.format) s.registry) ≡ length (write s)

head_length : (s : Schema) → length (write_head s) ≡ 8
unfolding write_head digits
head_length s = refl

back : (s : Schema) → Back s
unfolding write bodies_at
back s =
    record {
      contents = here_first c _ at8;
      ids = here_first d _ at_ids;
      names = here_first n b at_names;
      bodies = here_next n b at_names;
      ends = omega (arith, head_length s, contents_length s.format s.registry (bodies_at s), ids_length s.ids, joined);
    }
  where
    c : List ℕ
    c = write_contents s.format s.registry (bodies_at s)

    d : List ℕ
    d = write_each (digits 4) s.ids

    n : List ℕ
    n = write_each write_name s.namespace

    b : List ℕ
    b = write_each (write_entry s.format) s.registry

    joined : length (write s) ≡ length (write_head s) + (length c + (length d + (length n + length b)))
    joined = simp length-append

    at8 : Here (write s) 8 (c ++ (d ++ (n ++ b)))
    at8 = rw (head_length s) at (here_next (write_head s) _ (here_all (write s)))

    at_ids : Here (write s) (8 + 4 * length s.registry) (d ++ (n ++ b))
    at_ids = rw (contents_length s.format s.registry (bodies_at s)) at (here_next c _ at8)

    at_names : Here (write s) (8 + 4 * length s.registry + 4 * length s.ids) (n ++ b)
    at_names = rw (ids_length s.ids) at (here_next d _ at_ids)

head_back : (s : Schema) → Within s → head_of (write s) ≡ ok s.format 8
head_back s q =
    let f = front s q in
    head_passed (write s)
    (record {
      eight = record { fits = q.whole; there = (back s).contents.from };
      known = rw f.stored q.format;
      entries = rw f.entries q.entry_count;
      ids = rw f.ids q.id_count;
      segments = rw f.segments q.segment_count;
    })
    ∙ ap (λ (k : ℕ). ok k 8) f.stored

tables_back : (s : Schema) → Within s → tables_of (write s) ≡ ok s.ids (8 + 4 * length s.registry + 4 * length s.ids)
unfolding tables_of segments_at ids_at pick
tables_back s q =
    let f = front s q in
    let b = back s in
    simp (f.entries, f.ids, le-leb _ _ b.names.from, ids_back s.ids q.ids (write s) _ b.ids)

segments_back : (s : Schema) → Within s
    → names_at 2 (segment_count (write s)) (write s) (8 + 4 * length s.registry + 4 * length s.ids) ≡ ok s.namespace (bodies_at s)
unfolding bodies_at
segments_back s q = rw (front s q).segments (names_back 2 s.namespace q.segments (write s) _ (back s).names)

-- Nothing valid is refused: every schema within the limits is read back from its bytes.
pub written_read : (s : Schema) → Within s → read_image (write s) ≡ ok s (length (write s))
unfolding read_image pick
written_read s q =
    let b = back s in
    let e = entries_back s.format s.registry q.entries (write s) q.whole 0 (bodies_at s) b.contents b.bodies b.ends in
    got _ (head_back s q) (got _ (tables_back s q) (got _ (segments_back s q)
    (rw ((front s q).entries, e.0) (got _ e.1 refl))))
