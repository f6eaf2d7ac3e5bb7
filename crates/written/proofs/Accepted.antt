-- Every image that is accepted is what is written of a schema within the limits: the one that it holds. Assumes nothing.
use mathlib.Core.Path.{◌≡◌, refl, sym, ap, ◌∙◌}
use mathlib.Core.Logic.{◌↔◌}
use mathlib.Core.Bool.{Bool, true}
use Rattle.std.specs.Prelude.{Option, None, Some}
use mathlib.Core.List.{List, [], ◌∷◌, ◌++◌}
use Prim.Native.Nat.{ℕ, zero, suc, ◌+◌, ◌*◌, ◌≤◌, ◌<◌}
use native.Mathlib.Nat.{add-zero}
use native.Mathlib.Numerals.{add-one}
use native.Mathlib.Omega.{arith}
use borrow.Author.Tests.{leb-true, eqb-true, eqb-false}
use lib.ListN.{length}
use Rattle.image.specs.Schema.{Name, Decl, Schema}
use Rattle.image.specs.Parse.{ok, part}
use Rattle.image.specs.Names.{name_at, names_at}
use Rattle.image.specs.Image.{u16_at, format, entry_count, id_count, segment_count, entry_offset, entry_length, ids_at, segments_at, ids_from, head_of, tables_of, entry_of, entries_of, read_image}
use Rattle.refusals.specs.Refusals.{Head, body_start, Placed}
use Rattle.written.specs.Writer.{digits, write_each, write_name, write_body, write_entry, write_contents, write_head, bodies_at, write}
use Rattle.written.specs.Limits.{Each, end, also, Byte, U32, NameWithin, DeclWithin, EntryWithin, empty, full, Within}
use Rattle.maps.proofs.Tests.{no_both}
use Rattle.refusals.proofs.Told.{Told, told_ok, told_no, told_bind, told_pick, told_both}
use Rattle.refusals.proofs.Places.{Laid, good, wrong, placed_empty, placed_full}
use Rattle.refusals.proofs.Refusals.{head_told, names_told, fits_told}
use Rattle.written.proofs.Runs.{Run, run_none, run_join, run_whole, Free, Keeps, each_part, part_length, part_run, number_run, number_is, name_keeps, each_keeps}
use Rattle.written.proofs.ItemRuns.{body_keeps}
use Rattle.written.proofs.Whole.{written_read}

-- an entry as the contents have it
data Entry (s : List ℕ) (i : ℕ) : Option Decl → Type 0 where
  none_here : entry_offset s i ≡ 0 → entry_length s i ≡ 0 → Entry s i None
  some_here : {d : Decl} → DeclWithin (format s) d → entry_offset s i ≡ body_start s i → entry_length s i ≡ length (write_body (format s) d)
      → Run s (body_start s i) (body_start s (suc i)) (write_body (format s) d) → Entry s i (Some d)

-- the entries from the i-th on
record Entries (s : List ℕ) (i : ℕ) (es : List (Option Decl)) : Type 0 where
  pub count : i + length es ≡ entry_count s
  pub within : Each (EntryWithin (format s)) es
  pub contents : Run s (8 + 4 * i) (8 + 4 * entry_count s) (write_contents (format s) es (body_start s i))
  pub bodies : Run s (body_start s i) (body_start s (entry_count s)) (write_each (write_entry (format s)) es)

-- what is known of an image that is accepted: its names xs and its entries es
record Parts (s : List ℕ) (xs : List Name) (es : List (Option Decl)) : Type 0 where
  pub head : Head s
  pub inside : segments_at s ≤ length s
  pub count : length xs ≡ segment_count s
  pub within : Each NameWithin xs
  pub names : Run s (segments_at s) (body_start s 0) (write_each write_name xs)
  pub ends : body_start s (entry_count s) ≡ length s
  pub entries : Entries s 0 es

all_placed : {s : List ℕ} {b : Bool} → Laid s 0 b → b ≡ true
    → ((j : ℕ) → 0 ≤ j → j < entry_count s → Placed s j) × (body_start s (entry_count s) ≡ length s)
all_placed (good h e) t = (h, e)
all_placed (wrong m) t = no_both t refl

module _ (s : List ℕ) (bytes : Each Byte s) where
  entry_keeps : (i : ℕ) → Placed s i → Told (λ e n. Entry s i e) Free (entry_of (format s) s i)
  unfolding entry_of body_start
  entry_keeps i p =
      told_pick _
      (λ h. let z = eqb-true _ _ h in told_ok (none_here (placed_empty p z) z))
      (λ h. told_bind _ (body_keeps body (each_part (entry_offset s i) (entry_length s i) s bytes) (format s)) (λ d n q.
      told_ok (there d (eqb-false _ _ h) q)))
    where
      body : List ℕ
      body = part (entry_offset s i) (entry_length s i) s

      there : (d : Decl) → ¬ (entry_length s i ≡ 0) → DeclWithin (format s) d × (body ≡ write_body (format s) d) → Entry s i (Some d)
      there d z q =
          let f = placed_full p z in
          let fits : body_start s i + entry_length s i ≤ length s = f.1 in
          let b : part (body_start s i) (entry_length s i) s ≡ write_body (format s) d = rw f.0 at q.1 in
          let size : entry_length s i ≡ length (write_body (format s) d) = sym (part_length (body_start s i) (entry_length s i) s fits) ∙ ap length b in
          some_here q.0 f.0 size (rw b at (part_run (body_start s i) (entry_length s i) s fits))

  -- an offset and a length of the contents
  offset_run : (i : ℕ) → 10 + 4 * i ≤ length s → Run s (8 + 4 * i) (10 + 4 * i) (digits 2 (entry_offset s i))
  unfolding entry_offset u16_at
  offset_run i h = let e : 8 + 4 * i + 2 ≡ 10 + 4 * i = omega arith in rw e at (number_run s bytes 2 (8 + 4 * i) (omega arith))

  length_run : (i : ℕ) → 8 + 4 * (i + 1) ≤ length s → Run s (10 + 4 * i) (8 + 4 * (i + 1)) (digits 2 (entry_length s i))
  unfolding entry_length u16_at
  length_run i h = let e : 10 + 4 * i + 2 ≡ 8 + 4 * (i + 1) = omega arith in rw e at (number_run s bytes 2 (10 + 4 * i) (omega arith))

  entries_more : (i : ℕ) (e : Option Decl) (es : List (Option Decl)) → Entry s i e → Entries s (i + 1) es → Entries s i (e ∷ es)
  unfolding body_start write_contents write_each write_entry
  entries_more i _ es (none_here o n) r =
      record {
        count = omega (arith, r.count);
        within = also empty r.within;
        contents =
            run_join (digits 2 0) _ (rw o at (offset_run i (omega (arith, inside))))
            (run_join (digits 2 0) _ (rw n at (length_run i inside)) (rw same at r.contents));
        bodies = rw same at r.bodies;
      }
    where
      inside : 8 + 4 * (i + 1) ≤ length s
      inside = r.contents.here.from

      same : body_start s (i + 1) ≡ body_start s i
      same = ap (body_start s) (add-one i) ∙ ap (λ (k : ℕ). body_start s i + k) n ∙ add-zero (body_start s i)
  entries_more i _ es (some_here {d = d} q o n b) r =
      record {
        count = omega (arith, r.count);
        within = also (full q) r.within;
        contents =
            run_join (digits 2 (body_start s i)) _ (rw o at (offset_run i (omega (arith, inside))))
            (run_join (digits 2 (length (write_body (format s) d))) _ (rw n at (length_run i inside)) (rw next at r.contents));
        bodies = run_join (write_body (format s) d) (write_each (write_entry (format s)) es) b (rw (ap (body_start s) (add-one i)) at r.bodies);
      }
    where
      inside : 8 + 4 * (i + 1) ≤ length s
      inside = r.contents.here.from

      next : body_start s (i + 1) ≡ body_start s i + length (write_body (format s) d)
      next = ap (body_start s) (add-one i) ∙ ap (λ (k : ℕ). body_start s i + k) n

  entries_none : 8 + 4 * entry_count s ≤ length s → body_start s (entry_count s) ≤ length s → Entries s (entry_count s) []
  unfolding write_contents write_each
  entries_none h g = record { count = add-zero (entry_count s); within = end; contents = run_none h; bodies = run_none g }

  entries_keep : (count i : ℕ) → i + count ≡ entry_count s → 8 + 4 * entry_count s ≤ length s → body_start s (entry_count s) ≤ length s
      → ((j : ℕ) → i ≤ j → j < entry_count s → Placed s j) → Told (λ es n. Entries s i es × (n ≡ length s)) Free (entries_of (format s) count s i)
  unfolding entries_of
  entries_keep zero i e h g placed = let z : i ≡ entry_count s = omega arith in let r : Entries s i [] = rw z (entries_none h g) in told_ok (r, refl)
  entries_keep (suc count) i e h g placed =
      told_bind _ (entry_keeps i (placed i (omega arith) (omega arith))) (λ x n q.
      told_bind _ (entries_keep count (i + 1) (omega arith) h g (λ j low high. placed j (omega arith) high)) (λ es m r.
      told_ok (entries_more i x es q r.0, r.1)))

  -- the ids
  ids_below : (count at : ℕ) → Each U32 (ids_from count s at)
  unfolding ids_from
  ids_below zero at = end
  ids_below (suc count) at = also (number_is s bytes 4 at) (ids_below count (at + 4))

  ids_count : (count at : ℕ) → length (ids_from count s at) ≡ count
  unfolding ids_from
  ids_count zero at = refl
  ids_count (suc count) at = ap suc (ids_count count (at + 4))

  ids_run : (count at : ℕ) → at + 4 * count ≤ length s → Run s at (at + 4 * count) (write_each (digits 4) (ids_from count s at))
  unfolding ids_from write_each
  ids_run zero at h = rw (add-zero at) (run_none (omega arith))
  ids_run (suc count) at h =
      let e : at + 4 + 4 * count ≡ at + 4 * suc count = omega arith in
      run_join (digits 4 _) _ (number_run s bytes 4 at (omega arith)) (rw e at (ids_run count (at + 4) (omega arith)))

  -- the head
  head_run : Head s → Run s 0 8 (digits 2 (format s) ++ (digits 2 (entry_count s) ++ (digits 2 (id_count s) ++ digits 2 (segment_count s))))
  unfolding format entry_count id_count segment_count u16_at
  head_run h =
      let l = h.eight.there in
      run_join (digits 2 (format s)) _ (number_run s bytes 2 0 (omega arith))
      (run_join (digits 2 (entry_count s)) _ (number_run s bytes 2 2 (omega arith))
      (run_join (digits 2 (id_count s)) (digits 2 (segment_count s)) (number_run s bytes 2 4 (omega arith)) (number_run s bytes 2 6 (omega arith))))

  head_gives : Told (λ f n. f ≡ format s) Free (head_of s)
  unfolding head_of
  head_gives =
      told_pick _
      (λ a. told_pick _
      (λ b. told_pick _
      (λ c. told_pick _ (λ d. told_ok refl) (λ d. told_no tt))
      (λ c. told_no tt))
      (λ b. told_no tt))
      (λ a. told_no tt)

  names_keep : (count at : ℕ) → at ≤ length s
      → Keeps (λ xs. (length xs ≡ count) × Each NameWithin xs) (write_each write_name) s at (names_at 2 count s at)
  unfolding names_at
  names_keep count at h = each_keeps s bytes (name_at 2) write_name NameWithin (name_keeps s bytes 2) count at h

  tables_keep : Told (λ is n. (segments_at s ≤ length s) × (is ≡ ids_from (id_count s) s (ids_at s)) × (n ≡ segments_at s)) Free (tables_of s)
  unfolding tables_of
  tables_keep = told_pick _ (λ e. told_ok (leb-true _ _ e, refl, refl)) (λ e. told_no tt)

  -- All that was read stands one after the other, and is the whole image.
  module _ (xs : List Name) (es : List (Option Decl)) (r : Parts s xs es) where
    held : Schema
    held = record { format = format s; registry = es; ids = ids_from (id_count s) s (ids_at s); namespace = xs }

    entries_all : length es ≡ entry_count s
    entries_all = omega (arith, r.entries.count)

    bodies_start : bodies_at held ≡ body_start s 0
    unfolding held bodies_at segments_at ids_at
    bodies_start = omega (arith, r.names.next, entries_all, ids_count (id_count s) (ids_at s))

    front : Run s 0 8 (write_head held)
    unfolding held write_head
    front = rw (entries_all, ids_count (id_count s) (ids_at s), r.count) (head_run r.head)

    contents : Run s 8 (ids_at s) (write_contents (format s) es (bodies_at held))
    unfolding ids_at
    contents = rw bodies_start r.entries.contents

    is_written : s ≡ write held
    unfolding held write segments_at
    is_written =
        run_whole r.ends
        (run_join (write_head held) _ front
        (run_join (write_contents (format s) es (bodies_at held)) _ contents
        (run_join (write_each (digits 4) held.ids) _ (ids_run (id_count s) (ids_at s) r.inside)
        (run_join (write_each write_name xs) (write_each (write_entry (format s)) es) r.names r.entries.bodies))))

    is_within : Within held
    unfolding held
    is_within =
        record {
          format = r.head.known;
          entry_count = rw entries_all r.head.entries;
          id_count = rw (ids_count (id_count s) (ids_at s)) r.head.ids;
          segment_count = rw r.count r.head.segments;
          entries = r.entries.within;
          ids = ids_below (id_count s) (ids_at s);
          segments = r.within;
          whole = rw (← is_written) r.head.eight.fits;
        }

  Holds : Schema → ℕ → Type 0
  Holds x n = Within x × (s ≡ write x) × (n ≡ length s)

  image_keeps : Told Holds Free (read_image s)
  unfolding Holds read_image body_start held segments_at ids_at
  image_keeps =
      told_bind _ (told_both (head_told s) head_gives) (λ f n₁ h.
      told_bind _ tables_keep (λ is n₂ t.
      told_bind _ (told_both (names_told s n₂ t.2) (names_keep (segment_count s) n₂ (rw t.2 t.0))) (λ xs n₃ e.
      told_pick _
      (λ l.
      let p = all_placed (fits_told s (record { head = h.0; inside = t.0; segments = e.0.0 })) (rw e.0.1 at l) in
      let last : body_start s (entry_count s) ≤ length s = omega (arith, p.1) in
      told_bind {P = λ es n. Entries s 0 es × (n ≡ length s)} _
      (rw h.1 (entries_keep (entry_count s) 0 (omega arith) (omega (arith, t.0)) last p.0)) (λ es n₄ k.
      let r : Parts s xs es =
      record {
        head = h.0;
        inside = t.0;
        count = e.1.0.0;
        within = e.1.0.1;
        names = rw (t.2, e.0.1) at e.1.1;
        ends = p.1;
        entries = k.0;
      } in
      told_ok (rw (t.1, h.1) (is_within xs es r, is_written xs es r, k.1))))
      (λ l. told_no tt))))

-- A list of bytes is accepted and holds x exactly if x is within the limits and the list is what is written of x.
pub accepted_exactly : (s : List ℕ) → Each Byte s → (x : Schema) (n : ℕ) → (read_image s ≡ ok x n) ↔ (Within x × (s ≡ write x) × (n ≡ length s))
unfolding Holds
accepted_exactly s bytes x n = (λ e. told (rw e at (image_keeps s bytes)), back)
  where
    told : Told (Holds s bytes) Free (ok x n) → Within x × (s ≡ write x) × (n ≡ length s)
    told (told_ok h) = h

    back : Within x × (s ≡ write x) × (n ≡ length s) → read_image s ≡ ok x n
    back h = rw (h.2, h.1) (written_read x h.0)
