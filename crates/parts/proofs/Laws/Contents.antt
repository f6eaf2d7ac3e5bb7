-- The tables of an accepted image: its ids, its namespace, and the bodies of its entries. Assumes nothing.
use mathlib.Core.Path.{◌≡◌, refl, sym, ap, ◌∙◌}
use Rattle.std.specs.Prelude.{Option, None, Some}
use mathlib.Core.Bool.{true}
use mathlib.Core.List.{List, [], ◌∷◌}
use Prim.Native.Nat.{ℕ, zero, suc, ◌+◌, ◌*◌, ◌≤◌, ◌<◌}
use native.Mathlib.Omega.{arith}
use borrow.Author.Tests.{leb-true, ne_eqb}
use lib.ListN.{length, get_or, take, drop, get_or-eq_default}
use Rattle.image.specs.Schema.{Decl, Schema, no_schema}
use Rattle.image.specs.Parse.{ok, bind, pick, part, little_endian, byte_at}
use Rattle.image.specs.Names.{name_at, names_at}
use Rattle.image.specs.Bodies.{body_of}
use Rattle.image.specs.Formats.{known}
use Rattle.image.specs.Image.{format, entry_count, id_count, segment_count, entry_offset, entry_length, ids_at, segments_at, ids_from, head_of, tables_of, entry_of, entries_of, read_image}
use Rattle.image.specs.WellFormed.{Good, value_or, end_of}
use Rattle.image.proofs.Laws.Sure.{head_sure}
use Rattle.image.proofs.Laws.Good.{sure_good, good_first}
use Rattle.image.proofs.Laws.Repeats.{ids_length}
use Rattle.image.proofs.Laws.Names.{part_length}
use Rattle.parts.specs.Promise.{no_decl, Accepted, schema_of, NamesHere, NamesListed, name_places, name_in, name_end, DeclHere, decl_in, segments_in}
use Rattle.parts.proofs.Laws.Kept.{kept_good, kept_value, part_of, part_self, names_kept, body_kept}
use Rattle.parts.proofs.Laws.Steps.{good_is, then_is, then_good, need_is, need_true, byte_is}
use Rattle.parts.proofs.Laws.Places.{many_places}

-- what an accepted image consists of
pub record Whole (s : List ℕ) : Type 0 where
  pub most : length s ≤ 32768
  pub least : 8 ≤ length s
  pub known : known (format s) ≡ true
  pub tables : segments_at s ≤ length s
  pub names : Good (names_at 2 (segment_count s) s (segments_at s))
  pub entries : Good (entries_of (format s) (entry_count s) s 0)
  pub is : schema_of s ≡ record {
    format = format s;
    registry = value_or [] (entries_of (format s) (entry_count s) s 0);
    ids = ids_from (id_count s) s (ids_at s);
    namespace = value_or [] (names_at 2 (segment_count s) s (segments_at s));
  }

pub whole : (s : List ℕ) → Accepted s → Whole s
unfolding Accepted schema_of read_image tables_of value_or
whole s g =
    let b₁ = good_first 0 (head_of s) _ g in
    let h = sure_good 0 (head_sure s) b₁ in
    let e₁ = good_is 0 (head_of s) b₁ ∙ ap (λ (f : ℕ). ok f (end_of (head_of s))) h.format in
    let g₂ = then_good _ e₁ g in
    let b₂ = good_first [] (tables_of s) _ g₂ in
    let e₂ = need_is 2 _ _ b₂ in
    let g₃ = then_good _ e₂ g₂ in
    let b₃ = good_first [] (names_at 2 (segment_count s) s (segments_at s)) _ g₃ in
    let e₃ = good_is [] _ b₃ in
    let g₄ = then_good _ e₃ g₃ in
    let e₄ = need_is 5 _ _ g₄ in
    let g₅ = rw e₄ at g₄ in
    let b₅ = good_first [] (entries_of (format s) (entry_count s) s 0) _ g₅ in
    record {
      most = h.most;
      least = h.least;
      known = rw h.format at h.known;
      tables = leb-true (segments_at s) (length s) (need_true 2 _ _ b₂);
      names = b₃;
      entries = b₅;
      is = ap (value_or no_schema) (then_is _ e₁ ∙ then_is _ e₂ ∙ then_is _ e₃ ∙ e₄ ∙ then_is _ (good_is [] _ b₅));
    }

-- the ids
module _ (s : List ℕ) where
  ids_at_lem : (c at k : ℕ) → k < c → get_or (ids_from c s at) k 0 ≡ little_endian 4 (drop (at + 4 * k) s)
  unfolding ids_from
  ids_at_lem zero at k l = absurd (omega arith)
  ids_at_lem (suc c) at zero l =
      let z : at ≡ at + 4 * 0 = omega arith in
      ap (λ (i : ℕ). little_endian 4 (drop i s)) z
  ids_at_lem (suc c) at (suc k) l =
      let z : at + 4 + 4 * k ≡ at + 4 * suc k = omega arith in
      ids_at_lem c (at + 4) k (omega arith) ∙ ap (λ (i : ℕ). little_endian 4 (drop i s)) z

-- the entries, one by one, in a format
module _ (f : ℕ) (s : List ℕ) where
  entries_more : (c i : ℕ) → Good (entries_of f (suc c) s i)
      → Good (entry_of f s i) × Good (entries_of f c s (i + 1)) × (value_or [] (entries_of f (suc c) s i) ≡ value_or None (entry_of f s i) ∷ value_or [] (entries_of f c s (i + 1)))
  unfolding entries_of value_or
  entries_more c i g =
      let a = good_first None (entry_of f s i) _ g in
      let e = good_is None (entry_of f s i) a in
      let b = good_first [] (entries_of f c s (i + 1)) _ (then_good _ e g) in
      (a, b, ap (value_or []) (then_is _ e ∙ then_is _ (good_is [] _ b)))

  entries_none : (i : ℕ) → value_or [] (entries_of f 0 s i) ≡ []
  unfolding entries_of value_or
  entries_none i = refl

  entries_count : (c i : ℕ) → Good (entries_of f c s i) → length (value_or [] (entries_of f c s i)) ≡ c
  entries_count zero i g = ap length (entries_none i)
  entries_count (suc c) i g =
      let (a, b, e) = entries_more c i g in
      ap length e ∙ ap suc (entries_count c (i + 1) b)

  entries_at : (c i j : ℕ) → j < c → Good (entries_of f c s i) → Good (entry_of f s (i + j)) × (get_or (value_or [] (entries_of f c s i)) j None ≡ value_or None (entry_of f s (i + j)))
  entries_at zero i j l g = absurd (omega arith)
  entries_at (suc c) i zero l g =
      let (a, b, e) = entries_more c i g in
      let z : i + 0 ≡ i = omega arith in
      rw z (a, ap (λ (r : List (Option Decl)). get_or r 0 None) e)
  entries_at (suc c) i (suc j) l g =
      let (a, b, e) = entries_more c i g in
      let z : i + suc j ≡ i + 1 + j = omega arith in
      let r = entries_at c (i + 1) j (omega arith) b in
      rw z (r.0, ap (λ (r : List (Option Decl)). get_or r (suc j) None) e ∙ r.1)

  -- an empty one, and one with a body
  entry_empty : (i : ℕ) → entry_length s i ≡ 0 → value_or None (entry_of f s i) ≡ None
  unfolding entry_of pick value_or
  entry_empty i z = rw z

  entry_is : (i : ℕ) → (entry_length s i ≡ 0 → ⊥) → entry_of f s i ≡ bind (body_of f (part (entry_offset s i) (entry_length s i) s)) (λ d n. ok (Some d) n)
  unfolding entry_of pick
  entry_is i n = rw (ne_eqb (entry_length s i) 0 n)

  body_there : (from count : ℕ) → Good (body_of f (part from count s)) → from ≤ length s
  unfolding body_of part
  body_there from count g =
      let l = (byte_is (take count (drop from s)) 0 8 (good_first 0 (byte_at 8 (take count (drop from s)) 0) _ g)).1 in
      omega (arith, (part_length from count s).1)

-- a body's declaration stands in the image at the body's place
module _ (s : List ℕ) where
  entry_body : (i : ℕ) → (entry_length s i ≡ 0 → ⊥) → Good (entry_of (format s) s i)
      → DeclHere s (entry_offset s i) × (value_or None (entry_of (format s) s i) ≡ Some (decl_in s (entry_offset s i)))
  unfolding DeclHere decl_in value_or
  entry_body i n g =
      let t = part (entry_offset s i) (entry_length s i) s in
      let e = entry_is (format s) s i n in
      let b = good_first no_decl (body_of (format s) t) _ (rw e at g) in
      let k = body_kept (entry_offset s i) t s (part_of (entry_offset s i) (entry_length s i) s (body_there (format s) s (entry_offset s i) (entry_length s i) b)) in
      (kept_good k b, ap (value_or None) (e ∙ then_is _ (good_is no_decl (body_of (format s) t) b)) ∙ ap Some (sym (kept_value no_decl k b)))

-- what an accepted image says of its tables
module _ (s : List ℕ) (g : Accepted s) where
  pub accepted_most : length s ≤ 32768
  accepted_most = (whole s g).most

  pub head_there : 8 ≤ length s
  head_there = (whole s g).least

  tables_there : 8 + 4 * entry_count s + 4 * id_count s ≤ length s
  unfolding segments_at ids_at
  tables_there = (whole s g).tables

  pub format_known : known (format s) ≡ true
  format_known = (whole s g).known

  pub format_is : format s ≡ (schema_of s).format
  format_is = sym (ap (λ (c : Schema). c.format) (whole s g).is)

  ids_are : (schema_of s).ids ≡ ids_from (id_count s) s (ids_at s)
  ids_are = ap (λ (c : Schema). c.ids) (whole s g).is

  pub id_count_is : id_count s ≡ length (schema_of s).ids
  id_count_is = sym (ap length ids_are ∙ ids_length (id_count s) s (ids_at s))

  pub id_is : (k : ℕ) → k < length (schema_of s).ids
      → (little_endian 4 (drop (8 + 4 * entry_count s + 4 * k) s) ≡ get_or (schema_of s).ids k 0) × (8 + 4 * entry_count s + 4 * k + 4 ≤ length s)
  unfolding ids_at
  id_is k l =
      let c = id_count_is in
      let t = tables_there in
      (sym (ap (λ (i : List ℕ). get_or i k 0) ids_are ∙ ids_at_lem s (id_count s) (ids_at s) k (omega arith)), omega arith)

  entries_are : (schema_of s).registry ≡ value_or [] (entries_of (format s) (entry_count s) s 0)
  entries_are = ap (λ (c : Schema). c.registry) (whole s g).is

  pub entry_count_is : entry_count s ≡ length (schema_of s).registry
  entry_count_is = sym (ap length entries_are ∙ entries_count (format s) s (entry_count s) 0 (whole s g).entries)

  -- each has a pair in the contents
  pub entries_most : length (schema_of s).registry ≤ length s
  entries_most = omega (arith, entry_count_is, tables_there)

  -- and each listed id a place after them
  pub ids_most : length (schema_of s).ids ≤ length s
  ids_most = omega (arith, id_count_is, tables_there)

  pub entry_past : (id : ℕ) → entry_count s ≤ id → get_or (schema_of s).registry id None ≡ None
  entry_past id l = get_or-eq_default (schema_of s).registry None (let e = entry_count_is in omega arith)

  module _ (id : ℕ) (l : id < entry_count s) where
    pub pair_there : 8 + 4 * id + 4 ≤ length s
    pair_there = let t = tables_there in omega arith

    found : Good (entry_of (format s) s id) × (get_or (schema_of s).registry id None ≡ value_or None (entry_of (format s) s id))
    found =
        let z : 0 + id ≡ id = omega arith in
        let r = entries_at (format s) s (entry_count s) 0 id l (whole s g).entries in
        (rw z at r.0, ap (λ (r : List (Option Decl)). get_or r id None) entries_are ∙ r.1 ∙ ap (λ (i : ℕ). value_or None (entry_of (format s) s i)) z)

    pub empty_entry : entry_length s id ≡ 0 → get_or (schema_of s).registry id None ≡ None
    empty_entry e = found.1 ∙ entry_empty (format s) s id e

    pub body_entry : (entry_length s id ≡ 0 → ⊥) → DeclHere s (entry_offset s id) × (get_or (schema_of s).registry id None ≡ Some (decl_in s (entry_offset s id)))
    body_entry f = let r = entry_body s id f found.0 in (r.0, found.1 ∙ r.1)

  -- the namespace
  names_again : Good (names_at 8 (segment_count s) s (segments_at s)) × ((schema_of s).namespace ≡ value_or [] (names_at 8 (segment_count s) s (segments_at s)))
  names_again =
      let z : 0 + segments_at s ≡ segments_at s = omega arith in
      let k = rw z at (names_kept (part_self s) 2 8 (segment_count s) (segments_at s)) in
      (kept_good k (whole s g).names, ap (λ (c : Schema). c.namespace) (whole s g).is ∙ sym (kept_value [] k (whole s g).names))

  pub segments_listed : NamesListed s (segments_in s) (schema_of s).namespace
  unfolding NamesHere segments_in name_places name_in name_end names_at
  segments_listed =
      let h = names_again in
      record { here = h.0; are = h.1 ∙ many_places [] (name_at 8) s (segment_count s) (segments_at s) h.0 }

-- the namespace's names, by the counts of the head
pub segments_run : (s : List ℕ) {n m k : ℕ} → n ≡ entry_count s → m ≡ id_count s → k ≡ segment_count s
    → record { start = 8 + 4 * n + 4 * m; count = k } ≡ segments_in s
unfolding segments_in segments_at ids_at
segments_run s e f g = rw (e, f, g)

-- what the code needs of the head
pub ruleset heads = (head_there, format_known, format_is, id_count_is, entry_count_is)

pub ruleset entries = (head_there, entry_past, pair_there, empty_entry, body_entry)

pub ruleset ids = (head_there, id_is)
