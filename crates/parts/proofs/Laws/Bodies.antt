-- The body of an entry as a list of its own: where it lies in the image, and that the entry's declaration starts at its start.
-- Assumes nothing.
use mathlib.Core.Path.{◌≡◌, refl, sym, ap, ◌∙◌}
use mathlib.Core.Bool.{Bool, true, false}
use Rattle.std.specs.Prelude.{None, Some}
use mathlib.Core.List.{List, []}
use Prim.Native.Nat.{ℕ, zero, suc, ◌+◌, ◌*◌, ◌≤◌, ◌<◌}
use native.Mathlib.Omega.{arith}
use borrow.Author.Tests.{eqb-true, eqb-false, ltb-true, ltb-false, ne_eqb}
use lib.Dec.{eqb, ltb}
use lib.ListN.{length, get_or}
use Rattle.image.specs.Schema.{Decl}
use Rattle.image.specs.Parse.{Parsed, ok, no, pick, part}
use Rattle.image.specs.Bodies.{body_of}
use Rattle.image.specs.Image.{format, entry_count, entry_offset, entry_length, entry_of, entries_of, read_image}
use Rattle.image.specs.WellFormed.{Good, value_or}
use Rattle.image.proofs.Laws.Kinds.{says}
use Rattle.image.proofs.Laws.Sure.{Sure, sure_ok, sure_no, sure_bind, sure_need, byte_sure}
use Rattle.image.proofs.Laws.Names.{part_length}
use Rattle.image.proofs.Laws.Good.{sure_good, good_first, good_second}
use Rattle.reader.proofs.Laws.Contents.{laid_inside}
use Rattle.reader.proofs.Laws.Contents.{entry_part as part_is}
use Rattle.parts.specs.Promise.{no_decl, Accepted, schema_of, DeclHere, decl_in, BodyIn, BodyOf}
use Rattle.parts.proofs.Laws.Kept.{kept_value, part_of, body_kept}
use Rattle.parts.proofs.Laws.Steps.{name_stands}
use Rattle.parts.proofs.Laws.Starts.{Started}
use Rattle.parts.proofs.Laws.Decls.{Headed, head_sure, decl_head, headed_start}
use Rattle.parts.proofs.Laws.Contents.{whole, entry_count_is, pair_there, empty_entry, body_entry}

-- a name is no longer than what it stands in
name_short : (s : List ℕ) (at : ℕ) → DeclHere s at → length (decl_in s at).name ≤ length s
name_short s at g = go (ltb (get_or s at 0) 8) refl
  where
    go : (b : Bool) → ltb (get_or s at 0) 8 ≡ b → length (decl_in s at).name ≤ length s
    go true e =
        let n = (decl_head s at g).named (ltb-true (get_or s at 0) 8 e) in
        omega (arith, ap length (n.1 ∙ (name_stands s (at + 1) n.0).value), (part_length (at + 1 + 1) (get_or s (at + 1) 0) s).1)
    go false e = omega (arith, ap length ((decl_head s at g).nameless (omega (arith, ltb-false (get_or s at 0) 8 e))))

-- ---- every entry of an accepted image was read

anything : {A : Type 0} (p : Parsed A) → Sure (λ _ _. Unit {0}) p
anything (ok a n) = sure_ok tt
anything (no k) = sure_no

placed : (s : List ℕ) → Sure (λ x n. (i : ℕ) → i < entry_count s → entry_offset s i + entry_length s i ≤ length s) (read_image s)
unfolding read_image
placed s =
    sure_bind _ (anything _) (λ h n₁ _.
    sure_bind _ (anything _) (λ ids n₂ _.
    sure_bind _ (anything _) (λ names n₃ _.
    sure_need _ _ (λ e.
    sure_bind _ (anything _) (λ es n₄ _.
    sure_ok (laid_inside (entry_count s) s n₃ e))))))

module _ (f : ℕ) (s : List ℕ) where
  entry_good : (c i j : ℕ) → j < c → Good (entries_of f c s i) → Good (entry_of f s (i + j))
  unfolding entries_of
  entry_good zero i j l g = absurd (omega arith)
  entry_good (suc c) i zero l g =
      let z : i + 0 ≡ i = omega arith in
      rw z (good_first None (entry_of f s i) _ g)
  entry_good (suc c) i (suc j) l g =
      let z : i + suc j ≡ i + 1 + j = omega arith in
      rw z (entry_good c (i + 1) j (omega arith) (good_first [] (entries_of f c s (i + 1)) _ (good_second None (entry_of f s i) _ g)))

  body_good : (i : ℕ) → (entry_length s i ≡ 0 → ⊥) → Good (entry_of f s i) → Good (body_of f (part (entry_offset s i) (entry_length s i) s))
  unfolding entry_of pick
  body_good i n g = good_first no_decl (body_of f (part (entry_offset s i) (entry_length s i) s)) _ (rw (ne_eqb (entry_length s i) 0 n) at g)

head_of_lem : {f b n : ℕ} {t : List ℕ} {d : Decl} → b ≡ get_or t 0 0 → n ≡ 1 → Headed f b t n d → Headed f (get_or t 0 0) t 1 d
head_of_lem p q h = rw (← p, ← q) h

-- a body that was read starts with its declaration's start
started_sure : (f : ℕ) (t : List ℕ) → Sure (λ d n. Started t 0 d) (body_of f t)
unfolding body_of
started_sure f t =
    sure_bind _ (byte_sure 8 t 0) (λ b n q.
    sure_bind _ (head_sure f t n (says b)) (λ d m h.
    sure_need _ _ (λ _.
    sure_ok (headed_start t 0 (let i = q.inside in let j = q.next in omega arith) (head_of_lem q.value q.next h)))))

-- ---- the entry of an id

module _ (s : List ℕ) (g : Accepted s) (id : ℕ) (l : id < length (schema_of s).registry) where
  id_within : id < entry_count s
  id_within = omega (arith, entry_count_is s g)

  -- its pair in the contents
  pub entry_pair : 8 + 4 * id + 4 ≤ length s
  entry_pair = pair_there s g id id_within

  module _ {from count : ℕ} (d : from ≡ entry_offset s id) (e : count ≡ entry_length s id) where
    module _ (n : count ≡ 0 → ⊥) where
      some_body : entry_length s id ≡ 0 → ⊥
      some_body z = n (e ∙ z)

      fits : entry_offset s id + entry_length s id ≤ length s
      unfolding Accepted
      fits = sure_good (schema_of s) (placed s) g id id_within

      abbrev body : List ℕ
      body = part (entry_offset s id) (entry_length s id) s

      good : Good (body_of (format s) body)
      good =
          let z : 0 + id ≡ id = omega arith in
          body_good (format s) s id some_body (rw z at (entry_good (format s) s (entry_count s) 0 id id_within (whole s g).entries))

      started : Started body 0 (value_or no_decl (body_of (format s) body))
      started = sure_good no_decl (started_sure (format s) body) good

      in_image : decl_in s (entry_offset s id) ≡ value_or no_decl (body_of (format s) body)
      unfolding decl_in
      in_image = kept_value no_decl (body_kept (entry_offset s id) body s (part_of (entry_offset s id) (entry_length s id) s (omega (arith, fits)))) good

      found : BodyIn s id from count
      found =
          let same = part_is s d e in
          let h = started in
          record {
            inside = omega (arith, fits);
            whole = rw same good;
            is = (body_entry s g id id_within some_body).1 ∙ ap Some (rw same in_image);
            here = rw same h.here;
            kind = rw same h.kind;
            name = rw same h.name;
          }

    pub entry_body : BodyOf s id (record { start = from; count = count })
    entry_body = record { empty = λ z. empty_entry s g id id_within (sym e ∙ z); body = found }

  -- the name of its declaration, if it has one
  pub entry_short : (d : Decl) → get_or (schema_of s).registry id None ≡ Some d → length d.name ≤ length s
  entry_short d q = go (eqb (entry_length s id) 0) refl
    where
      go : (t : Bool) → eqb (entry_length s id) 0 ≡ t → length d.name ≤ length s
      go true z =
          let n = sym (empty_entry s g id id_within (eqb-true (entry_length s id) 0 z)) ∙ q in
          absurd (let z : ◌≡◌ {A = ℕ} 0 1 = cc in omega arith)
      go false z =
          let b = body_entry s g id id_within (λ y. eqb-false (entry_length s id) 0 z y) in
          let n = sym b.1 ∙ q in
          let k : decl_in s (entry_offset s id) ≡ d = cc in
          rw (sym k) (name_short s (entry_offset s id) b.0)

-- what the code needs
pub ruleset bodies = (entry_pair, entry_body)
