-- Heads, contents and whole images: what the code's answers say of them. Assumes nothing.
use mathlib.Core.Path.{◌≡◌, refl, sym, ap, ap₂, ◌∙◌}
use mathlib.Core.Bool.{Bool, true, false, cond, ◌&&◌, false≢true}
use mathlib.Core.List.{List}
use Prim.Native.Nat.{ℕ, zero, suc, ◌+◌, ◌-◌, ◌*◌, ◌≤◌, ◌<◌}
use native.Mathlib.Omega.{arith}
use native.Mathlib.Nat.{add-sub_cancel_left}
use borrow.Author.Tests.{eq-eqb, ne_eqb, le-leb, lt-leb, eqb-true, leb-true}
use lib.ListN.{length, take, drop}
use lib.Dec.{eqb, leb}
use Rattle.std.proofs.lemmas.Result.{err_from_is_err_and}
use Rattle.image.specs.Parse.{Parsed, ok, no, part, pick}
use Rattle.image.specs.Names.{names_at}
use Rattle.image.specs.Bodies.{body_of}
use Rattle.image.specs.Formats.{known}
use Rattle.image.specs.Image.{format, entry_count, id_count, segment_count, entry_offset, entry_length, ids_at, segments_at, head_of, tables_of, laid, entry_of, entries_of, read_image}
use Rattle.std.specs.Prelude.{Ok, Err, ⊤}
use Rattle.image.specs.Reads.{Read, read_of, skip}
use Rattle.image.specs.declared.refusals.Refusal.{Refusal}
use Rattle.image.specs.declared.refusals.Refusal.TheVariants.{Contents, Crowded, Format, Long, ShortHead}
use Rattle.image.proofs.Laws.Answers.{got, next, next_is, stop, skip_ok, pick_true, pick_false}
use Rattle.image.proofs.Laws.Sure.{Sure, sure_ok, sure_need, sure_at, names_sure, head_sure}

-- the head: what each test leaves
module _ (s : List ℕ) where
  pub head_long : 32768 < length s → read_of (Err Long) ≡ skip (head_of s)
  unfolding head_of pick skip read_of
  head_long h = rw (lt-leb (length s) 32768 h)

  pub head_short : length s ≤ 32768 → length s < 8 → read_of (Err ShortHead) ≡ skip (head_of s)
  unfolding head_of pick skip read_of
  head_short a h = rw (le-leb (length s) 32768 a, lt-leb 8 (length s) h)

  pub head_format : length s ≤ 32768 → 8 ≤ length s → known (format s) ≡ false → read_of (Err Format) ≡ skip (head_of s)
  unfolding head_of pick skip read_of
  head_format a b h = rw (le-leb (length s) 32768 a, le-leb 8 (length s) b, h)

  -- the tests before the counts
  pub record Formatted : Type 0 where
    pub short : length s ≤ 32768
    pub there : 8 ≤ length s
    pub known : known (format s) ≡ true

  module _ (f : Formatted) where
    counts : head_of s ≡ pick (leb (entry_count s) 512 && (leb (id_count s) 512 && leb (segment_count s) 16)) (ok (format s) 8) (no 4)
    unfolding head_of pick
    counts = rw (le-leb (length s) 32768 f.short, le-leb 8 (length s) f.there, f.known)

    pub crowded_entries : 512 < entry_count s → read_of (Err Crowded) ≡ skip (head_of s)
    unfolding pick skip read_of
    crowded_entries h = rw (counts, lt-leb (entry_count s) 512 h)

    pub crowded_ids : entry_count s ≤ 512 → 512 < id_count s → read_of (Err Crowded) ≡ skip (head_of s)
    unfolding pick skip read_of
    crowded_ids d h = rw (counts, le-leb (entry_count s) 512 d, lt-leb (id_count s) 512 h)

    pub crowded_segments : entry_count s ≤ 512 → id_count s ≤ 512 → 16 < segment_count s → read_of (Err Crowded) ≡ skip (head_of s)
    unfolding pick skip read_of
    crowded_segments d e h = rw (counts, le-leb (entry_count s) 512 d, le-leb (id_count s) 512 e, lt-leb (segment_count s) 16 h)

    pub head_good : entry_count s ≤ 512 → id_count s ≤ 512 → segment_count s ≤ 16 → read_of (Ok 8) ≡ skip (head_of s)
    unfolding pick skip read_of
    head_good d e h = rw (counts, le-leb (entry_count s) 512 d, le-leb (id_count s) 512 e, le-leb (segment_count s) 16 h)

-- a head that was read
pub head_there : (s : List ℕ) {x : Read} {n : ℕ} → x ≡ Ok n → read_of x ≡ skip (head_of s) → 8 ≤ length s
head_there s h e = (sure_at (head_sure s) h e).2.least

-- has a format that is read
pub head_known : (s : List ℕ) {x : Read} {n : ℕ} → x ≡ Ok n → read_of x ≡ skip (head_of s) → known (format s) ≡ true
head_known s h e = let k = (sure_at (head_sure s) h e).2 in rw k.format at k.known

-- gives the format
pub head_is : (s : List ℕ) {x : Read} {n f : ℕ} → x ≡ Ok n → read_of x ≡ skip (head_of s) → f ≡ format s → head_of s ≡ ok f n
head_is s {n = n} h e q =
    let (a, p, k) = sure_at (head_sure s) h e in
    p ∙ ap (λ v. ok v n) (k.format ∙ sym q)

-- the contents and the ids
tables_sure : (s : List ℕ) → Sure (λ a n. (8 + 4 * entry_count s ≤ length s) × (n ≤ length s)) (tables_of s)
unfolding tables_of segments_at ids_at
tables_sure s = sure_need _ _ (λ a. sure_ok (let h = leb-true (8 + 4 * entry_count s + 4 * id_count s) (length s) a in (omega arith, h)))

module _ (s : List ℕ) {n m : ℕ} (a : n ≡ entry_count s) (b : m ≡ id_count s) where
  pub tables_short : length s < 8 + 4 * n + 4 * m → read_of (Err ShortHead) ≡ skip (tables_of s)
  unfolding tables_of segments_at ids_at pick skip read_of
  tables_short h = rw (← a, ← b, lt-leb (8 + 4 * n + 4 * m) (length s) h)

  pub tables_there : 8 + 4 * n + 4 * m ≤ length s → read_of (Ok (8 + 4 * n + 4 * m)) ≡ skip (tables_of s)
  unfolding tables_of segments_at ids_at pick skip read_of
  tables_there h = rw (← a, ← b, le-leb (8 + 4 * n + 4 * m) (length s) h)

pub tables_within : (s : List ℕ) {x : Read} {n : ℕ} → x ≡ Ok n → read_of x ≡ skip (tables_of s) → (8 + 4 * entry_count s ≤ length s) × (n ≤ length s)
tables_within s h e = (sure_at (tables_sure s) h e).2

-- the names after them end within the image
pub names_within : (s : List ℕ) (c : ℕ) {x y : Read} {n m : ℕ} → x ≡ Ok n → read_of x ≡ skip (tables_of s) → y ≡ Ok m → read_of y ≡ skip (names_at 2 c s n)
    → m ≤ length s
names_within s c {n = n} h e h' e' = (sure_at (names_sure 2 c s n (tables_within s h e).1) h' e').2

-- whether the bodies of the entries from the i-th of n on lie without gaps
module _ (n : ℕ) (s : List ℕ) (i at : ℕ) where
  pub laid_done : n ≤ i → laid (n - i) s i at ≡ eqb at (length s)
  unfolding laid
  laid_done h =
      let z : n - i ≡ 0 = omega arith in
      rw z

  module _ {o l : ℕ} (p : i < n) (eo : o ≡ entry_offset s i) (el : l ≡ entry_length s i) where
    one_more : n - i ≡ suc (n - (i + 1))
    one_more = omega arith

    pub laid_empty : l ≡ 0 → o ≡ 0 → laid (n - i) s i at ≡ laid (n - (i + 1)) s (i + 1) at
    unfolding laid
    laid_empty a b = rw (one_more, ← el, ← eo, a, b)

    pub laid_nowhere : l ≡ 0 → (o ≡ 0 → ⊥) → laid (n - i) s i at ≡ false
    unfolding laid
    laid_nowhere a b = rw (one_more, ← el, ← eo, a, ne_eqb o 0 b)

    module _ (f : l ≡ 0 → ⊥) where
      pub laid_gap : (o ≡ at → ⊥) → laid (n - i) s i at ≡ false
      unfolding laid
      laid_gap b = rw (one_more, ← el, ← eo, ne_eqb l 0 f, ne_eqb o at b)

      pub laid_past : o ≡ at → length s < at + l → laid (n - i) s i at ≡ false
      unfolding laid
      laid_past b c = rw (one_more, ← el, ← eo, ne_eqb l 0 f, eq-eqb o at b, lt-leb (at + l) (length s) c)

      pub laid_next : o ≡ at → at + l ≤ length s → laid (n - i) s i at ≡ laid (n - (i + 1)) s (i + 1) (at + l)
      unfolding laid
      laid_next b c = rw (one_more, ← el, ← eo, ne_eqb l 0 f, eq-eqb o at b, le-leb (at + l) (length s) c)

pub laid_start : (n : ℕ) (s : List ℕ) (at : ℕ) → laid n s 0 at ≡ laid (n - 0) s 0 at
laid_start n s at =
    let z : n - 0 ≡ n = omega arith in
    rw z

-- a body that is laid lies within the image
laid_step : (k : ℕ) (s : List ℕ) (i at : ℕ) → laid (suc k) s i at ≡ true
    → (entry_offset s i + entry_length s i ≤ length s) × (q : ℕ) × (laid k s (i + 1) q ≡ true)
unfolding laid
laid_step k s i at h =
    go (eqb (entry_length s i) 0) (eqb (entry_offset s i) 0) (eqb (entry_offset s i) at) (leb (at + entry_length s i) (length s)) refl refl
    refl refl h
  where
    go : (a b c d : Bool) → eqb (entry_length s i) 0 ≡ a → eqb (entry_offset s i) 0 ≡ b → eqb (entry_offset s i) at ≡ c
        → leb (at + entry_length s i) (length s) ≡ d
        → cond a (b && laid k s (i + 1) at) (c && (d && laid k s (i + 1) (at + entry_length s i))) ≡ true
        → (entry_offset s i + entry_length s i ≤ length s) × (q : ℕ) × (laid k s (i + 1) q ≡ true)
    go true true c d ea eb ec ed h =
        let x = eqb-true (entry_length s i) 0 ea in
        let y = eqb-true (entry_offset s i) 0 eb in
        (omega arith, at, h)
    go true false c d ea eb ec ed h = absurd (false≢true h)
    go false b true true ea eb ec ed h =
        let x = eqb-true (entry_offset s i) at ec in
        let y = leb-true (at + entry_length s i) (length s) ed in
        (omega arith, at + entry_length s i, h)
    go false b true false ea eb ec ed h = absurd (false≢true h)
    go false b false d ea eb ec ed h = absurd (false≢true h)

laid_later : (k : ℕ) (s : List ℕ) (i at : ℕ) → laid k s i at ≡ true → (j : ℕ) → j < k
    → entry_offset s (i + j) + entry_length s (i + j) ≤ length s
laid_later zero s i at h j p = absurd (omega arith)
laid_later (suc k) s i at h zero p =
    let z : i + 0 ≡ i = omega arith in
    rw z (laid_step k s i at h).0
laid_later (suc k) s i at h (suc j) p =
    let t = laid_step k s i at h in
    let z : i + suc j ≡ i + 1 + j = omega arith in
    rw z (laid_later k s (i + 1) t.1 t.2 j (omega arith))

pub laid_inside : (n : ℕ) (s : List ℕ) (at : ℕ) → laid n s 0 at ≡ true → (i : ℕ) → i < n → entry_offset s i + entry_length s i ≤ length s
laid_inside n s at h i p =
    let z : 0 + i ≡ i = omega arith in
    rw z at (laid_later n s 0 at h i p)

-- the part that an entry names
pub entry_part : (s : List ℕ) {o l p q : ℕ} → o ≡ p → l ≡ q → take (o + l - o) (drop o s) ≡ part p q s
unfolding part
entry_part s {o} {l} e f = ap₂ take (add-sub_cancel_left o l ∙ f) (ap (λ (k : ℕ). drop k s) e)

-- one entry: empty, or its body's answer
module _ (f : ℕ) (s : List ℕ) (i : ℕ) {l : ℕ} (e : l ≡ entry_length s i) where
  pub entry_empty : l ≡ 0 → read_of (Ok 0) ≡ skip (entry_of f s i)
  unfolding entry_of pick skip read_of
  entry_empty z = rw (← e, z)

  pub entry_body : {o : ℕ} {x : Parsed ⊤} → (l ≡ 0 → ⊥) → o ≡ entry_offset s i → x ≡ skip (body_of f (take (o + l - o) (drop o s)))
      → x ≡ skip (entry_of f s i)
  unfolding entry_of pick
  entry_body g d q =
      rw (ne_eqb (entry_length s i) 0 (λ z. g (e ∙ z))) (q ∙ ap (λ (b : List ℕ). skip (body_of f b)) (entry_part s d e) ∙ sym (skip_ok _ _))

-- the entries from the i-th of n on
module _ (f n : ℕ) (s : List ℕ) (i : ℕ) where
  pub entries_done : n ≤ i → read_of (Ok (length s)) ≡ skip (entries_of f (n - i) s i)
  unfolding entries_of skip read_of
  entries_done h =
      let z : n - i ≡ 0 = omega arith in
      rw z

  pub entries_stop : {x : Read} {k : Refusal} → i < n → x ≡ Err k → read_of x ≡ skip (entry_of f s i) → read_of x ≡ skip (entries_of f (n - i) s i)
  unfolding entries_of
  entries_stop p h e =
      let z : n - i ≡ suc (n - (i + 1)) = omega arith in
      rw z (stop (entry_of f s i) _ h e)

  pub entries_more : {x : Read} {m : ℕ} → i < n → x ≡ Ok m → read_of x ≡ skip (entry_of f s i)
      → skip (entries_of f (n - (i + 1)) s (i + 1)) ≡ skip (entries_of f (n - i) s i)
  unfolding entries_of
  entries_more p h e =
      let z : n - i ≡ suc (n - (i + 1)) = omega arith in
      rw z (next _ (got h e) (λ _. sym (skip_ok (entries_of f (n - (i + 1)) s (i + 1)) _)))

pub entries_start : (f n : ℕ) (s : List ℕ) → skip (entries_of f (n - 0) s 0) ≡ skip (entries_of f n s 0)
entries_start f n s =
    let z : n - 0 ≡ n = omega arith in
    rw z

-- bodies that do not lie as the contents say
gap : (A : Type 0) → read_of (Err Contents) ≡ skip {A = A} (no 5)
unfolding read_of skip
gap A = refl

-- a whole image: the first part refused, or the one after those that were read, or the entries' answer
module _ (s : List ℕ) where
  pub image_head : {x : Read} {k : Refusal} → x ≡ Err k → read_of x ≡ skip (head_of s) → read_of x ≡ skip (read_image s)
  unfolding read_image
  image_head h e = stop _ _ h e

  module _ {x₁ : Read} {n₁ : ℕ} (h₁ : x₁ ≡ Ok n₁) (e₁ : read_of x₁ ≡ skip (head_of s)) where
    pub image_tables : {x : Read} {k : Refusal} → x ≡ Err k → read_of x ≡ skip (tables_of s) → read_of x ≡ skip (read_image s)
    unfolding read_image
    image_tables h e = next _ (got h₁ e₁) (λ _. stop _ _ h e)

    module _ {x₂ : Read} {n₂ : ℕ} (h₂ : x₂ ≡ Ok n₂) (e₂ : read_of x₂ ≡ skip (tables_of s)) {c : ℕ} (ec : c ≡ segment_count s) where
      names_as : {x : Parsed ⊤} → x ≡ skip (names_at 2 c s n₂) → x ≡ skip (names_at 2 (segment_count s) s n₂)
      names_as e = rw ec at e

      pub image_names : {x : Read} {k : Refusal} → x ≡ Err k → read_of x ≡ skip (names_at 2 c s n₂) → read_of x ≡ skip (read_image s)
      unfolding read_image
      image_names h e = next _ (got h₁ e₁) (λ _. next _ (got h₂ e₂) (λ _. stop _ _ h (names_as e)))

      module _ {x₃ : Read} {n₃ : ℕ} (h₃ : x₃ ≡ Ok n₃) (e₃ : read_of x₃ ≡ skip (names_at 2 c s n₂)) {m : ℕ} (em : m ≡ entry_count s) where
        pub image_gap : laid m s 0 n₃ ≡ false → read_of (Err Contents) ≡ skip (read_image s)
        unfolding read_image
        image_gap l =
            next _ (got h₁ e₁) (λ _.
            next _ (got h₂ e₂) (λ _.
            next _ (got h₃ (names_as e₃)) (λ _.
            pick_false _ _ _ (rw em at l) (gap _))))

        pub image_entries : {r : Parsed ⊤} {f : ℕ} → f ≡ format s → laid m s 0 n₃ ≡ true → r ≡ skip (entries_of f m s 0) → r ≡ skip (read_image s)
        unfolding read_image
        image_entries ef l q =
            next_is _ (head_is s h₁ e₁ ef) (
            next _ (got h₂ e₂) (λ _.
            next _ (got h₃ (names_as e₃)) (λ _.
            pick_true _ _ _ (rw em at l) ((rw em at q) ∙ sym (skip_ok _ _)))))

-- what the code needs
pub ruleset heads = (err_from_is_err_and, head_long, head_short, head_format, crowded_entries, crowded_ids, crowded_segments, head_good)

pub ruleset tables = (tables_short, tables_there)

pub ruleset layouts = (laid_start, laid_done, laid_empty, laid_nowhere, laid_gap, laid_past, laid_next)

pub ruleset entries = (entry_empty, entry_body)
