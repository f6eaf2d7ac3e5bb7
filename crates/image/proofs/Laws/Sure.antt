-- What is true of every value and position that a parser answers: above all that the position is within the list.
-- Assumes nothing.
use mathlib.Core.Path.{◌≡◌, refl, ap₂, ◌∙◌}
use mathlib.Core.Bool.{Bool, true, false, ◌&&◌, false≢true}
use mathlib.Core.List.{List}
use Prim.Native.Nat.{ℕ, zero, suc, ◌+◌, ◌≤◌, ◌<◌}
use native.Mathlib.Omega.{arith}
use borrow.Author.Tests.{ltb-true, leb-true}
use lib.ListN.{length, get_or, drop, length-drop}
use lib.Dec.{leb}
use Rattle.image.specs.Schema.{Label, Ty}
use Rattle.image.specs.Parse.{Parsed, ok, no, bind, pick, shift, within, part, byte_at, code_at, little_endian, number_at, many, counted}
use Rattle.image.specs.Names.{name_bytes, name_at, names_at}
use Rattle.image.specs.Types.{Follows, code, sub_byte, identity, size, nothing, bits, unknown, follows_tag, inner_types, after_tag, label_of}
use Rattle.image.specs.Types.{inner_at, type_of, type_at}
use Rattle.image.specs.Fields.{marks_at, encoding_of, encoding_at, limit_at, field_at, bare_at, variant_at}
use Rattle.image.specs.Tombstones.{tombstones_at}
use Rattle.image.specs.Formats.{known, stored}
use Rattle.image.specs.Image.{format, entry_count, id_count, segment_count, head_of}
use Rattle.image.specs.Reads.{skip, Read, read_of}
use Rattle.image.proofs.Laws.Answers.{Got, got}
use Rattle.std.specs.Prelude.{Ok, Err, IfOk}

pub data Sure {A : Type 0} (P : A → ℕ → Type 0) : Parsed A → Type 0 where
  sure_ok : {a : A} {n : ℕ} → P a n → Sure P (ok a n)
  sure_no : {k : ℕ} → Sure P (no k)

pub sure_bind : {A B : Type 0} {Q : A → ℕ → Type 0} {P : B → ℕ → Type 0} {p : Parsed A} (f : A → ℕ → Parsed B)
    → Sure Q p → ((a : A) (n : ℕ) → Q a n → Sure P (f a n)) → Sure P (bind p f)
unfolding bind
sure_bind f (sure_ok {a = a} {n = n} q) g = g a n q
sure_bind f sure_no g = sure_no

pub sure_pick : {A : Type 0} {P : A → ℕ → Type 0} (b : Bool) {x y : Parsed A} → (b ≡ true → Sure P x) → (b ≡ false → Sure P y)
    → Sure P (pick b x y)
unfolding pick
sure_pick true f g = f refl
sure_pick false f g = g refl

-- a test that must hold
pub sure_need : {A : Type 0} {P : A → ℕ → Type 0} (b : Bool) (k : ℕ) {x : Parsed A} → (b ≡ true → Sure P x) → Sure P (pick b x (no k))
sure_need b k f = sure_pick b f (λ _. sure_no)

pub sure_then : {A : Type 0} {Q P : A → ℕ → Type 0} {p : Parsed A} → Sure Q p → ((a : A) (n : ℕ) → Q a n → P a n) → Sure P p
sure_then (sure_ok {a = a} {n = n} q) g = sure_ok (g a n q)
sure_then sure_no g = sure_no

-- of a value that was read
pub sure_got : {A : Type 0} {P : A → ℕ → Type 0} {p : Parsed A} {n : ℕ} → Sure P p → (g : Got p n) → P g.value n
sure_got {n = n} (sure_ok {a = a} {n = m} q) g =
    let d : a ≡ g.value = cc in
    let e : m ≡ n = cc in
    rw d at (rw e at q)
sure_got sure_no g = absurd (let z : ◌≡◌ {A = ℕ} 0 1 = cc in omega arith)

pub sure_at : {A : Type 0} {P : A → ℕ → Type 0} {p : Parsed A} {x : Read} {n : ℕ} → Sure P p → x ≡ Ok n → read_of x ≡ skip p
    → (a : A) × (p ≡ ok a n) × P a n
sure_at q h e =
    let g = got h e in
    (g.value, g.is, sure_got q g)

-- the position is within the list
abbrev pub In : {A : Type 0} → List ℕ → A → ℕ → Type 0
In s a n = n ≤ length s

-- a byte that is there, and the position after it
pub record Byte (s : List ℕ) (at b n : ℕ) : Type 0 where
  pub value : b ≡ get_or s at 0
  pub next : n ≡ at + 1
  pub inside : n ≤ length s

pub byte_sure : (short : ℕ) (s : List ℕ) (at : ℕ) → Sure (Byte s at) (byte_at short s at)
unfolding byte_at
byte_sure short s at =
    sure_need _ _ (λ h. sure_ok (record { value = refl; next = refl; inside = (let l : at < length s = ltb-true _ _ h in omega arith) }))

-- a coded byte that is allowed
pub record Coded (lo hi : ℕ) (s : List ℕ) (at b n : ℕ) : Type 0 where
  pub byte : Byte s at b n
  pub low : lo ≤ b
  pub high : b ≤ hi

between : (lo hi b : ℕ) → (leb lo b && leb b hi) ≡ true → (lo ≤ b) × (b ≤ hi)
between lo hi b h = go (leb lo b) (leb b hi) refl refl h
  where
    go : (c d : Bool) → leb lo b ≡ c → leb b hi ≡ d → (c && d) ≡ true → (lo ≤ b) × (b ≤ hi)
    go true true p q h = (leb-true lo b p, leb-true b hi q)
    go true false p q h = absurd (false≢true h)
    go false d p q h = absurd (false≢true h)

pub code_sure : (lo hi : ℕ) (s : List ℕ) (at : ℕ) → Sure (Coded lo hi s at) (code_at lo hi s at)
unfolding code_at
code_sure lo hi s at =
    sure_bind _ (byte_sure 8 s at) (λ b n q.
    sure_need _ _ (λ h. sure_ok (let r = between lo hi b h in record { byte = q; low = r.0; high = r.1 })))

-- a number of w bytes that are there
pub record Number (w : ℕ) (s : List ℕ) (at v n : ℕ) : Type 0 where
  pub value : v ≡ little_endian w (drop at s)
  pub next : n ≡ at + w
  pub inside : n ≤ length s

pub number_sure : (w : ℕ) (s : List ℕ) (at : ℕ) → Sure (Number w s at) (number_at w s at)
unfolding number_at
number_sure w s at = sure_need _ _ (λ h. sure_ok (record { value = refl; next = refl; inside = leb-true _ _ h }))

-- a name's bytes, and where it ends
pub record Named (s : List ℕ) (at : ℕ) (x : List ℕ) (n : ℕ) : Type 0 where
  pub there : at < length s
  pub value : x ≡ part (at + 1) (get_or s at 0) s
  pub allowed : name_bytes x ≡ true
  pub next : n ≡ at + 1 + get_or s at 0
  pub inside : n ≤ length s

pub name_sure : (short : ℕ) (s : List ℕ) (at : ℕ) → Sure (Named s at) (name_at short s at)
unfolding name_at
name_sure short s at =
    sure_bind _ (byte_sure short s at) (λ k n q.
    sure_need _ _ (λ h. sure_need _ _ (λ g. sure_ok (name_of k n q (leb-true _ _ h) g))))
  where
    name_of : (k n : ℕ) → Byte s at k n → n + k ≤ length s → name_bytes (part n k s) ≡ true → Named s at (part n k s) (n + k)
    name_of k n q h g = record {
      there = (let i = q.inside in let j = q.next in omega arith);
      value = ap₂ (λ (m j : ℕ). part m j s) q.next q.value;
      allowed = g;
      next = ap₂ ◌+◌ q.next q.value;
      inside = h;
    }

-- so many of a kind, one after the other, stay within the list if each does
pub many_sure : {A : Type 0} (p : List ℕ → ℕ → Parsed A) (s : List ℕ) → ((at : ℕ) → at ≤ length s → Sure (In s) (p s at))
    → (c at : ℕ) → at ≤ length s → Sure (In s) (many p c s at)
unfolding many
many_sure p s q zero at h = sure_ok h
many_sure p s q (suc c) at h = sure_bind _ (q at h) (λ x n i. sure_bind _ (many_sure p s q c n i) (λ xs m j. sure_ok j))

pub names_sure : (short c : ℕ) (s : List ℕ) (at : ℕ) → at ≤ length s → Sure (In s) (names_at short c s at)
unfolding names_at
names_sure short c s at h = many_sure (name_at short) s (λ at _. sure_then (name_sure short s at) (λ x n q. q.inside)) c at h

-- a label has its tag
abbrev pub Tagged : ℕ → List ℕ → Label → ℕ → Type 0
Tagged tag s l n = (l.tag ≡ tag) × (n ≤ length s)

tag_sure : (tag : ℕ) (f : Follows) (s : List ℕ) (at : ℕ) → at ≤ length s → Sure (Tagged tag s) (after_tag tag f s at)
unfolding after_tag
tag_sure tag (code hi) s at h = sure_bind _ (code_sure 0 hi s at) (λ a n q. sure_ok (refl, q.byte.inside))
tag_sure tag sub_byte s at h =
    sure_bind _ (code_sure 0 1 s at) (λ a n q. sure_bind _ (code_sure 1 64 s n) (λ b m r. sure_ok (refl, r.byte.inside)))
tag_sure tag identity s at h = sure_bind _ (number_sure 4 s at) (λ a n q. sure_ok (refl, q.inside))
tag_sure tag size s at h = sure_bind _ (number_sure 8 s at) (λ a n q. sure_ok (refl, q.inside))
tag_sure tag nothing s at h = sure_ok (refl, h)
tag_sure tag bits s at h =
    sure_bind _ (byte_sure 8 s at) (λ k n q. sure_bind _ (names_sure 8 k s n q.inside) (λ xs m r. sure_ok (refl, r)))
tag_sure tag unknown s at h = sure_no

-- a label at the start of a part
pub record Labelled (s : List ℕ) (l : Label) (n : ℕ) : Type 0 where
  pub tagged : l.tag ≡ get_or s 0 0
  pub there : 0 < length s
  pub inside : n ≤ length s

pub label_sure : (s : List ℕ) → Sure (Labelled s) (label_of s)
unfolding label_of
label_sure s =
    sure_bind _ (byte_sure 8 s 0) (λ b n q.
    sure_then (tag_sure b (follows_tag b) s n q.inside) (λ l m r.
    record { tagged = r.0 ∙ q.value; there = (let i = q.inside in let j = q.next in omega arith); inside = r.1 }))

shift_sure : {A : Type 0} {r : Parsed A} (s : List ℕ) (at : ℕ) → at ≤ length s → Sure (In (drop at s)) r → Sure (In s) (shift at r)
unfolding shift
shift_sure s at h (sure_ok {n = n} q) =
    let e = length-drop at s in
    let l : at + n ≤ length s = omega arith in
    sure_ok l
shift_sure s at h sure_no = sure_no

pub within_sure : {A : Type 0} (p : List ℕ → Parsed A) (s : List ℕ) (at : ℕ) → at ≤ length s → Sure (In (drop at s)) (p (drop at s))
    → Sure (In s) (within p s at)
unfolding within
within_sure p s at h q = shift_sure s at h q

inner_sure : (p : List ℕ → Parsed Ty) → ((t : List ℕ) → Sure (In t) (p t)) → (i : ℕ) (l : Label) (s : List ℕ) (at : ℕ) → at ≤ length s
    → Sure (In s) (inner_at i l p s at)
unfolding inner_at
inner_sure p q zero l s at h = sure_ok h
inner_sure p q (suc zero) l s at h = sure_bind _ (within_sure p s at h (q (drop at s))) (λ t n r. sure_ok r)
inner_sure p q (suc (suc k)) l s at h =
    sure_bind _ (within_sure p s at h (q (drop at s))) (λ t n r.
    sure_bind _ (within_sure p s n r (q (drop n s))) (λ u m o. sure_ok o))

pub type_sure : (d : ℕ) (s : List ℕ) → Sure (In s) (type_of d s)
unfolding type_of
type_sure zero s = sure_no
type_sure (suc d) s =
    sure_bind _ (label_sure s) (λ l n q. inner_sure (type_of d) (λ t. type_sure d t) (inner_types l.tag) l s n q.inside)

-- codes and numbers, marks, encodings, limits and items end within the list, wherever they start
pub code_in : (lo hi : ℕ) (s : List ℕ) (at : ℕ) → Sure (In s) (code_at lo hi s at)
code_in lo hi s at = sure_then (code_sure lo hi s at) (λ b n q. q.byte.inside)

pub number_in : (w : ℕ) (s : List ℕ) (at : ℕ) → Sure (In s) (number_at w s at)
number_in w s at = sure_then (number_sure w s at) (λ v n q. q.inside)

pub marks_sure : (s : List ℕ) (at : ℕ) → Sure (In s) (marks_at s at)
unfolding marks_at
marks_sure s at = sure_bind _ (code_in 0 3 s at) (λ b n q. sure_ok q)

deltas_sure : (left : ℕ) (s : List ℕ) (at : ℕ) → Sure (In s) (encoding_of left s at)
unfolding encoding_of
deltas_sure zero s at = sure_bind _ (code_in 0 3 s at) (λ b n q. sure_pick _ (λ h. sure_no) (λ h. sure_ok q))
deltas_sure (suc left) s at =
    sure_bind _ (code_in 0 3 s at) (λ b n q.
    sure_pick _ (λ h. sure_bind _ (deltas_sure left s n) (λ e m r. sure_ok r)) (λ h. sure_ok q))

pub encoding_sure : (s : List ℕ) (at : ℕ) → Sure (In s) (encoding_at s at)
unfolding encoding_at
encoding_sure s at = deltas_sure 8 s at

pub limit_sure : (s : List ℕ) (at : ℕ) → Sure (In s) (limit_at s at)
unfolding limit_at
limit_sure s at =
    sure_bind _ (code_in 0 1 s at) (λ b n q.
    sure_pick _ (λ h. sure_ok q) (λ h. sure_bind _ (number_in 8 s n) (λ v m r. sure_ok r)))

pub bare_sure : (s : List ℕ) (at : ℕ) → Sure (In s) (bare_at s at)
unfolding bare_at
bare_sure s at = sure_bind _ (number_in 4 s at) (λ o n q. sure_bind _ (name_sure 8 s n) (λ x m r. sure_ok r.inside))

pub field_sure : (s : List ℕ) (at : ℕ) → Sure (In s) (field_at s at)
unfolding field_at type_at
field_sure s at =
    sure_bind _ (number_in 4 s at) (λ o n₁ _.
    sure_bind _ (name_sure 8 s n₁) (λ x n₂ _.
    sure_bind _ (marks_sure s n₂) (λ m n₃ _.
    sure_bind _ (encoding_sure s n₃) (λ e n₄ _.
    sure_bind _ (limit_sure s n₄) (λ l n₅ q.
    sure_bind _ (within_sure (type_of 32) s n₅ q (type_sure 32 (drop n₅ s))) (λ t n₆ r. sure_ok r))))))

pub counted_sure : {A : Type 0} (p : List ℕ → ℕ → Parsed A) (s : List ℕ) → ((at : ℕ) → Sure (In s) (p s at)) → (at : ℕ)
    → Sure (In s) (counted p s at)
unfolding counted
counted_sure p s q at = sure_bind _ (number_in 2 s at) (λ c n r. many_sure p s (λ at _. q at) c n r)

-- what a format stores, and what it does not
pub stored_sure : {A : Type 0} (stores : Bool) (absent : A) (p : List ℕ → ℕ → Parsed A) (s : List ℕ) (at : ℕ) → at ≤ length s → Sure (In s) (p s at)
    → Sure (In s) (stored stores absent p s at)
unfolding stored
stored_sure stores absent p s at h q = sure_pick stores (λ _. q) (λ _. sure_ok h)

pub tombstones_sure : (format : ℕ) (s : List ℕ) (at : ℕ) → at ≤ length s → Sure (In s) (tombstones_at format s at)
unfolding tombstones_at
tombstones_sure format s at h = stored_sure _ _ _ s at h (counted_sure (number_at 4) s (number_in 4 s) at)

pub variant_sure : (format : ℕ) (s : List ℕ) (at : ℕ) → Sure (In s) (variant_at format s at)
unfolding variant_at
variant_sure format s at =
    sure_bind _ (number_in 4 s at) (λ o n₁ _.
    sure_bind _ (name_sure 8 s n₁) (λ x n₂ _.
    sure_bind _ (counted_sure field_at s (field_sure s) n₂) (λ fs n₃ q.
    sure_bind _ (tombstones_sure format s n₃ q) (λ ts n₄ r. sure_ok r))))

-- a read of it ends within the list
pub read_inside : {A : Type 0} (p : Parsed A) (s : List ℕ) (r : Read) → Sure (In s) p → read_of r ≡ skip p → IfOk r (λ n. n ≤ length s)
read_inside p s (Ok n) q e = sure_got q (got refl e)
read_inside p s (Err k) q e = tt

-- what is known of an image whose head is read, and of the format that it gives
pub record Head (s : List ℕ) (f n : ℕ) : Type 0 where
  pub most : length s ≤ 32768
  pub least : 8 ≤ length s
  pub format : f ≡ format s
  pub known : known f ≡ true
  pub counts : (leb (entry_count s) 512 && (leb (id_count s) 512 && leb (segment_count s) 16)) ≡ true

pub head_sure : (s : List ℕ) → Sure (Head s) (head_of s)
unfolding head_of
head_sure s =
    sure_need _ _ (λ a. sure_need _ _ (λ b. sure_need _ _ (λ k. sure_need _ _ (λ c.
    sure_ok (record { most = leb-true (length s) 32768 a; least = leb-true 8 (length s) b; format = refl; known = k; counts = c })))))
