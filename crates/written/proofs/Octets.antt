-- What is written of a schema within the limits are bytes: each is below 256. Assumes nothing.
use mathlib.Core.Path.{◌≡◌, refl}
use mathlib.Core.Bool.{Bool, true, false, and-false}
use Rattle.std.specs.Prelude.{Option, None, Some}
use mathlib.Core.List.{List, [], ◌∷◌, ◌++◌}
use Prim.Native.Nat.{ℕ, zero, suc, ◌+◌, ◌/◌, ◌%◌, ◌≤◌, ◌<◌}
use native.Mathlib.Omega.{arith}
use native.Mathlib.Decide.{dec_lt}
use borrow.Author.Tests.{lt-leb, ne_eqb}
use lib.ListN.{length, replicate}
use Rattle.image.specs.Schema.{Name, Marks, Label, Ty, Field, Variant, Decl, struck, Schema}
use Rattle.image.specs.Formats.{has_widths, has_tombstones}
use Rattle.image.specs.Names.{name_byte, name_bytes}
use Rattle.image.specs.Types.{follows_tag}
use Rattle.image.specs.Kinds.{kind_of}
use Rattle.written.specs.Writer.{digits, write_each, write_counted, write_name, marks_byte, write_encoding, write_limit, write_after, write_label, write_type, write_field, write_bare, write_stored, write_wire, write_width, write_tombstones, write_variant, write_message, write_enum, write_flags, write_union, write_closed, write_decl, write_body, write_entry, write_contents, write_head, bodies_at, write}
use Rattle.written.specs.Limits.{Each, end, also, Byte, U32, NameWithin, LabelWithin, primitive, sub_byte, semantic, named, bits, wrapping, fixed_array, map, result, Typed, bare, around, between, FieldWithin, BareWithin, StoredWithin, absent, present, TombstonesWithin, VariantWithin, Wire, wire, WidthWithin, WireBytes, in_one, in_two, in_four, in_eight, OpenWithin, message, enum, flags, union, DeclWithin, closing, newtype, config, alias, trait, impl, EntryWithin, empty, full, Within}
use Rattle.maps.proofs.Tests.{no_both, both}
use Rattle.written.proofs.Items.{marks_most}
use Rattle.written.proofs.Trees.{wraps_nothing, wraps_most}

each_join : {P : ℕ → Type 0} {v w : List ℕ} → Each P v → Each P w → Each P (v ++ w)
each_join end b = b
each_join (also q qs) b = also q (each_join qs b)

byte : (b : ℕ) {w : List ℕ} → b < 256 → Each Byte w → Each Byte (b ∷ w)
byte b h r = also h r

digits_bytes : (w v : ℕ) → Each Byte (digits w v)
unfolding digits
digits_bytes zero v = end
digits_bytes (suc w) v = byte (v % 256) (omega arith) (digits_bytes w (v / 256))

each_bytes : {A : Type 0} (w : A → List ℕ) (P : A → Type 0) → ((x : A) → P x → Each Byte (w x)) → (xs : List A) → Each P xs
    → Each Byte (write_each w xs)
unfolding write_each
each_bytes w P f [] end = end
each_bytes w P f (x ∷ xs) (also q qs) = each_join (f x q) (each_bytes w P f xs qs)

counted_bytes : {A : Type 0} (w : A → List ℕ) (P : A → Type 0) → ((x : A) → P x → Each Byte (w x)) → (xs : List A) → Each P xs
    → Each Byte (write_counted w xs)
unfolding write_counted
counted_bytes w P f xs qs = each_join (digits_bytes 2 (length xs)) (each_bytes w P f xs qs)

-- an allowed byte is one
allowed_byte : (b : ℕ) → name_byte b ≡ true → Byte b
unfolding name_byte
allowed_byte b e = go (dec_lt b 256)
  where
    go : Dec (b < 256) → b < 256
    go (yes h) = h
    go (no h) =
        no_both e (simp (lt-leb b 122 (omega arith), lt-leb b 90 (omega arith), lt-leb b 57 (omega arith), ne_eqb b 95 (omega arith), and-false))

allowed_bytes : (x : Name) → name_bytes x ≡ true → Each Byte x
unfolding name_bytes
allowed_bytes [] e = end
allowed_bytes (b ∷ x) e = let h = both _ _ e in also (allowed_byte b h.0) (allowed_bytes x h.1)

name_bytes_lem : (x : Name) → NameWithin x → Each Byte (write_name x)
unfolding write_name
name_bytes_lem x q = byte (length x) (let l = q.short in omega arith) (allowed_bytes x q.allowed)

label_bytes : {n : ℕ} (l : Label) → LabelWithin n l → Each Byte (write_label l)
unfolding write_label write_after follows_tag
label_bytes _ (primitive {a = a} h) = byte 0 (omega arith) (byte a (omega arith) end)
label_bytes _ (sub_byte {signed = a} {width = b} h low high) = byte 1 (omega arith) (byte a (omega arith) (byte b (omega arith) end))
label_bytes _ (semantic {a = a} h) = byte 2 (omega arith) (byte a (omega arith) end)
label_bytes _ (named {id = id} h) = byte 3 (omega arith) (digits_bytes 4 id)
label_bytes _ (bits {names = xs} few qs) =
    byte 16 (omega arith) (byte (length xs) (omega arith) (each_bytes write_name NameWithin name_bytes_lem xs qs))
label_bytes _ (wrapping {tag = tag} h) = byte tag (omega (arith, wraps_most h)) (rw (wraps_nothing h) end)
label_bytes _ (fixed_array {k = k} h) = byte 6 (omega arith) (digits_bytes 8 k)
label_bytes _ map = byte 8 (omega arith) end
label_bytes _ result = byte 9 (omega arith) end

type_bytes : (t : Ty) → Typed t → Each Byte (write_type t)
unfolding write_type
type_bytes _ (bare {l = l} q) = label_bytes l q
type_bytes _ (around {l = l} {t = t} q r) = each_join (label_bytes l q) (type_bytes t r)
type_bytes _ (between {l = l} {t = t} {u = u} q r v) = each_join (label_bytes l q) (each_join (type_bytes t r) (type_bytes u v))

deltas_bytes : (d base : ℕ) → base ≤ 2 → Each Byte (replicate d 3 ++ base ∷ [])
deltas_bytes zero base h = byte base (omega arith) end
deltas_bytes (suc d) base h = byte 3 (omega arith) (deltas_bytes d base h)

limit_bytes : (l : Option ℕ) → Each Byte (write_limit l)
unfolding write_limit
limit_bytes None = byte 0 (omega arith) end
limit_bytes (Some v) = byte 1 (omega arith) (digits_bytes 8 v)

marks_bytes : (m : Marks) {w : List ℕ} → Each Byte w → Each Byte (marks_byte m ∷ w)
marks_bytes m b = byte (marks_byte m) (omega (arith, marks_most m)) b

field_bytes : (f : Field) → FieldWithin f → Each Byte (write_field f)
unfolding write_field write_encoding
field_bytes f q =
    each_join (digits_bytes 4 f.ordinal)
    (each_join (name_bytes_lem f.name q.name)
    (marks_bytes f.marks
    (each_join (deltas_bytes f.encoding.deltas f.encoding.base q.encoding.base)
    (each_join (limit_bytes f.limit) (type_bytes f.type q.type.typed)))))

bare_bytes : (v : Variant) → BareWithin v → Each Byte (write_bare v)
unfolding write_bare
bare_bytes v q = each_join (digits_bytes 4 v.ordinal) (name_bytes_lem v.name q.name)

stored_bytes : {A : Type 0} {none : A} {P : A → Type 0} (stores : Bool) (w : A → List ℕ) → ((x : A) → P x → Each Byte (w x)) → (x : A)
    → StoredWithin stores none P x → Each Byte (write_stored stores w x)
unfolding write_stored
stored_bytes true w f _ (absent e) = no_both refl e
stored_bytes true w f x (present e q) = f x q
stored_bytes false w f x q = end

tombstones_bytes : (f : ℕ) (ts : List ℕ) → TombstonesWithin f ts → Each Byte (write_tombstones f ts)
unfolding write_tombstones
tombstones_bytes f ts q =
    stored_bytes (has_tombstones f) (write_counted (digits 4)) (λ xs g. counted_bytes (digits 4) U32 (λ x h. digits_bytes 4 x) xs g.1) ts q

variant_bytes : (f : ℕ) (v : Variant) → VariantWithin f v → Each Byte (write_variant f v)
unfolding write_variant
variant_bytes f v q =
    each_join (digits_bytes 4 v.ordinal)
    (each_join (name_bytes_lem v.name q.name)
    (each_join (counted_bytes write_field FieldWithin field_bytes v.fields q.fields) (tombstones_bytes f v.tombstones q.tombstones)))

wire_bytes : {P : ℕ → Type 0} → ((w : ℕ) → P w → Byte w) → (w : Option ℕ) → Wire P w → Each Byte (write_wire w)
unfolding write_wire
wire_bytes below _ (wire {w = w} q) = byte w (below w q) end

width_bytes : (f : ℕ) {P : ℕ → Type 0} → ((w : ℕ) → P w → Byte w) → (w : Option ℕ) → WidthWithin f P w → Each Byte (write_width f w)
unfolding write_width
width_bytes f below w q = stored_bytes (has_widths f) write_wire (wire_bytes below) w q

wire_byte : (w : ℕ) → WireBytes w → Byte w
wire_byte _ in_one = omega arith
wire_byte _ in_two = omega arith
wire_byte _ in_four = omega arith
wire_byte _ in_eight = omega arith

-- a declaration of the first four kinds, but for its tombstones
open_bytes : (f : ℕ) (d : Decl) (ts : List ℕ) → OpenWithin f d → Each Byte (write_tombstones f ts)
    → Each Byte (write_decl f (kind_of d.kind) (struck d ts))
unfolding kind_of write_decl write_closed write_message write_enum write_flags write_union
open_bytes f _ ts (message {x = x} {m = m} {fs = fs} q few qs) t =
    each_join (each_join (name_bytes_lem x q) (marks_bytes m (counted_bytes write_field FieldWithin field_bytes fs qs))) t
open_bytes f _ ts (enum {x = x} {m = m} {w = w} {vs = vs} q width few qs) t =
    each_join
    (each_join (name_bytes_lem x q)
    (marks_bytes m (each_join (width_bytes f (λ b q. q) w width) (counted_bytes write_bare BareWithin bare_bytes vs qs))))
    t
open_bytes f _ ts (flags {x = x} {w = w} {vs = vs} q width few qs) t =
    each_join
    (each_join (name_bytes_lem x q) (each_join (width_bytes f wire_byte w width) (counted_bytes write_bare BareWithin bare_bytes vs qs)))
    t
open_bytes f _ ts (union {x = x} {vs = vs} q few qs) t =
    each_join (each_join (name_bytes_lem x q) (counted_bytes (write_variant f) (VariantWithin f) (variant_bytes f) vs qs)) t

kind_byte : {f : ℕ} (d : Decl) → OpenWithin f d → Byte d.kind
kind_byte _ (message q few qs) = omega arith
kind_byte _ (enum q width few qs) = omega arith
kind_byte _ (flags q width few qs) = omega arith
kind_byte _ (union q few qs) = omega arith

body_bytes : (f : ℕ) (d : Decl) → DeclWithin f d → Each Byte (write_body f d)
unfolding kind_of write_body write_decl
body_bytes f _ (closing {d = d} {ts = ts} q t) = byte d.kind (kind_byte d q) (open_bytes f d ts q (tombstones_bytes f ts t))
body_bytes f _ (newtype {x = x} {t = t} q r) = byte 4 (omega arith) (each_join (name_bytes_lem x q) (type_bytes t r.typed))
body_bytes f _ (config {x = x} q) = byte 5 (omega arith) (name_bytes_lem x q)
body_bytes f _ (alias {x = x} q) = byte 6 (omega arith) (name_bytes_lem x q)
body_bytes f _ (trait {x = x} q) = byte 7 (omega arith) (name_bytes_lem x q)
body_bytes f _ impl = byte 8 (omega arith) end

entry_bytes : (f : ℕ) (e : Option Decl) → EntryWithin f e → Each Byte (write_entry f e)
unfolding write_entry
entry_bytes f None empty = end
entry_bytes f (Some d) (full q) = body_bytes f d q

contents_bytes : (f : ℕ) (es : List (Option Decl)) (at : ℕ) → Each Byte (write_contents f es at)
unfolding write_contents
contents_bytes f [] at = end
contents_bytes f (None ∷ es) at = each_join (digits_bytes 2 0) (each_join (digits_bytes 2 0) (contents_bytes f es at))
contents_bytes f (Some d ∷ es) at =
    each_join (digits_bytes 2 at) (each_join (digits_bytes 2 (length (write_body f d))) (contents_bytes f es (at + length (write_body f d))))

ids_bytes : (ids : List ℕ) → Each Byte (write_each (digits 4) ids)
unfolding write_each
ids_bytes [] = end
ids_bytes (i ∷ ids) = each_join (digits_bytes 4 i) (ids_bytes ids)

pub written_bytes : (s : Schema) → Within s → Each Byte (write s)
unfolding write write_head
written_bytes s q =
    each_join
    (each_join (digits_bytes 2 s.format)
    (each_join (digits_bytes 2 (length s.registry)) (each_join (digits_bytes 2 (length s.ids)) (digits_bytes 2 (length s.namespace)))))
    (each_join (contents_bytes s.format s.registry (bodies_at s))
    (each_join (ids_bytes s.ids)
    (each_join (each_bytes write_name NameWithin name_bytes_lem s.namespace q.segments)
    (each_bytes (write_entry s.format) (EntryWithin s.format) (entry_bytes s.format) s.registry q.entries))))
