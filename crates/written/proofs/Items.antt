-- Marks, encodings, limits, fields, widths, tombstones and variants are read back where they were written, and so is a body. Assumes nothing.
use mathlib.Core.Path.{◌≡◌, refl, sym, ap, ap₂, ◌∙◌}
use mathlib.Core.Bool.{Bool, true, false, false≢true}
use Rattle.std.specs.Prelude.{Option, None, Some}
use mathlib.Core.List.{List, [], ◌∷◌, ◌++◌}
use Prim.Native.Nat.{ℕ, zero, suc, ◌+◌, ◌*◌, ◌≤◌}
use native.Mathlib.Nat.{zero-add}
use native.Mathlib.Omega.{arith}
use borrow.Author.Tests.{eq-eqb, ne_eqb}
use lib.ListN.{length, replicate}
use Rattle.image.specs.Schema.{Marks, Encoding, Field, Variant, Decl, decl, struck, unmarked, no_type}
use Rattle.image.specs.Formats.{has_widths, has_tombstones, stored}
use Rattle.image.specs.Parse.{Parsed, ok, bind, pick, number_at, counted}
use Rattle.image.specs.Fields.{marks_of, marks_at, plain, delta, encoding_of, encoding_at, limit_at, field_at, bare_at, variant_at}
use Rattle.image.specs.Kinds.{kind_of}
use Rattle.image.specs.Widths.{wire_bits_at, wire_bytes, wire_bytes_at, width_at}
use Rattle.image.specs.Tombstones.{tombstones_at}
use Rattle.image.specs.Bodies.{message_at, enum_at, flags_at, union_at, newtype_at, other_at, impl_at, closed, decl_at, body_of}
use Rattle.written.specs.Writer.{digits, write_name, bit, marks_byte, write_encoding, write_limit, write_field, write_bare, write_stored, write_wire, write_width, write_tombstones, write_variant, write_message, write_enum, write_flags, write_union, write_closed, write_decl, write_body, write_counted}
use Rattle.written.specs.Limits.{Byte, U32, EncodingWithin, LimitWithin, free, most, FieldWithin, BareWithin, StoredWithin, absent, present, TombstonesWithin, VariantWithin, Wire, wire, WidthWithin, WireBytes, in_one, in_two, in_four, in_eight, OpenWithin, message, enum, flags, union, DeclWithin, closing, newtype, config, alias, trait, impl}
use Rattle.written.proofs.Here.{here_all}
use Rattle.written.proofs.Pieces.{Reads, got, seq, stay, byte_back, code_back, number_back, name_back, counted_back}
use Rattle.written.proofs.Trees.{type_at_back}

marks_is : (d n : Bool) → marks_of (bit d + 2 * bit n) ≡ record { deprecated = d; non_exhaustive = n }
unfolding marks_of bit
marks_is true true = refl
marks_is true false = refl
marks_is false true = refl
marks_is false false = refl

bit_most : (b : Bool) → bit b ≤ 1
unfolding bit
bit_most true = omega arith
bit_most false = omega arith

pub marks_most : (m : Marks) → marks_byte m ≤ 3
unfolding marks_byte
marks_most m = omega (arith, bit_most m.deprecated, bit_most m.non_exhaustive)

pub marks_back : (m : Marks) → Reads marks_at (marks_byte m ∷ []) m
unfolding marks_at marks_byte
marks_back m s at h =
    got _ (code_back 0 3 (marks_byte m) (omega arith) (marks_most m) s at h)
    (ap (λ (k : Marks). ok k (at + 1)) (marks_is m.deprecated m.non_exhaustive))

-- an encoding: the deltas, then the code
deltas_back : (left d base : ℕ) → d ≤ left → base ≤ 2 → Reads (encoding_of left) (replicate d 3 ++ base ∷ []) (record { deltas = d; base = base })
unfolding encoding_of plain delta pick
deltas_back zero zero base l b s at h = got _ (code_back 0 3 base (omega arith) (omega arith) s at h) (rw (ne_eqb base 3 (omega arith)))
deltas_back zero (suc d) base l b s at h = absurd (omega arith)
deltas_back (suc left) zero base l b s at h = got _ (code_back 0 3 base (omega arith) (omega arith) s at h) (rw (ne_eqb base 3 (omega arith)))
deltas_back (suc left) (suc d) base l b s at h =
    seq (3 ∷ []) _ h _ (code_back 0 3 3 (omega arith) (omega arith) s at) (λ g.
    got _ (deltas_back left d base (omega arith) b s _ g) refl)

pub encoding_back : (e : Encoding) → EncodingWithin e → Reads encoding_at (write_encoding e) e
unfolding encoding_at write_encoding
encoding_back e q = deltas_back 8 e.deltas e.base q.deltas q.base

pub limit_back : (l : Option ℕ) → LimitWithin l → Reads limit_at (write_limit l) l
unfolding limit_at write_limit pick
limit_back None free s at h = got _ (code_back 0 1 0 (omega arith) (omega arith) s at h) refl
limit_back (Some v) (most q) s at h =
    seq (1 ∷ []) _ h _ (code_back 0 1 1 (omega arith) (omega arith) s at) (λ g. got _ (number_back 8 v q s _ g) refl)

pub field_back : (f : Field) → FieldWithin f → Reads field_at (write_field f) f
unfolding field_at write_field
field_back f q s at h =
    seq (digits 4 f.ordinal) _ h _ (number_back 4 f.ordinal q.ordinal s at) (λ h₁.
    seq (write_name f.name) _ h₁ _ (name_back 8 f.name q.name s _) (λ h₂.
    seq (marks_byte f.marks ∷ []) _ h₂ _ (marks_back f.marks s _) (λ h₃.
    seq (write_encoding f.encoding) _ h₃ _ (encoding_back f.encoding q.encoding s _) (λ h₄.
    seq (write_limit f.limit) _ h₄ _ (limit_back f.limit q.limit s _) (λ h₅.
    got _ (type_at_back f.type q.type s _ h₅) refl)))))

pub bare_back : (v : Variant) → BareWithin v → Reads bare_at (write_bare v) v
unfolding bare_at write_bare
bare_back v q s at h =
    seq (digits 4 v.ordinal) _ h _ (number_back 4 v.ordinal q.ordinal s at) (λ h₁.
    got _ (name_back 8 v.name q.name s _ h₁) (no_fields _))
  where
    no_fields : (n : ℕ) → ok (record { ordinal = v.ordinal; name = v.name; fields = []; tombstones = [] }) n ≡ ok v n
    no_fields n =
        ap₂ (λ (fs : List Field) (ts : List ℕ). ok (record { ordinal = v.ordinal; name = v.name; fields = fs; tombstones = ts }) n)
        (sym q.bare) (sym q.unstruck)

-- what a format stores, in one that does not and in one that does
stored_back : {A : Type 0} (stores : Bool) (none : A) (p : List ℕ → ℕ → Parsed A) (w : A → List ℕ) (P : A → Type 0)
    → ((x : A) → P x → Reads p (w x) x) → (x : A) → StoredWithin stores none P x → Reads (stored stores none p) (write_stored stores w x) x
unfolding stored write_stored pick
stored_back true none p w P back _ (absent e) s at h = absurd (false≢true (sym e))
stored_back true none p w P back x (present e q) s at h = back x q s at h
stored_back false none p w P back _ (absent e) s at h = stay none at
stored_back false none p w P back x (present e q) s at h = absurd (false≢true e)

wire_back : (p : List ℕ → ℕ → Parsed ℕ) (P : ℕ → Type 0) → ((w : ℕ) → P w → Reads p (w ∷ []) w) → (w : Option ℕ) → Wire P w
    → Reads (λ s at. bind (p s at) (λ w n. ok (Some w) n)) (write_wire w) w
unfolding write_wire
wire_back p P back _ (wire {w = w} q) s at h = got _ (back w q s at h) refl

width_back : (f : ℕ) (p : List ℕ → ℕ → Parsed ℕ) (P : ℕ → Type 0) → ((w : ℕ) → P w → Reads p (w ∷ []) w) → (w : Option ℕ)
    → WidthWithin f P w → Reads (width_at f p) (write_width f w) w
unfolding width_at write_width
width_back f p P back w q = stored_back (has_widths f) None _ write_wire (Wire P) (wire_back p P back) w q

tombstones_back : (f : ℕ) (ts : List ℕ) → TombstonesWithin f ts → Reads (tombstones_at f) (write_tombstones f ts) ts
unfolding tombstones_at write_tombstones
tombstones_back f ts q =
    stored_back (has_tombstones f) [] (counted (number_at 4)) (write_counted (digits 4)) _
    (λ xs g. counted_back (number_at 4) (digits 4) U32 (number_back 4) xs g.0 g.1) ts q

pub variant_back : (f : ℕ) (v : Variant) → VariantWithin f v → Reads (variant_at f) (write_variant f v) v
unfolding variant_at write_variant
variant_back f v q s at h =
    seq (digits 4 v.ordinal) _ h _ (number_back 4 v.ordinal q.ordinal s at) (λ h₁.
    seq (write_name v.name) _ h₁ _ (name_back 8 v.name q.name s _) (λ h₂.
    seq (write_counted write_field v.fields) _ h₂ _ (counted_back field_at write_field FieldWithin field_back v.fields q.few q.fields s _) (λ h₃.
    got _ (tombstones_back f v.tombstones q.tombstones s _ h₃) refl)))

bits_back : (w : ℕ) → Byte w → Reads wire_bits_at (w ∷ []) w
unfolding wire_bits_at
bits_back w q = byte_back 8 w

one_of_four : {w : ℕ} → WireBytes w → wire_bytes w ≡ true
unfolding wire_bytes
one_of_four in_one = refl
one_of_four in_two = refl
one_of_four in_four = refl
one_of_four in_eight = refl

bytes_back : (w : ℕ) → WireBytes w → Reads wire_bytes_at (w ∷ []) w
unfolding wire_bytes_at pick
bytes_back w q s at h = got _ (byte_back 8 w s at h) (rw (one_of_four q))

-- what stands before the tombstones, and they
closed_back : (f : ℕ) (p : List ℕ → ℕ → Parsed Decl) (w : Decl → List ℕ) (d : Decl) (ts : List ℕ) → TombstonesWithin f ts
    → Reads p (w (struck d ts)) d → Reads (closed f p) (write_closed f w (struck d ts)) (struck d ts)
unfolding closed write_closed
closed_back f p w d ts q back s at h =
    seq (w (struck d ts)) _ h _ (back s at) (λ g. got _ (tombstones_back f ts q s _ g) refl)

-- a declaration of the first four kinds
struck_back : (f : ℕ) (d : Decl) (ts : List ℕ) → OpenWithin f d → TombstonesWithin f ts
    → Reads (decl_at f (kind_of d.kind)) (write_decl f (kind_of d.kind) (struck d ts)) (struck d ts)
unfolding kind_of decl_at message_at enum_at flags_at union_at write_decl write_message write_enum write_flags write_union
struck_back f _ ts (message {x = x} {m = m} {fs = fs} q few qs) t =
    closed_back f message_at write_message (decl 0 x m None fs [] no_type) ts t (λ s at h.
    seq (write_name x) _ h _ (name_back 8 x q s at) (λ h₁.
    seq (marks_byte m ∷ []) _ h₁ _ (marks_back m s _) (λ h₂.
    got _ (counted_back field_at write_field FieldWithin field_back fs few qs s _ h₂) refl)))
struck_back f _ ts (enum {x = x} {m = m} {w = w} {vs = vs} q width few qs) t =
    closed_back f (enum_at f) (write_enum f) (decl 1 x m w [] vs no_type) ts t (λ s at h.
    seq (write_name x) _ h _ (name_back 8 x q s at) (λ h₁.
    seq (marks_byte m ∷ []) _ h₁ _ (marks_back m s _) (λ h₂.
    seq (write_width f w) _ h₂ _ (width_back f wire_bits_at Byte bits_back w width s _) (λ h₃.
    got _ (counted_back bare_at write_bare BareWithin bare_back vs few qs s _ h₃) refl))))
struck_back f _ ts (flags {x = x} {w = w} {vs = vs} q width few qs) t =
    closed_back f (flags_at f) (write_flags f) (decl 2 x unmarked w [] vs no_type) ts t (λ s at h.
    seq (write_name x) _ h _ (name_back 8 x q s at) (λ h₁.
    seq (write_width f w) _ h₁ _ (width_back f wire_bytes_at WireBytes bytes_back w width s _) (λ h₂.
    got _ (counted_back bare_at write_bare BareWithin bare_back vs few qs s _ h₂) refl)))
struck_back f _ ts (union {x = x} {vs = vs} q few qs) t =
    closed_back f (union_at f) (write_union f) (decl 3 x unmarked None [] vs no_type) ts t (λ s at h.
    seq (write_name x) _ h _ (name_back 8 x q s at) (λ h₁.
    got _ (counted_back (variant_at f) (write_variant f) (VariantWithin f) (variant_back f) vs few qs s _ h₁) refl))

-- what follows the kind
decl_back : (f : ℕ) (d : Decl) → DeclWithin f d → Reads (decl_at f (kind_of d.kind)) (write_decl f (kind_of d.kind) d) d
unfolding kind_of decl_at newtype_at other_at impl_at write_decl
decl_back f _ (closing {d = d} {ts = ts} q t) s at h = struck_back f d ts q t s at h
decl_back f _ (newtype {x = x} {t = t} q r) s at h =
    seq (write_name x) _ h _ (name_back 8 x q s at) (λ h₁.
    got _ (type_at_back t r s _ h₁) refl)
decl_back f _ (config {x = x} q) s at h = got _ (name_back 8 x q s at h) refl
decl_back f _ (alias {x = x} q) s at h = got _ (name_back 8 x q s at h) refl
decl_back f _ (trait {x = x} q) s at h = got _ (name_back 8 x q s at h) refl
decl_back f _ impl s at h = stay _ at

pub body_back : (f : ℕ) (d : Decl) → DeclWithin f d → body_of f (write_body f d) ≡ ok d (length (write_body f d))
unfolding body_of write_body pick
body_back f d q =
    let e : 1 + length (write_decl f (kind_of d.kind) d) ≡ length (write_body f d) = omega arith in
    seq (d.kind ∷ []) _ (here_all (write_body f d)) _ (byte_back 8 d.kind (write_body f d) 0) (λ h.
    got _ (decl_back f d q (write_body f d) 1 h) (rw (eq-eqb _ _ e)))
    ∙ ap (ok d) (zero-add _)
