-- What is read as marks, an encoding, a limit, a field, a width, tombstones, a variant or a body is within the limits, and its bytes stand
-- where it was read. Assumes nothing.
use mathlib.Core.Path.{◌≡◌, refl}
use mathlib.Core.Bool.{Bool, true, false, ◌||◌}
use Rattle.std.specs.Prelude.{None}
use mathlib.Core.List.{List, [], ◌∷◌}
use Prim.Native.Nat.{ℕ, zero, suc, ◌≤◌}
use native.Mathlib.Omega.{arith}
use borrow.Author.Tests.{eqb-true, eqb-false}
use lib.Dec.{eqb}
use lib.ListN.{length}
use Rattle.image.specs.Schema.{Decl, struck}
use Rattle.image.specs.Formats.{has_widths, has_tombstones, stored}
use Rattle.image.specs.Parse.{Parsed, pick, number_at, counted}
use Rattle.image.specs.Fields.{marks_of, marks_at, plain, delta, encoding_of, encoding_at, limit_at, field_at, bare_at, variant_at}
use Rattle.image.specs.Kinds.{Kind, kind_of}
use Rattle.image.specs.Widths.{wire_bits_at, wire_bytes, wire_bytes_at, width_at}
use Rattle.image.specs.Tombstones.{tombstones_at}
use Rattle.image.specs.Bodies.{message_at, enum_at, flags_at, union_at, newtype_at, other_at, impl_at, closed, decl_at, body_of}
use Rattle.image.proofs.Laws.Kinds.{Says, says}
use Rattle.written.specs.Writer.{digits, write_counted, write_name, bit, marks_byte, write_encoding, write_limit, write_type, write_field, write_bare, write_stored, write_wire, write_width, write_tombstones, write_variant, write_message, write_enum, write_flags, write_union, write_closed, write_decl, write_body}
use Rattle.written.specs.Limits.{Each, Byte, U32, EncodingWithin, LimitWithin, free, most, FieldWithin, BareWithin, StoredWithin, absent, present, TombstonesWithin, VariantWithin, Wire, wire, WidthWithin, WireBytes, in_one, in_two, in_four, in_eight, OpenWithin, message, enum, flags, union, DeclWithin, closing, newtype, config, alias, trait, impl}
use Rattle.refusals.proofs.Told.{Told, told_ok, told_no, told_bind, told_pick, told_then}
use Rattle.written.proofs.Runs.{Run, run_none, run_inside, run_join, run_whole, Free, Keeps, byte_keeps, code_keeps, number_keeps, name_keeps, counted_keeps}
use Rattle.written.proofs.TreeRuns.{type_at_keeps}

byte_marks : (b : ℕ) → b ≤ 3 → marks_byte (marks_of b) ≡ b
unfolding marks_byte marks_of bit
byte_marks zero h = refl
byte_marks (suc zero) h = refl
byte_marks (suc (suc zero)) h = refl
byte_marks (suc (suc (suc zero))) h = refl
byte_marks (suc (suc (suc (suc b)))) h = absurd (omega arith)

below : (b : ℕ) → b ≤ 3 → ¬ (b ≡ 3) → b ≤ 2
below b h d = omega arith

four_only : (b : ℕ) → wire_bytes b ≡ true → WireBytes b
unfolding wire_bytes
four_only b e = go (eqb b 1) (eqb b 2) (eqb b 4) refl refl refl e
  where
    go : (x y z : Bool) → eqb b 1 ≡ x → eqb b 2 ≡ y → eqb b 4 ≡ z → (x || (y || (z || eqb b 8))) ≡ true → WireBytes b
    go true y z p q r e = rw (eqb-true b 1 p) in_one
    go false true z p q r e = rw (eqb-true b 2 q) in_two
    go false false true p q r e = rw (eqb-true b 4 r) in_four
    go false false false p q r e = rw (eqb-true b 8 e) in_eight

module _ (s : List ℕ) (bytes : Each Byte s) where
  marks_keeps : (at : ℕ) → Keeps (λ m. Unit {0}) (λ m. marks_byte m ∷ []) s at (marks_at s at)
  unfolding marks_at
  marks_keeps at = told_bind _ (code_keeps s bytes 0 3 at) (λ b n q. told_ok {n = n} (tt, rw (byte_marks b q.0.1) q.1))

  deltas_keeps : (left at : ℕ) → Keeps (λ e. (e.deltas ≤ left) × (e.base ≤ 2)) write_encoding s at (encoding_of left s at)
  unfolding encoding_of write_encoding plain delta
  deltas_keeps zero at =
      told_bind _ (code_keeps s bytes 0 3 at) (λ b n q.
      told_pick _ (λ h. told_no tt) (λ h. told_ok ((omega arith, below b q.0.1 (eqb-false _ _ h)), q.1)))
  deltas_keeps (suc left) at =
      told_bind _ (code_keeps s bytes 0 3 at) (λ b n q.
      told_pick _
      (λ h. told_bind _ (deltas_keeps left n) (λ e m r.
      told_ok ((more r.0.0, r.0.1), run_join (3 ∷ []) (write_encoding e) (rw (eqb-true b 3 h) at q.1) r.1)))
      (λ h. told_ok ((omega arith, below b q.0.1 (eqb-false _ _ h)), q.1)))
    where
      more : {d : ℕ} → d ≤ left → suc d ≤ suc left
      more h = omega arith

  encoding_keeps : (at : ℕ) → Keeps EncodingWithin write_encoding s at (encoding_at s at)
  unfolding encoding_at
  encoding_keeps at = told_then (deltas_keeps 8 at) (λ e n q. (record { deltas = q.0.0; base = q.0.1 }, q.1)) (λ k u. u)

  limit_keeps : (at : ℕ) → Keeps LimitWithin write_limit s at (limit_at s at)
  unfolding limit_at write_limit
  limit_keeps at =
      told_bind _ (code_keeps s bytes 0 1 at) (λ b n q.
      told_pick _
      (λ h. told_ok (free, rw (eqb-true b 0 h) at q.1))
      (λ h. told_bind _ (number_keeps s bytes 8 n) (λ v m r.
      told_ok (most r.0, run_join (1 ∷ []) (digits 8 v) (rw (one b q.0.1 (eqb-false _ _ h)) at q.1) r.1))))
    where
      one : (b : ℕ) → b ≤ 1 → ¬ (b ≡ 0) → b ≡ 1
      one b h d = omega arith

  -- what a format stores, in one that does and in one that does not
  stored_keeps : {A : Type 0} (stores : Bool) (none : A) (p : List ℕ → ℕ → Parsed A) (w : A → List ℕ) (P : A → Type 0)
      → ((at : ℕ) → Keeps P w s at (p s at)) → (at : ℕ) → at ≤ length s
      → Keeps (StoredWithin stores none P) (write_stored stores w) s at (stored stores none p s at)
  unfolding stored write_stored pick
  stored_keeps true none p w P keeps at h = told_then (keeps at) (λ x n q. (present refl q.0, q.1)) (λ k u. u)
  stored_keeps false none p w P keeps at h = told_ok (absent refl, run_none h)

  width_keeps : (f : ℕ) (p : List ℕ → ℕ → Parsed ℕ) (P : ℕ → Type 0) → ((at : ℕ) → Keeps P (λ w. w ∷ []) s at (p s at)) → (at : ℕ)
      → at ≤ length s → Keeps (WidthWithin f P) (write_width f) s at (width_at f p s at)
  unfolding width_at write_width write_wire
  width_keeps f p P keeps at h =
      stored_keeps (has_widths f) None _ write_wire (Wire P) (λ at. told_bind _ (keeps at) (λ w n q. told_ok (wire q.0, q.1))) at h

  tombstones_keeps : (f at : ℕ) → at ≤ length s → Keeps (TombstonesWithin f) (write_tombstones f) s at (tombstones_at f s at)
  unfolding tombstones_at write_tombstones
  tombstones_keeps f at h =
      stored_keeps (has_tombstones f) [] (counted (number_at 4)) (write_counted (digits 4)) _
      (counted_keeps s bytes (number_at 4) (digits 4) U32 (number_keeps s bytes 4)) at h

  bits_keeps : (at : ℕ) → Keeps Byte (λ w. w ∷ []) s at (wire_bits_at s at)
  unfolding wire_bits_at
  bits_keeps at = byte_keeps s bytes 8 at

  bytes_keeps : (at : ℕ) → Keeps WireBytes (λ w. w ∷ []) s at (wire_bytes_at s at)
  unfolding wire_bytes_at
  bytes_keeps at =
      told_bind _ (byte_keeps s bytes 8 at) (λ w n q. told_pick _ (λ e. told_ok (four_only w e, q.1)) (λ e. told_no tt))

  field_keeps : (at : ℕ) → Keeps FieldWithin write_field s at (field_at s at)
  unfolding field_at write_field
  field_keeps at =
      told_bind _ (number_keeps s bytes 4 at) (λ o n₁ q₁.
      told_bind _ (name_keeps s bytes 8 n₁) (λ x n₂ q₂.
      told_bind _ (marks_keeps n₂) (λ m n₃ q₃.
      told_bind _ (encoding_keeps n₃) (λ e n₄ q₄.
      told_bind _ (limit_keeps n₄) (λ l n₅ q₅.
      told_bind _ (type_at_keeps s bytes n₅ (run_inside q₅.1)) (λ t n₆ q₆.
      told_ok (
        record { ordinal = q₁.0; name = q₂.0; encoding = q₄.0; limit = q₅.0; type = q₆.0 },
        run_join (digits 4 o) _ q₁.1
            (run_join (write_name x) _ q₂.1
            (run_join (marks_byte m ∷ []) _ q₃.1
            (run_join (write_encoding e) _ q₄.1 (run_join (write_limit l) (write_type t) q₅.1 q₆.1)))),
      )))))))

  bare_keeps : (at : ℕ) → Keeps BareWithin write_bare s at (bare_at s at)
  unfolding bare_at write_bare
  bare_keeps at =
      told_bind _ (number_keeps s bytes 4 at) (λ o n₁ q₁.
      told_bind _ (name_keeps s bytes 8 n₁) (λ x n₂ q₂.
      told_ok (record { ordinal = q₁.0; name = q₂.0; bare = refl; unstruck = refl }, run_join (digits 4 o) (write_name x) q₁.1 q₂.1)))

  variant_keeps : (f at : ℕ) → Keeps (VariantWithin f) (write_variant f) s at (variant_at f s at)
  unfolding variant_at write_variant
  variant_keeps f at =
      told_bind _ (number_keeps s bytes 4 at) (λ o n₁ q₁.
      told_bind _ (name_keeps s bytes 8 n₁) (λ x n₂ q₂.
      told_bind _ (counted_keeps s bytes field_at write_field FieldWithin field_keeps n₂) (λ fs n₃ q₃.
      told_bind _ (tombstones_keeps f n₃ (run_inside q₃.1)) (λ ts n₄ q₄.
      told_ok (
        record { ordinal = q₁.0; name = q₂.0; few = q₃.0.0; fields = q₃.0.1; tombstones = q₄.0 },
        run_join (digits 4 o) _ q₁.1
            (run_join (write_name x) _ q₂.1 (run_join (write_counted write_field fs) (write_tombstones f ts) q₃.1 q₄.1)),
      )))))

  -- what stands before the tombstones, whatever they are; and what follows a kind
  Opened : ℕ → (Decl → List ℕ) → ℕ → ℕ → Decl → ℕ → Type 0
  Opened f w kind at d n = (d.kind ≡ kind) × OpenWithin f d × ((ts : List ℕ) → Run s at n (w (struck d ts)))

  Declared : ℕ → ℕ → ℕ → Decl → ℕ → Type 0
  Declared f kind at d n = (d.kind ≡ kind) × DeclWithin f d × Run s at n (write_decl f (kind_of d.kind) d)

  closed_keeps : (f kind : ℕ) (w : Decl → List ℕ) → ((d : Decl) → d.kind ≡ kind → write_decl f (kind_of d.kind) d ≡ write_closed f w d)
      → (p : List ℕ → ℕ → Parsed Decl) (at : ℕ) → Told (Opened f w kind at) Free (p s at) → Told (Declared f kind at) Free (closed f p s at)
  unfolding Opened Declared closed write_closed
  closed_keeps f kind w is p at told =
      told_bind _ told (λ d n q.
      told_bind _ (tombstones_keeps f n (run_inside (q.2 []))) (λ ts m t.
      told_ok (q.0, closing q.1 t.0, closed_run d ts (is (struck d ts) q.0) (q.2 ts) t.1)))
    where
      closed_run : {n m : ℕ} (d : Decl) (ts : List ℕ) → write_decl f (kind_of d.kind) (struck d ts) ≡ write_closed f w (struck d ts)
          → Run s at n (w (struck d ts)) → Run s n m (write_tombstones f ts) → Run s at m (write_decl f (kind_of d.kind) (struck d ts))
      closed_run d ts e a b = rw e (run_join (w (struck d ts)) (write_tombstones f ts) a b)

  decl_keeps : (f : ℕ) {kind : ℕ} {k : Kind} → Says kind k → (at : ℕ) → at ≤ length s → Told (Declared f kind at) Free (decl_at f k s at)
  unfolding kind_of Opened Declared decl_at message_at enum_at flags_at union_at newtype_at other_at impl_at write_decl write_message write_enum write_flags write_union
  decl_keeps f Says.message at h =
      closed_keeps f 0 write_message (λ d e. rw e refl) message_at at (
      told_bind _ (name_keeps s bytes 8 at) (λ x n₁ q₁.
      told_bind _ (marks_keeps n₁) (λ m n₂ q₂.
      told_bind _ (counted_keeps s bytes field_at write_field FieldWithin field_keeps n₂) (λ fs n₃ q₃.
      told_ok (refl, message q₁.0 q₃.0.0 q₃.0.1, λ ts. run_join (write_name x) _ q₁.1 (run_join (marks_byte m ∷ []) _ q₂.1 q₃.1))))))
  decl_keeps f Says.enum at h =
      closed_keeps f 1 (write_enum f) (λ d e. rw e refl) (enum_at f) at (
      told_bind _ (name_keeps s bytes 8 at) (λ x n₁ q₁.
      told_bind _ (marks_keeps n₁) (λ m n₂ q₂.
      told_bind _ (width_keeps f wire_bits_at Byte bits_keeps n₂ (run_inside q₂.1)) (λ w n₃ q₃.
      told_bind _ (counted_keeps s bytes bare_at write_bare BareWithin bare_keeps n₃) (λ vs n₄ q₄.
      told_ok (
        refl,
        enum q₁.0 q₃.0 q₄.0.0 q₄.0.1,
        λ ts. run_join (write_name x) _ q₁.1 (run_join (marks_byte m ∷ []) _ q₂.1 (run_join (write_width f w) _ q₃.1 q₄.1)),
      ))))))
  decl_keeps f Says.flags at h =
      closed_keeps f 2 (write_flags f) (λ d e. rw e refl) (flags_at f) at (
      told_bind _ (name_keeps s bytes 8 at) (λ x n₁ q₁.
      told_bind _ (width_keeps f wire_bytes_at WireBytes bytes_keeps n₁ (run_inside q₁.1)) (λ w n₂ q₂.
      told_bind _ (counted_keeps s bytes bare_at write_bare BareWithin bare_keeps n₂) (λ vs n₃ q₃.
      told_ok (refl, flags q₁.0 q₂.0 q₃.0.0 q₃.0.1, λ ts. run_join (write_name x) _ q₁.1 (run_join (write_width f w) _ q₂.1 q₃.1))))))
  decl_keeps f Says.union at h =
      closed_keeps f 3 (write_union f) (λ d e. rw e refl) (union_at f) at (
      told_bind _ (name_keeps s bytes 8 at) (λ x n₁ q₁.
      told_bind _ (counted_keeps s bytes (variant_at f) (write_variant f) (VariantWithin f) (variant_keeps f) n₁) (λ vs n₂ q₂.
      told_ok (refl, union q₁.0 q₂.0.0 q₂.0.1, λ ts. run_join (write_name x) _ q₁.1 q₂.1))))
  decl_keeps f Says.newtype at h =
      told_bind _ (name_keeps s bytes 8 at) (λ x n₁ q₁.
      told_bind _ (type_at_keeps s bytes n₁ (run_inside q₁.1)) (λ t n₂ q₂.
      told_ok (refl, newtype q₁.0 q₂.0, run_join (write_name x) _ q₁.1 q₂.1)))
  decl_keeps f Says.config at h = told_bind _ (name_keeps s bytes 8 at) (λ x n q. told_ok (refl, config q.0, q.1))
  decl_keeps f Says.alias at h = told_bind _ (name_keeps s bytes 8 at) (λ x n q. told_ok (refl, alias q.0, q.1))
  decl_keeps f Says.trait at h = told_bind _ (name_keeps s bytes 8 at) (λ x n q. told_ok (refl, trait q.0, q.1))
  decl_keeps f Says.impl at h = told_ok (refl, impl, run_none h)
  decl_keeps f (Says.other _ _) at h = told_no tt

  pub body_keeps : (f : ℕ) → Told (λ d n. DeclWithin f d × (s ≡ write_body f d)) Free (body_of f s)
  unfolding Declared body_of write_body
  body_keeps f =
      told_bind _ (byte_keeps s bytes 8 0) (λ kind n₁ q₁.
      told_bind _ (decl_keeps f (says kind) n₁ (run_inside q₁.1)) (λ d n₂ q₂.
      told_pick _
      (λ h. told_ok {n = n₂} (q₂.1, run_whole (eqb-true _ _ h) (run_join (d.kind ∷ []) (write_decl f (kind_of d.kind) d) (rw q₂.0 q₁.1) q₂.2)))
      (λ h. told_no tt)))
