-- Bodies: what the code's answers say of them. Assumes nothing.
use mathlib.Core.Path.{◌≡◌, refl, sym, ◌∙◌}
use mathlib.Core.List.{List}
use mathlib.Core.Logic.{◌⊎◌, ⊎_elim}
use Prim.Native.Nat.{ℕ, suc, ◌-◌, ◌<◌}
use native.Mathlib.Omega.{arith}
use borrow.Author.Tests.{eq-eqb, ne_eqb}
use lib.ListN.{length, get_or}
use lib.Dec.{eqb}
use Rattle.image.specs.Schema.{Decl, struck}
use Rattle.image.specs.Parse.{Parsed, ok, no, bind, pick, byte_at, counted}
use Rattle.image.specs.Names.{name_at}
use Rattle.image.specs.Fields.{marks_at, field_at, bare_at, variant_at}
use Rattle.image.specs.Types.{type_at}
use Rattle.image.specs.Widths.{wire_bits_at, wire_bytes_at, width_at}
use Rattle.image.specs.Kinds.{kind_of}
use Rattle.image.specs.Tombstones.{tombstones_at}
use Rattle.image.specs.Bodies.{message_at, enum_at, flags_at, union_at, newtype_at, other_at, closed, decl_at, body_of}
use Rattle.std.specs.Prelude.{Ok, Err, ⊤}
use Rattle.image.specs.Reads.{Read, read_of, skip}
use Rattle.image.specs.Numbers.{kind_number}
use Rattle.image.specs.declared.kinds.Kind.{Kind}
use Rattle.image.specs.declared.kinds.Kind.TheVariants as kind
use Rattle.image.specs.declared.refusals.Refusal.{Refusal}
use Rattle.image.specs.declared.refusals.Refusal.TheVariants as refusal
use Rattle.image.proofs.Laws.Answers.{got, next, next_is, stop, skip_ok}
use Rattle.image.proofs.Laws.Numbers.{There}

-- a message: its name refused, its marks refused, or its fields' answer
module _ (s : List ℕ) (at : ℕ) where
  pub message_name : {x : Read} {k : Refusal} → x ≡ Err k → read_of x ≡ skip (name_at 8 s at) → read_of x ≡ skip (message_at s at)
  unfolding message_at
  message_name h e = stop _ _ h e

  module _ {x : Read} {n : ℕ} (h : x ≡ Ok n) (e : read_of x ≡ skip (name_at 8 s at)) where
    pub message_marks : {y : Read} {k : Refusal} → y ≡ Err k → read_of y ≡ skip (marks_at s n) → read_of y ≡ skip (message_at s at)
    unfolding message_at
    message_marks i f = next _ (got h e) (λ _. stop _ _ i f)

    pub message_fields : {y : Read} {m : ℕ} {r : Parsed ⊤} → y ≡ Ok m → read_of y ≡ skip (marks_at s n) → r ≡ skip (counted field_at s m) → r ≡ skip (message_at s at)
    unfolding message_at
    message_fields i f q = next _ (got h e) (λ _. next _ (got i f) (λ _. q ∙ sym (skip_ok _ _)))

pub ruleset messages = (message_fields, message_marks, message_name)

-- an enum: its name, its marks or its width refused, or its variants' answer
module _ (format : ℕ) (s : List ℕ) (at : ℕ) where
  pub enum_name : {x : Read} {k : Refusal} → x ≡ Err k → read_of x ≡ skip (name_at 8 s at) → read_of x ≡ skip (enum_at format s at)
  unfolding enum_at
  enum_name h e = stop _ _ h e

  module _ {x : Read} {n : ℕ} (h : x ≡ Ok n) (e : read_of x ≡ skip (name_at 8 s at)) where
    pub enum_marks : {y : Read} {k : Refusal} → y ≡ Err k → read_of y ≡ skip (marks_at s n) → read_of y ≡ skip (enum_at format s at)
    unfolding enum_at
    enum_marks i f = next _ (got h e) (λ _. stop _ _ i f)

    module _ {y : Read} {m : ℕ} (i : y ≡ Ok m) (f : read_of y ≡ skip (marks_at s n)) where
      pub enum_width : {z : Read} {k : Refusal} → z ≡ Err k → read_of z ≡ skip (width_at format wire_bits_at s m) → read_of z ≡ skip (enum_at format s at)
      unfolding enum_at
      enum_width j g = next _ (got h e) (λ _. next _ (got i f) (λ _. stop _ _ j g))

      pub enum_variants : {z : Read} {l : ℕ} {r : Parsed ⊤} → z ≡ Ok l → read_of z ≡ skip (width_at format wire_bits_at s m) → r ≡ skip (counted bare_at s l)
          → r ≡ skip (enum_at format s at)
      unfolding enum_at
      enum_variants j g q = next _ (got h e) (λ _. next _ (got i f) (λ _. next _ (got j g) (λ _. q ∙ sym (skip_ok _ _))))

pub ruleset enums = (enum_variants, enum_width, enum_marks, enum_name)

-- flags: their name or their width refused, or their bits' answer
module _ (format : ℕ) (s : List ℕ) (at : ℕ) where
  pub flags_name : {x : Read} {k : Refusal} → x ≡ Err k → read_of x ≡ skip (name_at 8 s at) → read_of x ≡ skip (flags_at format s at)
  unfolding flags_at
  flags_name h e = stop _ _ h e

  module _ {x : Read} {n : ℕ} (h : x ≡ Ok n) (e : read_of x ≡ skip (name_at 8 s at)) where
    pub flags_width : {y : Read} {k : Refusal} → y ≡ Err k → read_of y ≡ skip (width_at format wire_bytes_at s n) → read_of y ≡ skip (flags_at format s at)
    unfolding flags_at
    flags_width i f = next _ (got h e) (λ _. stop _ _ i f)

    pub flags_bits : {y : Read} {m : ℕ} {r : Parsed ⊤} → y ≡ Ok m → read_of y ≡ skip (width_at format wire_bytes_at s n) → r ≡ skip (counted bare_at s m)
        → r ≡ skip (flags_at format s at)
    unfolding flags_at
    flags_bits i f q = next _ (got h e) (λ _. next _ (got i f) (λ _. q ∙ sym (skip_ok _ _)))

pub ruleset flags = (flags_bits, flags_width, flags_name)

-- a union: its name refused, or its variants' answer
module _ (format : ℕ) (s : List ℕ) (at : ℕ) {x : Read} where
  pub union_name : {k : Refusal} → x ≡ Err k → read_of x ≡ skip (name_at 8 s at) → read_of x ≡ skip (union_at format s at)
  unfolding union_at
  union_name h e = stop _ _ h e

  pub union_variants : {n : ℕ} {r : Parsed ⊤} → x ≡ Ok n → read_of x ≡ skip (name_at 8 s at) → r ≡ skip (counted (variant_at format) s n)
      → r ≡ skip (union_at format s at)
  unfolding union_at
  union_variants h e q = next _ (got h e) (λ _. q ∙ sym (skip_ok _ _))

pub ruleset unions = (union_name, union_variants)

-- a newtype: its name refused, or its type's answer
module _ (s : List ℕ) (at : ℕ) {x : Read} where
  pub newtype_name : {k : Refusal} → x ≡ Err k → read_of x ≡ skip (name_at 8 s at) → read_of x ≡ skip (newtype_at s at)
  unfolding newtype_at
  newtype_name h e = stop _ _ h e

  pub newtype_type : {n : ℕ} {r : Parsed ⊤} → x ≡ Ok n → read_of x ≡ skip (name_at 8 s at) → r ≡ skip (type_at s n) → r ≡ skip (newtype_at s at)
  unfolding newtype_at
  newtype_type h e q = next _ (got h e) (λ _. q ∙ sym (skip_ok _ _))

pub ruleset newtypes = (newtype_name, newtype_type)

-- what a kind's parser reads, and the tombstones after it
pub closed_read : (format : ℕ) (p : List ℕ → ℕ → Parsed Decl) (s : List ℕ) (at : ℕ) (x : Read) {r : Parsed ⊤} → read_of x ≡ skip (p s at)
    → r ≡ bind (read_of x) (λ _ n. skip (tombstones_at format s n)) → r ≡ skip (closed format p s at)
unfolding closed skip bind
closed_read format p s at x e q = q ∙ rw e (go (p s at))
  where
    go : (x : Parsed Decl) → bind (skip x) (λ _ n. skip (tombstones_at format s n)) ≡ skip (bind x (λ d n. bind (tombstones_at format s n) (λ ts m. ok (struck d ts) m)))
    go (ok d n) = sym (skip_ok (tombstones_at format s n) _)
    go (no k) = refl

-- configs, generic aliases and traits have only a name
pub decl_named : (f : ℕ) (s : List ℕ) (at : ℕ) {k : Kind} → (k ≡ kind.Config) ⊎ ((k ≡ kind.Alias) ⊎ (k ≡ kind.Trait))
    → skip (name_at 8 s at) ≡ skip (decl_at f (kind_of (kind_number k)) s at)
unfolding kind_of decl_at other_at
decl_named f s at =
    ⊎_elim (λ e. rw e (sym (skip_ok (name_at 8 s at) _)))
    (⊎_elim (λ e. rw e (sym (skip_ok (name_at 8 s at) _))) (λ e. rw e (sym (skip_ok (name_at 8 s at) _))))

-- a kind over 8
pub decl_unknown : (f kind : ℕ) (s : List ℕ) (at : ℕ) → 8 < kind → read_of (Err refusal.Kind) ≡ skip (decl_at f (kind_of kind) s at)
unfolding kind_of decl_at skip read_of
decl_unknown f kind s at h =
    let e : kind ≡ suc (suc (suc (suc (suc (suc (suc (suc (suc (kind - 9))))))))) = omega arith in
    rw e

-- a declaration's answer, by the kind's number and by the byte that it was read from
pub kind_read : (f : ℕ) (s : List ℕ) (at : ℕ) {k b : ℕ} {r : Parsed ⊤} → k ≡ b → r ≡ skip (decl_at f (kind_of k) s at) → r ≡ skip (decl_at f (kind_of b) s at)
kind_read f s at e h = rw e at h

-- the end of a body
end_left : (d : Decl) (s : List ℕ) (n : ℕ) → (n ≡ length s → ⊥) → read_of (Err refusal.Body) ≡ skip (pick (eqb n (length s)) (ok d n) (no 8))
unfolding pick skip read_of
end_left d s n f = rw (ne_eqb n (length s) f)

end_whole : (d : Decl) (s : List ℕ) (n : ℕ) → n ≡ length s → read_of (Ok n) ≡ skip (pick (eqb n (length s)) (ok d n) (no 8))
unfolding pick skip read_of
end_whole d s n e = rw (eq-eqb n (length s) e)

-- a body whose kind is over 8
pub body_kind : (f : ℕ) (s : List ℕ) {n : ℕ} → There (byte_at 8 s 0) s 0 n → 8 < get_or s 0 0 → read_of (Err refusal.Kind) ≡ skip (body_of f s)
unfolding body_of
body_kind f s b h = next_is _ b.is (stop _ _ refl (decl_unknown f _ s _ h))

-- a body whose kind is there: its declaration refused, bytes left, or whole
module _ (f : ℕ) (s : List ℕ) {n : ℕ} (b : There (byte_at 8 s 0) s 0 n) where
  pub body_stop : {x : Read} {k : Refusal} → x ≡ Err k → read_of x ≡ skip (decl_at f (kind_of (get_or s 0 0)) s n) → read_of x ≡ skip (body_of f s)
  unfolding body_of
  body_stop h e = next_is _ b.is (stop _ _ h e)

  module _ {x : Read} {m : ℕ} (h : x ≡ Ok m) (e : read_of x ≡ skip (decl_at f (kind_of (get_or s 0 0)) s n)) where
    pub body_left : (m ≡ length s → ⊥) → read_of (Err refusal.Body) ≡ skip (body_of f s)
    unfolding body_of
    body_left q = next_is _ b.is (next _ (got h e) (λ d. end_left d s m q))

    pub body_whole : m ≡ length s → read_of (Ok m) ≡ skip (body_of f s)
    unfolding body_of
    body_whole q = next_is _ b.is (next _ (got h e) (λ d. end_whole d s m q))
