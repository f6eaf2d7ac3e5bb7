-- What the crates above may rest on: everything of an accepted image is well formed at its place, and is this part of its schema.
-- From `read_image` to `Accepted`; from `entry` to a declaration; from a declaration to its items or its inner type; from an item to its
-- name, its type, its fields; from a type to its inner types. Assumes nothing.
use mathlib.Core.Path.{◌≡◌, refl, ◌∙◌}
use Rattle.std.specs.Prelude.{Result, Ok, Err}
use mathlib.Core.List.{List, [], ◌∷◌}
use Prim.Native.Nat.{ℕ, ◌-◌, ◌<◌}
use Rattle.image.specs.Schema.{Schema}
use Rattle.image.specs.Parse.{Parsed, ok, no}
use Rattle.image.specs.Image.{read_image}
use Rattle.image.specs.WellFormed.{Good, value_or}
use Rattle.image.specs.Numbers.{refusal_number}
use Rattle.image.specs.declared.refusals.Refusal.{Refusal}
use Rattle.reader.specs.Answer.{Acceptance, refused_by, refusal_in}
use Rattle.reader.proofs.Laws.Answers.{accepted_good, rejected_no}
use Rattle.parts.specs.Handles.{Reads}
use Rattle.parts.specs.declared.handles.Image.{Image}
use Rattle.parts.specs.Promise.{Accepted, schema_of, item_end, places_from}
use Rattle.parts.specs.declared.Shape.{Shape}
use Rattle.parts.proofs.Laws.Places.{places_none as by_none, places_more as by_more}
-- the image: its length, how many entries and ids it has, and its namespace by the names at their places
pub use Rattle.parts.proofs.Laws.Contents.{accepted_most, head_there, entries_most, ids_most, segments_listed}
-- the name of an entry's declaration
pub use Rattle.parts.proofs.Laws.Bodies.{entry_short}
-- so many names, or items: the first, and the rest
pub use Rattle.parts.proofs.Laws.Skips.{names_first, names_rest}
pub use Rattle.parts.proofs.Laws.Items.{items_first, items_rest}
-- a declaration: the items of a message, an enum, flags, a union, and that they are its fields or its variants; a newtype's type
pub use Rattle.parts.proofs.Laws.Counted.{message_listed, enum_listed, flags_listed, union_listed, inner_here, inner_tree}
-- the tombstones after them, which other kinds have not; and these as items
pub use Rattle.parts.proofs.Laws.Counted.{decl_closed, decl_struck, decl_unclosed}
pub use Rattle.parts.proofs.Laws.Closed.{closed_listed}
-- a kind: its word in the table of all; kinds and tags are told apart by their numbers
pub use Rattle.image.proofs.Laws.Kinds.{kind_named}
pub use Rattle.image.proofs.Laws.Apart.{same_kind, same_tag, past_codes}
-- an item: what holds of a bare one holds of its start; the values of a field and of a union's variant
pub use Rattle.parts.proofs.Laws.Items.{item_number, number_ordinal, item_bare, bare_ordinal, field_ordinal, field_name, field_type_here, field_type, variant_ordinal_lem, variant_name_lem, variant_listed, variant_closed, variant_struck}
-- a type has a label; a node by how many inner types its tag has
pub use Rattle.parts.proofs.Laws.Trees.{type_some, type_label, type_first, type_second, node_leaf, node_one, node_two}
pub use Rattle.parts.proofs.Laws.Ends.{end_leaf, end_one, end_two}
-- a label: what its tag allows; the names of bits
pub use Rattle.parts.proofs.Laws.Labels.{label_regular, bits_listed}

-- what `read_image` accepted
pub accepted : (s : List ℕ) {r : Acceptance} → refused_by r ≡ refusal_in (read_image s) → r ≡ Ok tt → Accepted s
unfolding Accepted
accepted s a e = accepted_good (read_image s) a e

-- what `Image::read` answers: an image of these bytes, or their first refusal
module _ {s : List ℕ} {r : Result Image Refusal} (h : Reads s r) where
  pub read_bytes : {i : Image} → r ≡ Ok i → i.bytes.now ≡ s
  read_bytes e = rw e at h.bytes

  pub read_no : {k : Refusal} → r ≡ Err k → read_image s ≡ no (refusal_number k)
  read_no e = rejected_no (read_image s) h.refusal e

-- what it answered, as a parse: an accepted image holds its schema
module _ (s : List ℕ) where
  pub accepted_read : Accepted s → (n : ℕ) × (read_image s ≡ ok (schema_of s) n)
  unfolding Accepted schema_of Good value_or
  accepted_read g = go (read_image s) refl g
    where
      go : (p : Parsed Schema) → read_image s ≡ p → Good p → (n : ℕ) × (read_image s ≡ ok (schema_of s) n)
      go (ok x n) e g = (n, e ∙ rw e)
      go (no k) e g = absurd g

  pub read_accepted : {x : Schema} {n : ℕ} → read_image s ≡ ok x n → Accepted s × (schema_of s ≡ x)
  unfolding Accepted schema_of Good value_or
  read_accepted e = (rw e tt, rw e)

-- the places of items: none, or the first and the others
module _ (s : List ℕ) (c at : ℕ) where
  pub places_none : (h : Shape) → c ≡ 0 → places_from h s c at ≡ []
  unfolding places_from
  places_none h e = rw (e, by_none (item_end h s) at)

  pub places_more : (h : Shape) → 0 < c → places_from h s c at ≡ at ∷ places_from h s (c - 1) (item_end h s at)
  unfolding places_from
  places_more h l = by_more (item_end h s) c at l
