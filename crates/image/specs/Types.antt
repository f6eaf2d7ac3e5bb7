-- Types: "A type starts with a u8 tag". Assumes nothing.
use Rattle.std.specs.Prelude.{cond, ◌&&◌, List, [], ℕ, zero, suc, leb, eqb}
use Rattle.image.specs.Codes.{number, body_refusal, code_refusal, deep_refusal}
use Rattle.image.specs.Codes.{primitive_tag, sub_byte_tag, semantic_tag, named_tag, optional_tag, fixed_array_tag, map_tag, result_tag, mat4_tag, bits_tag}
use Rattle.image.specs.Schema.{Label, label, Ty, leaf, one, two}
use Rattle.image.specs.Parse.{Parsed, ok, no, bind, within, byte_at, code_at, number_at}
use Rattle.image.specs.Names.{names_at}

-- what follows a tag: a code of at most so much, a sub-byte's sign and bits, an id, a size, nothing, bits; or the tag is none
pub data Follows : Type 0 where
  code : ℕ → Follows
  sub_byte identity size nothing bits unknown : Follows

-- the other tags to the last matrix have only inner types
unfoldable pub follows_tag : ℕ → Follows
follows_tag tag =
    cond (eqb tag (number primitive_tag)) (code 13)
    (cond (eqb tag (number sub_byte_tag)) sub_byte
    (cond (eqb tag (number semantic_tag)) (code 5)
    (cond (eqb tag (number named_tag)) identity
    (cond (eqb tag (number fixed_array_tag)) size
    (cond (eqb tag (number bits_tag)) bits
    (cond (leb tag (number mat4_tag)) nothing unknown))))))

-- "Tags 4 to 7 and 10 to 15 end with one inner type, 8 and 9 with two."
unfoldable pub inner_types : ℕ → ℕ
inner_types tag = cond (leb (number optional_tag) tag && leb tag (number mat4_tag)) (cond (leb (number map_tag) tag && leb tag (number result_tag)) 2 1) 0

unfoldable pub after_tag : ℕ → Follows → List ℕ → ℕ → Parsed Label
after_tag tag (code highest) s at = bind (code_at 0 highest s at) (λ a n. ok (label tag a 0 []) n)
after_tag tag sub_byte s at = bind (code_at 0 1 s at) (λ signed n. bind (code_at 1 64 s n) (λ width m. ok (label tag signed width []) m))
after_tag tag identity s at = bind (number_at 4 s at) (λ id n. ok (label tag id 0 []) n)
after_tag tag size s at = bind (number_at 8 s at) (λ k n. ok (label tag k 0 []) n)
after_tag tag nothing s at = ok (label tag 0 0 []) at
after_tag tag bits s at =
    bind (byte_at (number body_refusal) s at) (λ k n.
    bind (names_at (number body_refusal) k s n) (λ names m.
    ok (label tag 0 0 names) m))
after_tag tag unknown s at = no (number code_refusal)

-- the label at the start of a part
unfoldable pub label_of : List ℕ → Parsed Label
label_of s = bind (byte_at (number body_refusal) s 0) (λ tag n. after_tag tag (follows_tag tag) s n)

-- "Each inner type is read from the part of the body that starts at it."
unfoldable pub inner_at : ℕ → Label → (List ℕ → Parsed Ty) → List ℕ → ℕ → Parsed Ty
inner_at zero l p s at = ok (leaf l) at
inner_at (suc zero) l p s at = bind (within p s at) (λ t n. ok (one l t) n)
inner_at (suc (suc k)) l p s at = bind (within p s at) (λ t n. bind (within p s n) (λ u m. ok (two l t u) m))

-- A type of at most `left` nodes on a path, at the start of a part. One node more is refused before its tag is read.
unfoldable pub type_of : ℕ → List ℕ → Parsed Ty
type_of zero s = no (number deep_refusal)
type_of (suc left) s = bind (label_of s) (λ l n. inner_at (inner_types l.tag) l (type_of left) s n)

-- "At most 32 nodes on a path from the root."
unfoldable pub type_at : List ℕ → ℕ → Parsed Ty
type_at s at = within (type_of 32) s at
