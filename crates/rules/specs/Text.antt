-- How names, numbers, types and encodings are shown: document 01, "Types", and the words of compat.rs. Assumes nothing.
use Rattle.std.specs.Prelude.{Bool, true, false, cond, List, [], ◌∷◌, ◌++◌, ℕ, zero, suc, eqb, get_or}
use Prim.Native.String.{String}
use Rattle.image.specs.Schema.{Name, Encoding, Label, Ty, leaf, one, two}
use Rattle.image.specs.Codes.{number, primitive_tag, sub_byte_tag, semantic_tag, named_tag, fixed_array_tag}
use Rattle.image.specs.Words.{bytes}
use Rattle.text.specs.Decimal.{decimal}

-- texts with another between each two
unfoldable pub joined : List ℕ → List (List ℕ) → List ℕ
joined s [] = []
joined s (n ∷ []) = n
joined s (n ∷ m ∷ l) = n ++ (s ++ joined s (m ∷ l))

unfoldable pub word : List String → ℕ → List ℕ
word ws i = bytes (get_or ws i "")

unfoldable pub bool_word : Bool → List ℕ
bool_word true = bytes "true"
bool_word false = bytes "false"

unfoldable pub primitive_word : ℕ → List ℕ
primitive_word code =
    word ("bool" ∷ "u8" ∷ "u16" ∷ "u32" ∷ "u64" ∷ "i8" ∷ "i16" ∷ "i32" ∷ "i64" ∷ "f32" ∷ "f64" ∷ "fixed32" ∷ "fixed64" ∷ "void" ∷ []) code

unfoldable pub semantic_word : ℕ → List ℕ
semantic_word code = word ("string" ∷ "bytes" ∷ "rgb" ∷ "uuid" ∷ "timestamp" ∷ "hash" ∷ []) code

-- a named node that is resolved: "the name, or `<unknown>`"
unfoldable pub show_name : List Name → List ℕ
show_name [] = bytes "<unknown>"
show_name (n ∷ ns) = n

-- a leaf, by its tag: primitive, sub-byte, semantic, named, bits; "`bits { a, b }`, which without names has two spaces between the braces"
unfoldable pub show_leaf : Label → List ℕ
show_leaf l =
    cond (eqb l.tag (number primitive_tag)) (primitive_word l.first)
    (cond (eqb l.tag (number sub_byte_tag)) (word ("u" ∷ "i" ∷ []) l.first ++ decimal l.second)
    (cond (eqb l.tag (number semantic_tag)) (semantic_word l.first)
    (cond (eqb l.tag (number named_tag)) (show_name l.names)
    (bytes "bits { " ++ (joined (bytes ", ") l.names ++ bytes " }")))))

-- what stands before the inner types, by the tag
unfoldable pub opening : ℕ → List ℕ
opening tag =
    word
    ("" ∷ "" ∷ "" ∷ "" ∷ "optional<" ∷ "array<" ∷ "array<" ∷ "set<" ∷ "map<" ∷ "result<" ∷ "vec2<" ∷ "vec3<" ∷ "vec4<" ∷ "quat<" ∷ "mat3<"
    ∷ "mat4<" ∷ [])
    tag

-- "`array<T, 4>`": a fixed array shows its size
unfoldable pub show_size : Label → List ℕ
show_size l = cond (eqb l.tag (number fixed_array_tag)) (bytes ", " ++ decimal l.first) []

-- a resolved type
unfoldable pub show_type : Ty → List ℕ
show_type (leaf l) = show_leaf l
show_type (one l t) = opening l.tag ++ (show_type t ++ (show_size l ++ bytes ">"))
show_type (two l t u) = opening l.tag ++ (show_type t ++ (bytes ", " ++ (show_type u ++ bytes ">")))

unfoldable pub deltas_around : ℕ → List ℕ → List ℕ
deltas_around zero text = text
deltas_around (suc n) text = bytes "delta(" ++ (deltas_around n text ++ bytes ")")

unfoldable pub show_encoding : Encoding → List ℕ
show_encoding e = deltas_around e.deltas (word ("default" ∷ "varint" ∷ "zigzag" ∷ []) e.base)
