-- R-2 on its edges, each as the whole report of two small schemas, by the verdict with imports and, where it says something, by that of
-- document 01; and a chain of imports of any length. Assumes nothing.
use Rattle.std.specs.Prelude.{◌≡◌, List, [], ◌∷◌, ◌++◌, ℕ, zero, suc, ◌≤◌, Option, None, Some}
use Prim.Native.String.{String}
use Rattle.image.specs.Schema.{unmarked, label, Ty, two, no_type, Field, Variant, Decl, decl, Schema}
use Rattle.image.specs.Codes.{number, newtype_kind, alias_kind, optional_tag, array_tag, map_tag, result_tag, vec3_tag}
use Rattle.image.specs.Words.{bytes}
use Rattle.text.specs.Decimal.{decimal}
use Rattle.rules.specs.Outcome.{selected, written}
use Rattle.rules.specs.Answer.{Policy, compare_pair, plain}
use Rattle.rules.specs.Reached.{Reached}
use Rattle.rules.specs.Imports.{imports, OnlyListed}
use Rattle.rules.specs.Edges.{newtype, named, around, u8, f32, impl, field, message, union, variant, silent}

-- the report of two schemas, empty if they are refused
unfoldable pub told : Policy → Schema → Schema → List ℕ
told p old new = written (compare_pair p old new) []

-- ---- schemas: entry 0 is declared, under the name A

-- a newtype of a name, and a generic alias
abbrev pub entry : String → Ty → Option Decl
entry name t = Some (decl (number newtype_kind) (bytes name) unmarked None [] [] t)

abbrev pub alias : String → Option Decl
alias name = Some (decl (number alias_kind) (bytes name) unmarked None [] [] no_type)

-- A names entry 1; the entries from 1 on
abbrev pub naming : List (Option Decl) → Schema
naming more = newtype (named 1) more

-- further entries, and further ids in the list
abbrev pub holding : Schema → List (Option Decl) → Schema
holding s more = record { format = s.format; registry = s.registry ++ more; ids = s.ids; namespace = s.namespace }

abbrev pub listing : Schema → List ℕ → Schema
listing s more = record { format = s.format; registry = s.registry; ids = s.ids ++ more; namespace = s.namespace }

abbrev pub optional : Ty → Ty
optional t = around (number optional_tag) t

abbrev pub array : Ty → Ty
array t = around (number array_tag) t

abbrev pub map : Ty → Ty → Ty
map k t = two (label (number map_tag) 0 0 []) k t

abbrev pub result : Ty → Ty → Ty
result t u = two (label (number result_tag) 0 0 []) t u

-- so many nodes above a type
unfoldable pub under : ℕ → Ty → Ty
under zero t = t
under (suc n) t = optional (under n t)

-- A names the two entries after it
abbrev pub twice : Option Decl → Option Decl → List (Option Decl) → Schema
twice first second more = newtype (result (named 1) (named 2)) (first ∷ second ∷ more)

-- a field that names entry 1, and a variant with that field
abbrev pub field_naming : Field
field_naming = field 0 "x" unmarked None (named 1)

abbrev pub variant_naming : Variant
variant_naming = record { ordinal = 0; name = bytes "x"; fields = field_naming ∷ []; tombstones = [] }

-- what is told where a schema holds B, a newtype of u8, and then of f32; and that this is seen
abbrev pub changing : Policy → (Option Decl → Schema) → List ℕ
changing p s = told p (s (entry "B" u8)) (s (entry "B" f32))

abbrev pub seen : List ℕ
seen = bytes "FieldTypeChanged;Major;B;-;newtype 'B' inner type changed from u8 to f32\nBreaking;Major;1\n"

-- ---- a chain of imports

-- an entry is a newtype of the next; and so many entries from an id on
abbrev pub link : ℕ → Decl
link id = decl (number newtype_kind) (bytes "A" ++ decimal id) unmarked None [] [] (named (suc id))

unfoldable pub links : ℕ → ℕ → List (Option Decl)
links from zero = []
links from (suc n) = Some (link from) ∷ links (suc from) n

-- entries 0 to n, of which 0 is listed; what n names is unresolvable
unfoldable pub chain : ℕ → Schema
chain n = record { format = 1; registry = links 0 (suc n); ids = 0 ∷ []; namespace = [] }

pub record ImportEdges : Type 0 where
  -- what is imported has changed
  pub inside : changing imports (λ b. naming (b ∷ [])) ≡ seen
  pub inside_plain : changing plain (λ b. naming (b ∷ [])) ≡ silent
  -- a type that names itself is compared once
  pub itself : told imports (newtype (optional (named 0)) []) (newtype (array (named 0)) [])
      ≡ bytes "FieldTypeChanged;Major;A;-;newtype 'A' inner type changed from optional<A> to array<A>\nBreaking;Major;1\n"
  pub itself_inside : told imports (naming (entry "B" (optional (named 1)) ∷ [])) (naming (entry "B" (array (named 1)) ∷ []))
      ≡ bytes "FieldTypeChanged;Major;B;-;newtype 'B' inner type changed from optional<B> to array<B>\nBreaking;Major;1\n"
  -- so are two that name each other
  pub each_other : told imports (naming (entry "B" (optional (named 0)) ∷ [])) (naming (entry "B" (array (named 0)) ∷ []))
      ≡ bytes "FieldTypeChanged;Major;B;-;newtype 'B' inner type changed from optional<A> to array<A>\nBreaking;Major;1\n"
  -- B is named in a field, or a variant, that survives; and only in one that does not
  pub kept_field : changing imports (λ b. holding (message (field_naming ∷ [])) (b ∷ [])) ≡ seen
  pub lost_field : changing imports (λ b. holding (message (field_naming ∷ field 0 "y" unmarked None u8 ∷ [])) (b ∷ [])) ≡ silent
  pub kept_variant : changing imports (λ b. holding (union (variant_naming ∷ [])) (b ∷ [])) ≡ seen
  pub lost_variant : changing imports (λ b. holding (union (variant_naming ∷ variant 0 "y" ∷ [])) (b ∷ [])) ≡ silent
  -- of two reached entries of one name that with the higher id stands, and the other is followed all the same
  pub higher : changing imports (λ b. twice (entry "B" u8) b []) ≡ seen
  pub lower : changing imports (λ b. twice b (entry "B" u8) []) ≡ silent
  pub lower_followed : changing imports (λ b. twice (entry "C" (named 3)) (entry "C" u8) (b ∷ [])) ≡ seen
  -- a listed declaration stands before a reached entry of its name, also of a higher id, and that is followed all the same
  pub listed : changing imports (λ b. listing (newtype (named 2) (b ∷ entry "B" u8 ∷ [])) (1 ∷ [])) ≡ seen
  pub not_listed : changing imports (λ b. listing (newtype (named 2) (entry "B" u8 ∷ b ∷ [])) (1 ∷ [])) ≡ silent
  pub not_listed_followed : changing imports (λ b. listing (newtype (named 2) (entry "C" u8 ∷ entry "C" (named 3) ∷ b ∷ [])) (1 ∷ [])) ≡ seen
  -- a listed declaration that lost its name, and is not reached, is not followed
  pub not_followed : changing imports (λ b. listing (newtype u8 (entry "C" (named 3) ∷ entry "C" u8 ∷ b ∷ [])) (1 ∷ 2 ∷ [])) ≡ silent
  -- 11: a generic alias is reached on both sides, or listed on one and reached on the other
  pub reached_aliases : selected (compare_pair imports (naming (alias "G" ∷ [])) (naming (alias "G" ∷ []))) ≡ 11 ∷ 3 ∷ 2 ∷ 1 ∷ []
  pub reached_aliases_plain : told plain (naming (alias "G" ∷ [])) (naming (alias "G" ∷ [])) ≡ silent
  pub alias_reached : selected (compare_pair imports (listing (newtype u8 (alias "G" ∷ [])) (1 ∷ [])) (naming (alias "G" ∷ []))) ≡ 11 ∷ 3 ∷ 2 ∷ 1 ∷ []
  pub alias_listed : selected (compare_pair imports (naming (alias "G" ∷ [])) (listing (newtype u8 (alias "G" ∷ [])) (1 ∷ []))) ≡ 11 ∷ 3 ∷ 2 ∷ 1 ∷ []
  -- not 11: it is reached on both sides, and another declaration of its name survives
  pub alias_hidden : changing imports (λ b. listing (naming (alias "B" ∷ b ∷ [])) (2 ∷ [])) ≡ seen
  -- an id past the registry and one of an empty entry reach nothing; then B is there
  pub unresolvable : told imports (newtype (result (named 7) (named 1)) (None ∷ [])) (newtype (result (named 7) (named 1)) (None ∷ [])) ≡ silent
  pub resolvable : told imports (newtype (named 7) []) (naming (entry "B" u8 ∷ []))
      ≡ bytes "DeclarationAdded;Minor;B;-;newtype 'B' was added\nFieldTypeChanged;Major;A;-;newtype 'A' inner type changed from <unknown> to B\nBreaking;Major;2\n"
  -- B is named inside a map, a result, a vector, and by the last of 32 nodes
  pub in_key : changing imports (λ b. newtype (map (named 1) u8) (b ∷ [])) ≡ seen
  pub in_value : changing imports (λ b. newtype (map u8 (named 1)) (b ∷ [])) ≡ seen
  pub in_result : changing imports (λ b. newtype (result (named 1) u8) (b ∷ [])) ≡ seen
  pub in_error : changing imports (λ b. newtype (result u8 (named 1)) (b ∷ [])) ≡ seen
  pub in_vector : changing imports (λ b. newtype (around (number vec3_tag) (named 1)) (b ∷ []))
      ≡ bytes "FieldTypeChanged;Major;A;-;newtype 'A' inner type changed from vec3<B> to vec3<B>\nFieldTypeChanged;Major;B;-;newtype 'B' inner type changed from u8 to f32\nBreaking;Major;2\n"
  pub deep : changing imports (λ b. newtype (under 31 (named 1)) (b ∷ [])) ≡ seen
  -- imports on one side only; an impl that is reached stands under the empty name
  pub gone : told imports (naming (entry "B" u8 ∷ [])) (newtype u8 [])
      ≡ bytes "DeclarationRemoved;Major;B;-;newtype 'B' was removed\nFieldTypeChanged;Major;A;-;newtype 'A' inner type changed from B to u8\nBreaking;Major;2\n"
  pub came : told imports (newtype u8 []) (naming (entry "B" u8 ∷ []))
      ≡ bytes "DeclarationAdded;Minor;B;-;newtype 'B' was added\nFieldTypeChanged;Major;A;-;newtype 'A' inner type changed from u8 to B\nBreaking;Major;2\n"
  pub reached_impl : told imports (naming (Some impl ∷ [])) (newtype u8 [])
      ≡ bytes "DeclarationRemoved;Major;;-;impl '' was removed\nFieldTypeChanged;Major;A;-;newtype 'A' inner type changed from  to u8\nBreaking;Major;2\n"
  -- B was listed and is now imported only
  pub moved : told imports (listing (naming (entry "B" u8 ∷ [])) (1 ∷ [])) (naming (entry "B" u8 ∷ [])) ≡ silent
  pub moved_plain : told plain (listing (naming (entry "B" u8 ∷ [])) (1 ∷ [])) (naming (entry "B" u8 ∷ []))
      ≡ bytes "DeclarationRemoved;Major;B;-;newtype 'B' was removed\nBreaking;Major;1\n"
  -- B is listed and reached: nothing is reached but what is listed
  pub reached_listed : Reached (listing (naming (entry "B" u8 ∷ [])) (1 ∷ [])) 1
  pub only_listed : OnlyListed (listing (naming (entry "B" u8 ∷ [])) (1 ∷ []))
  -- over three steps to falling ids
  pub falling : changing imports (λ b. newtype (named 3) (b ∷ entry "C" (named 1) ∷ entry "D" (named 2) ∷ [])) ≡ seen
  -- every entry of a chain of any length is reached, also the one after 500 steps
  pub steps : (n id : ℕ) → 1 ≤ id → id ≤ n → Reached (chain n) id
  pub five_hundred : Reached (chain 500) 500
  -- what is reached stands in the report by its name, between what is listed, and not before it
  pub by_name : told imports (listing (newtype (named 1) (entry "C" u8 ∷ entry "B" u8 ∷ [])) (2 ∷ [])) (listing (newtype (named 1) (entry "C" f32 ∷ entry "B" f32 ∷ [])) (2 ∷ []))
      ≡ bytes "FieldTypeChanged;Major;B;-;newtype 'B' inner type changed from u8 to f32\nFieldTypeChanged;Major;C;-;newtype 'C' inner type changed from u8 to f32\nBreaking;Major;2\n"
  -- a listed declaration that lost its name, and is reached, is followed
  pub lost_followed : changing imports (λ b. listing (newtype (named 1) (entry "C" (named 3) ∷ entry "C" u8 ∷ b ∷ [])) (1 ∷ 2 ∷ [])) ≡ seen
  -- a name that is listed on one side and reached on the other is compared, either way round
  pub moved_in : told imports (listing (naming (entry "B" u8 ∷ [])) (1 ∷ [])) (naming (entry "B" f32 ∷ [])) ≡ seen
  pub moved_out : told imports (naming (entry "B" u8 ∷ [])) (listing (naming (entry "B" f32 ∷ [])) (1 ∷ [])) ≡ seen
