-- R-6: "The earlier verdicts accept both formats and ignore the width"; R-10: they "skip tombstones". What two images hold that differ in
-- nothing else. Assumes nothing.
use Rattle.std.specs.Prelude.{◌≡◌, List, [], map, ℕ, None, option_map}
use Rattle.image.specs.Schema.{Variant, Decl, decl, Schema}
use Rattle.rules.specs.Outcome.{Outcome}
use Rattle.rules.specs.Answer.{outcome, plain}
use Rattle.rules.specs.Imports.{imports}
use Rattle.rules.specs.Refusals.{AcceptedPair}

-- what is left of a variant without its tombstones, of a declaration without its width and all tombstones, and of a schema without its
-- format, all widths and all tombstones
unfoldable pub stripped_variant : Variant → Variant
stripped_variant v = record { ordinal = v.ordinal; name = v.name; fields = v.fields; tombstones = [] }

unfoldable pub stripped : Decl → Decl
stripped d = decl d.kind d.name d.marks None d.fields (map stripped_variant d.variants) d.inner

unfoldable pub stripped_schema : Schema → Schema
stripped_schema s = record { format = 1; registry = map (option_map stripped) s.registry; ids = s.ids; namespace = s.namespace }

-- two images that are accepted, and hold the same but for format, widths and tombstones
abbrev pub SameStripped : List ℕ → List ℕ → Type 0
SameStripped a b = AcceptedPair a b (λ x y. stripped_schema x ≡ stripped_schema y)

-- on either side of any pair they come to the same
pub record Ignores (outcome : List ℕ → List ℕ → Outcome) : Type 0 where
  pub old : (a b : List ℕ) → SameStripped a b → (c : List ℕ) → outcome a c ≡ outcome b c
  pub new : (a b : List ℕ) → SameStripped a b → (c : List ℕ) → outcome c a ≡ outcome c b

-- by the verdict of document 01, and by that with imports
pub record EarlierIgnore : Type 0 where
  pub plain : Ignores (outcome plain)
  pub imports : Ignores (outcome imports)
