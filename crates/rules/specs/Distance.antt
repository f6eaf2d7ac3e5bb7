-- Demand 3, the distance rule, over byte lists and in terms of a verdict call alone. Assumes nothing.
use Rattle.std.specs.Prelude.{◌≡◌, Bool, false, cond, List, [], ◌∷◌, ℕ, ◌+◌, max, ◌≤◌}
use Rattle.maps.specs.Lists.{All, any}
use Rattle.image.specs.Schema.{Schema}
use Rattle.image.specs.Parse.{Parsed, ok, no}
use Rattle.image.specs.Image.{read_image}
use Rattle.rules.specs.Survivors.{View}
use Rattle.rules.specs.Types.{holds_vector}
use Rattle.rules.specs.Changes.{kind_at, FieldAdded, FieldRemoved, FieldTypeChanged, FieldOrdinalChanged, FieldRenamed, FieldEncodingChanged, VariantAdded, VariantRemoved, VariantOrdinalChanged, DeclarationAdded, DeclarationRemoved, DeclarationKindChanged, NamespaceChanged, NonExhaustiveChanged, FlagsBitAdded, FlagsBitRemoved, FlagsBitOrdinalChanged, WidthChanged}
use Rattle.rules.specs.Clauses.{compared_types}

-- an image is any list of bytes
abbrev pub Image : Type 0
Image = List ℕ

-- whether a type compared in a view of an image holds a vector, quaternion or matrix node
module _ (view : Schema → View) where
  unfoldable pub vector_compared : Parsed Schema → Bool
  vector_compared (ok s n) = any holds_vector (compared_types (view s))
  vector_compared (no k) = false

  unfoldable pub holds_vectors : Image → Bool
  holds_vectors a = vector_compared (read_image a)

-- the last of a list that begins with the given image
unfoldable pub last : Image → List Image → Image
last a [] = a
last a (b ∷ rest) = last b rest

-- the kinds that are neither removals nor additions nor deprecations, nor those of R-10, which "need not be equal both ways"
abbrev pub other_kinds : List ℕ
other_kinds =
    (kind_at FieldTypeChanged) ∷ kind_at FieldOrdinalChanged ∷ kind_at FieldRenamed ∷ kind_at FieldEncodingChanged ∷ kind_at VariantOrdinalChanged ∷ (kind_at DeclarationKindChanged)
    ∷ kind_at NamespaceChanged ∷ kind_at NonExhaustiveChanged ∷ kind_at FlagsBitOrdinalChanged ∷ kind_at WidthChanged ∷ []

module _ (verdict : Image → Image → ℕ → ℕ) where
  -- "a verdict is an answer of the verdict call .. with number 0"
  unfoldable pub Verdict : Image → Image → Type 0
  Verdict a b = verdict a b 0 ≡ 0

  -- "and its bump is the distance"
  unfoldable pub distance : Image → Image → ℕ
  distance a b = verdict a b 2

  -- the count of a kind of change
  unfoldable pub count_between : ℕ → Image → Image → ℕ
  count_between kind a b = verdict a b (5 + kind)

  -- each image of a list against the next gets a verdict
  unfoldable pub Steps : Image → List Image → Type 0
  Steps a [] = Unit {0}
  Steps a (b ∷ rest) = Verdict a b × Steps b rest

  -- the largest distance between neighbours
  unfoldable pub largest_step : Image → List Image → ℕ
  largest_step a [] = 0
  largest_step a (b ∷ rest) = max (distance a b) (largest_step b rest)

  -- "each of the counts of removed declarations, fields, variants and flag bits one way equals the count of the same added the other way.
  -- All other counts, except that of deprecations, are the same both ways."; R-10: nor need its two be
  pub record Swapped (a b : Image) : Type 0 where
    pub declarations : count_between (kind_at DeclarationRemoved) a b ≡ count_between (kind_at DeclarationAdded) b a
    pub fields : count_between (kind_at FieldRemoved) a b ≡ count_between (kind_at FieldAdded) b a
    pub variants : count_between (kind_at VariantRemoved) a b ≡ count_between (kind_at VariantAdded) b a
    pub bits : count_between (kind_at FlagsBitRemoved) a b ≡ count_between (kind_at FlagsBitAdded) b a
    pub others : All (λ kind. count_between kind a b ≡ count_between kind b a) other_kinds

  -- `odd` says of which images the distance to themselves is not 0.
  pub record DistanceRule (odd : Image → Bool) : Type 0 where
    -- "For every list of two or more images, however long and whatever they hold: if each against the next, and the first against the
    -- last, get a verdict, the distance from first to last is at most the largest between neighbours."
    pub chain : (first second : Image) (rest : List Image) → Steps first (second ∷ rest) → Verdict first (last second rest) →
        distance first (last second rest) ≤ largest_step first (second ∷ rest)
    -- "For every image that gets a verdict against itself, that distance is 0 exactly when no type compared in it holds a vector,
    -- quaternion or matrix node, and otherwise 2."; of the mended verdict, when it does not use what it strikes off
    pub self : (a : Image) → Verdict a a → distance a a ≡ cond (odd a) 2 0
    -- "For every two images that get verdicts both ways", the counts change places.
    pub swap : (a b : Image) → Verdict a b → Verdict b a → Swapped a b
