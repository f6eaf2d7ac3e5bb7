-- R-10: "Repeated tombstones count as one", and "a chain cannot hide a reuse behind a middle release", of chains of images. Assumes nothing.
use Rattle.std.specs.Prelude.{◌≡◌, true, List, ◌∷◌, ℕ, ltb, Some}
use Rattle.maps.specs.Keyed.{lookup}
use Rattle.maps.specs.Orders.{before}
use Rattle.maps.specs.Lists.{among}
use Rattle.image.specs.Schema.{Name, Variant, Decl, Schema}
use Rattle.image.specs.Codes.{number, union_kind}
use Rattle.rules.specs.Survivors.{name_of, declarations, variant_ordinal, variant_map}
use Rattle.rules.specs.Answer.{verdict_by}
use Rattle.rules.specs.Refusals.{AcceptedPair}
use Rattle.rules.specs.Distance.{Image, last, Steps, largest_step}
use Rattle.rules.specs.Tombstones.{used_by_fields, used, compare_struck}
use Rattle.rules.specs.Mended.{mended}

-- ---- of two bodies

-- the same numbers, in whatever order and however often each
abbrev pub SameNumbers : List ℕ → List ℕ → Type 0
SameNumbers l m = (n : ℕ) → among n l ≡ among n m

-- What is reported goes by which numbers the old one strikes off, and which the new one uses and strikes off.
abbrev pub CountAsOne : Type 0
CountAsOne = (d : Name) (s u t s' u' t' : List ℕ) → SameNumbers s s' → SameNumbers u u' → SameNumbers t t'
    → compare_struck d s u t ≡ compare_struck d s' u' t'

-- ---- of two schemas

-- a number that the one body strikes off, and the other uses
pub record Reuse (struck_off in_use : List ℕ) : Type 0 where
  pub number : ℕ
  pub is_struck : among number struck_off ≡ true
  pub is_used : among number in_use ≡ true

-- "shared declarations of one kind and their shared variants"
pub record SharedDecl (x y : Schema) : Type 0 where
  pub name : Name
  pub old : Decl
  pub new : Decl
  pub in_old : lookup name_of before name (declarations x) ≡ Some old
  pub in_new : lookup name_of before name (declarations y) ≡ Some new
  pub kind : old.kind ≡ new.kind

pub record SharedVariant (d e : Decl) : Type 0 where
  pub kind : d.kind ≡ number union_kind
  pub ordinal : ℕ
  pub old : Variant
  pub new : Variant
  pub in_old : lookup variant_ordinal ltb ordinal (variant_map d.variants) ≡ Some old
  pub in_new : lookup variant_ordinal ltb ordinal (variant_map e.variants) ≡ Some new

pub data Reuses (x y : Schema) : Type 0 where
  in_declaration : (d : SharedDecl x y) → Reuse d.old.tombstones (used d.new) → Reuses x y
  in_variant : (d : SharedDecl x y) (v : SharedVariant d.old d.new) → Reuse v.old.tombstones (used_by_fields v.new.fields) → Reuses x y

-- ---- of a chain of images, however long and whatever stands between

-- Each gets a mended verdict against the next, and the last uses what the first strikes off: then one of the steps is Breaking. Of the first
-- against the last no verdict is asked.
abbrev pub NoneHidden : Type 0
NoneHidden = (first second : Image) (rest : List Image) → Steps (verdict_by mended) first (second ∷ rest) → AcceptedPair first (last second rest) Reuses
    → largest_step (verdict_by mended) first (second ∷ rest) ≡ 2

pub record NoReuseHidden : Type 0 where
  pub repeats : CountAsOne
  pub chains : NoneHidden
