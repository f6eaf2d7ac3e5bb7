-- Kinds and tags are told apart by their numbers. Assumes nothing.
use mathlib.Core.Path.{◌≡◌, refl, sym, ◌∙◌}
use Prim.Native.Nat.{◌<◌}
use native.Mathlib.Omega.{arith}
use denote.Enum.Declared.{tag_of}
use denote.Enum.Bare.{tag_one}
use Rattle.image.specs.contracts.kinds.Kind as kinds
use Rattle.image.specs.contracts.tags.Tag as tags
use Rattle.image.specs.declared.kinds.Kind.{Kind}
use Rattle.image.specs.declared.kinds.Kind.TheVariants as kind
use Rattle.image.specs.declared.tags.Tag.{Tag}
use Rattle.image.specs.declared.tags.Tag.TheVariants as tag
use Rattle.image.specs.Numbers.{kind_number, tag_number}

-- the number of each is its place among the variants
kind_placed : (x : Kind) → tag_of kinds.the_type x ≡ kind_number x
kind_placed kind.Message = refl
kind_placed kind.Enum = refl
kind_placed kind.Flags = refl
kind_placed kind.Union = refl
kind_placed kind.Newtype = refl
kind_placed kind.Config = refl
kind_placed kind.Alias = refl
kind_placed kind.Trait = refl
kind_placed kind.Impl = refl

tag_placed : (x : Tag) → tag_of tags.the_type x ≡ tag_number x
tag_placed tag.Primitive = refl
tag_placed tag.SubByte = refl
tag_placed tag.Semantic = refl
tag_placed tag.Named = refl
tag_placed tag.Optional = refl
tag_placed tag.Array = refl
tag_placed tag.FixedArray = refl
tag_placed tag.Set = refl
tag_placed tag.Map = refl
tag_placed tag.Result = refl
tag_placed tag.Vec2 = refl
tag_placed tag.Vec3 = refl
tag_placed tag.Vec4 = refl
tag_placed tag.Quat = refl
tag_placed tag.Mat3 = refl
tag_placed tag.Mat4 = refl
tag_placed tag.Bits = refl

pub same_kind : (x y : Kind) → kind_number x ≡ kind_number y → x ≡ y
same_kind x y e = tag_one kinds.the_type tt x y (kind_placed x ∙ e ∙ sym (kind_placed y))

pub same_tag : (x y : Tag) → tag_number x ≡ tag_number y → x ≡ y
same_tag x y e = tag_one tags.the_type tt x y (tag_placed x ∙ e ∙ sym (tag_placed y))

-- the tags that have nothing but inner types
pub past_codes : (x : Tag) → (x ≡ tag.Primitive → ⊥) → (x ≡ tag.SubByte → ⊥) → (x ≡ tag.Semantic → ⊥) → (x ≡ tag.Named → ⊥)
    → 3 < tag_number x
past_codes x a b c d =
    let p : tag_number x ≡ 0 → ⊥ = λ z. a (same_tag x tag.Primitive z) in
    let q : tag_number x ≡ 1 → ⊥ = λ z. b (same_tag x tag.SubByte z) in
    let r : tag_number x ≡ 2 → ⊥ = λ z. c (same_tag x tag.Semantic z) in
    let s : tag_number x ≡ 3 → ⊥ = λ z. d (same_tag x tag.Named z) in
    omega arith
