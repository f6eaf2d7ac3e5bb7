-- The numbers that the code's enums stand for: of refusals, sides, kinds, tags and formats; and what a number is read as one of them. Assumes
-- nothing.
use Rattle.std.specs.Prelude.{◌≡◌, ℕ, ◌<◌, true, false, Result, MatchResult}
use Rattle.image.specs.Codes.{number, old_side, new_side, both_sides}
use Rattle.image.specs.Codes.{long_refusal, short_head_refusal, format_refusal, crowded_refusal, contents_refusal, kind_refusal, name_refusal}
use Rattle.image.specs.Codes.{body_refusal, code_refusal, deep_refusal, alias_pair_refusal, full_refusal, mixed_refusal}
use Rattle.image.specs.Codes.{message_kind, enum_kind, flags_kind, union_kind, newtype_kind, config_kind, alias_kind, trait_kind, impl_kind}
use Rattle.image.specs.Codes.{primitive_tag, sub_byte_tag, semantic_tag, named_tag, optional_tag, array_tag, fixed_array_tag, set_tag}
use Rattle.image.specs.Codes.{map_tag, result_tag, vec2_tag, vec3_tag, vec4_tag, quat_tag, mat3_tag, mat4_tag, bits_tag}
use Rattle.image.specs.Formats.{known}
use Rattle.image.specs.declared.refusals.Refusal.{Refusal}
use Rattle.image.specs.declared.refusals.Refusal.TheVariants as refusal
use Rattle.image.specs.declared.sides.Side.{Side}
use Rattle.image.specs.declared.sides.Side.TheVariants as side
use Rattle.image.specs.declared.kinds.Kind.{Kind}
use Rattle.image.specs.declared.kinds.Kind.TheVariants as kind
use Rattle.image.specs.declared.tags.Tag.{Tag}
use Rattle.image.specs.declared.tags.Tag.TheVariants as tag
use Rattle.image.specs.declared.formats.Format.{Format}
use Rattle.image.specs.declared.formats.Format.TheVariants as format

abbrev pub refusal_number : Refusal → ℕ
refusal_number refusal.Long = number long_refusal
refusal_number refusal.ShortHead = number short_head_refusal
refusal_number refusal.Format = number format_refusal
refusal_number refusal.Crowded = number crowded_refusal
refusal_number refusal.Contents = number contents_refusal
refusal_number refusal.Kind = number kind_refusal
refusal_number refusal.Name = number name_refusal
refusal_number refusal.Body = number body_refusal
refusal_number refusal.Code = number code_refusal
refusal_number refusal.Deep = number deep_refusal
refusal_number refusal.AliasPair = number alias_pair_refusal
refusal_number refusal.Full = number full_refusal
refusal_number refusal.Mixed = number mixed_refusal

abbrev pub side_number : Side → ℕ
side_number side.Old = number old_side
side_number side.New = number new_side
side_number side.Both = number both_sides

abbrev pub kind_number : Kind → ℕ
kind_number kind.Message = number message_kind
kind_number kind.Enum = number enum_kind
kind_number kind.Flags = number flags_kind
kind_number kind.Union = number union_kind
kind_number kind.Newtype = number newtype_kind
kind_number kind.Config = number config_kind
kind_number kind.Alias = number alias_kind
kind_number kind.Trait = number trait_kind
kind_number kind.Impl = number impl_kind

abbrev pub tag_number : Tag → ℕ
tag_number tag.Primitive = number primitive_tag
tag_number tag.SubByte = number sub_byte_tag
tag_number tag.Semantic = number semantic_tag
tag_number tag.Named = number named_tag
tag_number tag.Optional = number optional_tag
tag_number tag.Array = number array_tag
tag_number tag.FixedArray = number fixed_array_tag
tag_number tag.Set = number set_tag
tag_number tag.Map = number map_tag
tag_number tag.Result = number result_tag
tag_number tag.Vec2 = number vec2_tag
tag_number tag.Vec3 = number vec3_tag
tag_number tag.Vec4 = number vec4_tag
tag_number tag.Quat = number quat_tag
tag_number tag.Mat3 = number mat3_tag
tag_number tag.Mat4 = number mat4_tag
tag_number tag.Bits = number bits_tag

abbrev pub format_number : Format → ℕ
format_number format.One = 1
format_number format.Two = 2
format_number format.Three = 3

-- What a number is read as: what has it, or else the refusal of a number that nothing has.
abbrev pub IsKind : ℕ → Result Kind Refusal → Type 0
IsKind n r = MatchResult r (λ k. kind_number k ≡ n) (λ e. (e ≡ refusal.Kind) × (number impl_kind < n))

abbrev pub IsTag : ℕ → Result Tag Refusal → Type 0
IsTag n r = MatchResult r (λ t. tag_number t ≡ n) (λ e. (e ≡ refusal.Code) × (number bits_tag < n))

abbrev pub IsFormat : ℕ → Result Format Refusal → Type 0
IsFormat n r = MatchResult r (λ f. (format_number f ≡ n) × (known n ≡ true)) (λ e. (e ≡ refusal.Format) × (known n ≡ false))
