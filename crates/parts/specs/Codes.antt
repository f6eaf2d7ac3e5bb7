-- The names of numbers, for the crates above: `image` has them. Assumes nothing.
pub use Rattle.image.specs.Codes.{Code, number}
pub use Rattle.image.specs.Codes.{not_refused, long_refusal, short_head_refusal, format_refusal, crowded_refusal, contents_refusal}
pub use Rattle.image.specs.Codes.{kind_refusal, name_refusal, body_refusal, code_refusal, deep_refusal, alias_pair_refusal, full_refusal, mixed_refusal}
pub use Rattle.image.specs.Codes.{no_side, old_side, new_side, both_sides}
pub use Rattle.image.specs.Codes.{message_kind, enum_kind, flags_kind, union_kind, newtype_kind, config_kind, alias_kind, trait_kind, impl_kind}
pub use Rattle.image.specs.Codes.{primitive_tag, sub_byte_tag, semantic_tag, named_tag, optional_tag, array_tag, fixed_array_tag, set_tag}
pub use Rattle.image.specs.Codes.{map_tag, result_tag, vec2_tag, vec3_tag, vec4_tag, quat_tag, mat3_tag, mat4_tag, bits_tag}
