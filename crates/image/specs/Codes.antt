-- The numbers of documents 01 and 02, by name: what a call is refused by and with which side ("Turned back"), and what an image stores
-- (kinds of declarations, tags of types). Assumes nothing.
use Rattle.std.specs.Prelude.{ℕ}

pub data Code : Type 0 where
  not_refused long_refusal short_head_refusal format_refusal crowded_refusal contents_refusal kind_refusal name_refusal body_refusal : Code
  code_refusal deep_refusal alias_pair_refusal full_refusal mixed_refusal : Code
  no_side old_side new_side both_sides : Code
  message_kind enum_kind flags_kind union_kind newtype_kind config_kind alias_kind trait_kind impl_kind : Code
  primitive_tag sub_byte_tag semantic_tag named_tag optional_tag array_tag fixed_array_tag set_tag map_tag result_tag vec2_tag vec3_tag vec4_tag : Code
  quat_tag mat3_tag mat4_tag bits_tag : Code

abbrev pub number : Code → ℕ
number not_refused = 0
number long_refusal = 1
number short_head_refusal = 2
number format_refusal = 3
number crowded_refusal = 4
number contents_refusal = 5
number kind_refusal = 6
number name_refusal = 7
number body_refusal = 8
number code_refusal = 9
number deep_refusal = 10
number alias_pair_refusal = 11
number full_refusal = 12
number mixed_refusal = 16
number no_side = 0
number old_side = 1
number new_side = 2
number both_sides = 3
number message_kind = 0
number enum_kind = 1
number flags_kind = 2
number union_kind = 3
number newtype_kind = 4
number config_kind = 5
number alias_kind = 6
number trait_kind = 7
number impl_kind = 8
number primitive_tag = 0
number sub_byte_tag = 1
number semantic_tag = 2
number named_tag = 3
number optional_tag = 4
number array_tag = 5
number fixed_array_tag = 6
number set_tag = 7
number map_tag = 8
number result_tag = 9
number vec2_tag = 10
number vec3_tag = 11
number vec4_tag = 12
number quat_tag = 13
number mat3_tag = 14
number mat4_tag = 15
number bits_tag = 16
