-- What is unfolded where an image is read, and where a report is computed: for what holds by computation from the definitions alone. A new
-- definition on the way to a report is added here. Assumes nothing.
use mathlib.Core.List.{List, flat_map}
use Prim.Native.Nat.{ℕ}
use Rattle.maps.specs.Lists.{pass, largest, total, count, any, among}
use Rattle.maps.specs.Orders.{same, before, order_of}
use Rattle.maps.specs.Keyed.{insert, survivors, lookup}
use Rattle.maps.specs.Compare.{unmatched, matched, between, compare}
use Rattle.image.specs.Schema.{Schema}
use Rattle.image.specs.Parse.{Parsed, bind, pick, shift, within, part, byte_at, code_at, little_endian, number_at, many, counted}
use Rattle.image.specs.Names.{name_byte, name_bytes, name_at, names_at}
use Rattle.image.specs.Types.{follows_tag, inner_types, after_tag, label_of, inner_at, type_of, type_at}
use Rattle.image.specs.Fields.{marks_of, marks_at, plain, delta, encoding_of, encoding_at, limit_at, field_at, bare_at, variant_at}
use Rattle.image.specs.Kinds.{kind_of}
use Rattle.image.specs.Formats.{known, has_widths, has_tombstones, stored}
use Rattle.image.specs.Widths.{wire_bits_at, wire_bytes, wire_bytes_at, width_at}
use Rattle.image.specs.Tombstones.{tombstones_at}
use Rattle.image.specs.Bodies.{message_at, enum_at, flags_at, union_at, newtype_at, other_at, impl_at, closed, decl_at, body_of}
use Rattle.image.specs.Image.{u16_at, format, entry_count, id_count, segment_count, entry_offset, entry_length, ids_at, segments_at, ids_from, head_of, tables_of, laid, entry_of, entries_of, read_image}
use Rattle.image.specs.Words.{bytes, kind_word}
use Rattle.rules.specs.Equal.{same_list, same_option, same_name, same_names}
use Rattle.rules.specs.Survivors.{stands_for, resolved, listed, declarations, field_map, variant_map, union_variants, view_of}
use Rattle.rules.specs.Types.{name_or_none, resolve_label, resolve, vector, same_label, equal_label, same_tree, same_type, holds_vector}
use Rattle.text.specs.Decimal.{digits, decimal}
use Rattle.rules.specs.Text.{joined, word, bool_word, primitive_word, semantic_word, show_name, show_leaf, opening, show_size, show_type, deltas_around, show_encoding}
use Rattle.rules.specs.Changes.{level, only, quoted, numbered, from_to}
use Rattle.rules.specs.Clauses.{show_namespace, compare_namespaces, compare_types, field_text, compare_field_names, same_encoding, compare_encodings, compare_deprecated, compare_fields, field_rules, compare_field_sets, compare_messages, variant_text, variant_gone, variant_came, enum_bump, enum_rules, compare_non_exhaustive, compare_enums, bit_text, flags_rules, compare_flags, variant_decl, union_rules, compare_unions, compare_newtypes, compare_kind, kind_changed, compare_alike, compare_decls, decl_text, decl_rules, changes, field_types, variant_types, types_of, compared_types}
use Rattle.rules.specs.Verdict.{bump_of, result_of, count_of, alias, is_alias, alias_pair}
use Rattle.rules.specs.Report.{change_word, bump_word, result_word, field_part, line, change_line, last_line, report}
use Rattle.rules.specs.Outcome.{selected, select, text_length, written}
use Rattle.rules.specs.Answer.{counts, first_fault, judged, on_side, compare_pair, accept_new, accept_old, outcome, verdict_by, alias_check}
use Rattle.rules.specs.Reached.{named_label, named_in, named_of, named_from, resolvable, has, mark, mark_all, named_by, follow, up_from, round, rounds, first_set, reached_set}
use Rattle.rules.specs.Imports.{marked_ids, standing_with, view_with, imports_view}
use Rattle.rules.specs.Widths.{show_width, compare_widths}
use Rattle.rules.specs.Tombstones.{rising_numbers, used_by_fields, used_by_variants, used_in, used, reused, dropped, compare_struck, compare_last, compare_last_in, uses, variant_uses, decl_uses, schema_uses, struck_used, uses_struck}
use Rattle.rules.specs.Mended.{equal_trees, likeness_by, likeness, read_as, mended_type, mixed, mixed_check}
use Rattle.rules.specs.Pinned.{digit, hex, image, lines, told}

unfoldable pub reads : List ℕ → Parsed Schema
unfolding flat_map digit hex image bind pick shift within part byte_at code_at little_endian number_at many counted name_byte name_bytes name_at names_at follows_tag inner_types after_tag label_of inner_at type_of type_at known has_widths has_tombstones stored wire_bits_at wire_bytes wire_bytes_at width_at tombstones_at marks_of marks_at plain delta encoding_of encoding_at limit_at field_at bare_at variant_at message_at enum_at flags_at union_at newtype_at other_at impl_at closed kind_of decl_at body_of u16_at format entry_count id_count segment_count entry_offset entry_length ids_at segments_at ids_from head_of tables_of laid entry_of entries_of read_image
reads s = read_image s

unfoldable pub reports : List ℕ → List ℕ → List ℕ
unfolding reads pass largest total count any among same before order_of insert survivors lookup unmatched matched between compare bytes kind_of kind_word same_list same_option same_name same_names stands_for resolved listed declarations field_map variant_map union_variants view_of name_or_none resolve_label resolve vector same_label equal_label same_tree same_type holds_vector digits decimal joined word bool_word primitive_word semantic_word show_name show_leaf opening show_size show_type deltas_around show_encoding level only quoted numbered from_to show_namespace compare_namespaces compare_types field_text compare_field_names same_encoding compare_encodings compare_deprecated compare_fields field_rules compare_field_sets compare_messages variant_text variant_gone variant_came enum_bump enum_rules compare_non_exhaustive compare_enums bit_text flags_rules compare_flags variant_decl union_rules compare_unions compare_newtypes compare_kind kind_changed compare_alike compare_decls decl_text decl_rules changes bump_of result_of count_of alias is_alias alias_pair change_word bump_word result_word field_part line change_line last_line report selected select text_length written counts first_fault judged on_side compare_pair accept_new accept_old outcome verdict_by alias_check field_types variant_types types_of compared_types named_label named_in named_of named_from resolvable has mark mark_all named_by follow up_from round rounds first_set reached_set marked_ids view_with standing_with imports_view equal_trees likeness_by likeness read_as mended_type show_width compare_widths mixed mixed_check rising_numbers used_by_fields used_by_variants used_in used reused dropped compare_struck compare_last compare_last_in uses variant_uses decl_uses schema_uses struck_used uses_struck lines told
reports old new = told old new
