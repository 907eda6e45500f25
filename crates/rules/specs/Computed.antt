-- Written by `tools/generate` from the modules of crates/rules/specs: do not edit by hand.
-- One name for all the definitions of document 01, with the comparison of Req 01 that they use, and one for the others of document 02: a
-- proof that says `unfolding document01` computes with every one of them.
use Rattle.std.specs.Prelude.{List, ℕ}
use Rattle.std.specs.Float.Ieee.{add, sub, neg, div, of_int, of_bits, to_bits}
use Rattle.rules.specs.declared.Query.{Query}
use Rattle.rules.specs.Survey.{Surveyed}
use Rattle.rules.specs.Lists.{those, every, one_of, joined, without, earliest_best, total, up_from, same, less_then}
use Rattle.rules.specs.Numbers.{in_range, good_number, good_owner}
use Rattle.rules.specs.Answers.{answer_of, call_fault_number, call_number, first_row}
use Rattle.rules.specs.Owners.{edition_number, edition_told, owner_in, owner_sound, owners_of, owned_by}
use Rattle.rules.specs.Geometry.{valid, meets, smaller, larger, cover, cover_all, area, enlargement, waste, half_perimeter, half_enlargement, half_waste, same_rect, same_found, same_pair}
use Rattle.rules.specs.Compare.{lies_in, meeting_as, compared, is_meeting, is_inside, is_enclosing, is_equal, wanted, exact_pair}
use Rattle.rules.specs.Pool.{same_slot, slot_numbers, node_at, entries_at, entry_from, entry_at, child_of, number_of, owner_of, record_of, leaf_entry, rects, cover_of, entry_for, is_leaf, stored, held, free_from, lowest_free, free_count, put_node, put_entries, zero_slot, put_root, put_records, tighten, blank_pool}
use Rattle.rules.specs.Layout.{slots_fitting, valid_size, word_at, edition_of, slot_count, valid_length, pointer_word, owner_word, owner_words, entry_words, padded, node_words, head_words, words, natural, runs, pointer_of, rect_of, owner_at, entry_of, node_of, read, same_words, blank, blank_as}
use Rattle.rules.specs.Sound.{is_slot, in_use, is_root, height_sound, root_sound, levels_sound, fewest, count_sound, inner_entries, parents, one_parent, free_empty, records_sound, leaf_entry_sound, inner_entry_sound, node_sound, used_sound, shape_sound, sound_pool, nothing_else, owners_sound, sound}
use Rattle.rules.specs.Search.{meeting, listed_by, found_in, opened_in, before, placed, ordered, found, reported, opened}
use Rattle.rules.specs.Choose.{rect_from, takes_better, earliest, choose_child}
use Rattle.rules.specs.Split.{pairs_from, waste_of, half_waste_of, wastes_more, pick_seeds, cover_group, leaving, opening, join_one, join_two, all_join_one, all_join_two, needs_all, distribute, preference, half_preference, prefers_more, most_preferring, pick_next, second_first, joins_two, quadratic_groups, halves, quadratic_split}
use Rattle.rules.specs.Insert.{split_into, new_root, grow_tree, install, adjust, insert_below, insert_at, insert_record}
use Rattle.rules.specs.Delete.{find_entry, or_later, find_child, find_leaf, take_out, asides, relieve, condense, shorten, shortened, reinsert, put_back, delete_record, update_record}
use Rattle.rules.specs.Request.{asked, after_change, insert_fault, delete_fault, update_fault, search_fault, request}
use Rattle.rules.specs.Call.{after_turn, do_request, do_requests, is_request, call_fault, refused, served, batch_owner, starting, call_by, call}
use Rattle.rules.specs.Frames.{byte_at, pair_value, signed, word_value, word_values, frame_of, next_frame, rect_in, request_in, of_kind, window_in, frame_request, digits, nat_shown, int_shown, line, answer_line, record_line, listed_of, reply_lines, bad_line, frame_call, call_printed, printed, dustmap}
use Rattle.rules.specs.File.{file_number, pair_bytes, unsigned, word_bytes, frame_bytes, head_frame, record_kind, pair_words, record_words, record_frame, end_frame, file_bytes, distinct, carried_of, records_carried, pool_file, write_fault, write_file, frame_due, good_head, count_in, record_in, records_from, file_records, before_in_file, follows, record_fault, end_of, load_records, load_file, after_load, read_file, read_file_as}
use Rattle.rules.specs.Room.{is_full, way_up, full_run, plus_root, slots_needed, room_fault, insert_room, room_fault_number, room_number, room_words}
use Rattle.rules.specs.Doubles.{unit, is_number, exact_of, value_of, floor_of, ceiling_of}
use Rattle.rules.specs.Survey.{outward, spread, further, in_order, good_box, not_negative, moderate, good_disc, finish, box_window, disc_window, query_window, survey_fault_number, survey_number, survey_words}

unfoldable pub document01 : List ℕ → List ℕ
unfolding those every one_of joined without earliest_best total up_from same less_then in_range good_number good_owner answer_of call_fault_number call_number first_row edition_number edition_told owner_in owner_sound owners_of owned_by valid meets smaller larger cover cover_all area enlargement waste half_perimeter half_enlargement half_waste same_rect same_found same_pair lies_in meeting_as compared is_meeting is_inside is_enclosing is_equal wanted exact_pair same_slot slot_numbers node_at entries_at entry_from entry_at child_of number_of owner_of record_of leaf_entry rects cover_of entry_for is_leaf stored held free_from lowest_free free_count put_node put_entries zero_slot put_root put_records tighten blank_pool slots_fitting valid_size word_at edition_of slot_count valid_length pointer_word owner_word owner_words entry_words padded node_words head_words words natural runs pointer_of rect_of owner_at entry_of node_of read same_words blank blank_as is_slot in_use is_root height_sound root_sound levels_sound fewest count_sound inner_entries parents one_parent free_empty records_sound leaf_entry_sound inner_entry_sound node_sound used_sound shape_sound sound_pool nothing_else owners_sound sound meeting listed_by found_in opened_in before placed ordered found reported opened rect_from takes_better earliest choose_child pairs_from waste_of half_waste_of wastes_more pick_seeds cover_group leaving opening join_one join_two all_join_one all_join_two needs_all distribute preference half_preference prefers_more most_preferring pick_next second_first joins_two quadratic_groups halves quadratic_split split_into new_root grow_tree install adjust insert_below insert_at insert_record find_entry or_later find_child find_leaf take_out asides relieve condense shorten shortened reinsert put_back delete_record update_record asked after_change insert_fault delete_fault update_fault search_fault request after_turn do_request do_requests is_request call_fault refused served batch_owner starting call_by call byte_at pair_value signed word_value word_values frame_of next_frame rect_in request_in of_kind window_in frame_request digits nat_shown int_shown line answer_line record_line listed_of reply_lines bad_line frame_call call_printed printed dustmap
document01 bytes = dustmap bytes

unfoldable pub document02 : Query → Surveyed
unfolding file_number pair_bytes unsigned word_bytes frame_bytes head_frame record_kind pair_words record_words record_frame end_frame file_bytes distinct carried_of records_carried pool_file write_fault write_file frame_due good_head count_in record_in records_from file_records before_in_file follows record_fault end_of load_records load_file after_load read_file read_file_as is_full way_up full_run plus_root slots_needed room_fault insert_room room_fault_number room_number room_words unit is_number exact_of value_of floor_of ceiling_of outward spread further in_order good_box not_negative moderate good_disc finish box_window disc_window query_window survey_fault_number survey_number survey_words in_range add sub neg div of_int of_bits to_bits
document02 query = query_window query
