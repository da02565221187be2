-- The starred cases hold: the checker runs the rows through the definitions of reading, answering and the table
-- afterwards, the test of the table rules left out, which changes nothing (Unchecked.antt).
-- Assumes nothing.
use mathlib.Core.Path.{◌≡◌, refl, ap, ◌∙◌}
use mathlib.Core.List.{map}
use mathlib.Core.Bool.{true}
use Rattle.numbers.specs.Buffer.{at_front}
use Rattle.numbers.specs.Checksum.{first_words, all_round, words_sum}
use Rattle.numbers.specs.Search.{is_in, zeros_at, unpadded}
use Rattle.objects.specs.Classes.{passed_over, refused_class}
use Rattle.objects.specs.Forms.{has_form, attribute_formed, formed, misformed}
use Rattle.objects.specs.Item.{bad_length, item_at}
use Rattle.objects.specs.Walk.{seen, objects_of, walk_from, walk_of}
use Rattle.messages.specs.Header.{bad_message_length, checksum_holds, type_of, header_of}
use Rattle.messages.specs.Counts.{notify_complete, path_complete}
use Rattle.messages.specs.Fields.{connection_in, request_at}
use Rattle.messages.specs.Read.{is_call_request, is_nameless, bad_identity, notify_of, path_of, read_of}
use Rattle.reply_objects.specs.Header.{checksum_of, with_checksum}
use Rattle.replies.specs.Messages.{path_err_before_checksum, path_err_bytes, notify_before_checksum, notify_bytes, notify_made_bytes}
use Rattle.lists.specs.Below.{element_if, list_if, below, every_below, first_below, first_not}
use Rattle.table.specs.Word.{with_set, with_clear, is_used, with_used, with_free}
use Rattle.table.specs.Zeros.{no_call, no_customer, empty_table}
use Rattle.table.specs.Share.{S}
use Rattle.table.specs.Rules.{bad_share, same_bytes, same_short, same_long, same_lsp}
use Rattle.table.specs.Roster.{guarantee_in, limit_in, spare_in, bad_form, records_answer, roster_answer, customers_from, fresh_table, table_for}
use Rattle.spec_changes.specs.Calls.{opened, freed, refreshed_at}
use Rattle.spec_changes.specs.Expiry.{is_idle, is_expired, closings_of, closing_words, freed_all, elapsed}
use Rattle.spec_changes.specs.Connections.{added_under, removed_under, added, removed}
use Rattle.spec_changes.specs.Last.{last_kept}
use Rattle.spec_calls.specs.Late.{is_behind}
use Rattle.spec_calls.specs.Form.{listed_or11, sound_or16, form_of}
use Rattle.spec_calls.specs.CallRules.{share_used_up, open_answer, close_answer}
use Rattle.spec_calls.specs.Made.{hex_digit, hex_digits, made_name, is_unused, made_short}
use Rattle.spec_calls.specs.PathRules.{add_answer, drop_answer}
use Rattle.spec_calls.specs.Handling.{table_after, reply_after}
use Rattle.starred_cases.specs.TwoCustomers.{expected, buffer, outcomes, cases, CasesHold}
use Rattle.starred_cases.specs.TwoHundred.{two_hundred, TwoHundredHold, slots_in, slot_roster, slot_messages, slots_after, slots_due, LowestTaken}
use Rattle.starred_cases.specs.Replies.{replied, reply_cases, RepliesHold}
use Rattle.starred_cases.specs.Nameless.{limit_of3, nameless_cases, nameless_results, NamelessHold}
use Rattle.starred_cases.specs.PaddedNames.{roster_bytes, padded_cases, padded_results, PaddedHold}
use Rattle.starred_cases.specs.Lapses.{lapse_roster, lapse_cases, lapse_results, LapsesHold}
use Rattle.starred_cases.specs.Late.{late_roster, late_result_of, late_cases, late_results, LatesHold}
use Rattle.starred_cases.proofs.Unchecked.{unchecked, unchecked_at, lapse_bytes, lapses_same, all_bytes, through_same, results_same, empty_sound, roster_sound, rows_bytes, outcomes_same, reply_bytes, replies_same, padded_bytes, padded_same}

-- ---- all rows are byte strings

cases_bytes : rows_bytes cases ≡ true
unfolding cases
cases_bytes = refl

two_hundred_bytes : rows_bytes two_hundred ≡ true
unfolding two_hundred
two_hundred_bytes = refl

slot_bytes_lem : all_bytes slot_messages ≡ true
unfolding slot_messages
slot_bytes_lem = refl

reply_bytes_lem : reply_bytes reply_cases ≡ true
unfolding reply_cases
reply_bytes_lem = refl

padded_bytes_lem : padded_bytes padded_cases ≡ true
unfolding padded_cases
padded_bytes_lem = refl

-- ---- what they come to

cases_computed : outcomes unchecked empty_table cases ≡ map expected cases
unfolding cases with_set with_clear is_used with_used with_free first_not at_front is_in zeros_at unpadded passed_over refused_class has_form attribute_formed formed misformed bad_length item_at seen objects_of walk_from walk_of bad_message_length checksum_holds type_of header_of notify_complete path_complete connection_in request_at is_call_request is_nameless bad_identity notify_of path_of read_of element_if list_if below every_below first_below no_call no_customer empty_table S bad_share same_bytes same_short same_long same_lsp guarantee_in limit_in spare_in bad_form records_answer roster_answer customers_from fresh_table table_for opened freed refreshed_at closings_of freed_all elapsed added_under removed_under added removed last_kept listed_or11 is_behind sound_or16 form_of share_used_up open_answer close_answer add_answer drop_answer table_after reply_after
cases_computed = refl

pub cases_hold : CasesHold
cases_hold = outcomes_same cases empty_table empty_sound cases_bytes ∙ cases_computed

two_hundred_computed : outcomes unchecked empty_table two_hundred ≡ map expected two_hundred
unfolding two_hundred with_set with_clear is_used with_used with_free first_not at_front is_in zeros_at unpadded passed_over refused_class has_form attribute_formed formed misformed bad_length item_at seen objects_of walk_from walk_of bad_message_length checksum_holds type_of header_of notify_complete path_complete connection_in request_at is_call_request is_nameless bad_identity notify_of path_of read_of element_if list_if below every_below first_below no_call no_customer empty_table S bad_share same_bytes same_short same_long same_lsp guarantee_in limit_in spare_in bad_form records_answer roster_answer customers_from fresh_table table_for opened freed refreshed_at closings_of freed_all elapsed added_under removed_under added removed last_kept listed_or11 is_behind sound_or16 form_of share_used_up open_answer close_answer add_answer drop_answer table_after reply_after
two_hundred_computed = refl

pub two_hundred_hold : TwoHundredHold
two_hundred_hold = outcomes_same two_hundred empty_table empty_sound two_hundred_bytes ∙ two_hundred_computed

slots_computed : slots_after unchecked ≡ slots_due
unfolding slot_messages with_set with_clear is_used with_used with_free first_not at_front is_in zeros_at unpadded passed_over refused_class has_form attribute_formed formed misformed bad_length item_at seen objects_of walk_from walk_of bad_message_length checksum_holds type_of header_of notify_complete path_complete connection_in request_at is_call_request is_nameless bad_identity notify_of path_of read_of element_if list_if below every_below first_below no_call no_customer empty_table S bad_share same_bytes same_short same_long same_lsp guarantee_in limit_in spare_in bad_form records_answer roster_answer customers_from fresh_table table_for opened freed refreshed_at closings_of freed_all elapsed added_under removed_under added removed last_kept listed_or11 is_behind sound_or16 form_of share_used_up open_answer close_answer add_answer drop_answer table_after reply_after
slots_computed = refl

pub lowest_taken : LowestTaken
lowest_taken = ap slots_in (through_same buffer slot_messages _ (roster_sound slot_roster refl) slot_bytes_lem).0 ∙ slots_computed

replies_computed : map (replied unchecked) reply_cases ≡ map (λ c. c.expected) reply_cases
unfolding reply_cases with_set with_clear is_used with_used with_free first_not at_front is_in zeros_at unpadded passed_over refused_class has_form attribute_formed formed misformed bad_length item_at seen objects_of walk_from walk_of bad_message_length checksum_holds type_of header_of notify_complete path_complete connection_in request_at is_call_request is_nameless bad_identity notify_of path_of read_of element_if list_if below every_below first_below no_call no_customer empty_table S bad_share same_bytes same_short same_long same_lsp guarantee_in limit_in spare_in bad_form records_answer roster_answer customers_from fresh_table table_for opened freed refreshed_at closings_of freed_all elapsed added_under removed_under added removed last_kept listed_or11 is_behind sound_or16 form_of share_used_up open_answer close_answer add_answer drop_answer table_after reply_after path_err_bytes path_err_before_checksum notify_bytes notify_before_checksum with_checksum checksum_of words_sum all_round first_words
replies_computed = refl

pub replies_hold : RepliesHold
replies_hold = replies_same reply_cases reply_bytes_lem ∙ replies_computed

padded_computed : padded_results unchecked ≡ map (λ c. c.result) padded_cases
unfolding padded_cases with_set with_clear is_used with_used with_free first_not at_front is_in zeros_at unpadded passed_over refused_class has_form attribute_formed formed misformed bad_length item_at seen objects_of walk_from walk_of bad_message_length checksum_holds type_of header_of notify_complete path_complete connection_in request_at is_call_request is_nameless bad_identity notify_of path_of read_of element_if list_if below every_below first_below no_call no_customer empty_table S bad_share same_bytes same_short same_long same_lsp guarantee_in limit_in spare_in bad_form records_answer roster_answer customers_from fresh_table table_for opened freed refreshed_at closings_of freed_all elapsed added_under removed_under added removed last_kept listed_or11 is_behind sound_or16 form_of share_used_up open_answer close_answer add_answer drop_answer table_after reply_after path_err_bytes path_err_before_checksum notify_bytes notify_before_checksum with_checksum checksum_of words_sum all_round first_words
padded_computed = refl

pub padded_hold : PaddedHold
padded_hold = padded_same padded_cases _ (roster_sound roster_bytes refl) padded_bytes_lem ∙ padded_computed

nameless_bytes : padded_bytes nameless_cases ≡ true
unfolding nameless_cases
nameless_bytes = refl

nameless_computed : nameless_results unchecked ≡ map (λ c. c.result) nameless_cases
unfolding nameless_cases hex_digit hex_digits made_name is_unused made_short notify_made_bytes with_set with_clear is_used with_used with_free first_not at_front is_in zeros_at unpadded passed_over refused_class has_form attribute_formed formed misformed bad_length item_at seen objects_of walk_from walk_of bad_message_length checksum_holds type_of header_of notify_complete path_complete connection_in request_at is_call_request is_nameless bad_identity notify_of path_of read_of element_if list_if below every_below first_below no_call no_customer empty_table S bad_share same_bytes same_short same_long same_lsp guarantee_in limit_in spare_in bad_form records_answer roster_answer customers_from fresh_table table_for opened freed refreshed_at closings_of freed_all elapsed added_under removed_under added removed last_kept listed_or11 is_behind sound_or16 form_of share_used_up open_answer close_answer add_answer drop_answer table_after reply_after path_err_bytes path_err_before_checksum notify_bytes notify_before_checksum with_checksum checksum_of words_sum all_round first_words
nameless_computed = refl

pub nameless_hold : NamelessHold
nameless_hold = padded_same nameless_cases _ (roster_sound limit_of3 refl) nameless_bytes ∙ nameless_computed

-- ---- calls that nobody refreshes

lapse_bytes_lem : lapse_bytes lapse_cases ≡ true
unfolding lapse_cases
lapse_bytes_lem = refl

lapses_computed : lapse_results unchecked_at ≡ map (λ c. c.result) lapse_cases
unfolding lapse_cases is_idle is_expired closing_words with_set with_clear is_used with_used with_free first_not at_front is_in zeros_at unpadded passed_over refused_class has_form attribute_formed formed misformed bad_length item_at seen objects_of walk_from walk_of bad_message_length checksum_holds type_of header_of notify_complete path_complete connection_in request_at is_call_request is_nameless bad_identity notify_of path_of read_of element_if list_if below every_below first_below no_call no_customer empty_table S bad_share same_bytes same_short same_long same_lsp guarantee_in limit_in spare_in bad_form records_answer roster_answer customers_from fresh_table table_for opened freed refreshed_at closings_of freed_all elapsed added_under removed_under added removed last_kept listed_or11 is_behind sound_or16 form_of share_used_up open_answer close_answer add_answer drop_answer table_after reply_after
lapses_computed = refl

pub lapses_hold : LapsesHold
lapses_hold = lapses_same lapse_cases (table_for (roster_answer lapse_roster) lapse_roster) (roster_sound lapse_roster refl) lapse_bytes_lem ∙ lapses_computed

-- ---- late messages

late_bytes : all_bytes (map (λ c. c.message) late_cases) ≡ true
unfolding late_cases
late_bytes = refl

lates_computed : late_results unchecked ≡ map (λ c. c.result) late_cases
unfolding late_cases with_set with_clear is_used with_used with_free first_not at_front is_in zeros_at unpadded passed_over refused_class has_form attribute_formed formed misformed bad_length item_at seen objects_of walk_from walk_of bad_message_length checksum_holds type_of header_of notify_complete path_complete connection_in request_at is_call_request is_nameless bad_identity notify_of path_of read_of element_if list_if below every_below first_below no_call no_customer empty_table S bad_share same_bytes same_short same_long same_lsp guarantee_in limit_in spare_in bad_form records_answer roster_answer customers_from fresh_table table_for opened freed refreshed_at closings_of freed_all elapsed added_under removed_under added removed last_kept listed_or11 is_behind sound_or16 form_of share_used_up open_answer close_answer add_answer drop_answer table_after reply_after
lates_computed = refl

pub lates_hold : LatesHold
lates_hold = results_same late_result_of buffer (map (λ c. c.message) late_cases) (table_for (roster_answer late_roster) late_roster) (roster_sound late_roster refl) late_bytes ∙ lates_computed
