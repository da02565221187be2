-- The rows hold: the checker reads their checkpoints through the definitions.
-- Assumes nothing.
use mathlib.Core.Path.{refl}
use Rattle.numbers.specs.Buffer.{at_front}
use Rattle.numbers.specs.Search.{zeros_at}
use Rattle.lists.specs.Below.{element_if, list_if, below, every_below, first_below}
use Rattle.table.specs.Word.{with_set, is_used, with_used}
use Rattle.table.specs.Zeros.{no_call, no_customer, empty_table}
use Rattle.table.specs.Share.{S}
use Rattle.table.specs.Rules.{bad_share, acceptable, roster_holds, same_bytes, same_short, same_long, same_request, valid_ids, same_lsp, place_clear, place_valid, call_free_clear, call_clear, customer_free_clear, customer_clear, rules_hold}
use Rattle.table.specs.Roster.{guarantee_in, limit_in, spare_in, bad_form, records_answer, roster_answer, customers_from, fresh_table, table_for}
use Rattle.spec_changes.specs.Connections.{added_under, added_standalone, added}
use Rattle.spec_checkpoint.specs.Salvage.{sound_alone, named_by, kept_by_long_id, call_fits, with_calls, connection_fits, with_connections, salvaged}
use Rattle.spec_checkpoint.specs.Restored.{bad_size, from_checkpoint, restored}
use Rattle.checkpoint_cases.specs.Twins.{rows, RowsHold}
use Rattle.checkpoint_cases.specs.Outside.{under_form1, under_form2, OutsideHold}
use Rattle.checkpoint_cases.specs.Requests.{number_rows, mark_rows, SharedNumbers, MarksDecide}
use Rattle.checkpoint_cases.specs.Refreshes.{time_rows, TimesHold}

pub rows_hold : RowsHold
unfolding rows with_set is_used with_used at_front zeros_at element_if list_if below every_below first_below no_call no_customer empty_table S bad_share acceptable roster_holds same_bytes same_short same_long same_request valid_ids same_lsp place_clear place_valid call_free_clear call_clear customer_free_clear customer_clear rules_hold guarantee_in limit_in spare_in bad_form records_answer roster_answer customers_from fresh_table table_for added_under added_standalone added sound_alone named_by kept_by_long_id call_fits with_calls connection_fits with_connections salvaged bad_size from_checkpoint restored
rows_hold = refl

pub outside_hold : OutsideHold
unfolding under_form1 under_form2 with_set is_used with_used at_front zeros_at element_if list_if below every_below first_below no_call no_customer empty_table S bad_share acceptable roster_holds same_bytes same_short same_long same_request valid_ids same_lsp place_clear place_valid call_free_clear call_clear customer_free_clear customer_clear rules_hold guarantee_in limit_in spare_in bad_form records_answer roster_answer customers_from fresh_table table_for added_under added_standalone added sound_alone named_by kept_by_long_id call_fits with_calls connection_fits with_connections salvaged bad_size from_checkpoint restored
outside_hold = (refl, refl)

pub shared_numbers : SharedNumbers
unfolding number_rows with_set is_used with_used at_front zeros_at element_if list_if below every_below first_below no_call no_customer empty_table S bad_share acceptable roster_holds same_bytes same_short same_long same_request valid_ids same_lsp place_clear place_valid call_free_clear call_clear customer_free_clear customer_clear rules_hold guarantee_in limit_in spare_in bad_form records_answer roster_answer customers_from fresh_table table_for added_under added_standalone added sound_alone named_by kept_by_long_id call_fits with_calls connection_fits with_connections salvaged bad_size from_checkpoint restored
shared_numbers = refl

pub marks_decide : MarksDecide
unfolding mark_rows with_set is_used with_used at_front zeros_at element_if list_if below every_below first_below no_call no_customer empty_table S bad_share acceptable roster_holds same_bytes same_short same_long same_request valid_ids same_lsp place_clear place_valid call_free_clear call_clear customer_free_clear customer_clear rules_hold guarantee_in limit_in spare_in bad_form records_answer roster_answer customers_from fresh_table table_for added_under added_standalone added sound_alone named_by kept_by_long_id call_fits with_calls connection_fits with_connections salvaged bad_size from_checkpoint restored
marks_decide = refl

pub times_hold : TimesHold
unfolding time_rows with_set is_used with_used at_front zeros_at element_if list_if below every_below first_below no_call no_customer empty_table S bad_share acceptable roster_holds same_bytes same_short same_long same_request valid_ids same_lsp place_clear place_valid call_free_clear call_clear customer_free_clear customer_clear rules_hold guarantee_in limit_in spare_in bad_form records_answer roster_answer customers_from fresh_table table_for added_under added_standalone added sound_alone named_by kept_by_long_id call_fits with_calls connection_fits with_connections salvaged bad_size from_checkpoint restored
times_hold = refl
