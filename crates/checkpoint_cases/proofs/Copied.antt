-- The copy of specs/Copy.antt is written and read: the checker runs the definitions on it.
-- Assumes nothing.
use mathlib.Core.Path.{refl}
use Rattle.numbers.specs.Buffer.{at_front}
use Rattle.numbers.specs.Search.{zeros_at}
use Rattle.lists.specs.Below.{element_if, list_if, below, every_below, first_below}
use Rattle.table.specs.Word.{with_set, is_used, with_used}
use Rattle.table.specs.Zeros.{no_call, no_customer, empty_table}
use Rattle.table.specs.Share.{S}
use Rattle.table.specs.Rules.{bad_share, acceptable, roster_holds, same_bytes, same_short, same_long, same_request, valid_ids, same_lsp, place_clear, place_valid, call_free_clear, call_clear, customer_free_clear, customer_clear, rules_hold}
use Rattle.table.specs.Roster.{guarantee_in, limit_in, spare_in, bad_form, records_answer, roster_answer, customers_from, fresh_table, table_for}
use Rattle.spec_changes.specs.Connections.{added_under, added_standalone, added}
use Rattle.spec_checkpoint.specs.Layout.{checkpoint_of}
use Rattle.spec_checkpoint.specs.Salvage.{sound_alone, named_by, kept_by_long_id, call_fits, with_calls, connection_fits, with_connections, salvaged}
use Rattle.spec_checkpoint.specs.Restored.{written, bad_size, from_checkpoint, restored}
use Rattle.checkpoint_cases.specs.Copy.{roster_bytes, copy, table_before, table_after, CopyWritten, CopyRead}

pub copy_written : CopyWritten
unfolding copy table_before is_used at_front zeros_at element_if list_if below every_below no_call no_customer S bad_share acceptable roster_holds same_bytes same_short same_long same_request valid_ids same_lsp place_clear place_valid call_free_clear call_clear customer_free_clear customer_clear rules_hold checkpoint_of written
copy_written = (refl, refl, refl)

pub copy_read : CopyRead
unfolding roster_bytes copy table_after with_set is_used with_used at_front zeros_at element_if list_if below every_below first_below no_call no_customer empty_table S bad_share acceptable roster_holds same_bytes same_short same_long same_request valid_ids same_lsp place_clear place_valid call_free_clear call_clear customer_free_clear customer_clear rules_hold guarantee_in limit_in spare_in bad_form records_answer roster_answer customers_from fresh_table table_for added_under added_standalone added sound_alone named_by kept_by_long_id call_fits with_calls connection_fits with_connections salvaged bad_size from_checkpoint restored
copy_read = refl
