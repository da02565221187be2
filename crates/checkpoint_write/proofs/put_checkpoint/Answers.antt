-- `put_checkpoint` meets its contract: the head, the calls and the connections, one behind the other.
use native.Mathlib.Omega.{arith}
use lib.ListN.{length-append}
use Rattle.replies.proofs.Written.{tail_length}
use Rattle.lists.specs.Below.{below}
use Rattle.table.specs.Lists.{held_at, standalone_at}
use Rattle.table.specs.Total.{slots}
use Rattle.table.specs.Words.{table_of}
use Rattle.table.proofs.Within.{rules_within}
use Rattle.spec_changes.proofs.Slot.{open_most}
use Rattle.checkpoint_write.specs.Bytes.{held_bytes, calls_bytes}
use Rattle.checkpoint_records.proofs.Behind.{more}
use Rattle.checkpoint_write.proofs.Checkpoint.{checkpoint_fits, checkpoint_put}
use Rattle.checkpoint_write.proofs.put_checkpoint.Goals as goal

pub open_calls-open-requires : goal.open_calls-open-requires
open_calls-open-requires c =
    rules_within (table_of c.args.t.now) c.requires.0

pub overflow_cast-open : goal.overflow_cast-open
overflow_cast-open c = omega (arith, open_most (table_of c.args.t.now))

pub put_head-a-requires : goal.put_head-a-requires
put_head-a-requires c = (omega (arith, open_most (table_of c.args.t.now)), omega (arith, checkpoint_fits _ _ c.requires.1))

pub slice_bounds-put_calls-count : goal.slice_bounds-put_calls-count
slice_bounds-put_calls-count c = omega (arith, checkpoint_fits _ _ c.requires.1)

pub slice_bounds-put_calls-start : goal.slice_bounds-put_calls-start
slice_bounds-put_calls-start c = omega (arith, checkpoint_fits _ _ c.requires.1)

pub put_calls-requires : goal.put_calls-requires
put_calls-requires c = (c.requires.0, rw (tail_length _ _) (omega (arith, checkpoint_fits _ _ c.requires.1)))

pub overflow_add-b : goal.overflow_add-b
overflow_add-b c = omega (arith, checkpoint_fits _ _ c.requires.1)

pub slice_bounds-put_under_calls-count : goal.slice_bounds-put_under_calls-count
slice_bounds-put_under_calls-count c = omega (arith, checkpoint_fits _ _ c.requires.1)

pub slice_bounds-put_under_calls-start : goal.slice_bounds-put_under_calls-start
slice_bounds-put_under_calls-start c = omega (arith, checkpoint_fits _ _ c.requires.1)

pub put_under_calls-requires : goal.put_under_calls-requires
put_under_calls-requires c = (c.requires.0, rw (tail_length _ _) (omega (arith, checkpoint_fits _ _ c.requires.1)))

pub overflow_add-c : goal.overflow_add-c
overflow_add-c c = omega (arith, checkpoint_fits _ _ c.requires.1)

pub slice_bounds-put_with_no_call-count : goal.slice_bounds-put_with_no_call-count
slice_bounds-put_with_no_call-count c = omega (arith, checkpoint_fits _ _ c.requires.1)

pub slice_bounds-put_with_no_call-start : goal.slice_bounds-put_with_no_call-start
slice_bounds-put_with_no_call-start c = omega (arith, checkpoint_fits _ _ c.requires.1)

pub put_with_no_call-requires : goal.put_with_no_call-requires
put_with_no_call-requires c = (c.requires.0, rw (tail_length _ _) (omega (arith, checkpoint_fits _ _ c.requires.1)))

pub overflow_add-result : goal.overflow_add-result
overflow_add-result c = omega (arith, checkpoint_fits _ _ c.requires.1)

pub returns : goal.returns
returns c =
    let t = table_of c.args.t.now in
    let w1 = c.put_head-a.ensures in
    let w2 = more (calls_bytes t) w1 (omega (arith, checkpoint_fits t _ c.requires.1)) c.put_calls.ensures in
    let w3 = more (held_bytes (below (held_at t) slots)) w2 (simp length-append (omega (arith, checkpoint_fits t _ c.requires.1))) c.put_under_calls.ensures in
    let w4 = more (held_bytes (below (standalone_at t) 8)) w3 (simp length-append (omega (arith, checkpoint_fits t _ c.requires.1))) c.put_with_no_call.ensures in
    checkpoint_put t _ _ c.open_calls-open.ensures c.connections_held-held.ensures.0 w4
