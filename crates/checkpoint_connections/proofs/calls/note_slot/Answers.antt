-- `calls::note_slot` meets its contract.
use native.Mathlib.Omega.{arith}
use mathlib.Core.Path.{sym, ◌∙◌}
use Rattle.table.specs.Words.{table_of}
use Rattle.checkpoint_connections.proofs.InCells.{slot_more, slot_none}
use Rattle.checkpoint_connections.proofs.calls.note_slot.Goals as goal

pub free_cell-j-requires : goal.free_cell-j-requires
free_cell-j-requires c =
    (c.spread.ensures.1, omega (arith, c.requires.0, c.requires.1.most))

pub bounds-cells-j : goal.bounds-cells-j
bounds-cells-j c =
    omega (arith, c.requires.1.sized, c.free_cell-j.ensures.1)

pub returns-then-is_used : goal.returns-then-is_used
returns-then-is_used c =
    let free = rw (c.spread.ensures.0, c.call_head-c.ensures) at c.free_cell-j.ensures.0 in
    slot_more c.args.f (table_of c.args.t.now) c.args.cells.now c.args.i c.requires.1 (sym c.is_used.ensures ∙ c.if-is_used.true) c.free_cell-j.result free c.free_cell-j.ensures.1

pub returns-else-is_used : goal.returns-else-is_used
returns-else-is_used c =
    slot_none c.args.f (table_of c.args.t.now) c.args.cells.now c.args.i c.requires.1 (sym c.is_used.ensures ∙ c.if-is_used.false)
