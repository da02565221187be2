-- Words of the contract of `handle`: what the code gives back and leaves is `handled`, every field of it. The caller's row
-- has the closings at its front, and behind them its old words.
use Rattle.std.specs.Prelude.{ℕ, ◌≡◌, List, length}
use Rattle.numbers.specs.Buffer.{at_front}
use Rattle.table.specs.Table.{Table}
use Rattle.spec_changes.specs.Expiry.{closing_words}
use Rattle.spec_calls.specs.Handling.{Handled}
use Rattle.node.specs.declared.handle.Handling.{Handling}

pub record Handed (h : Handled) (row : List ℕ) (r : Handling) (after : Table) (buffer exit : List ℕ) : Type 0 where
  pub answer : r.answer ≡ h.answer
  pub closed : r.closed ≡ length h.closings
  pub length : r.length ≡ h.length
  pub table : after ≡ h.table
  pub reply : buffer ≡ h.buffer
  pub closings : exit ≡ at_front (closing_words h.closings) row
