-- A name as the table holds it: 32 bytes, with zeros behind the name where free bytes hold zeros.
-- Assumes nothing.
use Prim.Native.Nat.{ℕ, ◌+◌, ◌-◌, ◌<◌}
use native.Mathlib.Omega.{arith}
use mathlib.Core.Path.{◌≡◌, refl, sym, ap, ◌∙◌}
use mathlib.Core.List.{List, ◌++◌, append-nil}
use mathlib.Core.Bool.{Bool, true, false, ◌&&◌}
use lib.Dec.{leb}
use lib.ListN.{length, take, replicate, take-append-drop}
use lib.Seq.{length-take-le, take_all}
use borrow.Author.Tests.{leb-true, leb-false}
use Rattle.numbers.specs.Search.{zeros_at}
use Rattle.lists.proofs.Tests.{both}
use Rattle.table.specs.Table.{Call}
use Rattle.table.specs.Total.{slots}
use Rattle.table.specs.Lists.{call_at, call_four}
use Rattle.table.specs.Rules.{request_tidy, four_valid, call_free_clear}
use Rattle.table.specs.Words.{call_start, table_of}
use Rattle.table.proofs.Cells.{call_at_lem}
use Rattle.table_words.proofs.NameBytes.{name_long, zeros_drop}

-- a slot's name has room for 32 bytes
pub name_room : (w : List ℕ) (i : ℕ) → i < slots → length (call_at (table_of w) i).name ≡ 32
name_room w i l = ap (λ c. length c.name) (call_at_lem w i l) ∙ name_long w (call_start i + 8)

pub free_zeros : (c : Call) → call_free_clear c ≡ true → zeros_at c.name c.size (32 - c.size) ≡ true
unfolding call_free_clear
free_zeros c h =
    let zeros = zeros_at c.name c.size (32 - c.size) in
    (both (request_tidy c) zeros (both (request_tidy c && zeros) (four_valid (call_four c)) h).0).1

-- bytes with zeros behind them, 32 in all
abbrev pub padded : List ℕ → List ℕ
padded x = x ++ replicate (32 - length x) 0

pub name_padded : (y : List ℕ) (m : ℕ) → length y ≡ 32 → zeros_at y m (32 - m) ≡ true → y ≡ padded (take m y)
name_padded y m l z = by (leb m 32) refl
  where
    by : (b : Bool) → leb m 32 ≡ b → y ≡ padded (take m y)
    by true h =
        let w = leb-true m 32 h in
        rw (length-take-le m y (omega arith)) (sym (take-append-drop m y) ∙ ap (λ (r : List ℕ). take m y ++ r) (zeros_drop y m (32 - m) (omega arith) z))
    by false h = let w = leb-false m 32 h in rw (take_all m y (omega arith), l) (sym (append-nil y))
