-- Names as the table holds them, in 32 bytes with zeros behind them: every slot's is so by the rules on names and zeros,
-- and two such are the same where their lengths and all of their bytes are.
-- Assumes nothing.
use Prim.Native.Nat.{ℕ, ◌-◌, ◌≤◌}
use native.Mathlib.Omega.{arith}
use mathlib.Core.Path.{◌≡◌, sym, ap, ◌∙◌}
use mathlib.Core.List.{List}
use mathlib.Core.Bool.{Bool, true, false, cond, not, ◌&&◌, ◌||◌}
use lib.Dec.{ltb, leb, eqb}
use lib.ListN.{length, take, get_or}
use lib.Seq.{length-take-le}
use borrow.Author.Tests.{eq-eqb, eqb-true, leb-true}
use Rattle.numbers.specs.Search.{zeros_at}
use Rattle.lists.proofs.Tests.{both}
use Rattle.lists.proofs.Below.{every_at}
use Rattle.table.specs.Table.{Call, Table}
use Rattle.table.specs.Total.{slots}
use Rattle.table.specs.Word.{is_used}
use Rattle.table.specs.Lists.{call_at, call_four}
use Rattle.table.specs.Rules.{same_bytes, valid_ids, unused_clear, four_clear, call_free_clear, call_clear, slot_free_clear, holds, names_and_ids, free_holds_zeros}
use Rattle.table.proofs.SameBytes.{same_bytes_lem}
use Rattle.table.proofs.Names.{alike, same_self}
use Rattle.table_words.proofs.Padded.{padded, free_zeros, name_padded}
use Rattle.rule_uniqueness.specs.Conflict.{NamesEnd}

-- ---- two names

module _ (a b : List ℕ) (s t : ℕ) (long : length a ≡ 32) (wide : length b ≡ 32) (most : s ≤ 32) (up : t ≤ 32)
    (past : zeros_at a s (32 - s) ≡ true) (behind : zeros_at b t (32 - t) ≡ true) where
  pub names_whole : (eqb s t && same_bytes a b) ≡ same_bytes (take s a) (take t b)
  names_whole = alike _ _ part whole
    where
      part : (eqb s t && same_bytes a b) ≡ true → same_bytes (take s a) (take t b) ≡ true
      part h =
          let k = both (eqb s t) (same_bytes a b) h in
          rw (eqb-true s t k.0, same_bytes_lem a b k.1) (same_self (take t b))

      whole : same_bytes (take s a) (take t b) ≡ true → (eqb s t && same_bytes a b) ≡ true
      whole h =
          let e = same_bytes_lem (take s a) (take t b) h in
          let n : s ≡ t = sym (length-take-le s a (omega arith)) ∙ ap length e ∙ length-take-le t b (omega arith) in
          let q : a ≡ b = name_padded a s long past ∙ ap padded e ∙ sym (name_padded b t wide behind) in
          rw (eq-eqb s t n, q) (same_self b)

-- ---- every slot

valid_size : (c : Call) → valid_ids c ≡ true → c.size ≤ 32
unfolding valid_ids
valid_size c h =
    let ids = not (eqb c.id 0) && ltb c.id 0x10000 && not (eqb c.size 0) in
    leb-true c.size 32 (both ids (leb c.size 32) (both (ids && leb c.size 32) (not (eqb (get_or c.name (c.size - 1) 0) 0)) h).0).1

clear_ends : (c : Call) → call_clear c ≡ true → (c.size ≤ 32) × (zeros_at c.name c.size (32 - c.size) ≡ true)
unfolding call_clear
clear_ends c h =
    let head = unused_clear c && eqb c.endpoint 0 && eqb c.sender 0 && eqb c.id 0 in
    let size = eqb c.size 0 in
    let zeros = zeros_at c.name 0 32 in
    let k = both (head && size) zeros (both (head && size && zeros) (four_clear (call_four c)) h).0 in
    let e : c.size ≡ 0 = eqb-true c.size 0 (both head size k.0).1 in
    (omega arith, rw e k.1)

pub names_end : (t : Table) → holds names_and_ids t ≡ true → holds free_holds_zeros t ≡ true → NamesEnd t
names_end t names zeros i l =
    by (is_used t.occupied i) (every_at _ slots names i l) (every_at (slot_free_clear t) slots (both _ _ zeros).0 i l)
  where
    by : (u : Bool) → (not u || valid_ids (call_at t i)) ≡ true → cond u (call_free_clear (call_at t i)) (call_clear (call_at t i)) ≡ true
        → ((call_at t i).size ≤ 32) × (zeros_at (call_at t i).name (call_at t i).size (32 - (call_at t i).size) ≡ true)
    by true v f = (valid_size (call_at t i) v, free_zeros (call_at t i) f)
    by false v f = clear_ends (call_at t i) f
