-- The passes over the slots and over the customers: what each turn notes, and what they begin with.
-- Assumes nothing.
use Prim.Native.Nat.{ℕ, ◌+◌, ◌≤◌, ◌<◌}
use native.Mathlib.Nat.{not-suc-le-zero}
use mathlib.Core.Path.{◌≡◌, sym, ◌∙◌}
use mathlib.Core.List.{List, ◌++◌, append_assoc, append-nil}
use lib.Dec.{ltb}
use lib.ListN.{replicate, length-replicate, get_or-replicate}
use borrow.Author.Tests.{lt-ltb, le-ltb}
use Rattle.lists.specs.Below.{list_if, below}
use Rattle.lists.specs.Chain.{last_below}
use Rattle.lists.proofs.Below.{below_more, below_rest, list_if_not}
use Rattle.table.specs.Table.{Table}
use Rattle.table.specs.Total.{slots}
use Rattle.table.specs.Word.{is_used, FreeFrom}
use Rattle.table.specs.Lists.{customer_at, call_at, Four, customer_four, held_in}
use Rattle.table_words.specs.Fours.{Alike}
use Rattle.table_words.proofs.Alike.{alike_held}
use Rattle.rule_keys.specs.Chains.{Chained}
use Rattle.rule_keys.specs.Keys.{held_keys, call_keys, call_keys_at}

pub nothing_noted : Chained (replicate 2048 0) (replicate 1432 0) (replicate 1432 0) 0
unfolding last_below
nothing_noted = record {
  sized = (length-replicate {A = ℕ} 2048 0, length-replicate {A = ℕ} 1432 0, length-replicate {A = ℕ} 1432 0);
  head = λ m l. get_or-replicate {A = ℕ} 2048 m 0 0 l;
  linked = λ i l. absurd (not-suc-le-zero l);
}

-- a place's keys, noted behind those of the places before, which were noted behind `s`
pub pass_turn : (f : ℕ → List ℕ) (i : ℕ) (s m n : List ℕ) → m ≡ s ++ below f i → n ≡ m ++ f i → n ≡ s ++ below f (i + 1)
pass_turn f i s m n p q = rw (q, p, below_more f i) (append_assoc s (below f i) (f i))

-- the slots from `n` on are free
pub slots_passed : (t : Table) (n : ℕ) (m : List ℕ) → n ≤ slots → FreeFrom t.occupied n → m ≡ below (call_keys_at t) n → m ≡ below (call_keys_at t) slots
slots_passed t n m h free p =
    p ∙ sym (below_rest (call_keys_at t) n slots h (λ i l b. list_if_not (is_used t.occupied i) (call_keys (call_at t i)) (free i l b)))

-- a customer's keys, those of the four `f`, where it is listed
module _ (t : Table) (listed k : ℕ) where
  abbrev customer : Four
  customer = customer_four (customer_at t k)

  pub customer_listed : (f : Four) (m n : List ℕ) → k < listed → Alike f customer → n ≡ m ++ held_keys (held_in f) → n ≡ m ++ list_if (ltb k listed) (held_keys (held_in customer))
  unfolding list_if
  customer_listed f m n h same e = rw (lt-ltb k listed h, ← (alike_held f customer same)) e

  pub customer_unlisted : (m : List ℕ) → listed ≤ k → m ≡ m ++ list_if (ltb k listed) (held_keys (held_in customer))
  unfolding list_if
  customer_unlisted m h = rw (le-ltb k listed h) (sym (append-nil m))
