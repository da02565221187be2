-- Each answer of a reading, from the tests that lead to it.
-- Assumes nothing.
use Prim.Native.Nat.{ℕ, ◌-◌, ◌<◌, ◌≤◌}
use native.Mathlib.Omega.{arith}
use mathlib.Core.Path.{◌≡◌, sym, ap, ◌∙◌}
use mathlib.Core.List.{List, []}
use mathlib.Core.Bool.{Bool, true, false, ◌||◌}
use lib.Dec.{eqb}
use lib.ListN.{length, replicate}
use borrow.Author.Tests.{lt-ltb, le-ltb, eq-eqb, ne_eqb}
use Rattle.numbers.specs.BigEndian.{Bytes}
use Rattle.table.specs.Table.{Table}
use Rattle.table.specs.Lists.{entries, held}
use Rattle.table.specs.Rules.{rules_hold}
use Rattle.table.specs.Roster.{RosterAnswer, roster_number, roster_answer, fresh_table, table_for, form_in}
use Rattle.table.proofs.Fresh.{fresh_holds, fresh_held}
use Rattle.spec_changes.specs.Shape.{Shape}
use Rattle.spec_changes.proofs.Fresh.{fresh_shape}
use Rattle.spec_promises.proofs.Demand3 as promises
use Rattle.spec_checkpoint.specs.Layout.{calls_in, connections_in, checkpoint_size}
use Rattle.spec_checkpoint.specs.Salvage.{with_calls, with_connections, salvaged}
use Rattle.spec_checkpoint.specs.Restored.{Restored, bad_size, unrestored, from_checkpoint, drops_none, restored}
use Rattle.checkpoint_read.proofs.Counted.{Sized}
use Rattle.checkpoint_read.specs.Read.{read_into}

pub read_is : (fresh t u : Table) (s : List ℕ) (n k a b : ℕ) → Sized s n k → t ≡ with_calls fresh s n → u ≡ with_connections t s k
    → a ≡ n - length (entries u) → b ≡ k - length (held u) → ◌≡◌ {A = Restored} (record { answer = 0; table = u; calls = a; connections = b }) (read_into fresh s)
unfolding read_into salvaged
read_is fresh t u s n k a b z e f p q = rw (p, q, f, e, z.calls, z.connections)

-- ---- the size

pub size_short : (s : List ℕ) → length s < 4 → bad_size s ≡ true
unfolding bad_size
size_short s h = rw (lt-ltb (length s) 4 h)

pub size_wrong : (s : List ℕ) (n k : ℕ) → n ≡ calls_in s → k ≡ connections_in s → 4 ≤ length s → (length s ≡ checkpoint_size n k → ⊥) → bad_size s ≡ true
unfolding bad_size
size_wrong s n k p q h w = rw (le-ltb (length s) 4 h, rw (p, q) at (ne_eqb (length s) (checkpoint_size n k) w))

pub size_right : (s : List ℕ) (n k : ℕ) → Sized s n k → bad_size s ≡ false
unfolding bad_size
size_right s n k z = rw (le-ltb (length s) 4 (omega arith), rw (z.calls, z.connections) at (eq-eqb (length s) (checkpoint_size n k) z.size))

-- ---- the answers

module _ (salvage : Bool) (r s : List ℕ) (a : RosterAnswer) (n : ℕ) (fresh : Table)
    (answer : a ≡ roster_answer r) (table : fresh ≡ table_for (roster_answer r) r) (number : n ≡ roster_number a) where
  pub roster_refused : (n ≡ 0 → ⊥) → unrestored n fresh ≡ restored salvage r s
  unfolding restored
  roster_refused h =
      let k : eqb (roster_number (roster_answer r)) 0 ≡ false = rw (number, answer) at (ne_eqb n 0 h) in
      rw (k, table, number, answer)

  accepted : n ≡ 0 → eqb (roster_number (roster_answer r)) 0 ≡ true
  accepted h = rw (number, answer) at (eq-eqb n 0 h)

  fresh_is : n ≡ 0 → fresh ≡ fresh_table r
  unfolding table_for
  fresh_is h = table ∙ rw (accepted h)

  -- the table of an accepted roster keeps the rules and has no call and no connection
  pub fresh_rules : Bytes r → n ≡ 0 → rules_hold fresh ≡ true
  fresh_rules b h = rw (fresh_is h) (fresh_holds r b (promises.accepted (roster_answer r) (sym (number ∙ ap roster_number answer) ∙ h)))

  pub fresh_free : n ≡ 0 → fresh.occupied ≡ replicate 4 0
  unfolding fresh_table
  fresh_free h = ap (λ t. t.occupied) (fresh_is h)

  pub fresh_shaped : n ≡ 0 → Shape fresh
  fresh_shaped h = rw (fresh_is h) (fresh_shape r)

  pub fresh_bare : n ≡ 0 → held fresh ≡ []
  fresh_bare h = rw (fresh_is h) (fresh_held r)

  pub size_refused : n ≡ 0 → bad_size s ≡ true → unrestored 70 fresh ≡ restored salvage r s
  unfolding restored
  size_refused h b = rw (accepted h, b, fresh_is h)

  pub form_refused : n ≡ 0 → bad_size s ≡ false → (form_in s ≡ 1 → ⊥) → unrestored 71 fresh ≡ restored salvage r s
  unfolding restored
  form_refused h b f = rw (accepted h, b, ne_eqb (form_in s) 1 f, fresh_is h)

  module _ (f : Restored) (checkpoint : f ≡ read_into fresh s) (h : n ≡ 0) (b : bad_size s ≡ false) (form : form_in s ≡ 1) where
    checkpoint_is : f ≡ from_checkpoint r s
    unfolding from_checkpoint read_into
    checkpoint_is = rw (fresh_is h) at checkpoint

    pub checkpoint_read : (salvage || drops_none f) ≡ true → f ≡ restored salvage r s
    unfolding restored
    checkpoint_read d = rw (accepted h, b, eq-eqb (form_in s) 1 form, rw checkpoint_is at d) checkpoint_is

    -- the roster read again gives its table again
    pub checkpoint_refused : (again : Table) → again ≡ table_for (roster_answer r) r → (salvage || drops_none f) ≡ false → unrestored 72 again ≡ restored salvage r s
    unfolding restored
    checkpoint_refused again e d = rw (accepted h, b, eq-eqb (form_in s) 1 form, rw checkpoint_is at d, e ∙ sym table ∙ fresh_is h)
