-- Records that are another table's connections are all kept, over a table with that one's calls.
-- Assumes nothing.
use Prim.Native.Nat.{ℕ, zero, suc, ◌+◌, ◌≤◌, ◌<◌}
use native.Mathlib.Omega.{arith}
use mathlib.Core.Path.{◌≡◌, refl, ◌∙◌}
use mathlib.Core.List.{List, [], ◌∷◌}
use mathlib.Core.Bool.{Bool, true, false, or-true}
use lib.Dec.{eqb}
use borrow.Author.Tests.{lt-ltb, not-false}
use Rattle.lists.specs.Count.{bit, count_if, has}
use Rattle.lists.specs.Below.{below}
use Rattle.lists.proofs.Count.{has_false, false_has, no_bit}
use Rattle.lists.proofs.Below.{count_below_lem, count_at}
use Rattle.table.specs.Table.{Table}
use Rattle.table.specs.Lists.{roster, Entry, entries, Held, held}
use Rattle.table.specs.Share.{is_listed}
use Rattle.table.specs.Rules.{same_connection}
use Rattle.spec_changes.specs.Shape.{Shape}
use Rattle.spec_changes.specs.Connections.{same_four, is_call_of, added, call_missing}
use Rattle.spec_changes.proofs.Alike.{self, lsp_self}
use Rattle.spec_changes.proofs.Kept.{Kept}
use Rattle.spec_changes.proofs.CallMissing.{no_call_missing}
use Rattle.spec_changes.proofs.Added.{MayAdd, added_roster, added_entries, added_held, added_shape, added_kept}
use Rattle.spec_checkpoint.specs.Layout.{connections_in, connection_record}
use Rattle.spec_checkpoint.specs.Salvage.{connection_fits, with_connections}
use Rattle.spec_checkpoint.proofs.Salvaged.{RecordsFit, may_add, next_added}
use Rattle.spec_checkpoint.proofs.AllKept.{count_prefix}
use Rattle.spec_checkpoint.proofs.Fours.{fours_hold, sender_unlisted, senders_hold, place_unfit, places_fit}

-- the table from the first n of them
pub record Joined (over : Table) (s : List ℕ) (n : ℕ) : Type 0 where
  pub shape : Shape (with_connections over s n)
  pub kept : Kept (with_connections over s n)
  pub same : roster (with_connections over s n) ≡ roster over
  pub calls : (p : Entry → Bool) → count_if p (entries (with_connections over s n)) ≡ count_if p (entries over)
  pub connections : (p : Held → Bool) → count_if p (held (with_connections over s n)) ≡ count_if p (below (λ k. connection_record s k ∷ []) n)

-- the records are such as a place may hold, since those of the other table are
pub records_fit : (t : Table) (s : List ℕ) → Kept t → ((p : Held → Bool) → count_if p (below (λ k. connection_record s k ∷ []) (connections_in s)) ≡ count_if p (held t)) → RecordsFit s
records_fit t s k all n h =
    not-false _ (no_bit (place_unfit (connection_record s n))
    (omega (arith, count_at (λ k. connection_record s k ∷ []) place_unfit n (connections_in s) h, all place_unfit, places_fit t k)))

module _ (t over : Table) (s : List ℕ) (k : Kept t) (all : (p : Held → Bool) → count_if p (below (λ k. connection_record s k ∷ []) (connections_in s)) ≡ count_if p (held t))
    (shape : Shape over) (kept : Kept over) (same : roster over ≡ roster t)
    (calls : (p : Entry → Bool) → count_if p (entries over) ≡ count_if p (entries t)) (idle : (p : Held → Bool) → count_if p (held over) ≡ 0) where
  abbrev g : ℕ → List Held
  g n = connection_record s n ∷ []

  one : (n : ℕ) → n < connections_in s → (p : Held → Bool) → bit (p (connection_record s n)) ≤ count_if p (held t)
  one n h p = omega (arith, count_at g p n (connections_in s) h, all p)

  more : (n : ℕ) → n < connections_in s → (p : Held → Bool) → bit (p (connection_record s n)) + count_if p (below g n) ≤ count_if p (held t)
  more n h p = omega (arith, count_below_lem g p n, count_prefix g p (suc n) (connections_in s) h, all p)

  same_four_self : (x : Held) → same_four x x ≡ true
  same_four_self x = rw (self x.call, self x.lsp.sender, self x.lsp.endpoint) (or-true (eqb x.call 0))

  module _ (n : ℕ) (h : n < connections_in s) (b : Joined over s n) where
    abbrev u : Table
    u = with_connections over s n

    abbrev x : Held
    x = connection_record s n

    known : is_listed (roster u) x.lsp.sender ≡ true
    known = rw (b.same ∙ same) (not-false _ (no_bit _ (omega (arith, one n h (sender_unlisted t), senders_hold t k))))

    new : has (same_connection x) (held u) ≡ false
    new =
        let own : bit (same_connection x x) ≡ 1 = rw (lsp_self x) in
        false_has (same_connection x) (held u) (omega (arith, own, b.connections (same_connection x), more n h (same_connection x), k.once x))

    called : call_missing (entries u) x ≡ false
    called =
        rw (b.calls (is_call_of x) ∙ calls (is_call_of x))
        (no_bit _ (omega (arith, one n h (call_missing (entries t)), has_false (call_missing (entries t)) (held t) (no_call_missing t))))

    room : count_if (same_four x) (held u) < 4
    room =
        let own : bit (same_four x x) ≡ 1 = rw (same_four_self x) in
        omega (arith, own, b.connections (same_four x), more n h (same_four x), fours_hold t k x)

    fits : connection_fits u x ≡ true
    unfolding connection_fits
    fits = rw (known, new, called, lt-ltb _ 4 room)

    pub may : MayAdd (with_connections over s n) (connection_record s n)
    may = may_add u x (records_fit t s k all n h) fits

    pub goes_on : with_connections over s (suc n) ≡ added (with_connections over s n) (connection_record s n)
    goes_on = next_added over s n fits

    step : Joined over s (suc n)
    step = record {
      shape = rw goes_on (added_shape u x b.shape may);
      kept = rw goes_on (added_kept u x b.shape may b.kept);
      same = rw goes_on (added_roster u x b.shape may ∙ b.same);
      calls = λ p. rw goes_on (added_entries u x b.shape may p ∙ b.calls p);
      connections = λ p. rw goes_on (omega (arith, added_held u x b.shape may p, b.connections p, count_below_lem g p n));
    }

  -- all of the first n are kept
  pub joined_all : (n : ℕ) → n ≤ connections_in s → Joined over s n
  unfolding with_connections below
  joined_all zero h = record { shape = shape; kept = kept; same = refl; calls = λ p. refl; connections = idle }
  joined_all (suc n) h = step n h (joined_all n (omega arith))
