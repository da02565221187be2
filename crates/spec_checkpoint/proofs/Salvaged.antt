-- Every table that a checkpoint is read into keeps the rules and the roster, whatever bytes the checkpoint has.
-- Assumes nothing.
use Prim.Native.Nat.{ℕ, zero, suc, ◌+◌, ◌*◌, ◌≤◌, ◌<◌}
use native.Mathlib.Nat.{le_refl}
use native.Mathlib.Omega.{arith}
use mathlib.Core.Path.{◌≡◌, refl, sym, ap, ◌∙◌}
use mathlib.Core.List.{List, []}
use mathlib.Core.Bool.{Bool, true, false, cond, not, ◌&&◌}
use lib.Dec.{eqb}
use lib.ListN.{length, replicate}
use borrow.Author.Tests.{ltb-true, ne_eqb, not-true}
use Rattle.numbers.specs.BigEndian.{Bytes}
use Rattle.numbers.proofs.BigEndian.{be16_bound}
use Rattle.lists.specs.Count.{has}
use Rattle.lists.proofs.Count.{has_true, has_false}
use Rattle.lists.proofs.Tests.{both}
use Rattle.table.specs.Table.{Table}
use Rattle.table.specs.Total.{slots, total_of}
use Rattle.table.specs.Word.{is_used}
use Rattle.table.specs.Zeros.{no_place}
use Rattle.table.specs.Lists.{roster, Held, held, entries}
use Rattle.table.specs.Share.{is_listed}
use Rattle.table.specs.Rules.{same_connection, place_valid, rules_hold}
use Rattle.table.specs.Roster.{form_in, customers_in, records_in}
use Rattle.table.proofs.Within.{total_most}
use Rattle.spec_changes.specs.Shape.{Shape}
use Rattle.spec_changes.specs.Connections.{place_for, added, call_missing}
use Rattle.spec_changes.proofs.Valid.{valid_place}
use Rattle.spec_changes.proofs.Added.{MayAdd, added_roster, added_shape, added_kept}
use Rattle.spec_changes.proofs.Tables.{added_form, added_time}
use Rattle.spec_changes.proofs.Last.{last_added}
use Rattle.spec_changes.proofs.Told.{rules_kept, kept_rules}
use Rattle.spec_promises.specs.Ledger.{last_in}
use Rattle.spec_promises.specs.Promises.{Remembers}
use Rattle.spec_checkpoint.specs.Layout.{Slotted, calls_in, connections_in, call_record, connection_record}
use Rattle.spec_checkpoint.specs.Places.{ClosedUp}
use Rattle.spec_checkpoint.specs.Latest.{latest_refresh}
use Rattle.spec_checkpoint.specs.Salvage.{placed, sound_alone, kept_by_long_id, call_fits, with_calls, connection_fits, with_connections, salvaged}
use Rattle.spec_checkpoint.proofs.Closed.{closed_placed, closed_added}
use Rattle.spec_checkpoint.proofs.Part.{places_bare, placed_form, placed_shape, placed_latest}
use Rattle.spec_checkpoint.proofs.Order.{refreshes_stay}

-- what stays true of the table from one record to the next: r is the roster that the copy is read under
pub record Sound (r : List ℕ) (t : Table) : Type 0 where
  pub shape : Shape t
  pub rules : rules_hold t ≡ true
  pub roster : roster t ≡ records_in r (customers_in r)
  pub form : t.form ≡ form_in r
  pub closed : ClosedUp t
  pub time : t.time ≡ latest_refresh t
  pub lasts : Remembers t (last_in [])

-- a table where a test passes, the one before where it does not
either : (P : Table → Type 0) (b : Bool) (t u : Table) → P u → (b ≡ true → P t) → P (cond b t u)
either P true t u p q = q refl
either P false t u p q = p

-- ---- calls

-- a record that step 2 keeps names a slot within the total, and so one of the table's
pub kept_inside : (fresh : Table) (s : List ℕ) (i : ℕ) → kept_by_long_id fresh s i ≡ true → (call_record s i).slot < slots
unfolding kept_by_long_id sound_alone
kept_inside fresh s i h = omega (arith, ltb-true (call_record s i).slot (total_of fresh) (both _ _ (both _ _ h).0).0, total_most fresh.form)

call_sound : (r : List ℕ) (t : Table) (c : Slotted) → c.slot < slots → c.call.places ≡ replicate 4 no_place → call_fits t c ≡ true → Sound r t → Sound r (placed t c)
unfolding call_fits
call_sound r t c h p f i =
    let k = both (not (is_used t.occupied c.slot)) _ f in
    record {
      shape = placed_shape t c i.shape h (ap length p);
      rules = k.1;
      roster = i.roster;
      form = placed_form t c ∙ i.form;
      closed = closed_placed t c i.shape h p i.closed;
      time = omega (arith, i.time, placed_latest t c i.shape.calls i.shape.words.four h (not-true _ k.0) (places_bare c.call p));
      lasts = i.lasts;
    }

pub calls_sound : (r : List ℕ) (fresh : Table) (s : List ℕ) → Sound r fresh → (n : ℕ) → Sound r (with_calls fresh s n)
unfolding with_calls
calls_sound r fresh s i zero = i
calls_sound r fresh s i (suc n) =
    let before = with_calls fresh s n in
    either (Sound r) (kept_by_long_id fresh s n && call_fits before (call_record s n)) (placed before (call_record s n)) before (calls_sound r fresh s i n) (λ h.
    let k = both (kept_by_long_id fresh s n) (call_fits before (call_record s n)) h in
    call_sound r before (call_record s n) (kept_inside fresh s n k.0) refl k.1 (calls_sound r fresh s i n))

-- ---- connections

pub may_add : (t : Table) (x : Held) → place_valid (place_for x.lsp) ≡ true → connection_fits t x ≡ true → MayAdd t x
unfolding connection_fits
may_add t x v f =
    let a = both (is_listed (roster t) x.lsp.sender && not (has (same_connection x) (held t)) && not (call_missing (entries t) x)) _ f in
    let b = both (is_listed (roster t) x.lsp.sender && not (has (same_connection x) (held t))) _ a.0 in
    let c = both (is_listed (roster t) x.lsp.sender) _ b.0 in
    record {
      known = c.0;
      new = has_false _ (held t) (not-true _ c.1);
      call = λ n. has_true _ (entries t) (by _ (ne_eqb x.call 0 n) b.1);
      room = ltb-true _ 4 a.1;
      valid = v;
    }
  where
    by : (h : Bool) → eqb x.call 0 ≡ false → not (not (eqb x.call 0) && not h) ≡ true → h ≡ true
    by true e z = refl
    by false e z = rw e at z

connection_sound : (r : List ℕ) (t : Table) (x : Held) → place_valid (place_for x.lsp) ≡ true → connection_fits t x ≡ true → Sound r t → Sound r (added t x)
connection_sound r t x v f i =
    let m = may_add t x v f in
    record {
      shape = added_shape t x i.shape m;
      rules = kept_rules (added t x) (added_kept t x i.shape m (rules_kept t i.rules));
      roster = added_roster t x i.shape m ∙ i.roster;
      form = added_form t x ∙ i.form;
      closed = closed_added t x i.shape m i.closed;
      time = added_time t x ∙ i.time ∙ sym (refreshes_stay t x i.shape (rules_kept t i.rules) m i.closed);
      lasts = λ sender known. last_added sender t x ∙ i.lasts sender (rw (added_roster t x i.shape m) at known);
    }

-- each connection record has IDs that a place may have
abbrev pub RecordsFit : List ℕ → Type 0
RecordsFit s = (n : ℕ) → n < connections_in s → place_valid (place_for (connection_record s n).lsp) ≡ true

-- those of a byte string do
pub bytes_fit : (s : List ℕ) → Bytes s → RecordsFit s
bytes_fit s b n h =
    let at = 4 + 55 * calls_in s + 18 * n in
    valid_place (connection_record s n).lsp (be16_bound s (at + 6) b) (be16_bound s (at + 16) b)

-- a connection that is kept is added as a Path adds it, into the lowest free place
pub next_added : (t : Table) (s : List ℕ) (n : ℕ) → connection_fits (with_connections t s n) (connection_record s n) ≡ true
    → with_connections t s (suc n) ≡ added (with_connections t s n) (connection_record s n)
unfolding with_connections
next_added t s n h = rw h

pub connections_sound : (r : List ℕ) (t : Table) (s : List ℕ) → RecordsFit s → Sound r t → (n : ℕ) → n ≤ connections_in s → Sound r (with_connections t s n)
unfolding with_connections
connections_sound r t s v i zero l = i
connections_sound r t s v i (suc n) l =
    let before = with_connections t s n in
    let k = connections_sound r t s v i n (omega arith) in
    either (Sound r) (connection_fits before (connection_record s n)) (added before (connection_record s n)) before k
    (λ h. connection_sound r before (connection_record s n) (v n l) h k)

pub salvaged_sound : (r : List ℕ) (fresh : Table) (s : List ℕ) → RecordsFit s → Sound r fresh → Sound r (salvaged fresh s)
unfolding salvaged
salvaged_sound r fresh s v i = connections_sound r _ s v (calls_sound r fresh s i (calls_in s)) (connections_in s) (le_refl (connections_in s))
