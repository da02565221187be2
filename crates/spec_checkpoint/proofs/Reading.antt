-- What reading a checkpoint promises (02, A13): the rules hold whatever bytes are read, plain reading refuses exactly
-- what salvage would drop, and demand 3 goes on from the table that is read.
-- Assumes nothing.
use Rattle.std.specs.Prelude.{Ok, Err}
use Prim.Native.Nat.{ℕ, ◌/◌, ◌≤◌, ◌<◌}
use native.Mathlib.Omega.{arith}
use mathlib.Core.Path.{◌≡◌, refl, sym, ap, ◌∙◌}
use mathlib.Core.List.{List, [], ◌∷◌}
use mathlib.Core.Bool.{Bool, true, false, cond, not, ◌||◌, true≢false}
use lib.Dec.{ltb, eqb}
use lib.ListN.{length, get_or-eq_default}
use borrow.Author.Tests.{eq-eqb, eqb-true, ltb-true, ltb-false}
use Rattle.numbers.specs.BigEndian.{Bytes}
use Rattle.numbers.specs.Search.{is_in}
use Rattle.table.specs.declared.answer.RosterFault.TheVariants.{Short, BadForm, Length, SpareBits, Share, Repeated, Guarantees}
use Rattle.table.specs.Total.{total_for, total_of}
use Rattle.table.specs.Word.{bits, is_used, FourWords}
use Rattle.table.specs.Zeros.{empty_table}
use Rattle.table.specs.Lists.{entries}
use Rattle.table.specs.Rules.{rules_hold}
use Rattle.table.specs.Roster.{RosterAnswer, Accepted, total_in, roster_number, roster_answer, fresh_table, table_for, form_in}
use Rattle.table.proofs.Slots.{none_used}
use Rattle.table.proofs.Within.{rules_within, used_within}
use Rattle.table.proofs.Fresh.{all_free, fresh_holds, empty_holds, fresh_roster}
use Rattle.spec_changes.proofs.Fresh.{fresh_shape}
use Rattle.spec_promises.specs.Promises.{Agrees}
use Rattle.spec_promises.proofs.Demand3.{accepted, demand3_from, agrees_from, connections_from, fresh_remembers, last_agrees_from}
use Rattle.spec_checkpoint.specs.Latest.{latest_refresh}
use Rattle.spec_checkpoint.specs.Restored.{Restored, bad_size, unrestored, from_checkpoint, drops_none, restored}
use Rattle.spec_checkpoint.specs.Claims.{RestoredHolds, TimeRestored, SalvageAnswers, PlainSame, Plain72, OutsideDropped, Demand3Restored, LastForgotten, LastRestored, AgreesRestored, ConnectionsRestored}
use Rattle.spec_checkpoint.proofs.Latest.{latest_none}
use Rattle.spec_checkpoint.proofs.Closed.{closed_fresh}
use Rattle.spec_checkpoint.proofs.Salvaged.{Sound, RecordsFit, bytes_fit, salvaged_sound}

-- ---- the table that is given

pub fresh_sound : (r : List ℕ) → Bytes r → roster_answer r ≡ Accepted → Sound r (fresh_table r)
unfolding fresh_table
fresh_sound r b e = record { shape = fresh_shape r; rules = fresh_holds r b e; roster = fresh_roster r e; form = refl; closed = closed_fresh r; time = sym (latest_none (fresh_table r) all_free); lasts = fresh_remembers r }

pub checkpoint_sound : (r s : List ℕ) → Bytes r → RecordsFit s → roster_answer r ≡ Accepted → Sound r (from_checkpoint r s).table
unfolding from_checkpoint
checkpoint_sound r s b v e = salvaged_sound r (fresh_table r) s v (fresh_sound r b e)

-- what an accepted roster's reading gives is one of two
module _ (P : Restored → Type 0) (salvage : Bool) (r s : List ℕ) (e : roster_number (roster_answer r) ≡ 0) where
  read_as : ((answer : ℕ) → P (unrestored answer (fresh_table r))) → P (from_checkpoint r s) → P (restored salvage r s)
  unfolding restored
  read_as u f = rw (eq-eqb _ _ e) (by (bad_size s) (not (eqb (form_in s) 1)) (salvage || drops_none (from_checkpoint r s)))
    where
      by : (a b c : Bool) → P (cond a (unrestored 70 (fresh_table r)) (cond b (unrestored 71 (fresh_table r)) (cond c (from_checkpoint r s) (unrestored 72 (fresh_table r)))))
      by true b c = u 70
      by false true c = u 71
      by false false true = f
      by false false false = u 72

-- of an accepted roster: the rules, the shape, the roster itself, and places closed up
pub restored_sound : (salvage : Bool) (r s : List ℕ) → Bytes r → Bytes s → roster_number (roster_answer r) ≡ 0 → Sound r (restored salvage r s).table
restored_sound salvage r s b d e =
    let a = accepted (roster_answer r) e in
    read_as (λ f. Sound r f.table) salvage r s e (λ n. fresh_sound r b a) (checkpoint_sound r s b (bytes_fit s d) a)

pub restored_holds : RestoredHolds
unfolding restored table_for
restored_holds salvage r s b d = by (eqb (roster_number (roster_answer r)) 0) refl
  where
    by : (a : Bool) → eqb (roster_number (roster_answer r)) 0 ≡ a → rules_hold (restored salvage r s).table ≡ true
    by true q = (restored_sound salvage r s b d (eqb-true _ _ q)).rules
    by false q = rw q empty_holds

pub time_restored : TimeRestored
unfolding restored table_for empty_table
time_restored salvage r s b d = by (eqb (roster_number (roster_answer r)) 0) refl
  where
    by : (a : Bool) → eqb (roster_number (roster_answer r)) 0 ≡ a → (restored salvage r s).table.time ≡ latest_refresh (restored salvage r s).table
    by true q = (restored_sound salvage r s b d (eqb-true _ _ q)).time
    by false q = rw q (sym (latest_none empty_table all_free))

pub salvage_answers : SalvageAnswers
unfolding restored from_checkpoint is_in
salvage_answers r s e = rw (eq-eqb _ _ e) (by (bad_size s) (not (eqb (form_in s) 1)))
  where
    by : (a b : Bool) → is_in (cond a (unrestored 70 (fresh_table r)) (cond b (unrestored 71 (fresh_table r)) (from_checkpoint r s))).answer (0 ∷ 70 ∷ 71 ∷ []) ≡ true
    by true b = refl
    by false true = refl
    by false false = refl

-- ---- plain and salvage

pub plain_same : PlainSame
unfolding restored
plain_same r s h = by (not (eqb (roster_number (roster_answer r)) 0)) (bad_size s) (not (eqb (form_in s) 1)) h
  where
    by : (a b c : Bool)
        → drops_none (cond a (unrestored (roster_number (roster_answer r)) (table_for (roster_answer r) r)) (cond b (unrestored 70 (fresh_table r)) (cond c (unrestored 71 (fresh_table r)) (from_checkpoint r s)))) ≡ true
        → cond a (unrestored (roster_number (roster_answer r)) (table_for (roster_answer r) r)) (cond b (unrestored 70 (fresh_table r)) (cond c (unrestored 71 (fresh_table r)) (cond (drops_none (from_checkpoint r s)) (from_checkpoint r s) (unrestored 72 (fresh_table r)))))
        ≡ cond a (unrestored (roster_number (roster_answer r)) (table_for (roster_answer r) r)) (cond b (unrestored 70 (fresh_table r)) (cond c (unrestored 71 (fresh_table r)) (from_checkpoint r s)))
    by true b c h = refl
    by false true c h = refl
    by false false true h = refl
    by false false false h = rw h

pub plain_72 : Plain72
unfolding restored from_checkpoint
plain_72 r s = by (roster_answer r) (bad_size s) (not (eqb (form_in s) 1)) (drops_none (from_checkpoint r s)) refl
  where
    by : (a : RosterAnswer) (b c d : Bool) → drops_none (from_checkpoint r s) ≡ d
        → eqb (cond (not (eqb (roster_number a) 0)) (unrestored (roster_number a) (table_for a r)) (cond b (unrestored 70 (fresh_table r)) (cond c (unrestored 71 (fresh_table r)) (cond d (from_checkpoint r s) (unrestored 72 (fresh_table r)))))).answer 72
        ≡ not (drops_none (cond (not (eqb (roster_number a) 0)) (unrestored (roster_number a) (table_for a r)) (cond b (unrestored 70 (fresh_table r)) (cond c (unrestored 71 (fresh_table r)) (from_checkpoint r s)))))
    by (Ok _) true c d q = refl
    by (Ok _) false true d q = refl
    by (Ok _) false false true q = rw q
    by (Ok _) false false false q = rw q
    by (Err Short) b c d q = refl
    by (Err BadForm) b c d q = refl
    by (Err Length) b c d q = refl
    by (Err SpareBits) b c d q = refl
    by (Err Share) b c d q = refl
    by (Err Repeated) b c d q = refl
    by (Err Guarantees) b c d q = refl

-- ---- within the total

-- the total is that of the roster
restored_total : (salvage : Bool) (r s : List ℕ) → Bytes r → Bytes s → roster_number (roster_answer r) ≡ 0 → total_of (restored salvage r s).table ≡ total_in r
restored_total salvage r s b d e = ap total_for (restored_sound salvage r s b d e).form

-- four words have no bit for a slot behind them
used_has_bit : (words : List ℕ) → FourWords words → (slot : ℕ) → is_used words slot ≡ true → slot < bits
used_has_bit words f slot u = by (ltb slot bits) refl
  where
    by : (b : Bool) → ltb slot bits ≡ b → slot < bits
    by true q = ltb-true slot bits q
    by false q =
        let l : length words ≤ slot / 64 = omega (arith, f.four, ltb-false slot bits q) in
        absurd (true≢false (sym u ∙ none_used words slot (get_or-eq_default words 0 {n = slot / 64} l)))

pub outside_dropped : OutsideDropped
outside_dropped salvage r s b d e slot u =
    let t = (restored salvage r s).table in
    let i = restored_sound salvage r s b d e in
    rw (← (restored_total salvage r s b d e)) (used_within t (rules_within t i.rules) slot (used_has_bit t.occupied i.shape.words slot u) u)

-- ---- demand 3 from a table that was read

restored_agrees : (salvage : Bool) (r s : List ℕ) → Bytes r → Bytes s → roster_number (roster_answer r) ≡ 0
    → Agrees (restored salvage r s).table (entries (restored salvage r s).table)
restored_agrees salvage r s b d e =
    let i = restored_sound salvage r s b d e in
    record { shape = i.shape; rules = i.rules; calls = λ p. refl }

pub demand3_restored : Demand3Restored
demand3_restored salvage r s b d e xs =
    let t = (restored salvage r s).table in
    rw (← (restored_sound salvage r s b d e).roster, ← (restored_total salvage r s b d e)) (demand3_from t (entries t) (restored_agrees salvage r s b d e) (restored_sound salvage r s b d e).lasts xs)

pub last_forgotten : LastForgotten
last_forgotten salvage r s b d e sender known = let i = restored_sound salvage r s b d e in i.lasts sender (rw i.roster known)

pub last_restored : LastRestored
last_restored salvage r s b d e xs =
    let t = (restored salvage r s).table in
    last_agrees_from t (entries t) (restored_agrees salvage r s b d e) (restored_sound salvage r s b d e).lasts xs

pub agrees_restored : AgreesRestored
agrees_restored salvage r s b d e xs =
    let t = (restored salvage r s).table in
    rw (← (restored_total salvage r s b d e)) (agrees_from t (entries t) (restored_agrees salvage r s b d e) (restored_sound salvage r s b d e).lasts xs)

pub connections_restored : ConnectionsRestored
connections_restored salvage r s b d e xs =
    let t = (restored salvage r s).table in
    connections_from t (entries t) (restored_agrees salvage r s b d e) (restored_sound salvage r s b d e).lasts xs
