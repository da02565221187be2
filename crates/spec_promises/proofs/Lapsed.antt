-- Calls that nobody refreshes (02, A7): what is listed, that all of them are, and how they count.
-- Assumes nothing.
use Prim.Native.Nat.{ℕ, max, ◌+◌, ◌-◌, ◌*◌, ◌<◌}
use native.Mathlib.Omega.{arith}
use mathlib.Core.Path.{◌≡◌, refl, sym, ap, ◌∙◌, subst}
use mathlib.Core.List.{List, []}
use mathlib.Core.Bool.{Bool, true, false, cond, ◌&&◌, ◌||◌, or-true, and-false, true≢false}
use lib.Dec.{eqb, leb}
use borrow.Author.Tests.{eqb-true, eq-eqb, leb-true, le-leb}
use Rattle.lists.specs.Count.{count_if, has}
use Rattle.lists.proofs.Tests.{both}
use Rattle.table.specs.Table.{Table}
use Rattle.table.specs.Total.{slots}
use Rattle.table.specs.Word.{is_used}
use Rattle.table.specs.Lists.{Entry, call_at, entries}
use Rattle.table.specs.Share.{calls_of}
use Rattle.spec_changes.specs.Expiry.{raised, is_idle, is_expired, expires_at, Closing, closings_of, Rising, elapsed}
use Rattle.spec_changes.proofs.Opened.{slot_count, slot_used}
use Rattle.spec_changes.proofs.Freed.{shape_sized}
use Rattle.spec_changes.proofs.Expired.{closing_found, closing_listed, closings_rising, elapsed_counted, elapsed_used}
use Rattle.answers.specs.Answers.{is}
use Rattle.spec_promises.specs.Promises.{same_closing, Input, fed, at_once, table_found, ClosingsPromised, Agrees}
use Rattle.spec_promises.specs.Claims.{ExpiredIdle, ExpiredAll, Period0}
use Rattle.spec_promises.proofs.Found.{found_by}

-- ---- what is listed

-- a closing that an answer lists is that of a slot whose call expires
listed : (t : Table) (x : Input) (c : Closing) → has (same_closing c) (fed t x).closings ≡ true
    → (c.slot < slots) × (expires_at (raised t x.time) x.period c.slot ≡ true) × ((call_at t c.slot).sender ≡ c.address)
listed t x c h = by (at_once (fed t x).answer) (rw (found_by t x).closings at h)
  where
    u : Table
    u = raised t x.time

    by : (b : Bool) → has (same_closing c) (cond b [] (closings_of u x.period)) ≡ true
        → (c.slot < slots) × (expires_at u x.period c.slot ≡ true) × ((call_at t c.slot).sender ≡ c.address)
    by true h = absurd (true≢false (sym h))
    by false h =
        let f = closing_found u x.period (same_closing c) h in
        let i = f.0 in
        let m = both (eqb c.slot i) (eqb c.address (call_at t i).sender) f.3 in
        let e : c.slot ≡ i = eqb-true _ _ m.0 in
        (rw e f.1, rw e f.2, rw e (sym (eqb-true _ _ m.1)))

pub expired_idle : ExpiredIdle
unfolding is_expired
expired_idle t x c h =
    let f = listed t x c h in
    let u = raised t x.time in
    let d = call_at t c.slot in
    let a = both (is_used t.occupied c.slot) (is_expired (max t.time x.time) x.period d) f.1 in
    let b = both (leb (5 * x.period) (max t.time x.time - d.refreshed)) (is_idle d) a.1 in
    record { inside = f.0; used = a.0; address = f.2; idle = b.1; long = leb-true _ _ b.0 }

-- ---- all of them are

pub expired_all : ExpiredAll
unfolding is_expired
expired_all t l g x c at some m = (rw ((found_by t x).closings, at) is_listed_lem, rw at gone)
  where
    u : Table
    u = raised t x.time

    expires : expires_at u x.period c.slot ≡ true
    expires = rw (m.used, le-leb _ _ m.long, m.idle)

    is_listed_lem : has (same_closing c) (closings_of u x.period) ≡ true
    is_listed_lem = closing_listed u x.period (same_closing c) c.slot m.inside some expires (rw (eq-eqb c.slot c.slot refl, m.address, eq-eqb c.address c.address refl))

    gone : is_used (elapsed t x.time x.period).occupied c.slot ≡ false
    gone =
        rw (elapsed_used t x.time x.period (shape_sized t g.shape) c.slot, closing_listed u x.period (λ d. eqb c.slot d.slot) c.slot m.inside some expires (eq-eqb c.slot c.slot refl))
        (and-false (is_used t.occupied c.slot))

pub period_0 : Period0
unfolding closings_of
period_0 t x e = (found_by t x).closings ∙ by (at_once (fed t x).answer) x.period e
  where
    by : (b : Bool) (period : ℕ) → period ≡ 0 → cond b [] (closings_of (raised t x.time) period) ≡ []
    by true period e = refl
    by false period e = rw e

-- ---- what the ledger is promised of them

module _ (t : Table) (l : List Entry) (g : Agrees t l) (x : Input) where
  -- a customer's calls are those that the closings leave and those that they list
  pub found_counted : (a : ℕ) → calls_of (entries t) a ≡ calls_of (entries (table_found t x)) a + count_if (λ c. eqb c.address a) (fed t x).closings
  found_counted a = rw (found_by t x).closings (by (at_once (fed t x).answer))
    where
      by : (b : Bool)
          → calls_of (entries t) a ≡ calls_of (entries (cond b t (elapsed t x.time x.period))) a + count_if (λ c. eqb c.address a) (cond b [] (closings_of (raised t x.time) x.period))
      by true = omega arith
      by false = elapsed_counted t x.time x.period (shape_sized t g.shape) a

  pub closings_promised : ClosingsPromised l (fed t x)
  closings_promised = record { entered = entered; rising = rising; none = none }
    where
      entered : (c : Closing) → has (same_closing c) (fed t x).closings ≡ true
          → (count_if (λ f. eqb c.slot f.slot) l ≡ 1) × (count_if (λ f. eqb c.slot f.slot && eqb c.address f.ids.sender) l ≡ 1)
      entered c h =
          let m = expired_idle t x c h in (
            sym (g.calls (λ f. eqb c.slot f.slot)) ∙ slot_used t c.slot m.inside ∙ rw m.used,
            sym (g.calls (λ f. eqb c.slot f.slot && eqb c.address f.ids.sender)) ∙ slot_count t c.slot (λ f. eqb c.address f.ids.sender) m.inside
                ∙ rw (m.used, m.address, eq-eqb c.address c.address refl),
          )

      rising : Rising (fed t x).closings
      rising = subst Rising (sym (found_by t x).closings) (by (at_once (fed t x).answer))
        where
          by : (b : Bool) → Rising (cond b [] (closings_of (raised t x.time) x.period))
          by true = tt
          by false = closings_rising (raised t x.time) x.period

      none : is 2 (fed t x).answer ≡ true → (fed t x).closings ≡ []
      none e = (found_by t x).closings ∙ ap (λ b. cond b [] (closings_of (raised t x.time) x.period)) (ap (λ b. is 1 (fed t x).answer || b) e ∙ or-true (is 1 (fed t x).answer))
