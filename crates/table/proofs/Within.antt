-- No slot outside the roster's total is used: so none from the last slot on, which has no call.
-- Assumes nothing.
use Rattle.std.proofs.Common.{◌≡◌, ℕ, ◌<◌, ◌≤◌, Bool, true, false, cond, not, ◌||◌, eqb, ltb, [], sym, refl, true≢false, arith, ltb-true}
use Rattle.lists.proofs.Tests.{both}
use Rattle.lists.proofs.Below.{element_not, every_at}
use Rattle.table.specs.Table.{Table}
use Rattle.table.specs.Total.{slots, total_for, total_of}
use Rattle.table.specs.Word.{bits, is_used}
use Rattle.table.specs.Lists.{call_at, entry_of, open_at}
use Rattle.table.specs.Rules.{holds, roster_acceptable, slots_within_total, senders_listed, within_limits, share_within_total, short_ids_once, long_ids_once, requests_once, names_and_ids, refreshes_past, connections_once, free_holds_zeros, rules_hold}

pub total_most : (form : ℕ) → total_for form ≤ slots
total_most form = by (eqb form 2)
  where
    by : (b : Bool) → cond b 200 64 ≤ slots
    by true = omega arith
    by false = omega arith

-- a table that keeps the rules keeps this one
pub rules_within : (t : Table) → rules_hold t ≡ true → holds slots_within_total t ≡ true
unfolding rules_hold
rules_within t h =
    let zeros = both _ (holds free_holds_zeros t) h in
    let once = both _ (holds connections_once t) zeros.0 in
    let past = both _ (holds refreshes_past t) once.0 in
    let names = both _ (holds names_and_ids t) past.0 in
    let requests = both _ (holds requests_once t) names.0 in
    let longs = both _ (holds long_ids_once t) requests.0 in
    let shorts = both _ (holds short_ids_once t) longs.0 in
    let room = both _ (holds share_within_total t) shorts.0 in
    let limits = both _ (holds within_limits t) room.0 in
    let senders = both _ (holds senders_listed t) limits.0 in
    (both (holds roster_acceptable t) (holds slots_within_total t) senders.0).1

module _ (t : Table) (h : holds slots_within_total t ≡ true) where
  pub used_within : (i : ℕ) → i < bits → is_used t.occupied i ≡ true → i < total_of t
  used_within i l u = by (is_used t.occupied i) u (every_at _ bits h i l)
    where
      by : (b : Bool) → b ≡ true → (not b || ltb i (total_of t)) ≡ true → i < total_of t
      by true e q = ltb-true i (total_of t) q
      by false e q = absurd (true≢false (sym e))

  -- a slot that has a bit and no call is not used
  pub none_outside : (i : ℕ) → slots ≤ i → i < bits → open_at t i ≡ []
  none_outside i l m = element_not (is_used t.occupied i) (entry_of i (call_at t i)) (by (is_used t.occupied i) refl)
    where
      by : (b : Bool) → is_used t.occupied i ≡ b → b ≡ false
      by true e = let z : ⊥ = omega (arith, used_within i m e, total_most t.form) in absurd z
      by false e = refl
