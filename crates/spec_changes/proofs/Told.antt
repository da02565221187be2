-- The test behind answer 1 says the table rules as `Kept` has them: it passes where they hold, and nowhere else.
-- Assumes nothing.
use Prim.Native.Nat.{ℕ, ◌+◌, ◌≤◌, ◌<◌}
use native.Mathlib.Omega.{arith}
use mathlib.Core.Path.{◌≡◌, refl, ap}
use mathlib.Core.Logic.{⊎_elim}
use mathlib.Core.List.{List, [], ◌∷◌}
use mathlib.Core.Bool.{Bool, true, false, cond, not, ◌||◌, ◌&&◌}
use lib.Dec.{ltb, leb, eqb}
use borrow.Author.Tests.{eqb-true, ltb-false, lt-ltb, le-ltb, leb-true, le-leb, not-true}
use Rattle.lists.specs.Count.{bit, count_if, has, no_two}
use Rattle.lists.specs.Below.{every_below}
use Rattle.lists.proofs.Tests.{both}
use Rattle.lists.proofs.Count.{has_true, has_false, true_has, false_has}
use Rattle.lists.proofs.Below.{every_at, every_within}
use Rattle.lists.proofs.Once.{no_two_once, once_no_two}
use Rattle.table.specs.Table.{Table}
use Rattle.table.specs.Total.{slots, total_of}
use Rattle.table.specs.Word.{bits, is_used}
use Rattle.table.specs.Lists.{Terms, roster, Entry, call_at, entries, Held, held}
use Rattle.table.specs.Share.{is_at, is_listed, guarantee_of, limit_of, calls_of, S}
use Rattle.table.specs.Rules.{bad_share, same_address, guarantees, acceptable, roster_holds, unlisted, over_limit, same_short, same_long, same_request, valid_ids, same_connection, slot_free_clear, record_free_clear, roster_acceptable, slots_within_total, senders_listed, within_limits, share_within_total, short_ids_once, long_ids_once, requests_once, names_and_ids, refreshes_past, connections_once, free_holds_zeros, holds, rules_hold}
use Rattle.table.proofs.Within.{used_within}
use Rattle.table.proofs.Addresses.{roster_cases, acceptable_apart}
use Rattle.spec_changes.proofs.Alike.{self, short_self, long_self, lsp_self, short_alike, long_alike, lsp_alike, request_self, request_alike}
use Rattle.spec_changes.proofs.Kept.{RosterKept, Kept}

-- ---- tests

none {ℓ} : {A : Type ℓ} (p : A → Bool) (l : List A) → not (has p l) ≡ true → count_if p l ≡ 0
none p l h = has_false p l (not-true _ h)

failed : (b : Bool) → bit b ≡ 0 → b ≡ false
failed true h = let z : ⊥ = omega arith in absurd z
failed false h = refl

-- ---- the roster

acceptable_kept : (total : ℕ) (r : List Terms) → acceptable total r ≡ true → RosterKept total r
unfolding acceptable
acceptable_kept total r h =
    let a = both (not (has (bad_share total) r) && no_two same_address r) (leb (guarantees r) total) h in
    let b = both (not (has (bad_share total) r)) (no_two same_address r) a.0 in
    record {
      shares = none (bad_share total) r b.0;
      apart = acceptable_apart total r h;
      sum = leb-true (guarantees r) total a.1;
    }

empty_kept : (total : ℕ) → RosterKept total []
empty_kept total = record { shares = refl; apart = λ a. omega arith; sum = omega arith }

-- what an acceptable (or empty) roster has
pub roster_kept : (t : Table) → roster_holds t ≡ true → RosterKept (total_of t) (roster t)
roster_kept t h = ⊎_elim (λ e. rw e (empty_kept (total_of t))) (λ a. acceptable_kept (total_of t) (roster t) a) (roster_cases t h)

-- a guarantee is within its limit
pub guarantee_within : (total : ℕ) (r : List Terms) (a : ℕ) → count_if (bad_share total) r ≡ 0 → guarantee_of r a ≤ limit_of r a
unfolding bad_share
guarantee_within total [] a h = omega arith
guarantee_within total (c ∷ r) a h = by (is_at a c) (guarantee_within total r a (omega arith))
  where
    last : (p s : Bool) → (p || s) ≡ false → s ≡ false
    last true s h = cc
    last false s h = h

    by : (b : Bool) → guarantee_of r a ≤ limit_of r a → cond b c.guarantee (guarantee_of r a) ≤ cond b c.limit (limit_of r a)
    by true i =
        let good : bad_share total c ≡ false = failed (bad_share total c) (omega arith) in
        ltb-false c.limit c.guarantee (last (eqb c.limit 0 || ltb total c.limit) (ltb c.limit c.guarantee) good)
    by false i = i

-- ---- the limits, as one test of every customer

over_none : (r : List Terms) (l : List Entry) → ((a : ℕ) → count_if (is_at a) r ≤ 1) → ((a : ℕ) → is_listed r a ≡ true → calls_of l a ≤ limit_of r a)
    → count_if (over_limit l) r ≡ 0
over_none [] l d h = refl
over_none (c ∷ r) l d h = rw (le-ltb c.limit (calls_of l c.address) here, over_none r l (λ a. omega (arith, d a)) rest)
  where
    here : calls_of l c.address ≤ c.limit
    here = rw (self c.address) at (h c.address (true_has (is_at c.address) (c ∷ r) (omega (arith, ap bit (self c.address)))))

    rest : (a : ℕ) → is_listed r a ≡ true → calls_of l a ≤ limit_of r a
    rest a g = by (is_at a c) refl
      where
        by : (b : Bool) → is_at a c ≡ b → calls_of l a ≤ limit_of r a
        by true q = let z : ⊥ = omega (arith, d a, ap bit q, has_true (is_at a) r g) in absurd z
        by false q = rw q at (h a (true_has (is_at a) (c ∷ r) (omega (arith, has_true (is_at a) r g))))

none_over : (r : List Terms) (l : List Entry) → count_if (over_limit l) r ≡ 0 → (a : ℕ) → is_listed r a ≡ true → calls_of l a ≤ limit_of r a
none_over [] l h a g = let z : ⊥ = omega (arith, has_true (is_at a) [] g) in absurd z
none_over (c ∷ r) l h a g = by (is_at a c) refl (has_true (is_at a) (c ∷ r) g) (none_over r l (omega arith) a)
  where
    by : (b : Bool) → is_at a c ≡ b → 0 < bit b + count_if (is_at a) r → (is_listed r a ≡ true → calls_of l a ≤ limit_of r a)
        → calls_of l a ≤ cond b c.limit (limit_of r a)
    by true q g i =
        let e : a ≡ c.address = eqb-true _ _ q in
        rw e (ltb-false c.limit (calls_of l c.address) (failed (over_limit l c) (omega arith)))
    by false q g i = i (true_has (is_at a) r (omega arith))

-- ---- all rules

named : (u w : Bool) → (not u || w) ≡ true → u ≡ true → w ≡ true
named true w h e = h
named false w h e = cc

said : (u w : Bool) → (u ≡ true → w ≡ true) → (not u || w) ≡ true
said true w h = h refl
said false w h = refl

-- the test says the rules, of any table
pub rules_kept : (t : Table) → rules_hold t ≡ true → Kept t
unfolding rules_hold
rules_kept t h =
    let zeros = both _ (holds free_holds_zeros t) h in
    let once = both _ (holds connections_once t) zeros.0 in
    let past = both _ (holds refreshes_past t) once.0 in
    let names = both _ (holds names_and_ids t) past.0 in
    let requests = both _ (holds requests_once t) names.0 in
    let longs = both _ (holds long_ids_once t) requests.0 in
    let shorts = both _ (holds short_ids_once t) longs.0 in
    let room = both _ (holds share_within_total t) shorts.0 in
    let limits = both _ (holds within_limits t) room.0 in
    let senders = both _ (holds senders_listed t) limits.0 in
    let within = both (holds roster_acceptable t) (holds slots_within_total t) senders.0 in
    let clear = both (every_below (slot_free_clear t) slots) (every_below (record_free_clear t) 8) zeros.1 in
    record {
      accepted = within.0;
      within = used_within t within.1;
      calls = record {
        senders = none (unlisted (roster t)) (entries t) senders.1;
        limits = none_over (roster t) (entries t) (none (over_limit (entries t)) (roster t) limits.1);
        room = leb-true (S (roster t) (entries t)) (total_of t) room.1;
        shorts = no_two_once same_short (λ (e : Entry). e.ids) short_alike (entries t) shorts.1;
        longs = no_two_once same_long (λ (e : Entry). e.ids) long_alike (entries t) longs.1;
        requests = no_two_once same_request (λ (e : Entry). e) request_alike (entries t) requests.1;
      };
      once = no_two_once same_connection (λ (x : Held). x) lsp_alike (held t) once.1;
      names = λ i l. named (is_used t.occupied i) (valid_ids (call_at t i)) (every_at _ slots names.1 i l);
      refreshes = λ i l u. leb-true (call_at t i).refreshed t.time (named (is_used t.occupied i) (leb (call_at t i).refreshed t.time) (every_at _ slots past.1 i l) u);
      slots = every_at (slot_free_clear t) slots clear.0;
      records = every_at (record_free_clear t) 8 clear.1;
    }

-- the rules pass the test
pub kept_rules : (t : Table) → Kept t → rules_hold t ≡ true
unfolding rules_hold
kept_rules t k =
    rw (
      k.accepted,
      every_within (λ i. not (is_used t.occupied i) || ltb i (total_of t)) bits (λ i l. said _ _ (λ u. lt-ltb i (total_of t) (k.within i l u))),
      false_has (unlisted (roster t)) (entries t) k.calls.senders,
      false_has (over_limit (entries t)) (roster t) (over_none (roster t) (entries t) (roster_kept t k.accepted).apart k.calls.limits),
      le-leb (S (roster t) (entries t)) (total_of t) k.calls.room,
      once_no_two same_short (λ (e : Entry). e.ids) short_alike (λ b c h. short_self b) (entries t) k.calls.shorts,
      once_no_two same_long (λ (e : Entry). e.ids) long_alike (λ b c h. long_self b) (entries t) k.calls.longs,
      once_no_two same_request (λ (e : Entry). e) request_alike request_self (entries t) k.calls.requests,
      every_within (λ i. not (is_used t.occupied i) || valid_ids (call_at t i)) slots (λ i l. said _ _ (k.names i l)),
      every_within (λ i. not (is_used t.occupied i) || leb (call_at t i).refreshed t.time) slots (λ i l. said _ _ (λ u. le-leb (call_at t i).refreshed t.time (k.refreshes i l u))),
      once_no_two same_connection (λ (x : Held). x) lsp_alike (λ x y h. lsp_self x) (held t) k.once,
      every_within (slot_free_clear t) slots k.slots,
      every_within (record_free_clear t) 8 k.records,
    )

-- at most eight customers are listed
pub listed_most : (t : Table) → roster_holds t ≡ true → t.listed ≤ 8
unfolding roster_holds
listed_most t h = by (eqb t.listed 0) refl h
  where
    by : (b : Bool) → eqb t.listed 0 ≡ b
        → cond b (eqb t.form 0 && eqb t.address 0 && eqb t.epoch 0) ((eqb t.form 1 || eqb t.form 2) && leb t.listed 8 && ltb t.epoch 0x1000000 && acceptable (total_of t) (roster t)) ≡ true → t.listed ≤ 8
    by true e h = omega (arith, eqb-true t.listed 0 e)
    by false e h =
        leb-true t.listed 8
        (both (eqb t.form 1 || eqb t.form 2) (leb t.listed 8)
        (both _ (ltb t.epoch 0x1000000) (both ((eqb t.form 1 || eqb t.form 2) && leb t.listed 8 && ltb t.epoch 0x1000000) (acceptable (total_of t) (roster t)) h).0).0).1
