-- A call with connections stays: neither the closings nor the message take it away.
-- Assumes nothing.
use Prim.Native.Nat.{ℕ, ◌≤◌, ◌<◌}
use native.Mathlib.Omega.{arith}
use mathlib.Core.Path.{◌≡◌, refl}
use mathlib.Core.List.{List}
use mathlib.Core.Bool.{Bool, true, false, cond, not, ◌&&◌}
use lib.Dec.{eqb}
use borrow.Author.Tests.{eqb-true, ne_eqb}
use Rattle.lists.specs.Count.{count_if, has, without}
use Rattle.lists.proofs.Tests.{both}
use Rattle.lists.proofs.Count.{has_true, has_false, true_has, has_nothing, has_less, count_ext, count_le, count_split, count_without}
use Rattle.messages.specs.declared.message.Message.{Message}
use Rattle.messages.specs.declared.message.Message.TheVariants.{Open, Close, Add, Drop}
use Rattle.std.specs.Prelude.{Ok, Err}
use Rattle.messages.specs.declared.read.Refusal.TheVariants.{Misformed, Unfit}
use Rattle.messages.specs.Read.{Reading, read_of}
use Rattle.table.specs.Table.{Table}
use Rattle.table.specs.Total.{total_of}
use Rattle.table.specs.Lists.{Ids, Entry, call_at, ids_of, entries, Held, held}
use Rattle.table.specs.Rules.{same_pair, same_short, same_long}
use Rattle.spec_changes.specs.Calls.{is_call, slot_of}
use Rattle.spec_changes.specs.Connections.{is_call_of, call_missing, is_under}
use Rattle.spec_changes.proofs.Slot.{found_slot}
use Rattle.spec_changes.proofs.Valid.{ids_named}
use Rattle.spec_changes.proofs.Told.{rules_kept}
use Rattle.spec_changes.proofs.CallMissing.{no_call_missing}
use Rattle.answers.specs.Answers.{is}
use Rattle.spec_calls.specs.CallRules.{is_open}
use Rattle.spec_promises.specs.Ledger.{four_of, message_opened, read_opened, with_opened, is_closed, dropped}
use Rattle.spec_promises.specs.Promises.{Input, fed, table_then, table_found, Agrees}
use Rattle.spec_promises.specs.Claims.{BusyCallStays}
use Rattle.spec_promises.proofs.Step.{found_agrees, found_held, step_agrees, step_closes}
use Rattle.spec_promises.proofs.Connections.{connection_stays}

-- two calls in one slot are the same to every connection
same_under : (c d e : Ids) → same_short c e ≡ true → same_short d e ≡ true → (x : Held) → is_under c x ≡ is_under d x
unfolding same_short
same_under c d e p q x =
    let a = both (same_pair c e) (eqb c.short e.short) p in
    let b = both (eqb c.endpoint e.endpoint) (eqb c.sender e.sender) a.0 in
    let f = both (same_pair d e) (eqb d.short e.short) q in
    let g = both (eqb d.endpoint e.endpoint) (eqb d.sender e.sender) f.0 in
    rw (
      eqb-true c.short e.short a.1,
      eqb-true c.endpoint e.endpoint b.0,
      eqb-true c.sender e.sender b.1,
      eqb-true d.short e.short f.1,
      eqb-true d.endpoint e.endpoint g.0,
      eqb-true d.sender e.sender g.1,
    )

-- a call with connections is none of the calls that an entry of a call without any could be
apart_from : (h : List Held) (c d : Ids) → has (is_under c) h ≡ true → count_if (is_under d) h ≡ 0 → (e : Entry) → (is_call d e && is_call c e) ≡ false
apart_from h c d busy idle e = by (is_call d e) (is_call c e) refl refl
  where
    by : (a b : Bool) → is_call d e ≡ a → is_call c e ≡ b → (a && b) ≡ false
    by true true p q =
        let m = both (same_short d e.ids) (same_long d e.ids) p in
        let n = both (same_short c e.ids) (same_long c e.ids) q in
        let z : ⊥ = omega (arith, has_true (is_under c) h busy, count_ext (is_under c) (is_under d) h (same_under c d e.ids n.0 m.0)) in
        absurd z
    by true false p q = refl
    by false b p q = refl

-- an opening takes no entry away
opened_more : (total : ℕ) (l : List Entry) (s : List ℕ) (p : Entry → Bool) → count_if p l ≤ count_if p (with_opened total l s)
unfolding with_opened
opened_more total l s p = by (read_of s)
  where
    of : (m : Message) → count_if p l ≤ count_if p (message_opened total l s m)
    of (Open q) = omega arith
    of (Close q) = omega arith
    of (Add c) = omega arith
    of (Drop c) = omega arith

    by : (r : Reading) → count_if p l ≤ count_if p (read_opened total l s r)
    by (Err (Misformed fault offset headers)) = omega arith
    by (Err (Unfit fault sender headers)) = omega arith
    by (Ok read) = of read.message

stays : (l k : List Entry) (c d : Ids) (b r : Bool) → count_if (is_call c) l ≤ count_if (is_call c) k → (r ≡ true → (e : Entry) → (is_call d e && is_call c e) ≡ false)
    → 0 < count_if (is_call c) l → 0 < count_if (is_call c) (cond b k (cond r (without (is_call d) l) l))
stays l k c d true r more apart h = omega arith
stays l k c d false true more apart h =
    omega (
      arith,
      count_without (is_call c) (is_call d) l,
      count_split (is_call c) (is_call d) l,
      has_false (λ e. is_call d e && is_call c e) l (has_nothing (λ e. is_call d e && is_call c e) l (apart refl)),
    )
stays l k c d false false more apart h = h

-- an open call's short ID is not 0
busy_named : (t : Table) (l : List Entry) → Agrees t l → (c : Ids) → is_open (entries t) c ≡ true → eqb c.short 0 ≡ false
unfolding same_short
busy_named t l g c known =
    let f = found_slot t (is_call c) (has_true (is_call c) (entries t) known) in
    let d = call_at t (slot_of t (is_call c)) in
    let m = (both (same_short c (ids_of d)) (same_long c (ids_of d)) f.2).0 in
    let e : c.short ≡ d.id = eqb-true c.short d.id (both (same_pair c (ids_of d)) (eqb c.short d.id) m).1 in
    ne_eqb c.short 0 (λ z. omega (arith, e, (ids_named d ((rules_kept t g.rules).names (slot_of t (is_call c)) f.0 f.1)).some))

-- what stands under a call names it: any call that it names has that pair and short ID
names_it : (c : Ids) (x : Held) (e : Entry) → is_under c x ≡ true → is_call_of x e ≡ true → same_short c e.ids ≡ true
unfolding same_short
names_it c x e h k =
    let a = both (eqb x.call c.short && eqb x.lsp.endpoint c.endpoint) (eqb x.lsp.sender c.sender) h in
    let b = both (eqb x.call c.short) (eqb x.lsp.endpoint c.endpoint) a.0 in
    rw (← (eqb-true x.call c.short b.0), ← (eqb-true x.lsp.endpoint c.endpoint b.1), ← (eqb-true x.lsp.sender c.sender a.1)) (turned k)
  where
    turned : (eqb x.call e.ids.short && eqb x.lsp.endpoint e.ids.endpoint && eqb x.lsp.sender e.ids.sender) ≡ true
        → (eqb x.lsp.endpoint e.ids.endpoint && eqb x.lsp.sender e.ids.sender && eqb x.call e.ids.short) ≡ true
    turned = by (eqb x.call e.ids.short) (eqb x.lsp.endpoint e.ids.endpoint) (eqb x.lsp.sender e.ids.sender)
      where
        by : (a b d : Bool) → (a && b && d) ≡ true → (b && d && a) ≡ true
        by true true true h = refl
        by true true false h = cc
        by true false d h = cc
        by false b d h = cc

-- where a connection stands under a call, its pair and short ID are open
under_open : (t : Table) (c : Ids) → eqb c.short 0 ≡ false → has (is_under c) (held t) ≡ true → has (λ e. same_short c e.ids) (entries t) ≡ true
under_open t c n busy = by (has (λ e. same_short c e.ids) (entries t)) refl
  where
    missing : has (λ e. same_short c e.ids) (entries t) ≡ false → (x : Held) → is_under c x ≡ true → call_missing (entries t) x ≡ true
    missing none x h =
        let a = both (eqb x.call c.short && eqb x.lsp.endpoint c.endpoint) (eqb x.lsp.sender c.sender) h in
        rw (
          has_less (is_call_of x) (λ e. same_short c e.ids) (entries t) (λ e q. names_it c x e h q) none,
          eqb-true x.call c.short (both (eqb x.call c.short) (eqb x.lsp.endpoint c.endpoint) a.0).0,
          n,
        )

    by : (b : Bool) → has (λ e. same_short c e.ids) (entries t) ≡ b → b ≡ true
    by true e = refl
    by false e =
        let z : ⊥ = omega (arith, has_true (is_under c) (held t) busy, count_le (is_under c) (call_missing (entries t)) (held t) (missing e), has_false _ (held t) (no_call_missing t)) in
        absurd z

-- the closings leave a call with connections: its connections stand under an open call, and no other has its pair and short ID
busy_found : (t : Table) (l : List Entry) (g : Agrees t l) (x : Input) (c : Ids) → is_open (entries t) c ≡ true → has (is_under c) (held t) ≡ true
    → 0 < count_if (is_call c) (dropped (fed t x).closings l)
busy_found t l g x c known busy =
    omega (
      arith,
      (found_agrees t l g x).calls (is_call c),
      count_split short (is_call c) (entries u),
      count_split short (is_call c) (entries t),
      count_le (λ e. is_call c e && short e) (is_call c) (entries u) (λ e q. (both (is_call c e) (short e) q).0),
      count_le (is_call c) (λ e. is_call c e && short e) (entries t) named,
      (rules_kept t g.rules).calls.shorts c,
      has_true (is_call c) (entries t) known,
      some,
      fewer (λ e. not (is_call c e) && short e),
    )
  where
    u : Table
    u = table_found t x

    short : Entry → Bool
    short e = same_short c e.ids

    named : (e : Entry) → is_call c e ≡ true → (is_call c e && short e) ≡ true
    named e q = rw (q, (both (same_short c e.ids) (same_long c e.ids) q).0)

    -- the closings open nothing
    fewer : (p : Entry → Bool) → count_if p (entries u) ≤ count_if p (entries t)
    fewer p =
        omega (
          arith,
          (found_agrees t l g x).calls p,
          g.calls p,
          count_without p (is_closed (fed t x).closings) l,
          count_le (λ e. not (is_closed (fed t x).closings e) && p e) p l (λ e q. (both (not (is_closed (fed t x).closings e)) (p e) q).1),
        )

    some : 0 < count_if short (entries u)
    some = has_true short (entries u) (under_open u c (busy_named t l g c known) (rw (found_held t l g x) busy))

pub busy_call_stays : BusyCallStays
busy_call_stays t l g x c known busy = (still, λ y under. connection_stays t l g x y)
  where
    k : List Entry
    k = dropped (fed t x).closings l

    still : is_open (entries (table_then t x)) c ≡ true
    still =
        true_has (is_call c) (entries (table_then t x))
        (rw ((step_agrees t l g x).calls (is_call c))
        (stays k (with_opened (total_of t) k x.message) c (four_of x.message) (is 20 (fed t x).answer) (is 22 (fed t x).answer) (opened_more (total_of t) k x.message (is_call c))
        (λ e. apart_from (held t) c (four_of x.message) busy (step_closes t l g x e).1)
        (busy_found t l g x c known busy)))
