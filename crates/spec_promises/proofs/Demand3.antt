-- Demand 3 (01, The ledger behind demand 3): the answers keep the ledger's promises, over every list of messages.
-- Assumes nothing.
use Rattle.std.specs.Prelude.{Ok, Err}
use Prim.Native.Nat.{ℕ, ◌+◌, ◌≤◌, ◌<◌}
use native.Mathlib.Omega.{arith}
use mathlib.Core.Path.{◌≡◌, refl, sym, ap, ◌∙◌, subst}
use mathlib.Core.Logic.{◌≢◌}
use mathlib.Core.List.{List, [], ◌∷◌}
use mathlib.Core.Bool.{Bool, true, false, cond, ◌&&◌}
use lib.Dec.{eqb}
use lib.ListN.{length}
use borrow.Author.Tests.{eqb-true, eqb-false}
use Rattle.numbers.specs.BigEndian.{Bytes}
use Rattle.lists.specs.Count.{bit, count_if, without}
use Rattle.lists.proofs.Tests.{both}
use Rattle.lists.proofs.Count.{count_le, count_split, count_without, count_share, without_same}
use Rattle.messages.specs.declared.message.CallRequest.{CallRequest}
use Rattle.messages.specs.declared.message.Message.TheVariants.{Open, Close, Add, Drop}
use Rattle.table.specs.declared.answer.RosterFault.TheVariants.{Short, BadForm, Length, SpareBits, Share, Repeated, Guarantees}
use Rattle.table.specs.Table.{Table}
use Rattle.table.specs.Total.{total_for, total_of}
use Rattle.table.specs.Lists.{Terms, roster, Ids, Entry, entries, Held, held}
use Rattle.table.specs.Share.{is_listed, limit_of, from, calls_of}
use Rattle.table.specs.Rules.{same_pair, same_short, same_long, is_lsp}
use Rattle.table.specs.Roster.{RosterAnswer, Accepted, roster_number, customers_in, total_in, records_in, roster_answer, fresh_table, table_for}
use Rattle.table.proofs.Fresh.{fresh_holds, fresh_roster, fresh_entries, fresh_held}
use Rattle.spec_changes.specs.Calls.{is_call}
use Rattle.spec_changes.proofs.Told.{roster_kept, guarantee_within, rules_kept}
use Rattle.spec_changes.specs.Last.{Last, none, last_of}
use Rattle.spec_changes.proofs.Fresh.{fresh_shape, fresh_last}
use Rattle.answers.specs.declared.answer.Answer.{Answer}
use Rattle.answers.specs.Answers.{answer_number, is}
use Rattle.spec_calls.specs.Form.{Form, faulty, sound, form_of}
use Rattle.spec_calls.specs.CallRules.{ids_in, is_retry, short_taken, long_taken}
use Rattle.spec_calls.specs.PathRules.{lsp_of, held_by}
use Rattle.spec_calls.specs.Handling.{form_answer, answer_from2}
use Rattle.spec_promises.specs.Ledger.{Fed, four_of, with_opened, feed, dropped, ledger, feed_last, last_in, answered, lapsed}
use Rattle.spec_promises.specs.Connections.{held_of, feed_held, connections_after}
use Rattle.spec_promises.specs.Promises.{Input, fed, table_then, table_found, AtEveryStep, due_answer, Promised, Agrees, Remembers}
use Rattle.spec_promises.specs.Claims.{Demand3, Demand3From, AgreesThroughout, AgreesFrom, LastAgrees, LastAgreesFrom, OvertakenClose, ConnectionsThroughout, ConnectionsFrom}
use Rattle.spec_calls.proofs.Decided.{open_never, open_same, close_never, add_never, drop_never}
use Rattle.spec_promises.proofs.Due.{open_due}
use Rattle.spec_promises.proofs.Formed.{Says, form_says}
use Rattle.spec_promises.proofs.Step.{found_agrees, found_roster, found_total, answer_found, step_agrees, step_roster, step_opens, step_closes, step_held}
use Rattle.spec_promises.proofs.Named.{form_stays, found_sound, retry_is_21, setup_cause}
use Rattle.spec_promises.proofs.Lapsed.{found_counted, closings_promised}
use Rattle.spec_promises.proofs.Late.{form_same, step_last, late_unchanged, overtaken}

-- ---- opened is count and closed

call_sender : (c : Ids) (e : Entry) → is_call c e ≡ true → c.sender ≡ e.ids.sender
unfolding same_short
call_sender c e h =
    let k = both (same_short c e.ids) (same_long c e.ids) h in
    let m = both (same_pair c e.ids) (eqb c.short e.ids.short) k.0 in
    eqb-true _ _ (both (eqb c.endpoint e.ids.endpoint) (eqb c.sender e.ids.sender) m.0).1

-- a call that stands once is one less when taken out
one_less : (a : ℕ) (l : List Entry) (c : Ids) → 0 < count_if (is_call c) l → count_if (λ e. same_short c e.ids) l ≤ 1
    → calls_of l a ≡ calls_of (without (is_call c) l) a + bit (eqb c.sender a)
one_less a l c h once =
    by (eqb c.sender a) (count_share (from a) (is_call c) (eqb c.sender a) l (λ e q. ap (λ n. eqb n a) (sym (call_sender c e q))))
  where
    by : (b : Bool) → count_if (λ e. is_call c e && from a e) l ≡ cond b (count_if (is_call c) l) 0 → calls_of l a ≡ calls_of (without (is_call c) l) a + bit b
    by true p =
        omega (
          arith,
          count_split (from a) (is_call c) l,
          count_without (from a) (is_call c) l,
          count_le (is_call c) (λ e. same_short c e.ids) l (λ e q. (both (same_short c e.ids) (same_long c e.ids) q).0),
        )
    by false p = omega (arith, count_split (from a) (is_call c) l, count_without (from a) (is_call c) l)

sums_by : (a : ℕ) (l m : List Entry) (c : Ids) (b d : Bool) (o k : ℕ) → (b ≡ true → d ≡ false) → (b ≡ true → calls_of m a ≡ bit (eqb c.sender a) + calls_of l a)
    → (d ≡ true → 0 < count_if (is_call c) l) → count_if (λ e. same_short c e.ids) l ≤ 1 → o ≡ calls_of l a + k
    → bit (b && eqb c.sender a) + o ≡ calls_of (cond b m (cond d (without (is_call c) l) l)) a + (bit (d && eqb c.sender a) + k)
sums_by a l m c true d o k n e f u h = rw (n refl) (omega (arith, e refl))
sums_by a l m c false true o k n e f u h = omega (arith, one_less a l c (f refl) u)
sums_by a l m c false false o k n e f u h = omega arith

-- no answer is both
not_both : (a : Answer) → is 20 a ≡ true → is 22 a ≡ false
not_both a h = rw (eqb-true (answer_number a) 20 h)

module _ (t : Table) where
  form_never_1 : (s : List ℕ) (f : Form) → Says (roster t) s f → is 1 (form_answer t s f) ≡ false
  form_never_1 s (faulty a) i = i.not1
  form_never_1 s (sound (Open q)) i = open_never (total_of t) (roster t) (entries t) s q 1 refl refl refl refl refl
  form_never_1 s (sound (Close q)) i = close_never (entries t) (held t) (ids_in s q) 1 refl refl refl
  form_never_1 s (sound (Add c)) i = add_never (entries t) (held t) (held_by c) 1 refl refl refl refl refl
  form_never_1 s (sound (Drop c)) i = drop_never (held t) (lsp_of c.lsp) 1 refl refl

-- ---- what the ledger promises of one message

module _ (t : Table) (l : List Entry) (g : Agrees t l) where
  module _ (x : Input) where
    abbrev found : List Entry
    found = dropped (fed t x).closings l

    never_one_lem : answer_number (fed t x).answer ≢ 1
    never_one_lem = eqb-false _ _ (by (table_found t x) (fed t x).answer (answer_found t l g x))
      where
        by : (u : Table) (a : Answer) → a ≡ answer_from2 u x.message (length x.buffer) → is 1 a ≡ false
        by u a e = rw e (form_never_1 u x.message (form_of (roster u) (last_of u) x.message (length x.buffer)) (form_says (roster u) (last_of u) x.message (length x.buffer)))

    -- a customer's calls are those that the closings leave and those that they list
    lapsed_counted : (a : ℕ) → calls_of l a ≡ calls_of found a + count_if (λ c. eqb c.address a) (fed t x).closings
    lapsed_counted a = omega (arith, g.calls (from a), (found_agrees t l g x).calls (from a), found_counted t l g x a)

    counted : (a o k : ℕ) → o ≡ calls_of found a + k
        → bit (is 20 (fed t x).answer && eqb (four_of x.message).sender a) + o
        ≡ calls_of (feed (total_of t) (fed t x) found) a + (bit (is 22 (fed t x).answer && eqb (four_of x.message).sender a) + k)
    counted a o k e =
        sums_by a found (with_opened (total_of t) found x.message) (four_of x.message) (is 20 (fed t x).answer) (is 22 (fed t x).answer) o k
        (not_both (fed t x).answer)
        (λ e. step_opens t l g x e a)
        (λ q. (step_closes t l g x q).0)
        (rw (← ((found_agrees t l g x).calls (λ e. same_short (four_of x.message) e.ids))) ((rules_kept (table_found t x) (found_agrees t l g x).rules).calls.shorts (four_of x.message))) e

    limited : (a : ℕ) → is_listed (roster t) a ≡ true → calls_of (feed (total_of t) (fed t x) found) a ≤ limit_of (roster t) a
    limited a known =
        let n = step_agrees t l g x in
        rw (← (n.calls (from a)), ← (step_roster t l g x)) ((rules_kept (table_then t x) n.rules).calls.limits a (rw (step_roster t l g x) known))

    due : (q : CallRequest) → form_of (roster t) (last_of t) x.message (length x.buffer) ≡ sound (Open q)
        → is_retry found x.message q ≡ false → long_taken found x.message q ≡ false → short_taken found x.message q ≡ false
        → answer_number (fed t x).answer ≡ due_answer (total_of t) (roster t) found q.sender
    due q e a b c =
        by (table_found t x) (fed t x).answer found (found_total t l g x) (found_roster t l g x) (answer_found t l g x) (found_sound t l g x q e) (found_agrees t l g x) a b c
      where
        by : (u : Table) (d : Answer) (k : List Entry) → total_of u ≡ total_of t → roster u ≡ roster t → d ≡ answer_from2 u x.message (length x.buffer)
            → form_of (roster u) (last_of u) x.message (length x.buffer) ≡ sound (Open q) → Agrees u k
            → is_retry k x.message q ≡ false → long_taken k x.message q ≡ false → short_taken k x.message q ≡ false
            → answer_number d ≡ due_answer (total_of t) (roster t) k q.sender
        by u d k n r e f h a b c =
            rw (e, f, open_same (total_of u) (roster u) (entries u) k x.message q h.calls, n, r)
            (open_due (total_of t) (roster t) k x.message q
            (guarantee_within (total_of t) (roster t) q.sender (roster_kept t (rules_kept t g.rules).accepted).shares) a b c)

-- ---- the whole list

-- the calls opened, those at the start among them, are the count plus the calls closed and those that nobody refreshed
abbrev Counted : ℕ → List Entry → List Fed → Type 0
Counted total start h = (sender : ℕ) → calls_of start sender + answered 20 sender h ≡ calls_of (ledger total start h) sender + (answered 22 sender h + lapsed sender h)

module _ (t : Table) (start : List Entry) (h : List Fed) (x : Input) where
  abbrev entered : List Entry
  entered = ledger (total_of t) start h

  step_counted : Agrees t entered → Counted (total_of t) start h → Counted (total_of t) start (fed t x ∷ h)
  step_counted g u a =
      omega (
        arith,
        counted t entered g x a (calls_of start a + answered 20 a h) (answered 22 a h + lapsed a h + count_if (λ c. eqb c.address a) (fed t x).closings) (omega (arith, u a, lapsed_counted t entered g x a)),
      )

  -- a message of no fault by the list has none by the table
  no_fault : Remembers t (last_in h) → (q : CallRequest) → form_of (roster t) (last_in h) x.message (length x.buffer) ≡ sound (Open q)
      → form_of (roster t) (last_of t) x.message (length x.buffer) ≡ sound (Open q)
  no_fault rem q e = form_same t h rem x.message (length x.buffer) ∙ e

  step_promised : Agrees t entered → Remembers t (last_in h) → Counted (total_of t) start h → Promised (total_of t) (roster t) start t h x
  step_promised g rem u = record {
    never_one = never_one_lem t entered g x;
    defined = answer_found t entered g x;
    closings = closings_promised t entered g x;
    counted = step_counted g u;
    limited = limited t entered g x;
    due = λ q e. due t entered g x q (no_fault rem q e);
    retried = λ q e known. (retry_is_21 t entered g x q (no_fault rem q e) known).0;
    caused = λ q e. setup_cause t entered g x q (no_fault rem q e);
  }

-- what holds at every point of a run that began with this total and roster, these entries and these connections
record Running (total : ℕ) (r : List Terms) (start : List Entry) (lit : List Held) (t : Table) (h : List Fed) : Type 0 where
  pub total_is : total_of t ≡ total
  pub roster : roster t ≡ r
  pub agrees : Agrees t (ledger total start h)
  pub lasts : Remembers t (last_in h)
  pub counted : Counted total start h
  pub connections : (p : Held → Bool) → count_if p (held t) ≡ count_if p (connections_after lit h)

-- lists of connections that count alike do so after the next message
feed_same : (e : Fed) (k l : List Held) → ((p : Held → Bool) → count_if p k ≡ count_if p l) → (p : Held → Bool) → count_if p (feed_held e k) ≡ count_if p (feed_held e l)
feed_same e k l h p = by (is 23 e.answer) (is 25 e.answer)
  where
    by : (b d : Bool)
        → count_if p (cond b (held_of e.message ∷ k) (cond d (without (is_lsp (held_of e.message).lsp) k) k))
        ≡ count_if p (cond b (held_of e.message ∷ l) (cond d (without (is_lsp (held_of e.message).lsp) l) l))
    by true d = ap (λ n. bit (p (held_of e.message)) + n) (h p)
    by false true = without_same (is_lsp (held_of e.message).lsp) k l h p
    by false false = h p

module _ (total : ℕ) (r : List Terms) (start : List Entry) (lit : List Held) where
  running_on : (t : Table) (h : List Fed) (x : Input) → Running total r start lit t h → Running total r start lit (table_then t x) (fed t x ∷ h)
  running_on t h x i = record {
    total_is = ap total_for (form_stays t x) ∙ i.total_is;
    roster = step_roster t (ledger total start h) i.agrees x ∙ i.roster;
    agrees = subst (λ n. Agrees (table_then t x) (feed n (fed t x) (dropped (fed t x).closings (ledger total start h)))) i.total_is (step_agrees t (ledger total start h) i.agrees x);
    lasts = λ sender known. let known : is_listed (roster t) sender ≡ true = rw (step_roster t (ledger total start h) i.agrees x) at known in
        step_last t (ledger total start h) i.agrees x sender known ∙ ap (λ (k : Last). feed_last sender (fed t x) k) (i.lasts sender known);
    counted = subst (λ n. Agrees t (ledger n start h) → Counted n start h → Counted n start (fed t x ∷ h)) i.total_is (step_counted t start h x) i.agrees i.counted;
    connections = λ p. step_held t (ledger total start h) i.agrees x p ∙ feed_same (fed t x) (held t) (connections_after lit h) i.connections p;
  }

  -- what follows from that at one step holds at every step
  at_every_step : (P : Table → List Fed → Input → Type 0) → ((t : Table) (h : List Fed) (x : Input) → Running total r start lit t h → P t h x)
      → (xs : List Input) (t : Table) (h : List Fed) → Running total r start lit t h → AtEveryStep P t h xs
  at_every_step P f [] t h i = tt
  at_every_step P f (x ∷ xs) t h i = (f t h x i, at_every_step P f xs (table_then t x) (fed t x ∷ h) (running_on t h x i))

  promised : (t : Table) (h : List Fed) (x : Input) → Running total r start lit t h → Promised total r start t h x
  promised t h x i =
      subst (λ r. Promised total r start t h x) i.roster
      (subst (λ n. Agrees t (ledger n start h) → Remembers t (last_in h) → Counted n start h → Promised n (roster t) start t h x) i.total_is (step_promised t start h x) i.agrees i.lasts i.counted)

-- ---- from any table that agrees with a ledger's entries at the start

module _ (t : Table) (start : List Entry) (g : Agrees t start) (rem : Remembers t (last_in [])) (xs : List Input) where
  from_start : (P : Table → List Fed → Input → Type 0) → ((u : Table) (h : List Fed) (x : Input) → Running (total_of t) (roster t) start (held t) u h → P u h x) → AtEveryStep P t [] xs
  from_start P f = at_every_step (total_of t) (roster t) start (held t) P f xs t [] (record { total_is = refl; roster = refl; agrees = g; lasts = rem; counted = λ a. refl; connections = λ p. refl })

pub demand3_from : Demand3From
demand3_from t start g rem xs = from_start t start g rem xs _ (promised (total_of t) (roster t) start (held t))

pub agrees_from : AgreesFrom
agrees_from t start g rem xs = from_start t start g rem xs _ (λ u h x i. i.agrees)

pub last_agrees_from : LastAgreesFrom
last_agrees_from t start g rem xs = from_start t start g rem xs _ (λ u h x i. i.lasts)

pub connections_from : ConnectionsFrom
connections_from t start g rem xs = from_start t start g rem xs _ (λ u h x i. i.connections)

-- ---- from the table of an accepted roster, which has no calls and no connections

pub fresh_agrees : (s : List ℕ) → Bytes s → roster_answer s ≡ Accepted → Agrees (fresh_table s) []
fresh_agrees s bytes e = record { shape = fresh_shape s; rules = fresh_holds s bytes e; calls = λ p. rw (fresh_entries s) }

-- 0 is the accepted roster's answer, which returns the fresh table
pub accepted : (a : RosterAnswer) → roster_number a ≡ 0 → a ≡ Accepted
accepted (Ok _) e = refl
accepted (Err Short) e = let z : ⊥ = omega arith in absurd z
accepted (Err BadForm) e = let z : ⊥ = omega arith in absurd z
accepted (Err Length) e = let z : ⊥ = omega arith in absurd z
accepted (Err SpareBits) e = let z : ⊥ = omega arith in absurd z
accepted (Err Share) e = let z : ⊥ = omega arith in absurd z
accepted (Err Repeated) e = let z : ⊥ = omega arith in absurd z
accepted (Err Guarantees) e = let z : ⊥ = omega arith in absurd z

table_agrees : (s : List ℕ) → Bytes s → roster_number (roster_answer s) ≡ 0 → Agrees (table_for (roster_answer s) s) []
unfolding table_for
table_agrees s bytes e = let a = accepted (roster_answer s) e in rw a (fresh_agrees s bytes a)

pub fresh_remembers : (s : List ℕ) → Remembers (fresh_table s) (last_in [])
fresh_remembers s sender known = fresh_last s sender known

table_remembers : (s : List ℕ) → roster_number (roster_answer s) ≡ 0 → Remembers (table_for (roster_answer s) s) (last_in [])
unfolding table_for
table_remembers s e = let a = accepted (roster_answer s) e in rw a (fresh_remembers s)

table_roster : (s : List ℕ) → roster_number (roster_answer s) ≡ 0 → roster (table_for (roster_answer s) s) ≡ records_in s (customers_in s)
unfolding table_for
table_roster s e = let a = accepted (roster_answer s) e in rw a (fresh_roster s a)

table_total : (s : List ℕ) → roster_number (roster_answer s) ≡ 0 → total_of (table_for (roster_answer s) s) ≡ total_in s
unfolding table_for fresh_table
table_total s e = let a = accepted (roster_answer s) e in rw a

table_held : (s : List ℕ) → roster_number (roster_answer s) ≡ 0 → held (table_for (roster_answer s) s) ≡ []
unfolding table_for
table_held s e = let a = accepted (roster_answer s) e in rw a (fresh_held s)

pub demand3 : Demand3
demand3 s bytes e xs = rw (← (table_roster s e), ← (table_total s e)) (demand3_from (table_for (roster_answer s) s) [] (table_agrees s bytes e) (table_remembers s e) xs)

-- what holds of a table that agrees with a ledger holds all along such a run
pub agrees_throughout : AgreesThroughout
agrees_throughout s bytes e xs = rw (← (table_total s e)) (agrees_from (table_for (roster_answer s) s) [] (table_agrees s bytes e) (table_remembers s e) xs)

pub last_agrees : LastAgrees
last_agrees s bytes e xs = last_agrees_from (table_for (roster_answer s) s) [] (table_agrees s bytes e) (table_remembers s e) xs

-- the overtaken close has no other fault, so that its sender is listed
pub overtaken_close : OvertakenClose
overtaken_close s bytes e xs =
    from_start (table_for (roster_answer s) s) [] (table_agrees s bytes e) (table_remembers s e) xs _
    (λ t h x i q c o.
    let m = rw o.closing at (form_says (roster t) (λ sender. none) x.message (length x.buffer)) in
    let known : is_listed (roster t) q.sender ≡ true = rw o.sender at m.known in
    let late = overtaken t _ i.agrees h i.lasts x q c o known in
    (ap answer_number late, ap entries (late_unchanged t x (ap (is 16) late)).0))

pub connections_throughout : ConnectionsThroughout
connections_throughout s bytes e xs =
    let t = table_for (roster_answer s) s in
    subst (λ lit. AtEveryStep (λ u h x. (p : Held → Bool) → count_if p (held u) ≡ count_if p (connections_after lit h)) t [] xs) (table_held s e)
    (connections_from t [] (table_agrees s bytes e) (table_remembers s e) xs)
