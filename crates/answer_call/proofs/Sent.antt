-- What a Notify says of the node is the same before a call is opened, closed or refreshed and after; and what an open comes to, by its answer and
-- the Notify that was sent.
-- Assumes nothing.
use Prim.Native.Nat.{ℕ}
use mathlib.Core.Path.{◌≡◌, refl, ap, ◌∙◌, subst}
use mathlib.Core.List.{List}
use mathlib.Core.Bool.{true, false}
use lib.ListN.{length}
use Rattle.numbers.specs.Buffer.{at_front}
use Rattle.messages.specs.declared.message.CallRequest.{CallRequest}
use Rattle.messages.specs.declared.message.Message.TheVariants.{Open}
use Rattle.table.specs.Table.{Table}
use Rattle.table.specs.Lists.{entries}
use Rattle.answers.specs.declared.answer.Answer.{Answer}
use Rattle.answers.specs.declared.answer.Answer.TheVariants.{CallOpened, CallAlreadyOpen}
use Rattle.answers.specs.Answers.{is, sends_notify}
use Rattle.spec_changes.specs.Calls.{New, opened, slot_of, freed, refreshed_at}
use Rattle.spec_calls.specs.CallRules.{is_named_by}
use Rattle.spec_calls.specs.Made.{new_for}
use Rattle.spec_calls.specs.Handling.{rule_answer, open_reply}
use Rattle.outcomes.specs.declared.outcome.Outcome.{Outcome}
use Rattle.outcomes.specs.Outcomes.{handed_back, ruled}
use Rattle.outcomes.proofs.Ruled.{ruled_by}
use Rattle.answer_call.specs.Notified.{Notified, reply_bytes, made_bytes}

-- of one table, and of another that is the same
pub sent_from : {u v : Table} (bytes : Table → List ℕ) {a : Answer} {buffer : List ℕ} {r : Outcome} {after : Table} {exit : List ℕ}
    → u ≡ v → Notified u (bytes u) a buffer r after exit → Notified v (bytes v) a buffer r after exit
sent_from {u} {v} bytes {a} {buffer} {r} {after} {exit} e n = subst (λ (w : Table). Notified w (bytes w) a buffer r after exit) e n

-- of some bytes, and of others that are the same
pub with_bytes : {t : Table} {bytes other : List ℕ} {a : Answer} {buffer : List ℕ} {r : Outcome} {after : Table} {exit : List ℕ}
    → bytes ≡ other → Notified t bytes a buffer r after exit → Notified t other a buffer r after exit
with_bytes {t} {bytes} {other} {a} {buffer} {r} {after} {exit} e n = subst (λ x. Notified t x a buffer r after exit) e n

pub freed_bytes : (t : Table) (i : ℕ) (s : List ℕ) (q : CallRequest) (status : ℕ) (a : Answer) → reply_bytes (freed t i) s q status a ≡ reply_bytes t s q status a
unfolding freed
freed_bytes t i s q status a = refl

pub opened_bytes : (t : Table) (c : New) (s : List ℕ) (q : CallRequest) (status : ℕ) (a : Answer) → reply_bytes (opened t c) s q status a ≡ reply_bytes t s q status a
unfolding opened
opened_bytes t c s q status a = refl

pub opened_made : (t : Table) (c : New) (s : List ℕ) (q : CallRequest) (a : Answer) (call : ℕ) (name : List ℕ) → made_bytes (opened t c) s q a call name ≡ made_bytes t s q a call name
unfolding opened
opened_made t c s q a call name = refl

pub refreshed_bytes : (t : Table) (i : ℕ) (s : List ℕ) (q : CallRequest) (status : ℕ) (a : Answer) → reply_bytes (refreshed_at t i) s q status a ≡ reply_bytes t s q status a
unfolding refreshed_at
refreshed_bytes t i s q status a = refl

pub refreshed_made : (t : Table) (i : ℕ) (s : List ℕ) (q : CallRequest) (a : Answer) (call : ℕ) (name : List ℕ) → made_bytes (refreshed_at t i) s q a call name ≡ made_bytes t s q a call name
unfolding refreshed_at
refreshed_made t i s q a call name = refl

-- an open that is answered, but for 20 and 21
pub open_refused : (t : Table) (s buffer : List ℕ) (q : CallRequest) (a : Answer) (bytes : List ℕ) (r : Outcome) (after : Table) (exit : List ℕ) → rule_answer t s (Open q) ≡ a
    → sends_notify a ≡ true → is 20 a ≡ false → is 21 a ≡ false → bytes ≡ open_reply t s q a → Notified t bytes a buffer r after exit → handed_back r after exit ≡ ruled t s buffer (Open q)
open_refused t s buffer q a bytes r after exit e n o m b k =
    ruled_by t s buffer (Open q) a r.answer r.length after exit e k.answer (rw n (k.length ∙ ap length b)) (rw (n, o, m) k.table) (rw n (k.reply ∙ ap (λ x. at_front x buffer) b))

-- 21: the call that the open is for was refreshed first
pub open_again_sent : (t : Table) (s buffer : List ℕ) (q : CallRequest) (slot : ℕ) (bytes : List ℕ) (r : Outcome) (after : Table) (exit : List ℕ) → rule_answer t s (Open q) ≡ CallAlreadyOpen
    → slot ≡ slot_of t (is_named_by s q) → bytes ≡ open_reply t s q CallAlreadyOpen → Notified (refreshed_at t slot) bytes CallAlreadyOpen buffer r after exit
    → handed_back r after exit ≡ ruled t s buffer (Open q)
open_again_sent t s buffer q slot bytes r after exit e d b k =
    ruled_by t s buffer (Open q) CallAlreadyOpen r.answer r.length after exit e k.answer (k.length ∙ ap length b) (rw (← d) k.table) (k.reply ∙ ap (λ x. at_front x buffer) b)

-- 20: the call that the open is for was put into its slot first
pub open_answered : (t : Table) (s buffer : List ℕ) (q : CallRequest) (c : New) (bytes : List ℕ) (r : Outcome) (after : Table) (exit : List ℕ) → rule_answer t s (Open q) ≡ CallOpened
    → c ≡ new_for (entries t) s q → bytes ≡ open_reply t s q CallOpened → Notified (opened t c) bytes CallOpened buffer r after exit
    → handed_back r after exit ≡ ruled t s buffer (Open q)
open_answered t s buffer q c bytes r after exit e d b k =
    ruled_by t s buffer (Open q) CallOpened r.answer r.length after exit e k.answer (k.length ∙ ap length b) (rw (← d) k.table) (k.reply ∙ ap (λ x. at_front x buffer) b)
