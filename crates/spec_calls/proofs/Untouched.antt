-- What no change of a message touches, and what the MESSAGE_ID that is kept does not touch (02, A8). And that every answer of
-- an open or close keeps its own.
-- Assumes nothing.
use Prim.Native.Nat.{ℕ}
use mathlib.Core.Path.{◌≡◌, refl, ◌∙◌}
use mathlib.Core.List.{List}
use mathlib.Core.Bool.{Bool, true, false, cond, not}
use Rattle.numbers.specs.Search.{is_in}
use Rattle.objects.specs.declared.fields.MessageId.{MessageId}
use Rattle.messages.specs.declared.message.CallRequest.{CallRequest}
use Rattle.messages.specs.declared.message.Message.{Message}
use Rattle.messages.specs.declared.message.Message.TheVariants.{Open, Close, Add, Drop}
use Rattle.table.specs.Table.{Table}
use Rattle.lists.specs.Count.{has}
use Rattle.table.specs.Lists.{Terms, Ids, Entry, entries, Lsp, Held}
use Rattle.spec_changes.specs.Calls.{New, opened, slot_of, closed, refreshed_at, identifier_taken}
use Rattle.spec_changes.specs.Connections.{is_under, customer_of, added, removed}
use Rattle.spec_changes.specs.Last.{last_kept}
use Rattle.spec_changes.proofs.Last.{record_opened, record_freed, record_refreshed, record_added, record_removed}
use Rattle.answers.specs.declared.answer.Answer.{Answer}
use Rattle.answers.specs.declared.answer.Answer.TheVariants.{CallOpened, CallAlreadyOpen, CallClosed, CallIdContention, DuplicateCall, ConnectionsStillExist, UnknownCall, NoShare}
use Rattle.answers.specs.Answers.{is, sends_notify}
use Rattle.spec_calls.specs.Late.{keeps}
use Rattle.spec_calls.specs.CallRules.{ids_in, is_named_by, is_open, is_retry, short_taken, long_taken, share_used_up, open_answer, close_answer}
use Rattle.spec_calls.specs.Made.{new_for}
use Rattle.spec_calls.specs.PathRules.{lsp_of, held_by}
use Rattle.spec_calls.specs.Handling.{changed_by, identified, remembered_of, remembered}

-- a field that no change touches
pub record Untouched {A : Type 0} (f : Table → A) : Type 0 where
  pub next : (t : Table) → f (identifier_taken t) ≡ f t
  pub opening : (t : Table) (c : New) → f (opened t c) ≡ f t
  pub refresh : (t : Table) (i : ℕ) → f (refreshed_at t i) ≡ f t
  pub close : (t : Table) (c : Ids) → f (closed t c) ≡ f t
  pub add : (t : Table) (x : Held) → f (added t x) ≡ f t
  pub remove : (t : Table) (x : Lsp) → f (removed t x) ≡ f t

module _ {A : Type 0} (f : Table → A) (o : Untouched f) where
  same_by : (b : Bool) (u v : Table) (n : A) → f u ≡ n → f v ≡ n → f (cond b u v) ≡ n
  same_by true u v n p q = p
  same_by false u v n p q = q

  same_notified : (b : Bool) (u : Table) (n : A) → f u ≡ n → f (cond b (identifier_taken u) u) ≡ n
  same_notified true u n p = o.next u ∙ p
  same_notified false u n p = p

  pub changed_same : (t : Table) (s : List ℕ) (m : Message) (a : Answer) → f (identified a (changed_by t s m a)) ≡ f t
  changed_same t s (Open q) a =
      same_notified (sends_notify a) _ (f t) (same_by (is 20 a) _ _ (f t) (o.opening t (new_for (entries t) s q)) (same_by (is 21 a) _ t (f t) (o.refresh t (slot_of t (is_named_by s q))) refl))
  changed_same t s (Close q) a = same_notified (sends_notify a) _ (f t) (same_by (is 22 a) _ t (f t) (o.close t (ids_in s q)) refl)
  changed_same t s (Add c) a = same_notified (sends_notify a) _ (f t) (same_by (is 23 a) _ t (f t) (o.add t (held_by c)) refl)
  changed_same t s (Drop c) a = same_notified (sends_notify a) _ (f t) (same_by (is 25 a) _ t (f t) (o.remove t (lsp_of c.lsp)) refl)

-- what keeping a MESSAGE_ID does not touch
module _ {A : Type 0} (f : Table → A) (same : (t : Table) (sender : ℕ) (id : MessageId) → f (last_kept t sender id) ≡ f t) (a : Answer) (t : Table) where
  request_same : (q : CallRequest) → f (remembered_of q a t) ≡ f t
  request_same q = by (keeps a)
    where
      by : (b : Bool) → f (cond b (last_kept t q.sender q.sequence) t) ≡ f t
      by true = same t q.sender q.sequence
      by false = refl

  pub remembered_same : (m : Message) → f (remembered m a t) ≡ f t
  remembered_same (Open q) = request_same q
  remembered_same (Close q) = request_same q
  remembered_same (Add c) = refl
  remembered_same (Drop c) = refl

-- the record of a sender stays the same one
record_untouched : (sender : ℕ) → Untouched (λ t. customer_of t sender)
record_untouched sender = record {
  next = λ t. refl;
  opening = record_opened sender;
  refresh = record_refreshed sender;
  close = λ t c. record_freed sender t _;
  add = record_added sender;
  remove = record_removed sender;
}

pub record_same : (t : Table) (s : List ℕ) (m : Message) (a : Answer) (sender : ℕ) → customer_of (identified a (changed_by t s m a)) sender ≡ customer_of t sender
record_same t s m a sender = changed_same (λ u. customer_of u sender) (record_untouched sender) t s m a

-- ---- the answers of an open or close keep its MESSAGE_ID

pub open_keeps : (total : ℕ) (r : List Terms) (l : List Entry) (s : List ℕ) (q : CallRequest) → keeps (open_answer total r l s q) ≡ true
unfolding open_answer is_in
open_keeps total r l s q = by (is_retry l s q) (long_taken l s q) (short_taken l s q) (share_used_up total r l q.sender)
  where
    by : (a b c d : Bool) → keeps (cond a CallAlreadyOpen (cond b DuplicateCall (cond c CallIdContention (cond d NoShare CallOpened)))) ≡ true
    by true b c d = refl
    by false true c d = refl
    by false false true d = refl
    by false false false true = refl
    by false false false false = refl

pub close_keeps : (l : List Entry) (h : List Held) (c : Ids) → keeps (close_answer l h c) ≡ true
unfolding close_answer is_in
close_keeps l h c = by (not (is_open l c)) (has (is_under c) h)
  where
    by : (a b : Bool) → keeps (cond a UnknownCall (cond b ConnectionsStillExist CallClosed)) ≡ true
    by true b = refl
    by false true = refl
    by false false = refl
