-- Late messages (02, A8): what a table keeps of a sender is what the list says, so that both find the same messages late;
-- what a late message leaves; and the close that was overtaken.
-- Assumes nothing.
use Prim.Native.Nat.{ℕ}
use mathlib.Core.Path.{◌≡◌, refl, sym, ap, ◌∙◌, subst}
use mathlib.Core.List.{List, [], ◌∷◌, ◌++◌}
use mathlib.Core.Bool.{Bool, true, false, cond, ◌&&◌, ◌||◌}
use lib.Dec.{ltb, eqb}
use lib.ListN.{length}
use borrow.Author.Tests.{eq-eqb, eqb-true, eqb-false}
use Rattle.numbers.specs.BigEndian.{Bytes}
use Rattle.numbers.specs.Search.{is_in}
use Rattle.numbers.specs.Buffer.{at_front}
use Rattle.lists.specs.Count.{has}
use Rattle.lists.proofs.Count.{has_cons}
use Rattle.messages.specs.declared.message.CallRequest.{CallRequest}
use Rattle.messages.specs.declared.message.Message.{Message}
use Rattle.messages.specs.declared.message.Message.TheVariants.{Open, Close, Add, Drop}
use Rattle.std.specs.Prelude.{Ok, Err}
use Rattle.messages.specs.declared.read.Refusal.TheVariants.{Misformed, Unfit}
use Rattle.messages.specs.Read.{Reading, read_of}
use Rattle.reply_objects.specs.Buffer.{least_buffer}
use Rattle.table.specs.Table.{Table}
use Rattle.table.specs.Total.{total_of}
use Rattle.table.specs.Lists.{Terms, roster, Entry, entries, held}
use Rattle.table.specs.Share.{is_listed}
use Rattle.table.specs.Rules.{rules_hold}
use Rattle.spec_changes.specs.Shape.{Shape}
use Rattle.spec_changes.specs.Last.{Last, none, last, is_kept, last_of, last_kept}
use Rattle.spec_changes.proofs.Last.{Listed, listed_record, last_here, last_other, last_opened, last_freed, last_refreshed, last_added, last_removed}
use Rattle.answers.specs.declared.answer.Answer.{Answer}
use Rattle.answers.specs.declared.answer.Answer.TheVariants.{BufferTooSmall, Malformed, SenderNotListed, Late}
use Rattle.answers.specs.Answers.{is}
use Rattle.spec_calls.specs.Late.{is_late, is_late_message, keeps}
use Rattle.spec_calls.specs.Form.{Form, faulty, sound, sender_of, listed_or11, sound_or16, read_form, form_of}
use Rattle.spec_calls.specs.CallRules.{ids_in}
use Rattle.spec_calls.specs.PathRules.{lsp_of, held_by}
use Rattle.spec_calls.specs.Handling.{rule_answer, form_answer, answer_from2, form_table, table_after, form_reply, reply_after}
use Rattle.spec_calls.proofs.Untouched.{Untouched, changed_same}
use Rattle.spec_calls.proofs.Decided.{open_never, close_never, add_never, drop_never}
use Rattle.spec_promises.specs.Ledger.{Fed, last_from, or_last, feed_last, last_in}
use Rattle.spec_promises.specs.Promises.{Input, handled_by, fed, table_then, table_found, Agrees, Remembers}
use Rattle.spec_promises.specs.Claims.{FormSame, LateUnchanged, is_accepted, Overtaken}
use Rattle.spec_promises.proofs.Formed.{Says, fault_keeps, form_says}
use Rattle.spec_promises.proofs.Found.{found_by, answer_is, answer_1}
use Rattle.spec_promises.proofs.Step.{never, fed_with, changed_agrees, changed_roster, found_agrees, found_roster, found_last, answer_found}
use Rattle.spec_promises.proofs.Named.{neither}

-- ---- late by the list is late by the table

module _ (r : List Terms) (k j : ℕ → Last) (same : (sender : ℕ) → is_listed r sender ≡ true → k sender ≡ j sender) where
  late_same : (m : Message) → is_listed r (sender_of m) ≡ true → is_late_message k m ≡ is_late_message j m
  late_same (Open q) h = ap (λ (l : Last). is_late l q.sequence) (same q.sender h)
  late_same (Close q) h = ap (λ (l : Last). is_late l q.sequence) (same q.sender h)
  late_same (Add c) h = refl
  late_same (Drop c) h = refl

  read_same : (x : Reading) → read_form r k x ≡ read_form r j x
  unfolding listed_or11 sound_or16
  read_same (Err (Misformed fault offset headers)) = refl
  read_same (Err (Unfit fault sender headers)) = refl
  read_same (Ok read) = by (is_listed r (sender_of read.message)) (late_same read.message)
    where
      by : (b : Bool) → (b ≡ true → is_late_message k read.message ≡ is_late_message j read.message) → cond b (sound_or16 k read.message) (faulty SenderNotListed) ≡ cond b (sound_or16 j read.message) (faulty SenderNotListed)
      by true h = ap (λ (b : Bool). cond b (faulty Late) (sound read.message)) (h refl)
      by false h = refl

pub form_same : FormSame
unfolding form_of
form_same t h rem s room = ap (λ (f : Form). cond (ltb room least_buffer) (faulty BufferTooSmall) f) (read_same (roster t) (last_of t) (last_in h) rem (read_of s))

-- ---- what is kept after a message

last_untouched : (sender : ℕ) → Untouched (λ t. last_of t sender)
last_untouched sender = record {
  next = λ t. refl;
  opening = last_opened sender;
  refresh = last_refreshed sender;
  close = λ t c. last_freed sender t _;
  add = last_added sender;
  remove = last_removed sender;
}

module _ (t : Table) (sender : ℕ) (known : is_listed (roster t) sender ≡ true) where
  -- a request, in the table that it changed
  request_last : (q : CallRequest) (u : Table) (b : Bool) → Shape u → roster u ≡ roster t → is_listed (roster t) q.sender ≡ true → last_of u sender ≡ last_of t sender
      → last_of (cond b (last_kept u q.sender q.sequence) u) sender ≡ cond b (or_last (cond (eqb q.sender sender) (last q.sequence) none) (last_of t sender)) (last_of t sender)
  request_last q u false shape r own e = e
  request_last q u true shape r own e = by (eqb q.sender sender) refl
    where
      listed : (a : ℕ) → is_listed (roster t) a ≡ true → Listed u a
      listed a h = listed_record u a (subst (λ (r : List Terms). is_listed r a ≡ true) (sym r) h)

      by : (b : Bool) → eqb q.sender sender ≡ b → last_of (last_kept u q.sender q.sequence) sender ≡ or_last (cond b (last q.sequence) none) (last_of t sender)
      by true d =
          subst (λ (a : ℕ). last_of (last_kept u q.sender q.sequence) a ≡ last q.sequence) (eqb-true q.sender sender d)
          (last_here u q.sender q.sequence (listed q.sender own) shape)
      by false d =
          last_other u q.sender q.sequence sender (listed q.sender own) (listed sender known) (λ (a : sender ≡ q.sender). eqb-false q.sender sender d (sym a)) ∙ e

  none_left : (b : Bool) (k : Last) → k ≡ cond b (or_last none k) k
  none_left true k = refl
  none_left false k = refl

  module _ (l : List Entry) (g : Agrees t l) (s : List ℕ) (bytes : Bytes s) (room : ℕ) where
    form_last : (f : Form) → Says (roster t) s f → last_of (form_table t s f (form_answer t s f)) sender ≡ feed_last sender (fed_with s room (form_answer t s f)) (last_of t sender)
    form_last (faulty a) i = rw (fault_keeps a i)
    form_last (sound (Open q)) i =
        rw (i.lasts sender)
        (request_last q _ (keeps (rule_answer t s (Open q))) (changed_agrees t l g s bytes room (Open q) i).shape (changed_roster t l g s bytes (Open q) i) i.known
        (changed_same (λ (u : Table). last_of u sender) (last_untouched sender) t s (Open q) (rule_answer t s (Open q))))
    form_last (sound (Close q)) i =
        rw (i.lasts sender)
        (request_last q _ (keeps (rule_answer t s (Close q))) (changed_agrees t l g s bytes room (Close q) i).shape (changed_roster t l g s bytes (Close q) i) i.known
        (changed_same (λ (u : Table). last_of u sender) (last_untouched sender) t s (Close q) (rule_answer t s (Close q))))
    form_last (sound (Add c)) i =
        rw (i.lasts sender)
        (changed_same (λ (u : Table). last_of u sender) (last_untouched sender) t s (Add c) (rule_answer t s (Add c)) ∙ none_left (keeps (rule_answer t s (Add c))) (last_of t sender))
    form_last (sound (Drop c)) i =
        rw (i.lasts sender)
        (changed_same (λ (u : Table). last_of u sender) (last_untouched sender) t s (Drop c) (rule_answer t s (Drop c)) ∙ none_left (keeps (rule_answer t s (Drop c))) (last_of t sender))

    message_last_lem : last_of (table_after t s room (answer_from2 t s room)) sender ≡ feed_last sender (fed_with s room (answer_from2 t s room)) (last_of t sender)
    unfolding table_after
    message_last_lem = form_last (form_of (roster t) (last_of t) s room) (form_says (roster t) (last_of t) s room)

-- the closings, and then the message
pub step_last : (t : Table) (l : List Entry) (g : Agrees t l) (x : Input) (sender : ℕ) → is_listed (roster t) sender ≡ true
    → last_of (table_then t x) sender ≡ feed_last sender (fed t x) (last_of t sender)
step_last t l g x sender known =
    ap (λ (u : Table). last_of u sender) (found_by t x).table
    ∙ after (table_found t x) (fed t x).answer _ (answer_found t l g x) (found_agrees t l g x) (subst (λ (r : List Terms). is_listed r sender ≡ true) (sym (found_roster t l g x)) known)
    ∙ ap (λ (k : Last). feed_last sender (fed t x) k) (found_last t l g x sender)
  where
    after : (u : Table) (a : Answer) (k : List Entry) → a ≡ answer_from2 u x.message (length x.buffer) → Agrees u k → is_listed (roster u) sender ≡ true
        → last_of (table_after u x.message (length x.buffer) a) sender ≡ feed_last sender (fed_with x.message (length x.buffer) a) (last_of u sender)
    after u a k e h known = rw e (message_last_lem u sender known k h x.message x.bytes (length x.buffer))

-- ---- what a late message leaves

module _ (t : Table) (s : List ℕ) where
  form_late : (f : Form) → is 16 (form_answer t s f) ≡ true → (form_table t s f (form_answer t s f) ≡ t) × (form_reply t s f (form_answer t s f) ≡ [])
  form_late (faulty a) e = (refl, refl)
  form_late (sound (Open q)) e = never _ e (open_never (total_of t) (roster t) (entries t) s q 16 refl refl refl refl refl)
  form_late (sound (Close q)) e = never _ e (close_never (entries t) (held t) (ids_in s q) 16 refl refl refl)
  form_late (sound (Add c)) e = never _ e (add_never (entries t) (held t) (held_by c) 16 refl refl refl refl refl)
  form_late (sound (Drop c)) e = never _ e (drop_never (held t) (lsp_of c.lsp) 16 refl refl)

  message_late : (room : ℕ) (a : Answer) → a ≡ answer_from2 t s room → is 16 a ≡ true → (table_after t s room a ≡ t) × (reply_after t s room a ≡ [])
  unfolding table_after reply_after
  message_late room a d e = rw d (form_late (form_of (roster t) (last_of t) s room) (rw d at e))

pub late_unchanged : LateUnchanged
unfolding at_front
late_unchanged t x e = by (rules_hold t) refl
  where
    by : (b : Bool) → rules_hold t ≡ b → (table_then t x ≡ table_found t x) × ((handled_by t x).buffer ≡ x.buffer) × ((handled_by t x).length ≡ 0)
    by true h =
        let f = found_by t x in
        let m = message_late (table_found t x) x.message (length x.buffer) (fed t x).answer (answer_is t x h) e in
        (f.table ∙ m.0, f.buffer ∙ ap (λ (r : List ℕ). at_front r x.buffer) m.1, f.length ∙ ap length m.1)
    by false h = let z : is 16 (fed t x).answer ≡ false = rw (answer_1 t x h) in never _ e z

-- ---- a close that was overtaken

-- a form with what is kept is the form where nothing is kept, and then test 16
abbrev then_late : (ℕ → Last) → Form → Form
then_late k (faulty a) = faulty a
then_late k (sound m) = sound_or16 k m

module _ (r : List Terms) (k : ℕ → Last) where
  none_late : (m : Message) → sound_or16 k m ≡ then_late k (sound_or16 (λ sender. none) m)
  unfolding sound_or16
  none_late (Open q) = refl
  none_late (Close q) = refl
  none_late (Add c) = refl
  none_late (Drop c) = refl

  read_then : (x : Reading) → read_form r k x ≡ then_late k (read_form r (λ sender. none) x)
  unfolding listed_or11
  read_then (Err (Misformed fault offset headers)) = refl
  read_then (Err (Unfit fault sender headers)) = by (is_listed r sender)
    where
      by : (b : Bool) → cond b (faulty (Malformed fault)) (faulty SenderNotListed) ≡ then_late k (cond b (faulty (Malformed fault)) (faulty SenderNotListed))
      by true = refl
      by false = refl
  read_then (Ok read) = by (is_listed r (sender_of read.message))
    where
      by : (b : Bool) → cond b (sound_or16 k read.message) (faulty SenderNotListed) ≡ then_late k (cond b (sound_or16 (λ sender. none) read.message) (faulty SenderNotListed))
      by true = none_late read.message
      by false = refl

  form_then : (s : List ℕ) (room : ℕ) → form_of r k s room ≡ then_late k (form_of r (λ sender. none) s room)
  unfolding form_of
  form_then s room = by (ltb room least_buffer)
    where
      by : (b : Bool) → cond b (faulty BufferTooSmall) (read_form r k (read_of s)) ≡ then_late k (cond b (faulty BufferTooSmall) (read_form r (λ sender. none) (read_of s)))
      by true = refl
      by false = read_then (read_of s)

-- what was not accepted leaves what is kept
since_same : (sender : ℕ) (since before : List Fed) → has (is_accepted sender) since ≡ false → last_in (since ++ before) sender ≡ last_in before sender
since_same sender [] before h = refl
since_same sender (e ∷ since) before h =
    let m = neither (is_accepted sender e) (has (is_accepted sender) since) (sym (has_cons (is_accepted sender) e since) ∙ h) in
    by (keeps e.answer) (last_from sender e.message) m.0 ∙ since_same sender since before m.1
  where
    by : (b : Bool) (l : Last) → (b && is_kept l) ≡ false → cond b (or_last l (last_in (since ++ before) sender)) (last_in (since ++ before) sender) ≡ last_in (since ++ before) sender
    by true none e = refl
    by true (last id) e = never true refl e
    by false l e = refl

opened_keeps : (a : Answer) → (is 20 a || is 21 a) ≡ true → keeps a ≡ true
unfolding is_in
opened_keeps a h = by (is 20 a) (is 21 a) _ h
  where
    by : (x y z : Bool) → (x || y) ≡ true → (x || (y || z)) ≡ true
    by true y z h = refl
    by false true z h = refl
    by false false z h = never false h refl

-- the setup's MESSAGE_ID is kept
pub overtaken_last : (r : List Terms) (h : List Fed) (x : Input) (q c : CallRequest) → Overtaken r h x q c → last_in h q.sender ≡ last q.sequence
unfolding last_from
overtaken_last r h x q c o =
    ap (λ (h : List Fed). last_in h q.sender) o.fed_then
    ∙ since_same q.sender o.since (o.setup ∷ o.before) o.quiet
    ∙ rw (opened_keeps o.setup.answer o.taken, o.opening, eq-eqb q.sender q.sender refl)

pub overtaken : (t : Table) (l : List Entry) (g : Agrees t l) (h : List Fed) → Remembers t (last_in h) → (x : Input) (q c : CallRequest) → Overtaken (roster t) h x q c
    → is_listed (roster t) q.sender ≡ true → (fed t x).answer ≡ Late
unfolding sound_or16
overtaken t l g h rem x q c o known =
    let kept : last_of (table_found t x) c.sender ≡ last q.sequence =
    ap (λ (a : ℕ). last_of (table_found t x) a) o.sender ∙ found_last t l g x q.sender ∙ rem q.sender known ∙ overtaken_last (roster t) h x q c o in
    answer_found t l g x ∙ by (table_found t x) (found_roster t l g x) kept
  where
    by : (u : Table) → roster u ≡ roster t → last_of u c.sender ≡ last q.sequence → answer_from2 u x.message (length x.buffer) ≡ Late
    by u r e =
        rw (r, form_then (roster t) (last_of u) x.message (length x.buffer), o.closing, e, o.epoch, eq-eqb q.sequence.epoch q.sequence.epoch refl, o.behind)
