-- The IDs that an answer to an open without names carries fit their fields: they are made, or a call of the table has them.
-- Assumes nothing.
use Prim.Native.Nat.{ℕ, ◌≤◌, ◌<◌}
use native.Mathlib.Omega.{arith}
use mathlib.Core.Path.{◌≡◌, refl, sym, ◌∙◌}
use mathlib.Core.List.{List}
use mathlib.Core.Bool.{Bool, true, false, cond, not, ◌&&◌, true≢false}
use lib.ListN.{length, take, length-take}
use borrow.Author.Tests.{not-true}
use Rattle.numbers.specs.BigEndian.{Bytes}
use Rattle.numbers.proofs.BigEndian.{each_byte, each_part}
use Rattle.lists.proofs.Tests.{both}
use Rattle.lists.proofs.Count.{has_true}
use Rattle.messages.specs.declared.message.CallRequest.{CallRequest}
use Rattle.table.specs.Table.{Table}
use Rattle.table.specs.Total.{total_of}
use Rattle.table.specs.Lists.{roster, Ids, call_at, ids_of, entries}
use Rattle.table.specs.Rules.{rules_hold}
use Rattle.spec_changes.specs.Calls.{slot_of}
use Rattle.spec_changes.proofs.Slot.{found_slot, open_most}
use Rattle.spec_changes.proofs.Told.{rules_kept}
use Rattle.spec_changes.proofs.Valid.{ids_named}
use Rattle.answers.specs.declared.answer.Answer.{Answer}
use Rattle.answers.specs.Answers.{is}
use Rattle.spec_calls.specs.CallRules.{nameless, is_named_by, is_retry, share_used_up, open_answer}
use Rattle.spec_calls.specs.Made.{made_for}
use Rattle.spec_calls.specs.Handling.{answered_ids}
use Rattle.spec_calls.proofs.MadeName.{name_length_lem, name_bytes}
use Rattle.spec_calls.proofs.MadeFree.{made_free}
use Rattle.spec_calls.proofs.Decided.{open_again, open_no_share, open_new}

-- a name of at most 32 bytes, and an ID of sixteen bits
pub record IdsFit (c : Ids) : Type 0 where
  pub most : length c.long ≤ 32
  pub sixteen : c.short < 0x10000

module _ (t : Table) (s : List ℕ) (q : CallRequest) where
  abbrev answer : Answer
  answer = open_answer (total_of t) (roster t) (entries t) s q

  abbrev found : ℕ
  found = slot_of t (is_named_by s q)

  -- an open without names is a retry, or its call is made, or it is answered 34
  module _ (h : rules_hold t ≡ true) where
    found_fit : is_retry (entries t) s q ≡ true → IdsFit (ids_of (call_at t found))
    found_fit e =
        let f = found_slot t (is_named_by s q) (has_true _ (entries t) e) in
        let n = ids_named (call_at t found) ((rules_kept t h).names found f.0 f.1) in
        record { most = simp length-take (omega (arith, n.most)); sixteen = n.fits }

    made_fit : IdsFit (made_for (entries t) q.endpoint q.sender)
    made_fit =
        let n = made_free q.endpoint q.sender (entries t) (omega (arith, open_most t)) in
        record { most = omega (arith, name_length_lem q.endpoint q.sender (made_for (entries t) q.endpoint q.sender).short); sixteen = n.fits }

    by_tests : (retry share : Bool) → is_retry (entries t) s q ≡ retry → share_used_up (total_of t) (roster t) (entries t) q.sender ≡ share → nameless q ≡ true
        → is 34 answer ≡ false → IdsFit (answered_ids t s q answer)
    by_tests true share a b n z = rw (open_again (total_of t) (roster t) (entries t) s q a) (found_fit a)
    by_tests false true a b n z = absurd (true≢false (sym (rw (open_no_share (total_of t) (roster t) (entries t) s q a (rw n) (rw n) b)) ∙ z))
    by_tests false false a b n z = rw (open_new (total_of t) (roster t) (entries t) s q a (rw n) (rw n) b, n) made_fit

    pub answered_fit : (nameless q && not (is 34 answer)) ≡ true → IdsFit (answered_ids t s q answer)
    answered_fit e =
        let k = both (nameless q) (not (is 34 answer)) e in
        by_tests (is_retry (entries t) s q) (share_used_up (total_of t) (roster t) (entries t) q.sender) refl refl k.0 (not-true _ k.1)

  -- and their names are bytes, where those of the table are
  pub answered_bytes : ((i : ℕ) → Bytes (call_at t i).name) → (a : Answer) → nameless q ≡ true → Bytes (answered_ids t s q a).long
  answered_bytes b a n = rw n (by (is 20 a))
    where
      by : (c : Bool) → Bytes (cond c (made_for (entries t) q.endpoint q.sender) (ids_of (call_at t found))).long
      by true = name_bytes q.endpoint q.sender (made_for (entries t) q.endpoint q.sender).short
      by false = each_byte (take (call_at t found).size (call_at t found).name) (each_part (call_at t found).name 0 (call_at t found).size (b found))
