-- What the code of a message's kind relies on: a call that may be opened has a free slot below the total, and what
-- stands under a call stands among the calls' places.
-- Assumes nothing.
use Prim.Native.Nat.{ℕ, ◌<◌}
use native.Mathlib.Omega.{arith}
use mathlib.Core.Path.{◌≡◌, sym, ap, ◌∙◌}
use mathlib.Core.List.{List}
use mathlib.Core.Bool.{true, ◌||◌, or-false}
use borrow.Author.Tests.{ne_eqb}
use Rattle.lists.specs.Count.{has}
use Rattle.lists.specs.Below.{below}
use Rattle.lists.proofs.Count.{false_has, has_append}
use Rattle.messages.specs.declared.message.CallRequest.{CallRequest}
use Rattle.table.specs.Table.{Table}
use Rattle.table.specs.Total.{slots, total_of}
use Rattle.table.specs.Word.{lowest_free}
use Rattle.table.specs.Lists.{roster, Ids, entries, held_at, standalone_at, held}
use Rattle.table.specs.Share.{is_listed}
use Rattle.table.specs.Rules.{rules_hold}
use Rattle.spec_changes.specs.Calls.{entry_for}
use Rattle.spec_changes.proofs.Slot.{open_most}
use Rattle.spec_changes.proofs.Kept.{room_for}
use Rattle.spec_changes.proofs.Told.{rules_kept}
use Rattle.spec_changes.proofs.Everywhere.{none_standalone}
use Rattle.spec_changes.proofs.Opened.{free_slot}
use Rattle.spec_changes.specs.Connections.{is_under}
use Rattle.answers.specs.declared.answer.Answer.TheVariants.{CallOpened}
use Rattle.spec_calls.specs.CallRules.{open_answer}
use Rattle.spec_calls.specs.Made.{new_for}
use Rattle.spec_calls.proofs.Opening.{may_open}

-- 20 is answered only where a slot below the total is free
pub open_room : (t : Table) (s : List ℕ) (q : CallRequest) → rules_hold t ≡ true → is_listed (roster t) q.sender ≡ true
    → open_answer (total_of t) (roster t) (entries t) s q ≡ CallOpened → lowest_free t.occupied < total_of t
open_room t s q h known e =
    free_slot t (rules_kept t h)
    (room_for (total_of t) (roster t) (entries t) (entry_for 0 (new_for (entries t) s q)) (rules_kept t h).calls
    (may_open (entries t) s q (total_of t) (roster t) 0 known (omega (arith, open_most t)) (rw e)))

-- connections of Call ID 0 stand under no call
pub busy_under : (t : Table) (c : Ids) → (c.short ≡ 0 → ⊥) → has (is_under c) (held t) ≡ has (is_under c) (below (held_at t) slots)
busy_under t c n =
    has_append (is_under c) (below (held_at t) slots) (below (standalone_at t) 8)
    ∙ ap (λ b. has (is_under c) (below (held_at t) slots) || b)
    (false_has (is_under c) (below (standalone_at t) 8) (none_standalone (is_under c) t (λ k l u j _ _. rw (ne_eqb 0 c.short (λ z. n (sym z))))))
    ∙ or-false _
