-- `request::looked` meets its contract: every test is one of the pair first, and what is called promises the rest.
use Rattle.std.proofs.Common.{ℕ, Bool, ◌&&◌, eqb, List, sym, ap, ◌∙◌, ap₂, arith}
use borrow.Author.Tests.{not-false}
use Rattle.lists.proofs.Tests.{both}
use Rattle.table.specs.Lists.{call_at, call_four}
use Rattle.table.specs.Rules.{same_bytes}
use Rattle.table.specs.Words.{table_of}
use Rattle.table_words.proofs.Alike.{alike_held}
use Rattle.spec_calls.specs.CallRules.{ids_in}
use Rattle.spec_calls.proofs.Names.{name_size}
use Rattle.find_call.proofs.Beside.{another_pair, the_pair}
use Rattle.find_call.proofs.Looked.{look_kept, look_changed}
use Rattle.find_call.proofs.Padded.{names_whole}
use Rattle.find_call.proofs.Named.{open_size, open_zeros, name_room}
use mathlib.Core.Bool.{not}
use Rattle.find_call.proofs.request.looked.Goals as goal

pub returns-then-not-pair : goal.returns-then-not-pair
returns-then-not-pair c =
    let a = c.args in
    let d = call_at (table_of a.t.now) a.i in
    let ids = ids_in a.msg.now a.q in
    look_kept a.look a.i a.used d ids (another_pair ids d a.used (rw c.call_head-c.ensures at (ap not c.if-not-pair.true)))

pub returns : goal.returns
returns c =
    let a = c.args in
    let p = c.requires in
    let w = a.t.now in
    let t = table_of w in
    let d = call_at t a.i in
    let ids = ids_in a.msg.now a.q in
    let no = rw c.call_head-c.ensures at (ap not c.if-not-pair.false) in
    let used = sym p.1 ∙ (both _ _ (not-false _ no)).0 in
    let size = name_size a.msg.now a.q p.3 in
    let long = names_whole ids.long d.name d.size (omega (arith, size, p.4)) (name_room w a.i p.0) (open_size t a.i p.0 p.2 used) (open_zeros t a.i p.0 p.2 used) in
    let held = alike_held _ (call_four d) c.call_four.ensures in
    let says =
    the_pair ids d a.used no _ _ _
    (ap₂ (λ (a b : Bool). a && b) (c.is_size.ensures ∙ ap₂ (λ (n m : ℕ). eqb n m) (sym size) (ap (λ h. h.size) c.call_head-c.ensures)) (c.is_named.ensures ∙ ap (λ (n : List ℕ). same_bytes n d.name) p.5) ∙ long)
    (c.is_call-short.ensures ∙ rw c.call_head-c.ensures)
    (c.has_taken.ensures ∙ rw held) in
    look_changed a.look a.i a.used d ids _ _ _ _ says (c.or.ensures ∙ rw c.then_some.ensures)
