use native.Mathlib.Omega.{arith}
use mathlib.Core.Path.{◌≡◌, refl, sym, ap, ◌∙◌}
use lib.ListN.{length, get_or}
use lib.Seq.{ext_get_or}
use Rattle.lists.proofs.Below.{length_each, get_d_each}
use Rattle.lists.proofs.Filled.{fill_none, fill_turn, fill_all}
use Rattle.table.specs.Lists.{call_at}
use Rattle.table.specs.Words.{table_of}
use Rattle.table_words.proofs.Padded.{name_room}
use Rattle.answer_call.proofs.nameless.slot_name.Goals as goal

pub loop-k-init : goal.loop-k-init
loop-k-init c = fill_none _ _ 32 0 refl

pub bounds-name-k : goal.bounds-name-k
bounds-name-k c = omega (arith, ap length c.loop-k.invariant ∙ length_each _ 32)

pub loop-k-preserved : goal.loop-k-preserved
loop-k-preserved c =
    let l = c.loop-k in
    fill_turn _ _ 32 l.k _ _ (omega arith) l.invariant c.name_byte.ensures

pub returns : goal.returns
returns c =
    let l = c.loop-k in
    let e : l.k ≡ 32 = omega arith in
    let x = (call_at (table_of c.args.t.now) c.args.i).name in
    let room = name_room c.args.t.now c.args.i c.requires in
    rw e at l.invariant ∙ fill_all (λ j. get_or x j 0) _ 32 ∙ ext_get_or 0 _ x (length_each _ 32 ∙ sym room) (λ j h. get_d_each (λ j. get_or x j 0) 32 j 0 (omega (arith, h, length_each (λ j. get_or x j 0) 32)))
