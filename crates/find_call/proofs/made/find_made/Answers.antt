use Rattle.std.proofs.Common.{◌≡◌, ◌&&◌, false, sym, refl, ◌∙◌, ap, arith}
use Rattle.lists.specs.Count.{has}
use Rattle.lists.proofs.Below.{has_none, has_element, has_turn}
use Rattle.table.specs.Total.{slots}
use Rattle.table.specs.Word.{is_used}
use Rattle.table.specs.Lists.{call_at, entry_of, open_at}
use Rattle.table.specs.Words.{table_of}
use Rattle.table.proofs.Slots.{open_rest}
use Rattle.spec_changes.proofs.Firsts.{found_here, found_none}
use Rattle.find_call.specs.Made.{is_made_for}
use Rattle.find_call.proofs.made.find_made.Goals as goal

pub loop-i-init : goal.loop-i-init
loop-i-init c = has_none _ _

pub loop-i-preserved : goal.loop-i-preserved
loop-i-preserved c =
    let t = table_of c.args.t.now in
    let i = c.loop-i.i in
    let p = is_made_for c.args.endpoint c.args.sender c.args.request in
    let here : (c.is_used.result && c.is_made_for.result) ≡ (is_used t.occupied i && p (entry_of i (call_at t i))) = rw (c.is_used.ensures, c.is_made_for.ensures) in
    sym (has_turn (open_at t) p i false false _ _ refl (sym c.loop-i.invariant) (sym c.if-is_used-is_made_for.false ∙ here))

pub returns-then-is_used-is_made_for : goal.returns-then-is_used-is_made_for
returns-then-is_used-is_made_for c =
    let t = table_of c.args.t.now in
    let i = c.loop-i.i in
    let p = is_made_for c.args.endpoint c.args.sender c.args.request in
    let here : (c.is_used.result && c.is_made_for.result) ≡ (is_used t.occupied i && p (entry_of i (call_at t i))) = rw (c.is_used.ensures, c.is_made_for.ensures) in
    found_here (open_at t) p i slots (omega (arith, c.used_below-i-end.ensures.0)) c.loop-i.invariant (has_element p (is_used t.occupied i) _ ∙ sym here ∙ c.if-is_used-is_made_for.true)

pub returns : goal.returns
returns c =
    let n = c.used_below-i-end in
    let t = table_of c.args.t.now in
    let e : c.loop-i.i ≡ n.result = omega arith in
    found_none _ _ (ap (has (is_made_for c.args.endpoint c.args.sender c.args.request)) (open_rest t n.result n.ensures.0 n.ensures.1) ∙ rw e at c.loop-i.invariant)
