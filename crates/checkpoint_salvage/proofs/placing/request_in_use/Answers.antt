-- `placing::request_in_use` meets its contract: without the mark there is no request, with it the callee says.
use borrow.Author.Tests.{eq-eqb, ne_eqb}
use mathlib.Core.Path.{◌≡◌, refl, sym, ◌∙◌}
use mathlib.Core.Bool.{Bool, true, false}
use Rattle.std.specs.Bool.{then_some}
use Rattle.std.specs.Prelude.{ℕ, is_some}
use lib.Dec.{eqb}
use Rattle.table.specs.Lists.{entries}
use Rattle.table.specs.Rules.{same_request}
use Rattle.table.specs.Words.{table_of}
use Rattle.spec_checkpoint.specs.Layout.{record_entry}
use Rattle.checkpoint_records.specs.Record.{read_of}
use Rattle.checkpoint_salvage.proofs.Stands.{unmade_apart}
use Rattle.checkpoint_salvage.proofs.placing.request_in_use.Goals as goal

some_is : (b : Bool) (n : ℕ) → is_some (then_some b n) ≡ b
some_is true n = refl
some_is false n = refl

pub returns-then-made-ne1 : goal.returns-then-made-ne1
returns-then-made-ne1 c =
    let a = c.args in
    let unmarked : eqb c.made.result 1 ≡ false = ne_eqb _ _ c.if-made-ne1.true in
    sym (unmade_apart (record_entry (read_of a.r)) (entries (table_of a.t.now)) (rw c.made.ensures.0 at unmarked))

pub returns : goal.returns
unfolding same_request
returns c =
    let made : eqb c.made.result 1 ≡ true = eq-eqb _ _ c.if-made-ne1.false in
    rw (rw c.made.ensures.0 at made)
    (c.is_some.ensures ∙ rw (c.find_made.ensures, c.sender.ensures, c.endpoint.ensures, c.identifier.ensures, c.epoch.ensures.0) (some_is _ _))
