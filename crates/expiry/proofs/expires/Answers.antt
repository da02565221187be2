-- `expires` meets its contract.
use Prim.Native.Nat.{◌+◌, ◌*◌}
use mathlib.Core.Path.{◌≡◌, sym, ap, ◌∙◌}
use mathlib.Core.Bool.{false, ◌&&◌}
use lib.Dec.{leb}
use borrow.Author.Tests.{not-true, not-false}
use Rattle.table.specs.Word.{is_used}
use Rattle.table.specs.Lists.{call_at}
use Rattle.table.specs.Words.{table_of}
use Rattle.expiry.proofs.Idle.{not_expired, expired_idle}
use mathlib.Core.Bool.{not}
use Rattle.expiry.proofs.expires.Goals as goal

pub returns-then-not-is_used-long : goal.returns-then-not-is_used-long
returns-then-not-is_used-long c =
    let d = call_at (table_of c.args.t.now) c.args.i in
    let long = leb (c.from.result + 5 * c.from-2.result) c.from-3.result in
    let e : long ≡ leb (d.refreshed + 5 * c.args.period) c.args.at = rw (c.from-3.ensures, c.from-2.ensures, c.from.ensures, c.call_head-c.ensures) in
    not_expired (is_used (table_of c.args.t.now).occupied c.args.i) long false d c.args.at c.args.period c.requires.1 e (ap (λ b. b && long) (sym c.is_used.ensures) ∙ not-true (c.is_used.result && long) (ap not c.if-not-is_used-long.true))

pub returns : goal.returns
returns c =
    let d = call_at (table_of c.args.t.now) c.args.i in
    let long = leb (c.from.result + 5 * c.from-2.result) c.from-3.result in
    let e : long ≡ leb (d.refreshed + 5 * c.args.period) c.args.at = rw (c.from-3.ensures, c.from-2.ensures, c.from.ensures, c.call_head-c.ensures) in
    expired_idle (is_used (table_of c.args.t.now).occupied c.args.i) long c.is_idle.result d c.args.at c.args.period c.requires.1 e (ap (λ b. b && long) (sym c.is_used.ensures) ∙ not-false (c.is_used.result && long) (ap not c.if-not-is_used-long.false)) c.is_idle.ensures
