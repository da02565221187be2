use native.Mathlib.Omega.{arith}
use mathlib.Core.Path.{◌≡◌}
use Rattle.table.specs.Words.{table_of}
use Rattle.rule_zeros.proofs.Free.{slots_tidy}
use Rattle.rule_zeros.proofs.slots_tidy.Goals as goal

pub returns : goal.returns
returns c =
    let n = c.used_below-n in
    let t = table_of c.args.t.now in
    let e : c.loop-i.i ≡ n.result = omega arith in
    rw (c.loop-i.invariant, e, c.calls_clear_from.ensures) (slots_tidy t n.result n.ensures.0 n.ensures.1)
