-- `stirred` meets its contract: what wraps at each step is what wraps in the end.
use Rattle.std.proofs.Common.{◌+◌, ◌*◌, ◌%◌}
use Rattle.std.proofs.Math.Nat.{mod-add-mod, mul_comm}
use Rattle.checkpoint_chains.specs.Spread.{turned, stirred_with}
use Rattle.checkpoint_chains.proofs.stirred.Goals as goal

pub returns : goal.returns
unfolding stirred_with turned
returns c =
    let a = c.args in
    let x = (a.factor + a.sum + a.number) % 4294967296 in
    rw (mod-add-mod (a.factor + a.sum) 4294967296 a.number, mod-add-mod (x * 2) 4294967296 1, mul_comm x 2)
