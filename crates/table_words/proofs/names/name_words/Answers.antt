use native.Mathlib.Omega.{arith}
use mathlib.Core.Path.{◌≡◌}
use Rattle.table_words.proofs.NameBytes.{spelled_all, name_fits}
use Rattle.table_words.proofs.names.name_words.Goals as goal

pub returns : goal.returns
returns c =
    let e : c.loop-k.k ≡ 8 = omega arith in
    spelled_all _ _ (name_fits c.args.s.now c.args.at c.args.n c.requires.0) (rw e at c.loop-k.invariant)
