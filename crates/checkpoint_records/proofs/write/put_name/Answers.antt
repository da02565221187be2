use native.Mathlib.Omega.{arith}
use mathlib.Core.Path.{◌≡◌, refl, ap, ◌∙◌}
use lib.ListN.{length-set, set}
use lib.Seq.{paste-zero}
use Rattle.table.specs.Lists.{call_at}
use Rattle.table.specs.Words.{table_of}
use Rattle.checkpoint_records.proofs.Behind.{copied_turn, name_put, name_long}
use Rattle.checkpoint_records.proofs.write.put_name.Goals as goal

pub loop-k-init : goal.loop-k-init
loop-k-init c = let a = c.args in (refl, paste-zero a.out.now 0 (call_at (table_of a.t.now) a.i).name)

pub loop-k-preserved : goal.loop-k-preserved
loop-k-preserved c =
    let l = c.loop-k in
    let x = (call_at (table_of c.args.t.now) c.args.i).name in
    let h = name_long c.args.t.now c.args.i c.requires.0 in (
      simp length-set (omega arith),
      ap (set l.out l.k) c.name_byte.ensures ∙ copied_turn x c.args.out.now l.out l.k (omega arith) (omega arith) l.invariant.1,
    )

pub returns : goal.returns
returns c =
    let l = c.loop-k in
    let e : l.k ≡ 32 = omega arith in
    (refl, name_put (call_at (table_of c.args.t.now) c.args.i).name c.args.out.now l.out (name_long c.args.t.now c.args.i c.requires.0) (rw e at l.invariant.1))
