-- `write::put_call` meets its contract: the name stands between what is before it and what is behind it.
use Prim.Native.Nat.{◌+◌, ◌*◌}
use native.Mathlib.Omega.{arith}
use mathlib.Core.List.{[], ◌∷◌, ◌++◌}
use Rattle.numbers.specs.BigEndian.{bytes16, bytes24, bytes32}
use Rattle.table.specs.Lists.{call_at}
use Rattle.table.specs.Words.{table_of}
use Rattle.checkpoint_records.proofs.Behind.{more, regrouped, name_long}
use Rattle.checkpoint_records.proofs.write.put_call.Goals as goal

pub put_before_name-a-requires : goal.put_before_name-a-requires
put_before_name-a-requires c =
    let w = c.requires.1 in
    rw c.call_head-c.ensures (w.id, w.made, w.size, omega arith)

pub returns : goal.returns
returns c =
    let k = call_at (table_of c.args.t.now) c.args.i in
    let long = name_long c.args.t.now c.args.i c.requires.0 in
    let front = c.args.i ∷ bytes16 k.id ++ bytes32 k.endpoint ++ bytes32 k.sender ++ ((k.made * 128 + k.size) ∷ []) in
    let w1 = rw c.call_head-c.ensures at c.put_before_name-a.ensures.1 in
    let w2 = more k.name w1 (omega arith) c.put_name.ensures.1 in
    let w3 = more (bytes32 k.refreshed ++ bytes24 k.epoch ++ bytes32 k.identifier) w2 (omega arith) (rw c.call_head-c.ensures at c.put_behind_name.ensures.1) in
    regrouped (front ++ k.name) (bytes32 k.refreshed) (bytes24 k.epoch) (bytes32 k.identifier) w3
