use Rattle.numbers.proofs.BigEndian.{be24_bound}
use Rattle.checkpoint_records.proofs.call.three_bytes.Goals as goal

pub returns : goal.returns
returns c =
    let a = c.args in
    (c.get24.ensures, rw c.get24.ensures (be24_bound a.s.now a.at (λ j. (c.shared_slice_known-1.given j).fits)))
