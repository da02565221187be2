-- `chaffmoor_part_sum` meets its contract: what is tested first is what the sum asks for.
use Prim.Native.Nat.{◌/◌}
use lib.ListN.{length}
use borrow.Author.Tests.{lt-ltb, le-ltb}
use Rattle.bench_parts.proofs.chaffmoor_part_sum.Goals as goal

pub returns-then-most-gt65535 : goal.returns-then-most-gt65535
returns-then-most-gt65535 c =
    rw (lt-ltb 65535 (length c.args.bytes.now) c.if-most-gt65535.true)

pub returns-then-words-most : goal.returns-then-words-most
returns-then-words-most c =
    let n = length c.args.bytes.now in
    rw (le-ltb 65535 n c.if-most-gt65535.false, lt-ltb (n / 2) c.args.words c.if-words-most.true)

pub returns : goal.returns
returns c =
    let n = length c.args.bytes.now in
    rw (le-ltb 65535 n c.if-most-gt65535.false, le-ltb (n / 2) c.args.words c.if-words-most.false) c.first_words_sum.ensures
