-- `MessageType::try_from` meets its contract: each arm is its case of `type_of`.
use Rattle.std.proofs.Common.{◌≡◌, arith, ne_eqb}
use Rattle.messages.specs.Header.{type_of}
use Rattle.messages.proofs.header.MessageTypeTryFromU8.try_from.Goals as goal

pub returns-in-1 : goal.returns-in-1
unfolding type_of
returns-in-1 c = rw c.in-1.is

pub returns-in-5 : goal.returns-in-5
unfolding type_of
returns-in-5 c = rw c.in-5.is

pub returns-in-21 : goal.returns-in-21
unfolding type_of
returns-in-21 c = rw c.in-21.is

pub returns-in_default : goal.returns-in_default
unfolding type_of
returns-in_default c =
    let n = c.args.number in
    let a : n ≡ 1 → ⊥ = omega arith in
    let b : n ≡ 5 → ⊥ = omega arith in
    let d : n ≡ 21 → ⊥ = omega arith in
    rw (ne_eqb n 1 a, ne_eqb n 5 b, ne_eqb n 21 d)
