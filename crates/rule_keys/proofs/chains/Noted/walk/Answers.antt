use Prim.Native.Nat.{ℕ, ◌<◌}
use native.Mathlib.Nat.{not-suc-le-zero}
use native.Mathlib.Omega.{arith}
use borrow.Author.Rules.{rules}
use Rattle.rule_keys.proofs.Links.{goes_on, ended, back_within, back_of, back_none}
use Rattle.rule_keys.proofs.chains.Noted.walk.Goals as goal

pub overflow_sub-e : goal.overflow_sub-e
overflow_sub-e c = let l = c.loop-e in omega (arith, goes_on l.e l.left c.loop-e-test.true)

pub returns-then-self-e : goal.returns-then-self-e
returns-then-self-e c = (search rules, λ h. absurd (not-suc-le-zero h))

pub overflow_sub-left : goal.overflow_sub-left
overflow_sub-left c = let l = c.loop-e in omega (arith, goes_on l.e l.left c.loop-e-test.true)

pub loop-e-smaller : goal.loop-e-smaller
loop-e-smaller c = let l = c.loop-e in omega (arith, goes_on l.e l.left c.loop-e-test.true)

pub loop-e-preserved : goal.loop-e-preserved
loop-e-preserved c =
    let l = c.loop-e in
    let z = c.args in
    let some = goes_on l.e l.left c.loop-e-test.true in
    let i = l.invariant in
    let k = z.self.now.keys in
    let n = z.self.now.links in
    let linked = λ (j : ℕ) (h : j < z.first). z.self.now.chained.linked j (omega arith) in
    rw c.from-e.ensures (
      omega (arith, back_within n k z.key z.first l.e some.0 i.0 linked i.2),
      omega arith,
      back_of n k z.key z.first l.e some.0 i.0 linked i.2,
      back_none n k z.key z.first l.e some.0 i.0 linked i.2 c.if-self-e.false i.3,
    )

pub returns : goal.returns
returns c = let l = c.loop-e in (l.invariant.1, λ h i b. l.invariant.3 i (omega (arith, ended l.e l.left c.loop-e-test.false h)) b)
