-- `chains::Noted::note` meets its contract.
use native.Mathlib.Omega.{arith}
use mathlib.Core.Path.{refl}
use borrow.Author.Rules.{rules}
use Rattle.rule_keys.proofs.Links.{first_within, first_of, noted_chained, noted_taken, not_noted, apart_more}
use Rattle.rule_keys.proofs.chains.Noted.note.Goals as goal

pub walk-left-requires : goal.walk-left-requires
walk-left-requires c =
    let s = c.args.self.now in
    let k = c.args.key in
    rw c.from.ensures (first_within k s.chained (search rules) c.requires, c.requires, first_of k s.chained (search rules) c.requires)

pub invariant_of-self : goal.invariant_of-self
invariant_of-self c =
    let s = c.args.self.now in
    let k = c.args.key in
    let none = rw c.from.ensures at c.walk-left.ensures.1 in record {
      chained = noted_chained k s.chained (search rules) c.requires;
      apart = λ h.
          rw (noted_taken k s.chained (search rules) c.requires)
          (apart_more _ k (s.apart (omega (arith, c.walk-left.ensures.0))) (not_noted k s.chained (search rules) c.requires (none h)));
    }

pub returns : goal.returns
returns c = (noted_taken c.args.key c.args.self.now.chained (search rules) c.requires, refl)
