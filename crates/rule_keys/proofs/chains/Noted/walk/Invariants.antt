-- `chains::Noted::walk` meets its contract: no key behind the one that it has come to is the key.
use Prim.Native.Nat.{◌≤◌}
use mathlib.Core.Path.{◌≡◌}
use Rattle.rule_keys.specs.Chains.{chain_of, last_in}
use Rattle.rule_keys.proofs.Links.{NoneBehind}
use Rattle.rule_keys.proofs.chains.Noted.walk.Given as goal

abbrev pub invariant-loop-e : goal.invariant-loop-e
invariant-loop-e l =
    (l.e ≤ l.first) × (l.left ≤ l.self.left) × (l.e ≡ last_in l.self.keys (chain_of l.key) l.e) × NoneBehind l.self.keys l.key l.first l.e

abbrev pub decreases-loop-e : goal.decreases-loop-e
decreases-loop-e l = l.left
