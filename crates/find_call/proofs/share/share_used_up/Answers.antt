-- `share::share_used_up` meets its contract: what is called promises the four numbers of the rule.
use Rattle.spec_calls.specs.CallRules.{share_used_up}
use Rattle.std.proofs.Common.{◌≡◌, ℕ, ◌&&◌, ◌||◌, eqb, leb, ap, ◌∙◌}
use Rattle.table.specs.Total.{total_for}
use Rattle.find_call.proofs.share.share_used_up.Goals as goal

-- the test goes by five numbers: the calls, the limit, the guarantee, S and the total
by_numbers : (c d l m g h a b t u : ℕ) → c ≡ d → l ≡ m → g ≡ h → a ≡ b → t ≡ u → (eqb c l || leb g c && eqb a t) ≡ (eqb d m || leb h d && eqb b u)
by_numbers c d l m g h a b t u calls limit guarantee sum total = rw (calls, limit, guarantee, sum, total)

pub returns : goal.returns
unfolding share_used_up
returns c =
    let total = c.total_for.ensures.0 ∙ ap total_for c.form.ensures in
    let m = c.requires in
    by_numbers _ _ _ _ _ _ _ _ _ _ c.calls_of-calls.ensures m.limit m.guarantee c.share_sums-s.ensures.1 total
