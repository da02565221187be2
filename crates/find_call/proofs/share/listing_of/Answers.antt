use Rattle.std.proofs.Common.{◌≡◌, ◌&&◌, true, false, eqb, ltb, sym, refl, ap, ◌∙◌, arith}
use Rattle.lists.specs.Count.{has}
use Rattle.lists.proofs.Below.{has_none, has_element, has_turn}
use Rattle.table.specs.Lists.{Terms, terms_of, customer_at, listed_at}
use Rattle.table.specs.Share.{is_at}
use Rattle.table.specs.Words.{table_of}
use Rattle.spec_changes.proofs.Firsts.{first_has, first_place, first_element, first_behind}
use Rattle.find_call.proofs.share.listing_of.Goals as goal

pub loop-k-init : goal.loop-k-init
loop-k-init c = has_none _ _

pub loop-k-preserved : goal.loop-k-preserved
loop-k-preserved c =
    let a = c.args in
    let t = table_of a.t.now in
    let x = terms_of (customer_at t c.loop-k.k) in
    let here : (ltb c.loop-k.k c.listed-n.result && eqb a.address c.customer_head-m.result.address) ≡ (ltb c.loop-k.k t.listed && is_at a.address x) =
    rw (c.customer_head-m.ensures.0, c.listed-n.ensures) in
    sym (has_turn (listed_at t) (is_at a.address) _ false false _ x refl (sym c.loop-k.invariant) (sym c.if-k-n.false ∙ here))

pub returns-then-k-n : goal.returns-then-k-n
returns-then-k-n c =
    let a = c.args in
    let t = table_of a.t.now in
    let k = c.loop-k.k in
    let p = is_at a.address in
    let x = terms_of (customer_at t k) in
    let used = ltb k t.listed in
    let e = c.customer_head-m.ensures.0 in
    let here : (ltb k c.listed-n.result && eqb a.address c.customer_head-m.result.address) ≡ (used && p x) = rw (e, c.listed-n.ensures) in
    let passes : (used && p x) ≡ true = sym here ∙ c.if-k-n.true in
    let one : has p (listed_at t k) ≡ true = has_element p used x ∙ passes in (
      first_has (listed_at t) p k 8 (omega arith) c.loop-k.invariant one,
      record {
        place = sym (first_place (listed_at t) p k 8 (omega arith) c.loop-k.invariant one);
        guarantee = ap (λ m. m.guarantee) e ∙ sym (first_behind (λ (x : Terms). x.guarantee) p (listed_at t) k 8 (omega arith) c.loop-k.invariant one ∙ first_element (λ (x : Terms). x.guarantee) p used x passes);
        limit = ap (λ m. m.limit) e ∙ sym (first_behind (λ (x : Terms). x.limit) p (listed_at t) k 8 (omega arith) c.loop-k.invariant one ∙ first_element (λ (x : Terms). x.limit) p used x passes);
      },
    )
