-- Connections over one message: which stay, which go, which come.
-- Assumes nothing.
use Prim.Native.Nat.{ℕ, ◌<◌}
use native.Mathlib.Omega.{arith}
use mathlib.Core.Path.{◌≡◌, refl, sym, ap, ◌∙◌}
use mathlib.Core.List.{List, ◌∷◌}
use mathlib.Core.Bool.{Bool, true, false, cond, not, ◌&&◌, and-false}
use lib.Dec.{eqb}
use borrow.Author.Tests.{eqb-true}
use Rattle.lists.specs.Count.{bit, count_if, without}
use Rattle.lists.proofs.Tests.{both}
use Rattle.lists.proofs.Count.{has_true, has_false, true_has, false_has, has_nothing, count_ext, count_le, count_without}
use Rattle.table.specs.Lists.{Lsp, Held, held}
use Rattle.table.specs.Rules.{same_lsp, is_lsp, same_connection}
use Rattle.spec_changes.proofs.Alike.{lsp_equal}
use Rattle.spec_changes.proofs.CallMissing.{no_call_missing}
use Rattle.answers.specs.declared.answer.Answer.{Answer}
use Rattle.answers.specs.Answers.{answer_number, is}
use Rattle.spec_promises.specs.Connections.{held_of, same_held}
use Rattle.spec_promises.specs.Promises.{fed, table_then}
use Rattle.spec_promises.specs.Claims.{ConnectionStays, ConnectionGoes, ConnectionComes, ConnectionHasCall}
use Rattle.spec_promises.proofs.Step.{step_held}

-- what is the same connection is the one looked for or not as that one is
same_looked_for : (n : Lsp) (y z : Held) → same_held y z ≡ true → is_lsp n y ≡ is_lsp n z
same_looked_for n y z h = ap (same_lsp n) (lsp_equal y.lsp z.lsp (both (eqb y.call z.call) (same_connection y z) h).1)

-- those that are the same as one count whole or not at all when the one looked for is taken out
left : (n : Lsp) (y : Held) (l : List Held) (b : Bool) → is_lsp n y ≡ b
    → count_if (same_held y) (without (is_lsp n) l) ≡ count_if (λ z. not b && same_held y z) l
left n y l b e = count_without (same_held y) (is_lsp n) l ∙ count_ext (λ z. not (is_lsp n z) && same_held y z) (λ z. not b && same_held y z) l (λ z. at z (same_held y z) refl)
  where
    at : (z : Held) (s : Bool) → same_held y z ≡ s → (not (is_lsp n z) && s) ≡ (not b && s)
    at z true h = rw (← (same_looked_for n y z h), e)
    at z false h = and-false (not (is_lsp n z)) ∙ sym (and-false (not b))

abbrev fed_by : Bool → Bool → Held → List Held → List Held
fed_by b23 b25 n h = cond b23 (n ∷ h) (cond b25 (without (is_lsp n.lsp) h) h)

stays : (b23 b25 : Bool) (n y : Held) (h : List Held) → 0 < count_if (same_held y) h → (b25 && is_lsp n.lsp y) ≡ false → 0 < count_if (same_held y) (fed_by b23 b25 n h)
stays true b25 n y h some e = omega arith
stays false true n y h some e = omega (arith, left n.lsp y h false e)
stays false false n y h some e = some

goes : (b23 b25 : Bool) (n y : Held) (h : List Held) → (b25 ≡ true → b23 ≡ false) → (b25 && is_lsp n.lsp y) ≡ true → count_if (same_held y) (fed_by b23 b25 n h) ≡ 0
goes b23 true n y h one e = rw (one refl) (left n.lsp y h true e ∙ has_false (λ z. false) h (has_nothing (λ z. false) h (λ z. refl)))
goes b23 false n y h one e = let z : ◌≡◌ {A = ℕ} 0 1 = cc in absurd (omega arith)

comes : (b23 b25 : Bool) (n y : Held) (h : List Held) → count_if (same_held y) h ≡ 0 → 0 < count_if (same_held y) (fed_by b23 b25 n h) → (b23 && same_held y n) ≡ true
comes true b25 n y h none some = by (same_held y n) (omega (arith, some, none))
  where
    by : (s : Bool) → 0 < bit s → s ≡ true
    by true e = refl
    by false e = let z : ⊥ = omega arith in absurd z
comes false true n y h none some =
    let z : ⊥ = omega (arith, some, none, count_without (same_held y) (is_lsp n.lsp) h, count_le (λ z. not (is_lsp n.lsp z) && same_held y z) (same_held y) h (λ z q. (both (not (is_lsp n.lsp z)) (same_held y z) q).1)) in
    absurd z
comes false false n y h none some = let z : ⊥ = omega arith in absurd z

-- no answer is both
not_23 : (a : Answer) → is 25 a ≡ true → is 23 a ≡ false
not_23 a h = rw (eqb-true (answer_number a) 25 h)

pub connection_stays : ConnectionStays
connection_stays t l g x y h e =
    true_has (same_held y) (held (table_then t x))
    (rw (step_held t l g x (same_held y))
    (stays (is 23 (fed t x).answer) (is 25 (fed t x).answer) (held_of x.message) y (held t) (has_true (same_held y) (held t) h) e))

pub connection_goes : ConnectionGoes
connection_goes t l g x y e =
    false_has (same_held y) (held (table_then t x))
    (step_held t l g x (same_held y)
    ∙ goes (is 23 (fed t x).answer) (is 25 (fed t x).answer) (held_of x.message) y (held t) (not_23 (fed t x).answer) e)

pub connection_comes : ConnectionComes
connection_comes t l g x y h e =
    comes (is 23 (fed t x).answer) (is 25 (fed t x).answer) (held_of x.message) y (held t) (has_false (same_held y) (held t) h)
    (rw (← (step_held t l g x (same_held y))) (has_true (same_held y) (held (table_then t x)) e))

pub connection_has_call : ConnectionHasCall
connection_has_call t = no_call_missing t
