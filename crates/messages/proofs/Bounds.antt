-- What the tests passed say of lengths and places: a good length, and complete objects within the message.
-- Assumes nothing.
use Prim.Native.Nat.{ℕ, ◌+◌, ◌%◌, ◌≤◌, ◌<◌}
use native.Mathlib.Omega.{arith}
use mathlib.Core.Path.{◌≡◌, refl}
use mathlib.Core.List.{List}
use mathlib.Core.Bool.{Bool, true, false, not, ◌&&◌, ◌||◌}
use lib.ListN.{length}
use lib.Dec.{ltb, eqb}
use borrow.Author.Tests.{eqb-true, ltb-false}
use Rattle.numbers.specs.BigEndian.{be16_at}
use Rattle.lists.proofs.Tests.{both}
use Rattle.objects.specs.Forms.{name_length, rounded_up_to4}
use Rattle.objects.specs.Placed.{Placed}
use Rattle.objects.specs.declared.walk.Seen.{Seen}
use Rattle.objects.specs.declared.walk.Objects.{Objects}
use Rattle.messages.specs.Header.{bad_message_length}
use Rattle.messages.specs.Counts.{once, at_most_once, notify_complete, path_complete}

-- a length that is not bad
pub good_message_length : (s : List ℕ) → bad_message_length s ≡ false → (8 ≤ length s) × (length s ≤ 1024)
unfolding bad_message_length
good_message_length s e = by (ltb (length s) 8) (ltb 1024 (length s)) (not (eqb (length s % 4) 0)) (not (eqb (be16_at s 6) (length s))) refl refl e
  where
    by : (a b c d : Bool) → ltb (length s) 8 ≡ a → ltb 1024 (length s) ≡ b → (a || (b || c || d)) ≡ false → (8 ≤ length s) × (length s ≤ 1024)
    by true b c d p q e = let z : ◌≡◌ {A = ℕ} 0 1 = cc in absurd (omega arith)
    by false true true d p q e = let z : ◌≡◌ {A = ℕ} 0 1 = cc in absurd (omega arith)
    by false true false d p q e = let z : ◌≡◌ {A = ℕ} 0 1 = cc in absurd (omega arith)
    by false false c d p q e = (ltb-false _ _ p, ltb-false _ _ q)

-- an object that came once
came : (seen : Seen) → once seen ≡ true → 0 < seen.times
came seen e = omega (arith, eqb-true seen.times 1 e)

pub path_bounds : (s : List ℕ) (v : Objects) → path_complete v ≡ true → Placed s v → (v.session.at + 16 ≤ length s) × (v.template.at + 12 ≤ length s)
unfolding path_complete
path_bounds s v e g =
    let w = both (once v.session && once v.template && at_most_once v.error && at_most_once v.identifier && at_most_once v.status) _ e in
    let w2 = both (once v.session && once v.template && at_most_once v.error && at_most_once v.identifier) _ w.0 in
    let w3 = both (once v.session && once v.template && at_most_once v.error) _ w2.0 in
    let w4 = both (once v.session && once v.template) _ w3.0 in
    let w5 = both (once v.session) _ w4.0 in
    (g.session (came v.session w5.0), g.template (came v.template w5.1))

-- the bounds of all six objects of a Notify
pub record NotifyBounds (s : List ℕ) (v : Objects) : Type 0 where
  pub session : v.session.at + 16 ≤ length s
  pub template : v.template.at + 12 ≤ length s
  pub error : v.error.at + 12 ≤ length s
  pub identifier : v.identifier.at + 12 ≤ length s
  pub status : v.status.at + 8 ≤ length s
  pub attribute : v.attribute.at + be16_at s v.attribute.at ≤ length s
  pub attribute_size : be16_at s v.attribute.at ≡ 8 + rounded_up_to4 (name_length s v.attribute.at)
  pub name : v.attribute.at + 8 + name_length s v.attribute.at ≤ length s

pub notify_bounds : (s : List ℕ) (v : Objects) → notify_complete v ≡ true → Placed s v → NotifyBounds s v
unfolding notify_complete
notify_bounds s v e g =
    let w = both (once v.session && once v.template && once v.error && once v.identifier && once v.status) _ e in
    let w2 = both (once v.session && once v.template && once v.error && once v.identifier) _ w.0 in
    let w3 = both (once v.session && once v.template && once v.error) _ w2.0 in
    let w4 = both (once v.session && once v.template) _ w3.0 in
    let w5 = both (once v.session) _ w4.0 in
    let a = g.attribute (came v.attribute w.1) in
    record {
      session = g.session (came v.session w5.0);
      template = g.template (came v.template w5.1);
      error = g.error (came v.error w4.1);
      identifier = g.identifier (came v.identifier w3.1);
      status = g.status (came v.status w2.1);
      attribute = a.1;
      attribute_size = a.0;
      name = omega (arith, a);
    }
