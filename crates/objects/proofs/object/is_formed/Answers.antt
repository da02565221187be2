-- `object::is_formed` meets its contract: each arm is its row of `formed`.
use Rattle.std.proofs.Common.{ℕ, ◌≡◌, false, eqb, arith, ne_eqb}
use Rattle.objects.specs.Classes.{session, error_spec, sender_template, message_id, admin_status, session_attribute}
use Rattle.objects.specs.Forms.{formed}
use Rattle.objects.proofs.object.is_formed.Goals as goal

pub returns-in-1 : goal.returns-in-1
unfolding formed
returns-in-1 c = rw (c.has_form.ensures, c.in-1.is)

pub returns-in-6 : goal.returns-in-6
unfolding formed
returns-in-6 c = rw (c.has_form-in-6.ensures, c.in-6.is)

pub returns-in-11 : goal.returns-in-11
unfolding formed
returns-in-11 c = rw (c.has_form-in-11.ensures, c.in-11.is)

pub returns-in-23 : goal.returns-in-23
unfolding formed
returns-in-23 c = rw (c.has_form-in-23.ensures, c.in-23.is)

pub returns-in-196 : goal.returns-in-196
unfolding formed
returns-in-196 c = rw (c.has_form-in-196.ensures, c.in-196.is)

pub returns-in-207 : goal.returns-in-207
unfolding formed
returns-in-207 c = rw (c.attribute_formed.ensures, c.in-207.is)

pub returns-in_default : goal.returns-in_default
unfolding formed
returns-in_default c =
    let k = c.args.o.class in
    let other : (class : ℕ) → (k ≡ class → ⊥) → eqb k class ≡ false = ne_eqb k in
    simp (other session (λ e. omega arith), other error_spec (λ e. omega arith), other sender_template (λ e. omega arith), other message_id (λ e. omega arith), other admin_status (λ e. omega arith), other session_attribute (λ e. omega arith))
