-- `late::is_behind` meets its contract: what wraps back to the old identifier is the difference that `is_behind` takes.
use Rattle.std.proofs.Common.{◌≡◌, ℕ, zero, suc, ◌+◌, ◌-◌, ◌%◌, ◌<◌, not, ◌&&◌, eqb, ltb, refl, ap, arith, lt-ltb, ne_eqb}
use Rattle.spec_calls.specs.Late.{is_behind}
use Rattle.find_call.proofs.late.is_behind.Goals as goal

-- below 2^32 one number alone wraps back to the old identifier
difference : (d old new : ℕ) → d < 4294967296 → old < 4294967296 → new < 4294967296 → (d + new) % 4294967296 ≡ old → d ≡ (old + 4294967296 - new) % 4294967296
difference d old new a b c e = omega arith

above_zero : (d : ℕ) → not (eqb d 0) ≡ ltb 0 d
above_zero zero = refl
above_zero (suc d) = rw (ne_eqb (suc d) 0 (λ e. omega arith), lt-ltb 0 (suc d) (omega arith))

pub returns : goal.returns
unfolding is_behind
returns c =
    let a = c.args in
    let e = difference c.wrapping_sub_u32-d.result a.old a.new c.wrapping_sub_u32-d.type_inv c.ranges.old.fits c.ranges.new.fits c.wrapping_sub_u32-d.ensures.value in
    rw (← e) (ap (λ b. b && ltb c.wrapping_sub_u32-d.result 2147483648) (above_zero c.wrapping_sub_u32-d.result))
