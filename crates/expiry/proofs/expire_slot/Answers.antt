-- `expire_slot` meets its contract.
use native.Mathlib.Omega.{arith}
use mathlib.Core.Path.{sym, ◌∙◌}
use Rattle.expiry.proofs.expire_slot.Goals as goal

pub returns-then-expires : goal.returns-then-expires
returns-then-expires c =
    let gone = sym c.expires.ensures ∙ c.if-expires.true in
    record {
      count = rw gone;
      table = rw gone c.close_slot.ensures;
      listing = rw gone (c.list_closing.ensures ∙ rw c.call_head-c.ensures);
    }

pub returns : goal.returns
returns c =
    let left = sym c.expires.ensures ∙ c.if-expires.false in
    record { count = rw left (omega arith); table = rw left; listing = rw left }
