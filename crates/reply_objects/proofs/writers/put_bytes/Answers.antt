-- `writers::put_bytes` meets its contract: what is copied to the front is all of the bytes.
use Prim.Native.Nat.{ℕ, ◌<◌, ◌+◌}
use native.Mathlib.Nat.{zero-add}
use native.Mathlib.Numerals.{add-one}
use native.Mathlib.Omega.{arith}
use mathlib.Core.Path.{◌≡◌, refl, ◌∙◌}
use mathlib.Core.List.{List}
use lib.ListN.{length, get_or, set, length-set}
use lib.Seq.{paste, paste-zero, paste-suc, take-length}
use Rattle.numbers.specs.Buffer.{at_front}
use Rattle.reply_objects.proofs.writers.put_bytes.Goals as goal

one_more_copied : (s out₀ out : List ℕ) (i : ℕ) → i < length s → i < length out₀ → out ≡ paste out₀ 0 s i
    → set out i (get_or s i 0) ≡ paste out₀ 0 s (i + 1)
one_more_copied s out₀ out i h k e =
    let q : 0 + i < length out₀ = simp zero-add k in
    let r = paste-suc out₀ 0 s i 0 q h in
    rw (add-one, e) (simp zero-add (simp zero-add at r))

all_copied : (out₀ s : List ℕ) → paste out₀ 0 s (length s) ≡ at_front s out₀
unfolding at_front
all_copied out₀ s = rw (take-length s, zero-add)

pub loop-i-init : goal.loop-i-init
loop-i-init c = (refl, paste-zero c.args.out.now 0 c.args.bytes.now)

pub loop-i-preserved : goal.loop-i-preserved
loop-i-preserved c =
    let a = c.args in
    let turn = c.loop-i in
    (simp length-set (omega arith), one_more_copied a.bytes.now a.out.now _ turn.i (omega arith) (omega arith) turn.invariant.1)

pub returns : goal.returns
returns c =
    let all : c.loop-i.i ≡ length c.args.bytes.now = omega arith in
    (refl, c.loop-i.invariant.1 ∙ rw all (all_copied c.args.out.now c.args.bytes.now))
