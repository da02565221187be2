use Prim.Native.Nat.{ℕ, ◌+◌, ◌*◌, ◌≤◌, ◌<◌}
use native.Mathlib.Omega.{arith}
use native.Mathlib.Nat.{not-suc-le-zero}
use mathlib.Core.Path.{◌≡◌, refl, ap, ◌∙◌}
use lib.ListN.{length, get_or, length-set}
use Rattle.lists.proofs.Chain.{chain_start}
use Rattle.table_words.proofs.NameBytes.{zero_get}
use Rattle.spec_checkpoint.specs.Layout.{calls_in, call_record, connection_record}
use Rattle.spec_checkpoint.specs.Salvage.{named_by}
use Rattle.checkpoint_choice.specs.Chained.{chain_of, is_first, stand_in_named}
use Rattle.checkpoint_choice.proofs.Named.{counted_length, counted_most, tallied_none, tallied_turn, tallied_all, for_named, named_kept}
use Rattle.checkpoint_choice.proofs.Best.{filled_turn}
use Rattle.checkpoint_choice.proofs.naming.named_counts.Goals as goal

pub loop-i-init : goal.loop-i-init
loop-i-init c =
    let s = c.args.c.bytes.now in
    record {
      within = omega (arith, c.args.c.size);
      most = omega arith;
      chain_count = omega arith;
      place_count = omega arith;
      chains = chain_start (is_first s) (chain_of c.args.f s) _ _ (λ m. ap (λ l. get_or l m 0) c.requires.0 ∙ zero_get 1024 m);
    }

pub loop-k-init : goal.loop-k-init
loop-k-init c =
    let s = c.args.c.bytes.now in
    let zero : (j : ℕ) → get_or c.args.counts.now j 0 ≡ 0 = λ j. ap (λ l. get_or l j 0) c.requires.1 ∙ zero_get 4096 j in
    (λ j. omega (arith, zero j), tallied_none s (4 + 55 * calls_in s) (calls_in s) c.args.counts.now zero)

pub count_connection-requires : goal.count_connection-requires
count_connection-requires c =
    let all : c.loop-i.i ≡ calls_in c.args.c.bytes.now = omega (arith, c.args.c.calls_is) in
    (rw all at c.loop-i.invariant, omega arith, λ j. omega (arith, c.loop-k.invariant.0 j, c.args.c.connections_fit))

pub loop-k-preserved : goal.loop-k-preserved
loop-k-preserved c =
    let s = c.args.c.bytes.now in
    let n = calls_in s in
    let counts = c.loop-k.counts in
    let x = connection_record s c.loop-k.k in
    let e = c.count_connection.ensures in
    let room : n ≤ length counts = omega (arith, ap length e, counted_length counts (stand_in_named s n x), c.loop-i.invariant.most, c.args.c.calls_is) in (
      λ j. rw e (counted_most s counts x.call x.lsp.endpoint x.lsp.sender n (stand_in_named s n x) room refl j c.loop-k.k (c.loop-k.invariant.0 j)),
      rw e (tallied_turn s (4 + 55 * n) n c.loop-k.k counts room c.loop-k.invariant.1),
    )

pub loop-i-2-init : goal.loop-i-2-init
loop-i-2-init c =
    let s = c.args.c.bytes.now in
    let all : c.loop-k.k ≡ c.args.c.connections = omega arith in (
      λ j b. absurd (not-suc-le-zero b),
      tallied_all s c.args.c.connections (calls_in s) c.loop-k.counts c.args.c.connections_is (rw all at c.loop-k.invariant.1),
    )

pub count_for-requires : goal.count_for-requires
count_for-requires c =
    let all : c.loop-i.i ≡ calls_in c.args.c.bytes.now = omega (arith, c.args.c.calls_is) in
    (rw all at c.loop-i.invariant, omega arith)

pub loop-i-2-preserved : goal.loop-i-2-preserved
loop-i-2-preserved c =
    let s = c.args.c.bytes.now in
    let n = calls_in s in
    let i = c.loop-i-2.i in
    let counts = c.loop-i-2.counts in
    let e = c.count_for.ensures in
    let inside : i < n = omega (arith, c.args.c.calls_is) in
    let room : i < length counts = omega (arith, ap length e, length-set {A = ℕ}) in (
      rw e (filled_turn (λ j. named_by s (call_record s j)) counts i _ room c.loop-i-2.invariant.0 (for_named s n i counts inside c.loop-i-2.invariant.1)),
      rw e (named_kept s n i counts inside c.loop-i-2.invariant.1 room),
    )
