-- A checkpoint whose size is that of its counts: what the tests before a reading leave to be known.
use Rattle.std.specs.Prelude.{ℕ, ◌≡◌, List, length}
use Rattle.spec_checkpoint.specs.Layout.{calls_in, connections_in, checkpoint_size}

pub record Sized (s : List ℕ) (n k : ℕ) : Type 0 where
  pub calls : n ≡ calls_in s
  pub connections : k ≡ connections_in s
  pub size : length s ≡ checkpoint_size n k
