-- The table of any 32-bit words has the shape of every table, and names of 32 bytes.
-- Assumes nothing.
use Prim.Native.Nat.{ℕ, ◌+◌, ◌*◌, ◌≤◌, ◌<◌}
use native.Mathlib.Omega.{arith}
use mathlib.Core.Path.{◌≡◌, refl}
use mathlib.Core.List.{List}
use lib.ListN.{length, get_or}
use Rattle.lists.specs.Below.{below}
use Rattle.lists.proofs.Below.{length_each, get_d_each}
use Rattle.table.specs.Total.{slots}
use Rattle.table.specs.Zeros.{past_call, past_customer}
use Rattle.table.specs.Lists.{call_at}
use Rattle.table.specs.Words.{customer_start, call_start, place_at_word, name_at_word, call_at_word, customer_at_word, table_of}
use Rattle.table.proofs.Cells.{used_at, used_fit}
use Rattle.spec_changes.specs.Shape.{Shape}

module _ (w : List ℕ) where
  pub words_calls : slots ≤ length (table_of w).calls
  words_calls = omega (arith, length_each (λ i. call_at_word w (call_start i)) slots)

  -- each of the occupancy's four words is two words of the array
  pub words_shape : ((i : ℕ) → get_or w i 0 < 0x100000000) → Shape (table_of w)
  words_shape fits = record {
    calls = words_calls;
    customers = length_each (λ k. customer_at_word w (customer_start k)) 8;
    words = used_fit w (λ k h. rw (used_at w k h) (omega (arith, fits (6 + 2 * k), fits (7 + 2 * k))));
    places = λ i h. rw (get_d_each (λ i. call_at_word w (call_start i)) slots i past_call h) (length_each (λ j. place_at_word w (call_start i + 16 + 4 * j)) 4);
    endpoints = λ k h. rw (get_d_each (λ k. customer_at_word w (customer_start k)) 8 k past_customer h) (length_each (λ j. get_or w (customer_start k + 6 + j) 0) 4);
    standalone_places = λ k h. rw (get_d_each (λ k. customer_at_word w (customer_start k)) 8 k past_customer h) (length_each (λ j. place_at_word w (customer_start k + 10 + 4 * j)) 4);
  }

  eight_words : (b : ℕ) → length (name_at_word w b) ≡ 32
  unfolding below
  eight_words b = refl

  pub words_names : (i : ℕ) → i < slots → length (call_at (table_of w) i).name ≡ 32
  words_names i h = rw (get_d_each (λ i. call_at_word w (call_start i)) slots i past_call h) (eight_words (call_start i + 8))
