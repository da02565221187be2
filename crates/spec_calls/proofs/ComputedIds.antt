-- IDs that the node makes (02, A6), computed: the name digit by digit, and the numbers made one after another where a call
-- of the pair has a short ID and a name in use.
-- Assumes nothing.
use Prim.Native.Nat.{ℕ, zero, suc}
use mathlib.Core.Path.{◌≡◌, refl}
use mathlib.Core.List.{List, [], ◌∷◌, map}
use mathlib.Core.Bool.{false}
use Rattle.numbers.specs.Buffer.{at_front}
use Rattle.lists.specs.Below.{first_not}
use Rattle.table.specs.Lists.{Ids, Entry, entry_of}
use Rattle.table.specs.Rules.{same_bytes, same_short, same_long}
use Rattle.spec_changes.specs.Calls.{stored}
use Rattle.spec_calls.specs.Made.{hex_digit, hex_digits, made_name, is_unused, made_short, made_for}

-- sender 10.0.0.1, end point 10.1.0.0, short ID 1: the ASCII of 0a0000010a0100000001
pub first_name : made_name 0x0a010000 0x0a000001 1
    ≡ 0x30 ∷ 0x61 ∷ 0x30 ∷ 0x30 ∷ 0x30 ∷ 0x30 ∷ 0x30 ∷ 0x31
    ∷ 0x30 ∷ 0x61 ∷ 0x30 ∷ 0x31 ∷ 0x30 ∷ 0x30 ∷ 0x30 ∷ 0x30
    ∷ 0x30 ∷ 0x30 ∷ 0x30 ∷ 0x31 ∷ []
unfolding made_name hex_digits hex_digit
first_name = refl

-- every digit: fedcba9876543210c0de
pub every_digit : made_name 0x76543210 0xfedcba98 0xc0de
    ≡ 0x66 ∷ 0x65 ∷ 0x64 ∷ 0x63 ∷ 0x62 ∷ 0x61 ∷ 0x39 ∷ 0x38
    ∷ 0x37 ∷ 0x36 ∷ 0x35 ∷ 0x34 ∷ 0x33 ∷ 0x32 ∷ 0x31 ∷ 0x30
    ∷ 0x63 ∷ 0x30 ∷ 0x64 ∷ 0x65 ∷ []
unfolding made_name hex_digits hex_digit
every_digit = refl

abbrev in_slot : ℕ → Ids → Entry
in_slot i c = entry_of i (stored 0 (record { ids = c; made = false; request = record { epoch = 0; identifier = 0 } }))

-- a call of short ID 5 under the name made of 1, then n calls that the node made for the pair
abbrev with_made : ℕ → List Entry
with_made zero = in_slot 0 (record { endpoint = 0x0a010000; sender = 0x0a000001; short = 5; long = made_name 0x0a010000 0x0a000001 1 }) ∷ []
with_made (suc n) = in_slot (suc n) (made_for (with_made n) 0x0a010000 0x0a000001) ∷ with_made n

-- the first two made are 2 and 3; 1 is passed over for its name, 5 for its short ID
pub numbers_made : map (λ n. made_short (with_made n) 0x0a010000 0x0a000001) (0 ∷ 1 ∷ 2 ∷ 3 ∷ []) ≡ 2 ∷ 3 ∷ 4 ∷ 6 ∷ []
unfolding made_short is_unused made_name hex_digits hex_digit first_not same_short same_long same_bytes at_front
numbers_made = refl

-- what one pair uses is free for another: another sender, another end point, the two exchanged
pub other_pairs : made_short (with_made 1) 0x0a010000 0x0a000003 ∷ made_short (with_made 1) 0x0a020000 0x0a000001 ∷ made_short (with_made 1) 0x0a000001 0x0a010000 ∷ []
    ≡ 1 ∷ 1 ∷ 1 ∷ []
unfolding made_short is_unused made_name hex_digits hex_digit first_not same_short same_long same_bytes at_front
other_pairs = refl
