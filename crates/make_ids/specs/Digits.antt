-- Words of the contracts: hex digits in a name's words.
use Rattle.std.specs.Prelude.{ℕ, ◌≤◌, ◌<◌, ◌≡◌, Bool, false, ◌&&◌, List, ◌++◌, Option, Some, None, IfSome, eqb}
use Rattle.table.specs.Rules.{same_bytes}
use Rattle.table.specs.Words.{bytes_of}
use Rattle.table_words.specs.Names.{word_in}
use Rattle.spec_calls.specs.Made.{hex_digit, hex_digits}
use Rattle.make_ids.specs.declared.digits.PairDigits.{PairDigits}

-- what a byte stands for, if it is a digit
pub record ValueOf (byte r : ℕ) : Type 0 where
  pub value : (d : ℕ) → d < 16 → byte ≡ hex_digit d → r ≡ d
  pub small : r < 16

-- a number is the one that was found
abbrev pub is_it : ℕ → Option ℕ → Bool
is_it n None = false
is_it n (Some r) = eqb n r

-- the number below 4,096 whose four digits a word has
pub record NumberOf (word : ℕ) (r : Option ℕ) : Type 0 where
  pub number : (n : ℕ) → 1 ≤ n → n < 4096 → is_it n r ≡ same_bytes (hex_digits 4 n) (bytes_of word)
  pub fits : IfSome r (λ n. n < 4096)

-- the digits of sender and end point
pub record DigitsOf (endpoint sender : ℕ) (p : PairDigits) : Type 0 where
  pub of_sender : bytes_of p.sender_high ++ bytes_of p.sender_low ≡ hex_digits 8 sender
  pub of_endpoint : bytes_of p.endpoint_high ++ bytes_of p.endpoint_low ≡ hex_digits 8 endpoint

-- a name's first four words have them
abbrev pub begins_with : PairDigits → List ℕ → Bool
begins_with p name =
    eqb (word_in name 0) p.sender_high
    && eqb (word_in name 1) p.sender_low
    && (eqb (word_in name 2) p.endpoint_high && eqb (word_in name 3) p.endpoint_low)
