-- The common header (01, Message layout), and its tests 3, 4, 5 and 6 in this order (01, Every answer).
use Rattle.std.specs.Prelude.{ℕ, ◌/◌, ◌%◌, List, Bool, Result, Ok, Err, cond, not, ◌||◌, length, get_or, ltb, eqb}
use Rattle.numbers.specs.BigEndian.{be16_at}
use Rattle.numbers.specs.Checksum.{words_sum}
use Rattle.objects.specs.declared.fault.Fault.{Fault}
use Rattle.objects.specs.declared.fault.Fault.TheVariants.{MessageLength, Version, Checksum, MessageType}
use Rattle.messages.specs.declared.header.MessageType.TheVariants.{Path, PathTear, Notify}
use Rattle.messages.specs.declared.header.MessageType as header

-- what a header says: its type, or what is wrong with it
abbrev pub Header : Type 0
Header = Result header.MessageType Fault

-- 3: under 8 or over 1,024 bytes, not a multiple of 4, or the length field differs
unfoldable pub bad_message_length : List ℕ → Bool
bad_message_length s = ltb (length s) 8 || (ltb 1024 (length s) || not (eqb (length s % 4) 0) || not (eqb (be16_at s 6) (length s)))

-- a zero field means that none was sent; else all words add up to FFFF
unfoldable pub checksum_holds : List ℕ → Bool
checksum_holds s = eqb (be16_at s 2) 0 || eqb (words_sum s) 65535

-- the types taken: 1, 5 and 21; any other is 6
unfoldable pub type_of : ℕ → Header
type_of number =
    cond (eqb number 1) (Ok Path)
    (cond (eqb number 5) (Ok PathTear)
    (cond (eqb number 21) (Ok Notify)
    (Err MessageType)))

unfoldable pub header_of : List ℕ → Header
header_of s =
    cond (bad_message_length s) (Err MessageLength)
    (cond (not (eqb (get_or s 0 0 / 16) 1)) (Err Version)
    (cond (not (checksum_holds s)) (Err Checksum)
    (type_of (get_or s 1 0))))
