-- The reply of document 01's worked example ("The tap program"), computed from the definitions: the PathErr 32/3 that
-- its Path is answered with, all 48 bytes.
-- Assumes nothing.
use Prim.Native.Nat.{ℕ}
use mathlib.Core.Path.{◌≡◌, refl}
use mathlib.Core.List.{List, [], ◌∷◌, ◌++◌}
use Rattle.numbers.specs.Checksum.{first_words, all_round, words_sum}
use Rattle.replies.specs.declared.path_err.PathErr.{PathErr}
use Rattle.reply_objects.specs.Header.{checksum_of, with_checksum}
use Rattle.replies.specs.Messages.{path_err_before_checksum, path_err_bytes}

abbrev session_object : List ℕ
session_object = 0x00 ∷ 0x10 ∷ 0x01 ∷ 0x07 ∷ 0x0a ∷ 0x00 ∷ 0x00 ∷ 0x02 ∷ 0x00 ∷ 0x05 ∷ 0x00 ∷ 0x01 ∷ 0x0a ∷ 0x00 ∷ 0x00 ∷ 0x01 ∷ []

abbrev template_object : List ℕ
template_object = 0x00 ∷ 0x0c ∷ 0x0b ∷ 0x07 ∷ 0x0a ∷ 0x00 ∷ 0x00 ∷ 0x01 ∷ 0x00 ∷ 0x00 ∷ 0x00 ∷ 0x01 ∷ []

abbrev path : List ℕ
path = (0x10 ∷ 0x01 ∷ 0x00 ∷ 0x00 ∷ 0xff ∷ 0x00 ∷ 0x00 ∷ 0x24 ∷ []) ++ session_object ++ template_object

abbrev unknown_call : PathErr
unknown_call = record {
  session = record { at = 8; size = 16 };
  error = record { node = 0x0a000002; code = 32; value = 3 };
  template = record { at = 24; size = 12 };
}

pub worked_example : path_err_bytes path unknown_call
    ≡ (0x10 ∷ 0x03 ∷ 0xb6 ∷ 0x64 ∷ 0xff ∷ 0x00 ∷ 0x00 ∷ 0x30 ∷ []) ++ session_object
    ++ (0x00 ∷ 0x0c ∷ 0x06 ∷ 0x01 ∷ 0x0a ∷ 0x00 ∷ 0x00 ∷ 0x02 ∷ 0x00 ∷ 0x20 ∷ 0x00 ∷ 0x03 ∷ []) ++ template_object
unfolding path_err_bytes path_err_before_checksum with_checksum checksum_of words_sum all_round first_words
worked_example = refl
