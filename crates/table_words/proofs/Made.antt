-- The 32 words of a call with nothing under it.
-- Assumes nothing.
use Prim.Native.Nat.{ℕ}
use mathlib.Core.Path.{◌≡◌, refl}
use mathlib.Core.List.{List, ◌∷◌}
use lib.ListN.{get_or, replicate}
use Rattle.lists.specs.Below.{below}
use Rattle.table.specs.Words.{name_at_word, call_at_word}
use Rattle.table_words.specs.declared.calls.CallHead.{CallHead}
use Rattle.table_words.specs.Heads.{call_of}

-- its numbers, then the eight words of its name, then zeros
abbrev pub call_words : CallHead → List ℕ → List ℕ
call_words c n =
    c.endpoint ∷ c.sender ∷ c.refreshed ∷ c.epoch ∷ c.identifier ∷ c.id.0 ∷ c.made ∷ c.size
    ∷ get_or n 0 0 ∷ get_or n 1 0 ∷ get_or n 2 0 ∷ get_or n 3 0 ∷ get_or n 4 0 ∷ get_or n 5 0 ∷ get_or n 6 0 ∷ get_or n 7 0 ∷ replicate 16 0

pub call_made : (c : CallHead) (n : List ℕ) → call_at_word (call_words c n) 0 ≡ call_of c (name_at_word n 0)
unfolding below
call_made c n = refl
