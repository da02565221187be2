-- Words of the contracts: the masks of the bytes past a name.
use Rattle.std.specs.Prelude.{ℕ, List, ◌∷◌, ◌++◌, replicate}

-- one word's mask, between the words of which no byte is past the name and those of which every byte is
abbrev pub mask_row : ℕ → List ℕ
mask_row mask = replicate 8 0 ++ (mask ∷ replicate 7 0xffffffff)

-- a row for each number of bytes that a name's last word can have
abbrev pub past_masks : List ℕ
past_masks = mask_row 0xffffffff ++ mask_row 0xffffff00 ++ mask_row 0xffff0000 ++ mask_row 0xff000000
