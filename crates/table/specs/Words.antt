-- The table that an array of 32-bit words is. Words and table are one to one (Claims.antt, WordsTold), so that a
-- contract on the table settles every word. The code's constants are those of table/src/layout.rt.
--
--   0 address   1 epoch   2 next   3 time   4 listed   5 form   6 to 13 occupied, 32 slots each
--   14 + 26 k   customer k: address, guarantee, limit, kept mark, epoch, identifier, 4 end points, 4 places
--   222 + 32 i  call i: end point, sender, last refresh, epoch, identifier, short ID, made mark, name length, 8 words of name, 4 places
--   a place: taken, tunnel, extended, LSP
use Rattle.std.specs.Prelude.{ℕ, ◌+◌, ◌*◌, ◌/◌, ◌%◌, List, [], ◌∷◌, slice_index}
use Rattle.lists.specs.Below.{below}
use Rattle.table.specs.Table.{Place, Call, Customer, Table}
use Rattle.table.specs.Total.{slots}

-- ---- where things stand

abbrev pub customer_start : ℕ → ℕ
customer_start k = 14 + 26 * k

abbrev pub call_start : ℕ → ℕ
call_start i = 222 + 32 * i

-- how many words there are
abbrev pub word_count : ℕ
word_count = 6622

-- ---- what stands there

-- a word's four bytes, the low one first
abbrev pub bytes_of : ℕ → List ℕ
bytes_of x = x % 256 ∷ x / 256 % 256 ∷ x / 65536 % 256 ∷ x / 16777216 ∷ []

-- the 32 bytes of 8 words from a place on
abbrev pub name_at_word : List ℕ → ℕ → List ℕ
name_at_word w b = below (λ k. bytes_of (slice_index w (b + k))) 8

abbrev pub place_at_word : List ℕ → ℕ → Place
place_at_word w b = record { taken = slice_index w b; tunnel = slice_index w (b + 1); extended = slice_index w (b + 2); lsp = slice_index w (b + 3) }

abbrev pub places_at_word : List ℕ → ℕ → List Place
places_at_word w b = below (λ j. place_at_word w (b + 4 * j) ∷ []) 4

abbrev pub call_at_word : List ℕ → ℕ → Call
call_at_word w b = record {
  endpoint = slice_index w b;
  sender = slice_index w (b + 1);
  refreshed = slice_index w (b + 2);
  epoch = slice_index w (b + 3);
  identifier = slice_index w (b + 4);
  id = slice_index w (b + 5);
  made = slice_index w (b + 6);
  size = slice_index w (b + 7);
  name = name_at_word w (b + 8);
  places = places_at_word w (b + 16);
}

abbrev pub customer_at_word : List ℕ → ℕ → Customer
customer_at_word w b = record {
  address = slice_index w b;
  guarantee = slice_index w (b + 1);
  limit = slice_index w (b + 2);
  kept = slice_index w (b + 3);
  epoch = slice_index w (b + 4);
  identifier = slice_index w (b + 5);
  endpoints = below (λ j. slice_index w (b + 6 + j) ∷ []) 4;
  places = places_at_word w (b + 10);
}

-- ---- the whole

abbrev pub customers_of : List ℕ → List Customer
customers_of w = below (λ k. customer_at_word w (customer_start k) ∷ []) 8

abbrev pub slots_of : List ℕ → List Call
slots_of w = below (λ i. call_at_word w (call_start i) ∷ []) slots

-- a word of 64 slots is two of the array's, the lower slots' first
abbrev pub occupied_of : List ℕ → List ℕ
occupied_of w = below (λ k. (slice_index w (6 + 2 * k) + slice_index w (7 + 2 * k) * 4294967296) ∷ []) 4

abbrev pub table_of : List ℕ → Table
table_of w = record {
  address = slice_index w 0;
  epoch = slice_index w 1;
  next = slice_index w 2;
  time = slice_index w 3;
  listed = slice_index w 4;
  form = slice_index w 5;
  occupied = occupied_of w;
  customers = customers_of w;
  calls = slots_of w;
}
