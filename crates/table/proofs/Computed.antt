-- Rows that the checker computes, with numbers written out by hand: rosters from 01 (The roster), the layout of the words
-- from include/chaffmoor.h, and which calls and connections are the same (01, Message layout and Every answer).
-- Assumes nothing.
use Rattle.std.proofs.Common.{◌≡◌, ℕ, true, false, List, [], ◌∷◌, ◌++◌, map, refl}
use Rattle.lists.specs.Below.{below}
use Rattle.table.specs.Word.{is_used}
use Rattle.table.specs.Lists.{Ids, Lsp}
use Rattle.table.specs.Zeros.{no_customer}
use Rattle.table.specs.Rules.{bad_share, same_bytes, same_short, same_long, same_lsp}
use Rattle.table.specs.Roster.{roster_number, guarantee_in, limit_in, spare_in, bad_form, records_answer, roster_answer, customers_from, fresh_table}
use Rattle.table.specs.Words.{customer_start, call_start, word_count, call_at_word, customer_at_word, table_of}

-- ---- rosters

-- a form byte, own address 10.0.0.2 and own epoch 7; then the records
abbrev roster_with : ℕ → List ℕ → List ℕ
roster_with form records = (form ∷ 0x0a ∷ 0x00 ∷ 0x00 ∷ 0x02 ∷ 0x00 ∷ 0x00 ∷ 0x07 ∷ []) ++ records

-- the customer 10.0.0.d, and the two bytes of its guarantee, limit and spare bits
abbrev customer : ℕ → ℕ → ℕ → List ℕ
customer d high low = 0x0a ∷ 0x00 ∷ 0x00 ∷ d ∷ high ∷ low ∷ []

abbrev answered : List ℕ → ℕ
answered s = roster_number (roster_answer s)

-- accepted, with guarantee 1 and limit 2; the low, the high spare bit set; limit 0, limit 65, guarantee 3 over limit 2; an
-- address twice; guarantees of 64 and of 65 in all
pub rosters : map answered
    (roster_with 0x11 (customer 1 0x02 0x08)
    ∷ roster_with 0x11 (customer 1 0x02 0x09) ∷ roster_with 0x11 (customer 1 0x02 0x0a)
    ∷ roster_with 0x11 (customer 1 0x00 0x00) ∷ roster_with 0x11 (customer 1 0x03 0x04) ∷ roster_with 0x11 (customer 1 0x06 0x08)
    ∷ roster_with 0x12 (customer 1 0x02 0x08 ++ customer 1 0x02 0x08)
    ∷ roster_with 0x12 (customer 1 0x7d 0x00 ++ customer 3 0x05 0x00) ∷ roster_with 0x12 (customer 1 0x7d 0x00 ++ customer 3 0x07 0x00) ∷ [])
    ≡ 0 ∷ 43 ∷ 43 ∷ 44 ∷ 44 ∷ 44 ∷ 45 ∷ 0 ∷ 46 ∷ []
unfolding roster_answer bad_form records_answer bad_share guarantee_in limit_in spare_in below
rosters = refl

-- form 2: one customer with 200 and 200; limit 201; guarantees of 100 and 100, of 100 and 101; the bits that are spare in
-- form 1; guarantee 3 over limit 2; limit 0. Form 1 with limit 65. Forms 0 and 3.
pub forms : map answered
    (roster_with 0x21 (customer 1 200 200) ∷ roster_with 0x21 (customer 1 0 201)
    ∷ roster_with 0x22 (customer 1 100 200 ++ customer 3 100 200) ∷ roster_with 0x22 (customer 1 100 200 ++ customer 3 101 200)
    ∷ roster_with 0x21 (customer 1 2 3) ∷ roster_with 0x21 (customer 1 3 2) ∷ roster_with 0x21 (customer 1 0 0)
    ∷ roster_with 0x11 (customer 1 0x03 0x04) ∷ roster_with 0x01 (customer 1 0x02 0x08) ∷ roster_with 0x31 (customer 1 0x02 0x08) ∷ [])
    ≡ 0 ∷ 44 ∷ 0 ∷ 46 ∷ 0 ∷ 44 ∷ 44 ∷ 44 ∷ 41 ∷ 41 ∷ []
unfolding roster_answer bad_form records_answer bad_share guarantee_in limit_in spare_in below
forms = refl

-- what a form 2 table is read as: its form, and a customer with guarantee 2 and limit 199
pub form_2 : (fresh_table (roster_with 0x21 (customer 1 2 199))).form ∷ map (λ c. c.address) (fresh_table (roster_with 0x21 (customer 1 2 199))).customers
    ++ map (λ c. c.guarantee) (fresh_table (roster_with 0x21 (customer 1 2 199))).customers ++ map (λ c. c.limit) (fresh_table (roster_with 0x21 (customer 1 2 199))).customers
    ≡ 2 ∷ 0x0a000001 ∷ 0 ∷ 0 ∷ 0 ∷ 0 ∷ 0 ∷ 0 ∷ 0 ∷ 2 ∷ 0 ∷ 0 ∷ 0 ∷ 0 ∷ 0 ∷ 0 ∷ 0 ∷ 199 ∷ 0 ∷ 0 ∷ 0 ∷ 0 ∷ 0 ∷ 0 ∷ 0 ∷ []
unfolding fresh_table customers_from guarantee_in limit_in no_customer below
form_2 = refl

-- ---- calls and connections: the same, then one thing different in each

abbrev ids_with : ℕ → ℕ → ℕ → List ℕ → Ids
ids_with endpoint sender short long = record { endpoint = endpoint; sender = sender; short = short; long = long }

abbrev first : Ids
first = ids_with 1 2 3 (4 ∷ 5 ∷ [])

-- the end point, the sender, the short ID
pub short_ids : map (same_short first) (first ∷ ids_with 9 2 3 (4 ∷ 5 ∷ []) ∷ ids_with 1 9 3 (4 ∷ 5 ∷ []) ∷ ids_with 1 2 9 (4 ∷ 5 ∷ []) ∷ [])
    ≡ true ∷ false ∷ false ∷ false ∷ []
unfolding same_short
short_ids = refl

-- the end point, the sender, the long ID's last byte, its length; the short ID is no part of it
pub long_ids : map (same_long first)
    (first ∷ ids_with 9 2 3 (4 ∷ 5 ∷ []) ∷ ids_with 1 9 3 (4 ∷ 5 ∷ []) ∷ ids_with 1 2 3 (4 ∷ 9 ∷ []) ∷ ids_with 1 2 3 (4 ∷ []) ∷ ids_with 1 2 9 (4 ∷ 5 ∷ []) ∷ [])
    ≡ true ∷ false ∷ false ∷ false ∷ false ∷ true ∷ []
unfolding same_long same_bytes
long_ids = refl

abbrev lsp_with : ℕ → ℕ → ℕ → ℕ → ℕ → Lsp
lsp_with endpoint tunnel extended sender lsp_id = record { endpoint = endpoint; tunnel = tunnel; extended = extended; sender = sender; lsp_id = lsp_id }

-- end point, Tunnel ID, extended tunnel ID, sender, LSP ID
pub connections : map (same_lsp (lsp_with 1 2 3 4 5))
    (lsp_with 1 2 3 4 5 ∷ lsp_with 9 2 3 4 5 ∷ lsp_with 1 9 3 4 5 ∷ lsp_with 1 2 9 4 5 ∷ lsp_with 1 2 3 9 5 ∷ lsp_with 1 2 3 4 9 ∷ [])
    ≡ true ∷ false ∷ false ∷ false ∷ false ∷ false ∷ []
unfolding same_lsp
connections = refl

-- ---- words

-- the head: slots 0, 33, 64, 100, 191 and 199 are used
abbrev head : List ℕ
head = 10 ∷ 11 ∷ 12 ∷ 15 ∷ 13 ∷ 14 ∷ 1 ∷ 2 ∷ 1 ∷ 16 ∷ 0 ∷ 0x80000000 ∷ 0x80 ∷ 0 ∷ []

pub head_words : (table_of head).address ∷ (table_of head).epoch ∷ (table_of head).next ∷ (table_of head).time ∷ (table_of head).listed ∷ (table_of head).form ∷ (table_of head).occupied
    ≡ 10 ∷ 11 ∷ 12 ∷ 15 ∷ 13 ∷ 14 ∷ 0x200000001 ∷ 0x1000000001 ∷ 0x8000000000000000 ∷ 0x80 ∷ []
unfolding below
head_words = refl

pub head_slots : map (is_used (table_of head).occupied) (0 ∷ 1 ∷ 33 ∷ 64 ∷ 99 ∷ 100 ∷ 191 ∷ 192 ∷ 199 ∷ 200 ∷ [])
    ≡ true ∷ false ∷ true ∷ true ∷ false ∷ true ∷ true ∷ false ∷ true ∷ false ∷ []
unfolding below is_used
head_slots = refl

pub starts : customer_start 0 ∷ customer_start 1 ∷ customer_start 7 ∷ call_start 0 ∷ call_start 1 ∷ call_start 199 ∷ word_count ∷ []
    ≡ 14 ∷ 40 ∷ 196 ∷ 222 ∷ 254 ∷ 6590 ∷ 6622 ∷ []
starts = refl

-- each word is the number of its place; but for word 8, which has four bytes of its own, the low one 41
abbrev counted : List ℕ
counted =
    0 ∷ 1 ∷ 2 ∷ 3 ∷ 4 ∷ 5 ∷ 6 ∷ 7 ∷ 0x44434241 ∷ 9 ∷ 10 ∷ 11 ∷ 12 ∷ 13 ∷ 14 ∷ 15
    ∷ 16 ∷ 17 ∷ 18 ∷ 19 ∷ 20 ∷ 21 ∷ 22 ∷ 23 ∷ 24 ∷ 25 ∷ 26 ∷ 27 ∷ 28 ∷ 29 ∷ 30 ∷ 31 ∷ []

pub call_words_lem : call_at_word counted 0 ≡ record {
  endpoint = 0;
  sender = 1;
  refreshed = 2;
  epoch = 3;
  identifier = 4;
  id = 5;
  made = 6;
  size = 7;
  name = 0x41 ∷ 0x42 ∷ 0x43 ∷ 0x44 ∷ 9 ∷ 0 ∷ 0 ∷ 0 ∷ 10 ∷ 0 ∷ 0 ∷ 0 ∷ 11 ∷ 0 ∷ 0 ∷ 0 ∷ 12 ∷ 0 ∷ 0 ∷ 0 ∷ 13 ∷ 0 ∷ 0 ∷ 0 ∷ 14 ∷ 0 ∷ 0 ∷ 0 ∷ 15 ∷ 0 ∷ 0 ∷ 0 ∷ [];
  places = record { taken = 16; tunnel = 17; extended = 18; lsp = 19 } ∷ record { taken = 20; tunnel = 21; extended = 22; lsp = 23 }
      ∷ record { taken = 24; tunnel = 25; extended = 26; lsp = 27 } ∷ record { taken = 28; tunnel = 29; extended = 30; lsp = 31 } ∷ [];
}
unfolding below
call_words_lem = refl

pub customer_words : customer_at_word counted 0 ≡ record {
  address = 0;
  guarantee = 1;
  limit = 2;
  kept = 3;
  epoch = 4;
  identifier = 5;
  endpoints = 6 ∷ 7 ∷ 0x44434241 ∷ 9 ∷ [];
  places = record { taken = 10; tunnel = 11; extended = 12; lsp = 13 } ∷ record { taken = 14; tunnel = 15; extended = 16; lsp = 17 }
      ∷ record { taken = 18; tunnel = 19; extended = 20; lsp = 21 } ∷ record { taken = 22; tunnel = 23; extended = 24; lsp = 25 } ∷ [];
}
unfolding below
customer_words = refl
