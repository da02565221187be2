-- One copy written out byte by byte from 02's layout (A13), and not with the definitions of the layout: the table that it
-- is written from, and the table that it is read into, field by field. No two fields that could be taken for each other
-- hold the same number. The first call was opened by name: it has no mark and zeros for a request's epoch and identifier.
-- The node made the second (02, A6), which was refreshed last (02, A7).
use Rattle.std.specs.Prelude.{ℕ, ◌≡◌, List, [], ◌∷◌, ◌++◌, false, replicate}
use Rattle.table.specs.Table.{Place, Call, Customer, Table}
use Rattle.table.specs.Zeros.{no_place, no_call, no_customer}
use Rattle.spec_checkpoint.specs.Restored.{written, restored}

-- form 1 with two customers; own address 198.51.100.9, epoch 0x010203; 10.0.0.1 with guarantee 1 and limit 3, 10.0.0.2
-- with guarantee 2 and limit 4
unfoldable pub roster_bytes : List ℕ
roster_bytes =
    0x12 ∷ 0xc6 ∷ 0x33 ∷ 0x64 ∷ 0x09 ∷ 0x01 ∷ 0x02 ∷ 0x03 ∷
    0x0a ∷ 0x00 ∷ 0x00 ∷ 0x01 ∷ 0x02 ∷ 0x0c ∷
    0x0a ∷ 0x00 ∷ 0x00 ∷ 0x02 ∷ 0x04 ∷ 0x10 ∷
    []

unfoldable pub copy : List ℕ
copy =
    -- form 1, 2 calls; 3 connections
    0x10 ∷ 0x02 ∷ 0x00 ∷ 0x03 ∷
    -- slot 0, short ID, end point 192.168.10.1, sender 10.0.0.1
    0x00 ∷ 0x01 ∷ 0x02 ∷ 0xc0 ∷ 0xa8 ∷ 0x0a ∷ 0x01 ∷ 0x0a ∷ 0x00 ∷ 0x00 ∷ 0x01 ∷
    -- not made, name of 5 bytes: alpha
    0x05 ∷ 0x61 ∷ 0x6c ∷ 0x70 ∷ 0x68 ∷ 0x61 ∷ 0x00 ∷ 0x00 ∷ 0x00 ∷ 0x00 ∷ 0x00 ∷ 0x00 ∷ 0x00 ∷ 0x00 ∷ 0x00 ∷ 0x00 ∷ 0x00 ∷ 0x00 ∷
    0x00 ∷ 0x00 ∷ 0x00 ∷ 0x00 ∷ 0x00 ∷ 0x00 ∷ 0x00 ∷ 0x00 ∷ 0x00 ∷ 0x00 ∷ 0x00 ∷ 0x00 ∷ 0x00 ∷ 0x00 ∷ 0x00 ∷
    -- last refresh, request epoch and identifier
    0xc1 ∷ 0xc2 ∷ 0xc3 ∷ 0xc4 ∷ 0x00 ∷ 0x00 ∷ 0x00 ∷ 0x00 ∷ 0x00 ∷ 0x00 ∷ 0x00 ∷
    -- slot 5, short ID, end point 192.168.11.2, sender 10.0.0.2
    0x05 ∷ 0x03 ∷ 0x04 ∷ 0xc0 ∷ 0xa8 ∷ 0x0b ∷ 0x02 ∷ 0x0a ∷ 0x00 ∷ 0x00 ∷ 0x02 ∷
    -- made, name of 2 bytes: be
    0x82 ∷ 0x62 ∷ 0x65 ∷ 0x00 ∷ 0x00 ∷ 0x00 ∷ 0x00 ∷ 0x00 ∷ 0x00 ∷ 0x00 ∷ 0x00 ∷ 0x00 ∷ 0x00 ∷ 0x00 ∷ 0x00 ∷ 0x00 ∷ 0x00 ∷ 0x00 ∷
    0x00 ∷ 0x00 ∷ 0x00 ∷ 0x00 ∷ 0x00 ∷ 0x00 ∷ 0x00 ∷ 0x00 ∷ 0x00 ∷ 0x00 ∷ 0x00 ∷ 0x00 ∷ 0x00 ∷ 0x00 ∷ 0x00 ∷
    -- last refresh, request epoch and identifier
    0xd1 ∷ 0xd2 ∷ 0xd3 ∷ 0xd4 ∷ 0xa1 ∷ 0xa2 ∷ 0xa3 ∷ 0xb1 ∷ 0xb2 ∷ 0xb3 ∷ 0xb4 ∷
    -- end point, Call ID, Tunnel ID, extended ID, sender, LSP ID: under the call of slot 5, by place
    0xc0 ∷ 0xa8 ∷ 0x0b ∷ 0x02 ∷ 0x03 ∷ 0x04 ∷ 0x15 ∷ 0x16 ∷ 0x21 ∷ 0x22 ∷ 0x23 ∷ 0x24 ∷ 0x0a ∷ 0x00 ∷ 0x00 ∷ 0x02 ∷ 0x17 ∷ 0x18 ∷
    0xc0 ∷ 0xa8 ∷ 0x0b ∷ 0x02 ∷ 0x03 ∷ 0x04 ∷ 0x19 ∷ 0x1a ∷ 0x31 ∷ 0x32 ∷ 0x33 ∷ 0x34 ∷ 0x0a ∷ 0x00 ∷ 0x00 ∷ 0x02 ∷ 0x1b ∷ 0x1c ∷
    -- of Call ID 0
    0xc0 ∷ 0xa8 ∷ 0x0c ∷ 0x03 ∷ 0x00 ∷ 0x00 ∷ 0x0d ∷ 0x0e ∷ 0x11 ∷ 0x12 ∷ 0x13 ∷ 0x14 ∷ 0x0a ∷ 0x00 ∷ 0x00 ∷ 0x01 ∷ 0x0f ∷ 0x10 ∷
    []

-- ---- the table

abbrev place : ℕ → ℕ → ℕ → Place
place tunnel extended lsp = record { taken = 1; tunnel = tunnel; extended = extended; lsp = lsp }

abbrev alpha : Call
alpha = record {
  endpoint = 0xc0a80a01;
  sender = 0x0a000001;
  refreshed = 0xc1c2c3c4;
  epoch = 0;
  identifier = 0;
  id = 0x0102;
  made = 0;
  size = 5;
  name = 0x61 ∷ 0x6c ∷ 0x70 ∷ 0x68 ∷ 0x61 ∷ replicate 27 0;
  places = replicate 4 no_place;
}

abbrev be : List Place → Call
be places = record {
  endpoint = 0xc0a80b02;
  sender = 0x0a000002;
  refreshed = 0xd1d2d3d4;
  epoch = 0xa1a2a3;
  identifier = 0xb1b2b3b4;
  id = 0x0304;
  made = 1;
  size = 2;
  name = 0x62 ∷ 0x65 ∷ replicate 30 0;
  places = places;
}

-- 10.0.0.1, with the last MESSAGE_ID that is kept of it, and what it holds under no call
abbrev first : ℕ → ℕ → ℕ → List ℕ → List Place → Customer
first kept epoch identifier endpoints places = record {
  address = 0x0a000001;
  guarantee = 1;
  limit = 3;
  kept = kept;
  epoch = epoch;
  identifier = identifier;
  endpoints = endpoints;
  places = places;
}

abbrev second : Customer
second = record {
  address = 0x0a000002;
  guarantee = 2;
  limit = 4;
  kept = 0;
  epoch = 0;
  identifier = 0;
  endpoints = replicate 4 0;
  places = replicate 4 no_place;
}

-- slots 0 and 5 are used
abbrev table_with : ℕ → ℕ → Customer → Call → Table
table_with next time customer call = record {
  address = 0xc6336409;
  epoch = 0x010203;
  next = next;
  time = time;
  listed = 2;
  form = 1;
  occupied = 33 ∷ 0 ∷ 0 ∷ 0 ∷ [];
  customers = customer ∷ second ∷ replicate 6 no_customer;
  calls = alpha ∷ replicate 4 no_call ++ call ∷ replicate 194 no_call;
}

-- as it is written: places 0 and 2 of the call and place 1 of the customer are taken, and a MESSAGE_ID is kept
unfoldable pub table_before : Table
table_before =
    table_with 7 0xe1e2e3e4
    (first 1 0xc1c2c3 0xf1f2f3f4 (0 ∷ 0xc0a80c03 ∷ 0 ∷ 0 ∷ []) (no_place ∷ place 0x0d0e 0x11121314 0x0f10 ∷ no_place ∷ no_place ∷ []))
    (be (place 0x1516 0x21222324 0x1718 ∷ no_place ∷ place 0x191a 0x31323334 0x1b1c ∷ no_place ∷ []))

-- as it is read: places closed up, own identifiers from 1, the time at the latest refresh, no MESSAGE_ID kept (02, A8)
unfoldable pub table_after : Table
table_after =
    table_with 1 0xd1d2d3d4
    (first 0 0 0 (0xc0a80c03 ∷ 0 ∷ 0 ∷ 0 ∷ []) (place 0x0d0e 0x11121314 0x0f10 ∷ no_place ∷ no_place ∷ no_place ∷ []))
    (be (place 0x1516 0x21222324 0x1718 ∷ place 0x191a 0x31323334 0x1b1c ∷ no_place ∷ no_place ∷ []))

-- ---- written and read

-- into a buffer of two bytes more, which stay; into one of just its length; not into one of a byte less
abbrev pub CopyWritten : Type 0
CopyWritten =
    (written table_before (replicate 170 0xee) ≡ record { answer = 0; length = 168; buffer = copy ++ (0xee ∷ 0xee ∷ []) })
    × (written table_before (replicate 168 0xee) ≡ record { answer = 0; length = 168; buffer = copy })
    × (written table_before (replicate 167 0xee) ≡ record { answer = 73; length = 0; buffer = replicate 167 0xee })

-- plainly, under the roster
abbrev pub CopyRead : Type 0
CopyRead = restored false roster_bytes copy ≡ record { answer = 0; table = table_after; calls = 0; connections = 0 }
