-- A checkpoint (02, A13): packed bits, each field from the top bit down. A head of 4 bytes, 55 bytes for each call, 18
-- for each connection.
use Rattle.std.specs.Prelude.{ℕ, ◌+◌, ◌*◌, ◌/◌, ◌%◌, List, [], ◌∷◌, ◌++◌, length, get_or, take, drop, replicate}
use Rattle.numbers.specs.BigEndian.{be16_at, be24_at, be32_at, bytes16, bytes24, bytes32}
use Rattle.lists.specs.Below.{list_if, below}
use Rattle.table.specs.Table.{Call, Table}
use Rattle.table.specs.Total.{slots}
use Rattle.table.specs.Word.{is_used}
use Rattle.table.specs.Zeros.{no_place}
use Rattle.table.specs.Lists.{call_at, Entry, entry_of, entries, Held, held}

-- ---- the head: form 4 bits, where a roster has them (`form_in`), calls 12, connections 16

abbrev pub calls_in : List ℕ → ℕ
calls_in s = be16_at s 0 % 4096

abbrev pub connections_in : List ℕ → ℕ
connections_in s = be16_at s 2

abbrev pub checkpoint_size : ℕ → ℕ → ℕ
checkpoint_size calls connections = 4 + 55 * calls + 18 * connections

-- ---- a call: slot 8 bits, short ID 16, end point 32, sender 32, made mark 1, name length 7, name 256, last refresh 32, request epoch 24 and
-- identifier 32

-- a call's record: its slot, and the call as a slot would hold it
pub record Slotted : Type 0 where
  pub slot : ℕ
  pub call : Call

-- its entry: the call's four, mark and request, in that slot
abbrev pub record_entry : Slotted → Entry
record_entry r = entry_of r.slot r.call

abbrev pub slotted_at : List ℕ → ℕ → Slotted
slotted_at s at = record {
  slot = get_or s at 0;
  call = record {
    endpoint = be32_at s (at + 3);
    sender = be32_at s (at + 7);
    refreshed = be32_at s (at + 44);
    epoch = be24_at s (at + 48);
    identifier = be32_at s (at + 51);
    id = be16_at s (at + 1);
    made = get_or s (at + 11) 0 / 128;
    size = get_or s (at + 11) 0 % 128;
    name = take 32 (drop (at + 12) s);
    places = replicate 4 no_place;
  };
}

abbrev pub call_record : List ℕ → ℕ → Slotted
call_record s i = slotted_at s (4 + 55 * i)

abbrev pub call_bytes : ℕ → Call → List ℕ
call_bytes slot c =
    slot ∷ bytes16 c.id ++ bytes32 c.endpoint ++ bytes32 c.sender ++ ((c.made * 128 + c.size) ∷ []) ++ c.name ++ bytes32 c.refreshed
    ++ bytes24 c.epoch ++ bytes32 c.identifier

-- ---- a connection: end point 32 bits, Call ID 16, Tunnel ID 16, extended ID 32, sender 32, LSP ID 16

abbrev pub held_at_byte : List ℕ → ℕ → Held
held_at_byte s at = record {
  call = be16_at s (at + 4);
  lsp = record { endpoint = be32_at s at; tunnel = be16_at s (at + 6); extended = be32_at s (at + 8); sender = be32_at s (at + 12); lsp_id = be16_at s (at + 16) };
}

abbrev pub connection_record : List ℕ → ℕ → Held
connection_record s k = held_at_byte s (4 + 55 * calls_in s + 18 * k)

abbrev pub connection_bytes : Held → List ℕ
connection_bytes x =
    bytes32 x.lsp.endpoint ++ bytes16 x.call ++ bytes16 x.lsp.tunnel ++ bytes32 x.lsp.extended ++ bytes32 x.lsp.sender ++ bytes16 x.lsp.lsp_id

-- ---- the whole: calls in slot order; connections by slot and place, then those of Call ID 0 by customer and place

abbrev pub joined {ℓ} : {A : Type ℓ} → (A → List ℕ) → List A → List ℕ
joined f [] = []
joined f (x ∷ l) = f x ++ joined f l

abbrev pub head_bytes : ℕ → ℕ → List ℕ
head_bytes calls connections = bytes16 (4096 + calls) ++ bytes16 connections

unfoldable pub checkpoint_of : Table → List ℕ
checkpoint_of t =
    head_bytes (length (entries t)) (length (held t))
    ++ below (λ i. list_if (is_used t.occupied i) (call_bytes i (call_at t i))) slots
    ++ joined connection_bytes (held t)
