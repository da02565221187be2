-- One call recorded twice, in two slots, as on the night that the project began with, and what reading such a
-- checkpoint gives (02, A13: the right checkpoint is kept).
use Rattle.std.specs.Prelude.{ℕ, ◌≡◌, List, [], ◌∷◌, ◌++◌, map, Bool, true, false, length}
use Rattle.numbers.specs.BigEndian.{bytes16, bytes32}
use Rattle.table.specs.Lists.{entries, Held, held}
use Rattle.spec_changes.specs.Calls.{New, stored}
use Rattle.spec_checkpoint.specs.Layout.{call_bytes, connection_bytes, joined, head_bytes}
use Rattle.spec_checkpoint.specs.Restored.{Restored, restored}

-- what a reading gives: its answer, the records dropped, the slots in use, and the Call ID of each connection held
pub record ReadingResult : Type 0 where
  pub answer : ℕ
  pub calls : ℕ
  pub connections : ℕ
  pub slots : List ℕ
  pub held : List ℕ

-- a checkpoint's bytes, plain (false) or with salvage
pub record ReadingCase : Type 0 where
  pub salvage : Bool
  pub checkpoint : List ℕ
  pub outcome : ReadingResult

-- X, 10.0.0.1, with guarantee 1 and limit 2
abbrev pub X : ℕ
X = 0x0a000001

abbrev pub end : ℕ
end = 0x0a000002

abbrev pub roster_bytes : List ℕ
roster_bytes = 0x11 ∷ bytes32 end ++ (0 ∷ 0 ∷ 7 ∷ []) ++ bytes32 X ++ bytes16 0x0208

-- X's call of one long ID, under a short ID, as it is opened by name
abbrev pub call : ℕ → New
call short = record {
  ids = record { endpoint = end; sender = X; short = short; long = 110 ∷ 49 ∷ [] };
  made = false;
  request = record { epoch = 0; identifier = 0 };
}

-- the call under one short ID in slot 0, under another in slot 1
abbrev twins : ℕ → ℕ → List ℕ
twins first second = call_bytes 0 (stored 0 (call first)) ++ call_bytes 1 (stored 0 (call second))

-- a connection by its Call ID and Tunnel ID
abbrev pub connection : ℕ → ℕ → Held
connection short tunnel = record { call = short; lsp = record { endpoint = end; tunnel = tunnel; extended = X; sender = X; lsp_id = 1 } }

abbrev checkpoint_with : ℕ → ℕ → List Held → List ℕ
checkpoint_with first second lit = head_bytes 2 (length lit) ++ twins first second ++ joined connection_bytes lit

unfoldable pub rows : List ReadingCase
rows =
    -- the retry went into a second slot: the call stands once, with both its connections
    record {
      salvage = true;
      checkpoint = checkpoint_with 5 5 (connection 5 1 ∷ connection 5 2 ∷ []);
      outcome = record { answer = 0; calls = 1; connections = 0; slots = 0 ∷ []; held = 5 ∷ 5 ∷ [] };
    }
    -- under another short ID, and the connections name that one: it is kept, in its own slot
    ∷ record {
      salvage = true;
      checkpoint = checkpoint_with 5 6 (connection 6 1 ∷ connection 6 2 ∷ []);
      outcome = record { answer = 0; calls = 1; connections = 0; slots = 1 ∷ []; held = 6 ∷ 6 ∷ [] };
    }
    -- as many name the one as the other: the first is kept, and the other's connection has no call
    ∷ record {
      salvage = true;
      checkpoint = checkpoint_with 5 6 (connection 6 1 ∷ connection 5 2 ∷ []);
      outcome = record { answer = 0; calls = 1; connections = 1; slots = 0 ∷ []; held = 5 ∷ [] };
    }
    -- read plainly, such a checkpoint is refused
    ∷ record {
      salvage = false;
      checkpoint = checkpoint_with 5 6 (connection 6 1 ∷ connection 6 2 ∷ []);
      outcome = record { answer = 72; calls = 0; connections = 0; slots = []; held = [] };
    }
    ∷ []

abbrev outcome_of : Restored → ReadingResult
outcome_of f = record {
  answer = f.answer;
  calls = f.calls;
  connections = f.connections;
  slots = map (λ e. e.slot) (entries f.table);
  held = map (λ x. x.call) (held f.table);
}

abbrev pub read_under : List ℕ → ReadingCase → ReadingResult
read_under roster x = outcome_of (restored x.salvage roster x.checkpoint)

abbrev pub expected : ReadingCase → ReadingResult
expected x = x.outcome

-- the definitions give what each row says
abbrev pub RowsHold : Type 0
RowsHold = map (read_under roster_bytes) rows ≡ map expected rows
