-- Last refreshes in a copy (02, A7 and A13): each call has its own again, and the node's time is the latest of those
-- restored, 0 if none.
use Rattle.std.specs.Prelude.{ℕ, ◌≡◌, List, [], ◌∷◌, ◌++◌, map, Bool, true, false}
use Rattle.lists.specs.Below.{element_if, below}
use Rattle.table.specs.Table.{Table}
use Rattle.table.specs.Total.{slots}
use Rattle.table.specs.Word.{is_used}
use Rattle.table.specs.Lists.{call_at}
use Rattle.spec_changes.specs.Calls.{stored}
use Rattle.spec_checkpoint.specs.Layout.{call_bytes, head_bytes}
use Rattle.spec_checkpoint.specs.Restored.{Restored, restored}
use Rattle.checkpoint_cases.specs.Twins.{X, end, roster_bytes}

-- what a reading gives: its answer, the node's time, and the last refresh of each call, in slot order
pub record TimeResult : Type 0 where
  pub answer : ℕ
  pub time : ℕ
  pub refreshes : List ℕ

-- a checkpoint's bytes, plain (false) or with salvage
pub record TimeCase : Type 0 where
  pub salvage : Bool
  pub checkpoint : List ℕ
  pub outcome : TimeResult

-- the record of a call of X, by its slot, its short ID, which its name has too, and its last refresh
abbrev call_of : ℕ → ℕ → ℕ → List ℕ
call_of slot short refresh =
    call_bytes slot
    (stored refresh
    (record {
      ids = record { endpoint = end; sender = X; short = short; long = short ∷ [] };
      made = false;
      request = record { epoch = 0; identifier = 0 };
    }))

abbrev row_of : Bool → List ℕ → ℕ → ℕ → List ℕ → TimeCase
row_of salvage checkpoint answer time refreshes = record {
  salvage = salvage;
  checkpoint = checkpoint;
  outcome = record { answer = answer; time = time; refreshes = refreshes };
}

-- the second names a slot outside the total, and has the latest refresh
abbrev outside : List ℕ
outside = head_bytes 2 0 ++ call_of 0 1 7 ++ call_of 64 2 100

unfoldable pub time_rows : List TimeCase
time_rows =
    -- both are kept: the later of the two, wherever it stands
    row_of false (head_bytes 2 0 ++ call_of 0 1 100 ++ call_of 1 2 7) 0 100 (100 ∷ 7 ∷ [])
    ∷ row_of false (head_bytes 2 0 ++ call_of 0 1 7 ++ call_of 1 2 100) 0 100 (7 ∷ 100 ∷ [])
    -- the record with the latest refresh is dropped, alone or beside the first, which has its IDs: the time is that of the
    -- one kept
    ∷ row_of true outside 0 7 (7 ∷ [])
    ∷ row_of true (head_bytes 2 0 ++ call_of 0 1 7 ++ call_of 1 1 100) 0 7 (7 ∷ [])
    -- read plainly, such a copy is refused, and nothing is left of the first
    ∷ row_of false outside 72 0 []
    -- no call, no refresh
    ∷ row_of false (head_bytes 0 0) 0 0 []
    ∷ []

abbrev refreshes_of : Table → List ℕ
refreshes_of t = below (λ i. element_if (is_used t.occupied i) (call_at t i).refreshed) slots

abbrev timed : Restored → TimeResult
timed f = record { answer = f.answer; time = f.table.time; refreshes = refreshes_of f.table }

-- the definitions give what each row says
abbrev pub TimesHold : Type 0
TimesHold = map (λ x. timed (restored x.salvage roster_bytes x.checkpoint)) time_rows ≡ map (λ (x : TimeCase). x.outcome) time_rows
