-- The node's time, and the calls that nobody refreshes (02, A7): before a message the time is raised, and calls with no
-- connections and no refresh for five times the caller's period or longer are closed.
use Rattle.std.specs.Prelude.{ℕ, max, ◌-◌, ◌*◌, ◌<◌, List, [], ◌∷◌, Bool, cond, not, ◌&&◌, eqb, leb}
use Rattle.lists.specs.Below.{element_if, below, every_below}
use Rattle.table.specs.Table.{Call, Table}
use Rattle.table.specs.Total.{slots}
use Rattle.table.specs.Word.{is_used}
use Rattle.table.specs.Lists.{call_at, call_four, place_at, is_taken}
use Rattle.table.specs.Stores.{with_time}
use Rattle.spec_changes.specs.Calls.{freed}

-- ---- the time

-- raised to the caller's if that is larger
abbrev pub raised : Table → ℕ → Table
raised t time = with_time t (max t.time time)

-- ---- which calls

-- no connections: none of the four places is taken
unfoldable pub is_idle : Call → Bool
is_idle c = every_below (λ j. not (is_taken (place_at (call_four c) j))) 4

-- no connections, and no refresh for five times the period or longer
unfoldable pub is_expired : ℕ → ℕ → Call → Bool
is_expired time period c = leb (5 * period) (time - c.refreshed) && is_idle c

abbrev pub expires_at : Table → ℕ → ℕ → Bool
expires_at t period i = is_used t.occupied i && is_expired t.time period (call_at t i)

-- ---- what the answer lists

-- the slot of a call that is closed, and its customer's address
pub record Closing : Type 0 where
  pub slot : ℕ
  pub address : ℕ

abbrev pub closing_at : Table → ℕ → Closing
closing_at t i = record { slot = i; address = (call_at t i).sender }

-- of the first n slots, in slot order
abbrev pub closings_below : Table → ℕ → ℕ → List Closing
closings_below t period n = below (λ i. element_if (expires_at t period i) (closing_at t i)) n

-- of all slots; a period of 0 closes none
unfoldable pub closings_of : Table → ℕ → List Closing
closings_of t period = cond (eqb period 0) [] (closings_below t period slots)

-- slots rise, so that none is listed twice
abbrev pub Rising : List Closing → Type 0
Rising [] = Unit {0}
Rising (c ∷ []) = Unit {0}
Rising (c ∷ d ∷ l) = (c.slot < d.slot) × Rising (d ∷ l)

-- as words: slot and address in turn
unfoldable pub closing_words : List Closing → List ℕ
closing_words [] = []
closing_words (c ∷ l) = c.slot ∷ c.address ∷ closing_words l

-- ---- the table that a message finds

-- the slots listed are freed, one after another
unfoldable pub freed_all : Table → List Closing → Table
freed_all t [] = t
freed_all t (c ∷ l) = freed_all (freed t c.slot) l

-- the time raised, and then the calls closed that nobody refreshed
unfoldable pub elapsed : Table → ℕ → ℕ → Table
elapsed t time period = freed_all (raised t time) (closings_of (raised t time) period)
