-- The table with a connection added, removed.
use Rattle.std.specs.Prelude.{ℕ, List, Bool, cond, not, ◌&&◌, ◌||◌, eqb}
use Rattle.lists.specs.Count.{has}
use Rattle.lists.specs.Below.{below, first_below, place_of}
use Rattle.table.specs.Table.{Place, Table}
use Rattle.table.specs.Total.{slots}
use Rattle.table.specs.Zeros.{no_place}
use Rattle.table.specs.Lists.{customer_at, listed_at, Ids, Entry, call_at, Lsp, Held, Four, call_four, customer_four, place_at, is_taken, held_place, held_at, standalone_at}
use Rattle.table.specs.Share.{is_at}
use Rattle.table.specs.Rules.{is_lsp}
use Rattle.table.specs.Stores.{with_slot, with_customer, with_place, with_standalone_place}
use Rattle.spec_changes.specs.Calls.{slot_of}

-- ---- whose four

-- a connection counts among the four of a Call ID, a sender and an end point: those of one call of a pair, or, with Call
-- ID 0, those of one customer to any end point
abbrev pub in_four : ℕ → ℕ → ℕ → Held → Bool
in_four call sender endpoint y = eqb call y.call && eqb sender y.lsp.sender && (eqb call 0 || eqb endpoint y.lsp.endpoint)

-- both count among the same four
abbrev pub same_four : Held → Held → Bool
same_four x y = in_four x.call x.lsp.sender x.lsp.endpoint y

-- ---- in a four

abbrev pub place_for : Lsp → Place
place_for x = record { taken = 1; tunnel = x.tunnel; extended = x.extended; lsp = x.lsp_id }

-- 01, Share: a new connection takes the lowest free place of its four. Of a full four this is place 0: nothing is added
-- where four stand already (37).
abbrev pub free_place : Four → ℕ
free_place f = first_below (λ j. not (is_taken (place_at f j))) 4

-- the place that holds a connection; its Call ID is not asked for, here and below. Place 0 of a four that does not hold
-- it: nothing is removed then (15).
abbrev pub place_with : Four → Lsp → ℕ
place_with f x = place_of (held_place f) (is_lsp x) 4

-- ---- under a call

-- a call has this Call ID, and is of this pair
abbrev pub is_named : ℕ → ℕ → ℕ → Ids → Bool
is_named call endpoint sender c = eqb call c.short && eqb endpoint c.endpoint && eqb sender c.sender

-- a connection stands under a call
abbrev pub is_under : Ids → Held → Bool
is_under c x = is_named x.call x.lsp.endpoint x.lsp.sender c

-- the call of a connection
abbrev pub is_call_of : Held → Entry → Bool
is_call_of x e = is_under e.ids x

unfoldable pub added_under : Table → ℕ → Lsp → Table
added_under t i x = with_slot t t.occupied i (with_place (call_at t i) (free_place (call_four (call_at t i))) (place_for x))

unfoldable pub removed_under : Table → ℕ → Lsp → Table
removed_under t i x = with_slot t t.occupied i (with_place (call_at t i) (place_with (call_four (call_at t i)) x) no_place)

-- ---- with Call ID 0

unfoldable pub added_standalone : Table → ℕ → Lsp → Table
added_standalone t k x =
    with_customer t k (with_standalone_place (customer_at t k) (free_place (customer_four (customer_at t k))) x.endpoint (place_for x))

unfoldable pub removed_standalone : Table → ℕ → Lsp → Table
removed_standalone t k x = with_customer t k (with_standalone_place (customer_at t k) (place_with (customer_four (customer_at t k)) x) 0 no_place)

-- ---- wherever it stands

-- the customer of an address; record 0 for one that is not listed: such a message has answer 11
abbrev pub customer_of : Table → ℕ → ℕ
customer_of t sender = place_of (listed_at t) (is_at sender) 8

-- Call ID 0 means no call
unfoldable pub added : Table → Held → Table
added t x = cond (eqb x.call 0) (added_standalone t (customer_of t x.lsp.sender) x.lsp) (added_under t (slot_of t (is_call_of x)) x.lsp)

-- a connection stands under a call or with its customer; its Call ID takes no part in finding it
unfoldable pub removed : Table → Lsp → Table
removed t x =
    cond (has (is_lsp x) (below (held_at t) slots))
    (removed_under t (place_of (held_at t) (is_lsp x) slots) x)
    (removed_standalone t (place_of (standalone_at t) (is_lsp x) 8) x)

-- 35: a connection with a Call ID, 0 excepted, that no open call of its pair has
abbrev pub call_missing : List Entry → Held → Bool
call_missing l x = not (eqb x.call 0) && not (has (is_call_of x) l)
