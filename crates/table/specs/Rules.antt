-- The table rules (01, Table rules), one by one, and the test behind answer 1.
--
-- Three rules hold by the table's shape. A connection under a call has no sender and end point of its own: it is of the
-- call's pair, and its Call ID is that of an open call, since free slots hold zeros. One of Call ID 0 stands with its
-- customer, so that its sender is listed, since unused roster records hold zeros. A call and a customer have four
-- places each.
use Rattle.std.specs.Prelude.{ℕ, ◌-◌, Bool, true, false, cond, not, ◌&&◌, ◌||◌, List, [], ◌∷◌, ◌==◌, nat_eq, nat_le, nat_lt, slice_index}
use Rattle.numbers.specs.Search.{zeros_at}
use Rattle.lists.specs.Count.{has, sum_of, no_two}
use Rattle.lists.specs.Below.{every_below}
use Rattle.table.specs.Table.{Place, Call, Customer, Table}
use Rattle.table.specs.Total.{slots, total_of}
use Rattle.table.specs.Word.{bits, is_used}
use Rattle.table.specs.Lists.{Terms, customer_at, roster, Ids, Entry, call_at, is_made, entries, Lsp, Held, Four, call_four, customer_four, place_at, is_taken, held}
use Rattle.table.specs.Share.{is_listed, calls_of, S}

-- ---- an acceptable roster (01, The roster: 44, 45, 46)

-- limit 0, limit above the total, or guarantee above limit
unfoldable pub bad_share : ℕ → Terms → Bool
bad_share total c = c.limit == 0 || nat_lt total c.limit || nat_lt c.limit c.guarantee

abbrev pub same_address : Terms → Terms → Bool
same_address c d = c.address == d.address

abbrev pub guarantees : List Terms → ℕ
guarantees r = sum_of (λ c. c.guarantee) r

unfoldable pub acceptable : ℕ → List Terms → Bool
acceptable total r = not (has (bad_share total) r) && no_two same_address r && nat_le (guarantees r) total

-- acceptable, of form 1 or 2, with an epoch of 24 bits; or empty, with form, own address and epoch zero
unfoldable pub roster_holds : Table → Bool
roster_holds t =
    cond (t.listed == 0)
    (t.form == 0 && t.address == 0 && t.epoch == 0)
    ((t.form == 1 || t.form == 2) && nat_le t.listed 8 && nat_lt t.epoch 0x1000000 && acceptable (total_of t) (roster t))

-- ---- calls

abbrev pub unlisted : List Terms → Entry → Bool
unlisted r e = not (is_listed r e.ids.sender)

abbrev pub over_limit : List Entry → Terms → Bool
over_limit l c = nat_lt c.limit (calls_of l c.address)

-- the same bytes, and as many
unfoldable pub same_bytes : List ℕ → List ℕ → Bool
same_bytes [] [] = true
same_bytes [] (y ∷ ys) = false
same_bytes (x ∷ xs) [] = false
same_bytes (x ∷ xs) (y ∷ ys) = x == y && same_bytes xs ys

-- an address pair is (end point, sender), in this order
abbrev pub same_pair : Ids → Ids → Bool
same_pair c d = c.endpoint == d.endpoint && c.sender == d.sender

-- the same pair has the same short ID, the same long ID
unfoldable pub same_short : Ids → Ids → Bool
same_short c d = same_pair c d && c.short == d.short

unfoldable pub same_long : Ids → Ids → Bool
same_long c d = same_pair c d && same_bytes c.long d.long

-- 02, A6: two calls that the node made for one pair have both numbers of their requests in common
unfoldable pub same_request : Entry → Entry → Bool
same_request e f =
    e.made
    && f.made
    && same_pair e.ids f.ids
    && e.request.epoch == f.request.epoch
    && e.request.identifier == f.request.identifier

-- a name of 1 to 32 bytes that ends in a byte that is not zero (02, A1), and a Call ID of sixteen bits that is not 0
unfoldable pub valid_ids : Call → Bool
valid_ids c =
    not (c.id == 0)
    && nat_lt c.id 0x10000
    && not (c.size == 0)
    && nat_le c.size 32
    && not (slice_index c.name (c.size - 1) == 0)

-- ---- connections

-- what a connection is known by (01, Every answer: connections are the same): the Call ID is no part of it
unfoldable pub same_lsp : Lsp → Lsp → Bool
same_lsp x y =
    (x.endpoint == y.endpoint)
    && x.sender == y.sender
    && x.tunnel == y.tunnel
    && x.extended == y.extended
    && x.lsp_id == y.lsp_id

-- a connection held is the one that is looked for
abbrev pub is_lsp : Lsp → Held → Bool
is_lsp x y = same_lsp x y.lsp

-- two connections held are the same, whatever Call IDs they stand under
abbrev pub same_connection : Held → Held → Bool
same_connection x y = is_lsp x.lsp y

-- ---- what is free holds zeros

-- a place that is not taken
unfoldable pub place_clear : Place → Bool
place_clear p = p.taken == 0 && p.tunnel == 0 && p.extended == 0 && p.lsp == 0

-- taken, with a Tunnel ID and an LSP ID of sixteen bits, or free: a mark other than 0 and 1 is neither
unfoldable pub place_valid : Place → Bool
place_valid p = cond (is_taken p) (nat_lt p.tunnel 0x10000 && nat_lt p.lsp 0x10000) (place_clear p)

abbrev pub four_clear : Four → Bool
four_clear f = every_below (λ j. place_clear (place_at f j)) 4

abbrev pub four_valid : Four → Bool
four_valid f = every_below (λ j. place_valid (place_at f j)) 4

-- 02, A6: a call that the node made has its request's epoch, of 24 bits, and identifier; any other has zeros there, and a
-- mark other than 0 and 1 is neither.
abbrev pub request_tidy : Call → Bool
request_tidy c = cond (is_made c) (nat_lt c.epoch 0x1000000) (c.made == 0 && c.epoch == 0 && c.identifier == 0)

-- a call's places, those taken excepted; the bytes past its name; the request of a call that the node did not make
unfoldable pub call_free_clear : Call → Bool
call_free_clear c = request_tidy c && zeros_at c.name c.size (32 - c.size) && four_valid (call_four c)

-- in a free slot: no mark, no request, no refresh
abbrev pub unused_clear : Call → Bool
unused_clear c = c.made == 0 && c.refreshed == 0 && c.epoch == 0 && c.identifier == 0

-- a free slot
unfoldable pub call_clear : Call → Bool
call_clear c = unused_clear c && c.endpoint == 0 && c.sender == 0 && c.id == 0 && c.size == 0 && zeros_at c.name 0 32 && four_clear (call_four c)

-- 02, A8: a customer's last MESSAGE_ID has an epoch of 24 bits; where none is kept there are zeros, and a mark other than
-- 0 and 1 is neither.
abbrev pub kept_tidy : Customer → Bool
kept_tidy c = cond (c.kept == 1) (nat_lt c.epoch 0x1000000) (c.kept == 0 && c.epoch == 0 && c.identifier == 0)

-- an end point stands beside a taken place
unfoldable pub customer_free_clear : Customer → Bool
customer_free_clear c =
    kept_tidy c && four_valid (customer_four c) && every_below (λ j. is_taken (place_at (customer_four c) j) || (customer_four c).endpoint j == 0) 4

-- an unused roster record
unfoldable pub customer_clear : Customer → Bool
customer_clear c =
    (c.address == 0)
    && c.guarantee == 0
    && c.limit == 0
    && c.kept == 0
    && c.epoch == 0
    && c.identifier == 0
    && four_clear (customer_four c)
    && every_below (λ j. nat_eq ((customer_four c).endpoint j) 0) 4

abbrev pub slot_free_clear : Table → ℕ → Bool
slot_free_clear t i = cond (is_used t.occupied i) (call_free_clear (call_at t i)) (call_clear (call_at t i))

abbrev pub record_free_clear : Table → ℕ → Bool
record_free_clear t k = cond (nat_lt k t.listed) (customer_free_clear (customer_at t k)) (customer_clear (customer_at t k))

-- ---- the rules by name

pub data Rule : Type 0 where
  roster_acceptable slots_within_total senders_listed within_limits share_within_total short_ids_once long_ids_once requests_once names_and_ids refreshes_past connections_once free_holds_zeros : Rule

abbrev pub holds : Rule → Table → Bool
holds roster_acceptable t = roster_holds t
-- 02, A11: no call stands outside the roster's total
holds slots_within_total t = every_below (λ i. not (is_used t.occupied i) || nat_lt i (total_of t)) bits
holds senders_listed t = not (has (unlisted (roster t)) (entries t))
holds within_limits t = not (has (over_limit (entries t)) (roster t))
holds share_within_total t = nat_le (S (roster t) (entries t)) (total_of t)
holds short_ids_once t = no_two (λ e f. same_short e.ids f.ids) (entries t)
holds long_ids_once t = no_two (λ e f. same_long e.ids f.ids) (entries t)
-- 02, A6: no two calls that the node made for a pair share both numbers
holds requests_once t = no_two same_request (entries t)
holds names_and_ids t = every_below (λ i. not (is_used t.occupied i) || valid_ids (call_at t i)) slots
-- 02, A7: no refresh lies after the node's time; a free slot has none (`call_clear`)
holds refreshes_past t = every_below (λ i. not (is_used t.occupied i) || nat_le (call_at t i).refreshed t.time) slots
holds connections_once t = no_two same_connection (held t)
holds free_holds_zeros t = every_below (slot_free_clear t) slots && every_below (record_free_clear t) 8

-- answer 1 is given unless every rule holds
unfoldable pub rules_hold : Table → Bool
rules_hold t =
    holds roster_acceptable t
    && holds slots_within_total t
    && holds senders_listed t
    && holds within_limits t
    && holds share_within_total t
    && holds short_ids_once t
    && holds long_ids_once t
    && holds requests_once t
    && holds names_and_ids t
    && holds refreshes_past t
    && holds connections_once t
    && holds free_holds_zeros t
