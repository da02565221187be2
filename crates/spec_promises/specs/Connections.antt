-- Which call a lit path belongs to, from messages and answers alone: the connections that were added and not removed
-- since, each under the Call ID that its Path had.
use Rattle.std.specs.Prelude.{ℕ, List, [], ◌∷◌, Bool, cond, ◌&&◌, eqb, Ok, Err}
use Rattle.lists.specs.Count.{has, without}
use Rattle.messages.specs.declared.message.Message.{Message}
use Rattle.messages.specs.declared.message.Message.TheVariants.{Open, Close, Add, Drop}
use Rattle.messages.specs.Read.{Reading, read_of}
use Rattle.table.specs.Table.{Table}
use Rattle.table.specs.Lists.{Held, held}
use Rattle.table.specs.Rules.{is_lsp, same_connection}
use Rattle.answers.specs.Answers.{is}
use Rattle.spec_calls.specs.PathRules.{held_by}
use Rattle.spec_promises.specs.Ledger.{Fed}

-- the connection that a message names, with its Call ID; only a Path or a PathTear names one
abbrev pub no_held : Held
no_held = record { call = 0; lsp = record { endpoint = 0; tunnel = 0; extended = 0; sender = 0; lsp_id = 0 } }

abbrev pub message_held : Message → Held
message_held (Open q) = no_held
message_held (Close q) = no_held
message_held (Add c) = held_by c
message_held (Drop c) = held_by c

abbrev pub read_held : Reading → Held
read_held (Err why) = no_held
read_held (Ok read) = message_held read.message

unfoldable pub held_of : List ℕ → Held
held_of s = read_held (read_of s)

-- 23 adds the connection that the Path names; 25 takes out the one that the PathTear names, whatever Call ID it names
-- it with; every other answer changes nothing
abbrev pub feed_held : Fed → List Held → List Held
feed_held e h =
    cond (is 23 e.answer) (held_of e.message ∷ h)
    (cond (is 25 e.answer) (without (is_lsp (held_of e.message).lsp) h)
    h)

-- the connections after what was fed, the latest first, from those at the start
abbrev pub connections_after : List Held → List Fed → List Held
connections_after start [] = start
connections_after start (e ∷ h) = feed_held e (connections_after start h)

-- ---- one connection and one message

-- the same connection under the same Call ID
abbrev pub same_held : Held → Held → Bool
same_held x y = eqb x.call y.call && same_connection x y

abbrev pub is_held : Table → Held → Bool
is_held t x = has (same_held x) (held t)

-- the message is a PathTear that names it, and is answered 25
abbrev pub is_torn_down : Fed → Held → Bool
is_torn_down e x = is 25 e.answer && is_lsp (held_of e.message).lsp x

-- the message is a Path that names it, with this Call ID, and is answered 23
abbrev pub is_set_up : Fed → Held → Bool
is_set_up e x = is 23 e.answer && same_held x (held_of e.message)
