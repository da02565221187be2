-- The call table as the rules see it. Every field is one word of the array that the caller lends (Words.antt), but for a
-- name's bytes, four to a word: a value that does not fit its field is a number that a table rule refuses.
use Rattle.std.specs.Prelude.{ℕ, List}

-- a place for a connection: the mark is 1 where it is taken
pub record Place : Type 0 where
  pub taken : ℕ
  pub tunnel : ℕ
  pub extended : ℕ
  pub lsp : ℕ

-- a call, with its long Call ID in the first `size` of the name's 32 bytes; the mark `made` is 1 where the node made its
-- IDs, and then epoch and identifier are its request's (02, A6). `refreshed` is the node's time at its last 20 or 21 (02,
-- A7).
pub record Call : Type 0 where
  pub endpoint : ℕ
  pub sender : ℕ
  pub refreshed : ℕ
  pub epoch : ℕ
  pub identifier : ℕ
  pub id : ℕ
  pub made : ℕ
  pub size : ℕ
  pub name : List ℕ
  pub places : List Place

-- a customer, with the last MESSAGE_ID that the node accepted in a Notify of it (02, A8): `kept` is 1 where there is one;
-- and with its connections of Call ID 0: an end point for each of the four places
pub record Customer : Type 0 where
  pub address : ℕ
  pub guarantee : ℕ
  pub limit : ℕ
  pub kept : ℕ
  pub epoch : ℕ
  pub identifier : ℕ
  pub endpoints : List ℕ
  pub places : List Place

-- the roster as read (own address, own epoch, the first `listed` customers, the roster's form, 0 where it lists none), the
-- next own identifier, the node's time (02, A7), and the calls: bits in four words of 64 say which slots are used
-- (Word.antt)
pub record Table : Type 0 where
  pub address : ℕ
  pub epoch : ℕ
  pub next : ℕ
  pub time : ℕ
  pub listed : ℕ
  pub form : ℕ
  pub occupied : List ℕ
  pub customers : List Customer
  pub calls : List Call
