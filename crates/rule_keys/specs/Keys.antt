-- A key for each thing that may stand once in the table, the same for the same thing: words of contracts only. No rule
-- cites these. Any numbers would do for the claim. These are the last 32 bits of a sum of products, with factors that
-- were tried so that few keys of common tables are of one chain.
use Rattle.std.specs.Prelude.{ℕ, ◌+◌, ◌*◌, ◌%◌, List, ◌∷◌, ◌++◌, map, ltb}
use Rattle.lists.specs.Below.{element_if, list_if, below}
use Rattle.table.specs.Table.{Call, Table}
use Rattle.table.specs.Total.{slots}
use Rattle.table.specs.Word.{is_used}
use Rattle.table.specs.Lists.{customer_at, call_at, is_made, Lsp, Held, call_four, customer_four, held_in}
use Rattle.table_words.specs.Names.{word_in}

-- ---- the keys

-- what an address pair adds to each of its keys
abbrev pub pair_sum : ℕ → ℕ → ℕ
pair_sum endpoint sender = endpoint * 199728483 + sender * 179213453

-- what one of a name's eight words adds
unfoldable pub word_product : List ℕ → ℕ → ℕ → ℕ
word_product name k factor = word_in name k * factor

-- what a name adds: all of its 32 bytes
unfoldable pub name_sum : List ℕ → ℕ
name_sum name =
    word_product name 0 205589543
    + word_product name 1 206140127
    + word_product name 2 171278029
    + word_product name 3 150838921
    + word_product name 4 254509055
    + word_product name 5 240453881
    + word_product name 6 214057469
    + word_product name 7 267301875

-- of a pair's short ID
abbrev pub short_key : ℕ → ℕ → ℕ → ℕ
short_key endpoint sender short = (pair_sum endpoint sender + short * 203459603) % 4294967296

-- of a pair's long ID, by the name as the table holds it
abbrev pub long_key : ℕ → ℕ → List ℕ → ℕ
long_key endpoint sender name = (pair_sum endpoint sender + name_sum name) % 4294967296

-- of a pair's request
abbrev pub request_key : ℕ → ℕ → ℕ → ℕ → ℕ
request_key endpoint sender epoch identifier = (pair_sum endpoint sender + epoch * 231711449 + identifier * 218959117) % 4294967296

-- of a connection
abbrev pub lsp_key : Lsp → ℕ
lsp_key x =
    (pair_sum x.endpoint x.sender + x.tunnel * 206379567 + x.extended * 189846391 + x.lsp_id * 223631931) % 4294967296

-- ---- the keys of a table

-- of connections held, whatever Call IDs they stand under
abbrev pub held_keys : List Held → List ℕ
held_keys l = map (λ x. lsp_key x.lsp) l

-- of a call's request, where the node made the call
abbrev pub request_keys : Call → List ℕ
request_keys c = element_if (is_made c) (request_key c.endpoint c.sender c.epoch c.identifier)

-- of a call: its two IDs, its request, then its connections
abbrev pub call_keys : Call → List ℕ
call_keys c =
    short_key c.endpoint c.sender c.id ∷ long_key c.endpoint c.sender c.name ∷ request_keys c ++ held_keys (held_in (call_four c))

-- of a slot
abbrev pub call_keys_at : Table → ℕ → List ℕ
call_keys_at t i = list_if (is_used t.occupied i) (call_keys (call_at t i))

-- of a customer's connections of Call ID 0
abbrev pub standalone_keys_at : Table → ℕ → List ℕ
standalone_keys_at t k = list_if (ltb k t.listed) (held_keys (held_in (customer_four (customer_at t k))))

-- of the whole table, in the order in which they are noted
abbrev pub keys_of : Table → List ℕ
keys_of t = below (call_keys_at t) slots ++ below (standalone_keys_at t) 8
