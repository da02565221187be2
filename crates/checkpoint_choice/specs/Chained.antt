-- The call records of a checkpoint in chains, by short ID and pair: of the records that have one short ID and pair, the
-- first stands for all. Words of contracts only: no rule cites these.
use Rattle.std.specs.Prelude.{ℕ, Option, MatchOption, ◌+◌, ◌*◌, ◌-◌, ◌/◌, ◌≤◌, ◌≡◌, List, Bool, cond, not, ◌&&◌, eqb, length, get_or, set}
use Rattle.lists.specs.Below.{every_below}
use Rattle.lists.specs.Chain.{last_below, InChains}
use Rattle.table.specs.Lists.{ids_of, Held}
use Rattle.spec_changes.specs.Connections.{is_named}
use Rattle.spec_checkpoint.specs.Layout.{Slotted, call_record}
use Rattle.checkpoint_choice.specs.declared.naming.ShortName.{ShortName}
use Rattle.checkpoint_chains.specs.declared.Factors.{Factors}
use Rattle.checkpoint_chains.specs.Spread.{spread_over}

-- the chain of a short ID and a pair, one of 1,024, by a checkpoint's factors
abbrev pub short_chain : Factors → ℕ → ℕ → ℕ → ℕ
short_chain f short endpoint sender = spread_over f endpoint sender short 0 / 2

-- the chain of call record i
abbrev pub chain_of : Factors → List ℕ → ℕ → ℕ
chain_of f s i = short_chain f (call_record s i).call.id (call_record s i).call.endpoint (call_record s i).call.sender

-- what a record's call is looked up by
abbrev pub named_as : Slotted → ShortName
named_as r = record { short = r.call.id; endpoint = r.call.endpoint; sender = r.call.sender }

-- call record i has this short ID and pair
abbrev pub has_short : List ℕ → ℕ → ℕ → ℕ → ℕ → Bool
has_short s short endpoint sender i = is_named short endpoint sender (ids_of (call_record s i).call)

-- call record j has those of call record i
abbrev pub shares_short : List ℕ → ℕ → ℕ → Bool
shares_short s i j = has_short s (call_record s i).call.id (call_record s i).call.endpoint (call_record s i).call.sender j

-- call record i is the first that has its own
unfoldable pub is_first : List ℕ → ℕ → Bool
is_first s i = every_below (λ j. not (shares_short s i j)) i

-- one more than the record that stands for those of the first n that have a short ID and a pair; 0 where none has them
unfoldable pub stand_in : List ℕ → ℕ → ℕ → ℕ → ℕ → ℕ
stand_in s n short endpoint sender = last_below (λ i. is_first s i && has_short s short endpoint sender i) n

-- the record that stands for them, where there is one
abbrev pub Found : List ℕ → ℕ → ℕ → ℕ → ℕ → Option ℕ → Type 0
Found s n short endpoint sender r = MatchOption r (stand_in s n short endpoint sender ≡ 0) (λ i. i + 1 ≡ stand_in s n short endpoint sender)

-- for those that have what record i has
abbrev pub stand_in_for : List ℕ → ℕ → ℕ → ℕ
stand_in_for s n i = stand_in s n (call_record s i).call.id (call_record s i).call.endpoint (call_record s i).call.sender

-- for those that a connection names
abbrev pub stand_in_named : List ℕ → ℕ → Held → ℕ
stand_in_named s n x = stand_in s n x.call x.lsp.endpoint x.lsp.sender

-- the first n call records of a checkpoint are noted: those of them that are first stand in their chains
pub record Noted (f : Factors) (s heads links : List ℕ) (n : ℕ) : Type 0 where
  pub within : 4 + 55 * n ≤ length s
  pub most : n ≤ 4096
  pub chain_count : length heads ≡ 1024
  pub place_count : length links ≡ 4096
  pub chains : InChains (is_first s) (chain_of f s) heads links n

-- so are some number of them
pub record SomeNoted (f : Factors) (s heads links : List ℕ) : Type 0 where
  pub calls : ℕ
  pub noted : Noted f s heads links calls

-- counts with one more for record e - 1, and as they are where e is 0
unfoldable pub counted : List ℕ → ℕ → List ℕ
counted counts e = cond (eqb e 0) counts (set counts (e - 1) (get_or counts (e - 1) 0 + 1))
