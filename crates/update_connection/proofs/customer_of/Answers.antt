-- `customer_of` meets its contract: a listed address is found.
use Rattle.std.proofs.Common.{sym, ◌∙◌}
use Rattle.std.proofs.lemmas.Bool.{some_since, false≢true}
use Rattle.std.proofs.lemmas.Option.{MatchOption-at_some}
use Rattle.table.specs.Words.{table_of}
use Rattle.spec_changes.proofs.Last.{listed_record}
use Rattle.update_connection.proofs.customer_of.Goals as goal

pub unwrap-requires : goal.unwrap-requires
unwrap-requires c = some_since _ _ _ c.listing_of.ensures (λ e. false≢true (sym e ∙ c.requires))

pub returns : goal.returns
returns c =
    let m = MatchOption-at_some _ _ _ c.unwrap.ensures c.listing_of.ensures in
    (m.1.place, rw m.1.place (listed_record (table_of c.args.t.now) c.args.address c.requires).inside)
