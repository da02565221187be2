-- `late::is_late` meets its contract: the record's mark says whether there is one to compare with.
use Rattle.std.proofs.Common.{◌≡◌, Bool, true, false, cond, ◌&&◌, eqb, refl}
use Rattle.objects.specs.declared.fields.MessageId.{MessageId}
use Rattle.table.specs.Lists.{customer_at}
use Rattle.table.specs.Words.{table_of}
use Rattle.spec_changes.specs.Last.{none, last}
use Rattle.spec_calls.specs.Late.{is_behind, is_late}
use Rattle.find_call.proofs.late.is_late.Goals as goal

by_mark : (b : Bool) (old id : MessageId) → (b && eqb old.epoch id.epoch && is_behind old.identifier id.identifier) ≡ is_late (cond b (last old) none) id
by_mark true old id = refl
by_mark false old id = refl

pub returns : goal.returns
returns c =
    let m = customer_at (table_of c.args.t.now) c.args.k in
    rw (c.is_behind.ensures, c.last_words-m.ensures) (by_mark (eqb m.kept 1) (record { epoch = m.epoch; identifier = m.identifier }) c.args.id)
