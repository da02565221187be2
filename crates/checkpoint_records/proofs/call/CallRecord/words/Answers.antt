use Prim.Native.Nat.{◌+◌, ◌*◌}
use native.Mathlib.Omega.{arith}
use mathlib.Core.Path.{◌∙◌}
use Rattle.checkpoint_records.proofs.Behind.{name_whole}
use Rattle.checkpoint_records.proofs.call.CallRecord.words.Goals as goal

pub returns : goal.returns
returns c =
    c.call_words.ensures
    ∙ rw (c.endpoint.ensures, c.sender.ensures, c.refreshed.ensures, c.epoch.ensures.0, c.identifier.ensures, c.from.ensures, c.id.ensures, c.from-2.ensures, c.made.ensures.0, c.size.ensures.0, c.name_words-name.ensures, c.start.ensures, name_whole c.args.self.bytes.now (4 + 55 * c.args.self.number + 12) (omega arith))
