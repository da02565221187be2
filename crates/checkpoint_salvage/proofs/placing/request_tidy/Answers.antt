-- `placing::request_tidy` meets its contract: each number is the callee's.
use Rattle.checkpoint_salvage.proofs.Records.{mark_decides}
use Rattle.checkpoint_salvage.proofs.placing.request_tidy.Goals as goal

pub returns : goal.returns
returns c =
    rw (← c.made.ensures.0, ← c.epoch.ensures.0, ← c.identifier.ensures) (mark_decides c.made.result c.epoch.result c.identifier.result c.made.ensures.1 c.epoch.ensures.1)
