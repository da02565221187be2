-- `placing::sound_alone` meets its contract: a slot outside the total is not sound, any other as the rules say.
use mathlib.Core.Path.{ap, ap₂, ◌∙◌, sym}
use lib.Dec.{ltb}
use borrow.Author.Tests.{ltb-true, lt-ltb, le-ltb}
use Rattle.table.specs.Total.{total_for, total_of}
use Rattle.table.specs.Word.{is_used}
use Rattle.table.specs.Words.{table_of}
use Rattle.table.proofs.Fresh.{all_free}
use Rattle.checkpoint_records.specs.Record.{read_of}
use Rattle.spec_checkpoint.specs.Salvage.{sound_alone}
use Rattle.checkpoint_salvage.proofs.placing.sound_alone.Goals as goal

pub returns-then-not-inside : goal.returns-then-not-inside
unfolding sound_alone
returns-then-not-inside c =
    let total = c.total_for.ensures.0 ∙ ap total_for c.form.ensures in
    rw (sym (ap₂ ltb c.slot-slot.ensures.0 total) ∙ le-ltb _ _ c.if-not-inside.true)

pub stands-requires : goal.stands-requires
stands-requires c =
    let slot = (read_of c.args.r).slot in
    let total = c.total_for.ensures.0 ∙ ap total_for c.form.ensures in (
      c.requires.0,
      ltb-true slot (total_of (table_of c.args.t.now)) (sym (ap₂ ltb c.slot-slot.ensures.0 total) ∙ lt-ltb _ _ c.if-not-inside.false),
      ap (λ w. is_used w slot) c.requires.1 ∙ all_free slot,
    )

pub returns : goal.returns
unfolding sound_alone
returns c =
    let total = c.total_for.ensures.0 ∙ ap total_for c.form.ensures in
    rw (sym (ap₂ ltb c.slot-slot.ensures.0 total) ∙ lt-ltb _ _ c.if-not-inside.false) c.stands.ensures
