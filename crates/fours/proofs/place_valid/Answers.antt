-- `place_valid` meets its contract: whether the place is taken picks the case of `place_valid`.
use Rattle.table_words.specs.Fours.{place_of_words}
use Rattle.fours.proofs.Places.{valid_taken, valid_free}
use Rattle.fours.proofs.place_valid.Goals as goal

pub returns-then-p-eq1 : goal.returns-then-p-eq1
returns-then-p-eq1 c =
    rw (c.is_tunnel_id.ensures, c.is_lsp_id.ensures)
    (valid_taken (place_of_words c.args.p) c.if-p-eq1.true)

pub returns : goal.returns
returns c =
    rw (c.eq.ensures, c.eq-2.ensures)
    (valid_free (place_of_words c.args.p) c.if-p-eq1.false)
