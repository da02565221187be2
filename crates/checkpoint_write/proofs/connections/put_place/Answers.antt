-- `connections::put_place` meets its contract, by whether the place is taken.
use native.Mathlib.Omega.{arith}
use Rattle.table_words.specs.Fours.{four_at_word, place_of_words}
use Rattle.checkpoint_write.proofs.Parts.{place_free, place_room, numbers_fit, place_put}
use Rattle.checkpoint_write.proofs.connections.put_place.Goals as goal

pub returns-then-p-ne1 : goal.returns-then-p-ne1
returns-then-p-ne1 c =
    let a = c.args in
    place_free (four_at_word a.t.now a.f) a.j (place_of_words c.place_words-p.result) c.place_words-p.ensures c.if-p-ne1.true _

pub overflow_cast-f : goal.overflow_cast-f
overflow_cast-f c =
    omega (arith, c.requires.1.call)

pub overflow_cast-p : goal.overflow_cast-p
overflow_cast-p c =
    let fits = numbers_fit (four_at_word c.args.t.now c.args.f) c.args.j (place_of_words c.place_words-p.result) c.place_words-p.ensures c.if-p-ne1.false c.requires.1 c.requires.0 in
    omega (arith, fits.0)

pub overflow_cast-p-2 : goal.overflow_cast-p-2
overflow_cast-p-2 c =
    let fits = numbers_fit (four_at_word c.args.t.now c.args.f) c.args.j (place_of_words c.place_words-p.result) c.place_words-p.ensures c.if-p-ne1.false c.requires.1 c.requires.0 in
    omega (arith, fits.1)

pub put_connection-requires : goal.put_connection-requires
put_connection-requires c =
    omega (arith, c.requires.2, place_room (four_at_word c.args.t.now c.args.f) c.args.j (place_of_words c.place_words-p.result) c.place_words-p.ensures c.if-p-ne1.false)

pub returns : goal.returns
returns c =
    place_put (four_at_word c.args.t.now c.args.f) c.args.j (place_of_words c.place_words-p.result) c.place_words-p.ensures c.if-p-ne1.false _ c.endpoint_at-endpoint.ensures c.put_connection.ensures
