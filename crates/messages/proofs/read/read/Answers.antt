-- `read::read` meets its contract: each way out is its case of `read_of`, and the walk promises the places of what it has
-- seen.
use Rattle.std.proofs.Common.{rules, sym, ap, ◌∙◌}
use Rattle.objects.proofs.Placed.{walk_placed}
use Rattle.messages.specs.Read.{walked_read, header_read, read_of}
use Rattle.messages.proofs.read.read.Goals as goal

pub returns-in_err-mtype : goal.returns-in_err-mtype
unfolding read_of
returns-in_err-mtype c =
    let e = ap (header_read c.args.s.now) (sym c.read_header.ensures ∙ c.in_err-mtype.was) in
    rw e (search rules)

pub returns-in_err-v : goal.returns-in_err-v
unfolding read_of
returns-in_err-v c =
    let h = sym c.read_header.ensures ∙ c.in_ok-mtype.was in
    let e = ap (walked_read c.args.s.now c.in_ok-mtype.mtype) (sym c.walk.ensures ∙ c.in_err-v.was) in
    rw (h, e) (search rules)

pub read_objects-requires : goal.read_objects-requires
read_objects-requires c = walk_placed _ _ (sym c.walk.ensures ∙ c.in_ok-v.was)

pub returns : goal.returns
unfolding read_of
returns c = rw (sym c.read_header.ensures ∙ c.in_ok-mtype.was, sym c.walk.ensures ∙ c.in_ok-v.was) c.read_objects.ensures
