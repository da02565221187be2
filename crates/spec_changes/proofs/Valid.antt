-- What the rules of a valid call and a valid place say of their numbers, and the other way round.
-- Assumes nothing.
use Prim.Native.Nat.{◌-◌, ◌≤◌, ◌<◌}
use native.Mathlib.Omega.{arith}
use mathlib.Core.Path.{◌≡◌}
use mathlib.Core.Logic.{◌≢◌}
use mathlib.Core.Bool.{true, not, ◌&&◌}
use lib.Dec.{ltb, leb, eqb}
use lib.ListN.{get_or}
use borrow.Author.Tests.{eqb-false, ne_eqb, ltb-true, lt-ltb, leb-true, le-leb, not-true}
use Rattle.lists.proofs.Tests.{both}
use Rattle.table.specs.Table.{Call}
use Rattle.table.specs.Lists.{Lsp}
use Rattle.table.specs.Rules.{valid_ids, place_valid}
use Rattle.spec_changes.specs.Connections.{place_for}

-- a Call ID of sixteen bits that is not 0, and a name of 1 to 32 bytes whose last is not zero
pub record Named (c : Call) : Type 0 where
  pub some : 0 < c.id
  pub fits : c.id < 0x10000
  pub long : 0 < c.size
  pub most : c.size ≤ 32
  pub ends : get_or c.name (c.size - 1) 0 ≢ 0

pub ids_named : (c : Call) → valid_ids c ≡ true → Named c
unfolding valid_ids
ids_named c h =
    let x = both (not (eqb c.id 0) && ltb c.id 0x10000 && not (eqb c.size 0) && leb c.size 32) _ h in
    let w = both (not (eqb c.id 0) && ltb c.id 0x10000 && not (eqb c.size 0)) _ x.0 in
    let v = both (not (eqb c.id 0) && ltb c.id 0x10000) _ w.0 in
    let u = both (not (eqb c.id 0)) _ v.0 in
    record {
      some = omega (arith, eqb-false c.id 0 (not-true _ u.0));
      fits = ltb-true c.id 0x10000 u.1;
      long = omega (arith, eqb-false c.size 0 (not-true _ v.1));
      most = leb-true c.size 32 w.1;
      ends = eqb-false _ _ (not-true _ x.1);
    }

pub named_ids : (c : Call) → Named c → valid_ids c ≡ true
unfolding valid_ids
named_ids c n =
    rw (ne_eqb c.id 0 (omega (arith, n.some)), lt-ltb c.id 0x10000 n.fits, ne_eqb c.size 0 (omega (arith, n.long)), le-leb c.size 32 n.most, ne_eqb (get_or c.name (c.size - 1) 0) 0 n.ends)

-- a place with a Tunnel ID and an LSP ID of sixteen bits
pub valid_place : (x : Lsp) → x.tunnel < 0x10000 → x.lsp_id < 0x10000 → place_valid (place_for x) ≡ true
unfolding place_valid
valid_place x a b = rw (lt-ltb x.tunnel 0x10000 a, lt-ltb x.lsp_id 0x10000 b)
