-- Tests of sameness: each finds a call or a connection the same as itself, and two that are the same are so to every
-- third.
-- Assumes nothing.
use Prim.Native.Nat.{ℕ}
use mathlib.Core.Path.{◌≡◌, refl, ap}
use mathlib.Core.List.{List, [], ◌∷◌}
use mathlib.Core.Bool.{true, ◌&&◌}
use lib.Dec.{eqb}
use borrow.Author.Tests.{eqb-true, eq-eqb}
use Rattle.lists.proofs.Tests.{both}
use Rattle.table.specs.Lists.{Ids, Entry, Lsp, Held}
use Rattle.table.specs.Rules.{same_bytes, same_pair, same_short, same_long, same_request, same_lsp, same_connection}
use Rattle.table.proofs.SameBytes.{same_bytes_lem}

-- ---- to itself

pub self : (a : ℕ) → eqb a a ≡ true
self a = eq-eqb a a refl

bytes_self : (x : List ℕ) → same_bytes x x ≡ true
unfolding same_bytes
bytes_self [] = refl
bytes_self (a ∷ x) = rw (self a, bytes_self x)

pub short_self : (c : Ids) → same_short c c ≡ true
unfolding same_short
short_self c = rw (self c.endpoint, self c.sender, self c.short)

pub long_self : (c : Ids) → same_long c c ≡ true
unfolding same_long
long_self c = rw (self c.endpoint, self c.sender, bytes_self c.long)

pub lsp_self : (x : Held) → same_connection x x ≡ true
unfolding same_lsp
lsp_self x = rw (self x.lsp.endpoint, self x.lsp.sender, self x.lsp.tunnel, self x.lsp.extended, self x.lsp.lsp_id)

-- ---- to every third

-- a test of one call is that of another where they are the same in what it looks at
pub short_alike : (c d x : Ids) → same_short c d ≡ true → same_short c x ≡ same_short d x
unfolding same_short
short_alike c d x h =
    let k = both (same_pair c d) (eqb c.short d.short) h in
    let m = both (eqb c.endpoint d.endpoint) (eqb c.sender d.sender) k.0 in
    rw (eqb-true c.endpoint d.endpoint m.0, eqb-true c.sender d.sender m.1, eqb-true c.short d.short k.1)

pub long_alike : (c d x : Ids) → same_long c d ≡ true → same_long c x ≡ same_long d x
unfolding same_long
long_alike c d x h =
    let k = both (same_pair c d) (same_bytes c.long d.long) h in
    let m = both (eqb c.endpoint d.endpoint) (eqb c.sender d.sender) k.0 in
    rw (eqb-true c.endpoint d.endpoint m.0, eqb-true c.sender d.sender m.1, same_bytes_lem c.long d.long k.1)

-- a request that is the same as any is the same as itself: one of the two calls may be one that the node did not make
pub request_self : (e f : Entry) → same_request e f ≡ true → same_request e e ≡ true
unfolding same_request
request_self e f h =
    let k = both _ (eqb e.request.identifier f.request.identifier) h in
    let l = both _ (eqb e.request.epoch f.request.epoch) k.0 in
    let m = both (e.made && f.made) (same_pair e.ids f.ids) l.0 in
    rw ((both e.made f.made m.0).0, self e.ids.endpoint, self e.ids.sender, self e.request.epoch, self e.request.identifier)

pub request_alike : (e f x : Entry) → same_request e f ≡ true → same_request e x ≡ same_request f x
unfolding same_request
request_alike e f x h =
    let k = both _ (eqb e.request.identifier f.request.identifier) h in
    let l = both _ (eqb e.request.epoch f.request.epoch) k.0 in
    let m = both (e.made && f.made) (same_pair e.ids f.ids) l.0 in
    let n = both (eqb e.ids.endpoint f.ids.endpoint) (eqb e.ids.sender f.ids.sender) m.1 in
    let made = both e.made f.made m.0 in
    rw (
      made.0,
      made.1,
      eqb-true e.ids.endpoint f.ids.endpoint n.0,
      eqb-true e.ids.sender f.ids.sender n.1,
      eqb-true e.request.epoch f.request.epoch l.1,
      eqb-true e.request.identifier f.request.identifier k.1,
    )

-- the same in all that a connection is known by is equal
pub lsp_equal : (x y : Lsp) → same_lsp x y ≡ true → x ≡ y
unfolding same_lsp
lsp_equal x y h = fields
  where
    each : (x.endpoint ≡ y.endpoint) × (x.sender ≡ y.sender) × (x.tunnel ≡ y.tunnel) × (x.extended ≡ y.extended) × (x.lsp_id ≡ y.lsp_id)
    each =
        let a = both _ (eqb x.lsp_id y.lsp_id) h in
        let b = both _ (eqb x.extended y.extended) a.0 in
        let c = both _ (eqb x.tunnel y.tunnel) b.0 in
        let d = both _ (eqb x.sender y.sender) c.0 in
        (eqb-true _ _ d.0, eqb-true _ _ d.1, eqb-true _ _ c.1, eqb-true _ _ b.1, eqb-true _ _ a.1)

    fields : ◌≡◌ {A = Lsp} (record { endpoint = x.endpoint; tunnel = x.tunnel; extended = x.extended; sender = x.sender; lsp_id = x.lsp_id })
        (record { endpoint = y.endpoint; tunnel = y.tunnel; extended = y.extended; sender = y.sender; lsp_id = y.lsp_id })
    fields = rw (each.0, each.1, each.2, each.3, each.4)

pub lsp_alike : (x y z : Held) → same_connection x y ≡ true → same_connection x z ≡ same_connection y z
lsp_alike x y z h = ap (λ a. same_lsp a z.lsp) (lsp_equal x.lsp y.lsp h)
