-- A record is read as it was written.
-- Assumes nothing.
use Prim.Native.Nat.{ℕ, ◌+◌, ◌*◌, ◌/◌, ◌%◌, ◌<◌}
use native.Mathlib.Nat.{add-zero}
use native.Mathlib.Omega.{arith}
use mathlib.Core.Path.{◌≡◌, refl, sym, ap, ◌∙◌}
use mathlib.Core.List.{List, [], ◌∷◌, ◌++◌, append_assoc}
use mathlib.Core.Bool.{Bool, true, false, cond, ◌&&◌}
use lib.Dec.{eqb, ltb}
use lib.ListN.{length, get_or, take, drop, length-append}
use lib.Seq.{get_or-append-add, take-append_seam, drop-append_seam}
use borrow.Author.Tests.{eqb-true, ltb-true}
use Rattle.numbers.specs.BigEndian.{be24_at, be32_at, bytes16, bytes24, bytes32}
use Rattle.lists.proofs.Tests.{both}
use Rattle.table.specs.Table.{Call}
use Rattle.table.specs.Lists.{is_made, Held}
use Rattle.table.specs.Rules.{valid_ids, request_tidy, call_free_clear}
use Rattle.spec_changes.proofs.Valid.{ids_named}
use Rattle.spec_checkpoint.specs.Layout.{slotted_at, call_bytes, held_at_byte, connection_bytes}
use Rattle.spec_checkpoint.specs.Places.{without_places}
use Rattle.spec_checkpoint.proofs.Blocks.{Split, read, read16, read24, read32}

-- ---- numbers

pub back16 : (v : ℕ) → v / 256 * 256 + v % 256 ≡ v
back16 v = omega arith

back24 : (v : ℕ) → v < 0x1000000 → v / 65536 % 256 * 65536 + v / 256 % 256 * 256 + v % 256 ≡ v
back24 v h = omega arith

back32 : (v : ℕ) → v / 16777216 * 16777216 + v / 65536 % 256 * 65536 + v / 256 % 256 * 256 + v % 256 ≡ v
back32 v = omega arith

-- ---- a connection

pub connection_size : (x : Held) → length (connection_bytes x) ≡ 18
connection_size x = refl

pub connection_back : (s : List ℕ) (at : ℕ) (x : Held) → Split s (connection_bytes x) at → held_at_byte s at ≡ x
connection_back s at x i =
    let b = connection_bytes x in
    let first : be32_at s at ≡ x.lsp.endpoint = rw add-zero at (read32 s b at i 0) ∙ back32 x.lsp.endpoint in
    rw (
      first,
      read16 s b at i 4 ∙ back16 x.call,
      read16 s b at i 6 ∙ back16 x.lsp.tunnel,
      read32 s b at i 8 ∙ back32 x.lsp.extended,
      read32 s b at i 12 ∙ back32 x.lsp.sender,
      read16 s b at i 16 ∙ back16 x.lsp.lsp_id,
    )

-- ---- a call

pub call_size : (slot : ℕ) (c : Call) → length c.name ≡ 32 → length (call_bytes slot c) ≡ 55
call_size slot c n =
    omega (
      arith,
      length-append (c.name ++ bytes32 c.refreshed ++ bytes24 c.epoch) (bytes32 c.identifier),
      length-append (c.name ++ bytes32 c.refreshed) (bytes24 c.epoch),
      length-append c.name (bytes32 c.refreshed),
    )

-- the mark and the epoch of a call fit their bits, 1 and 24: a call that the node did not make has zeros there
pub request_fits : (c : Call) → call_free_clear c ≡ true → (c.made < 2) × (c.epoch < 0x1000000)
unfolding call_free_clear
request_fits c h =
    let a = both (request_tidy c && _) _ h in
    let b = both (request_tidy c) _ a.0 in
    by (is_made c) refl b.0
  where
    zeros : Bool
    zeros = eqb c.made 0 && eqb c.epoch 0 && eqb c.identifier 0

    by : (m : Bool) → is_made c ≡ m → cond m (ltb c.epoch 0x1000000) zeros ≡ true → (c.made < 2) × (c.epoch < 0x1000000)
    by true e t = (omega (arith, eqb-true c.made 1 e), ltb-true c.epoch 0x1000000 t)
    by false e t =
        let k = both (eqb c.made 0) (eqb c.epoch 0) (both _ (eqb c.identifier 0) t).0 in
        (omega (arith, eqb-true c.made 0 k.0), omega (arith, eqb-true c.epoch 0 k.1))

module _ (s : List ℕ) (at slot : ℕ) (c : Call) (n : length c.name ≡ 32) (i : Split s (call_bytes slot c) at) where
  abbrev b : List ℕ
  b = call_bytes slot c

  -- the twelve bytes before the name, and what stands behind it
  abbrev front : List ℕ
  front = slot ∷ bytes16 c.id ++ bytes32 c.endpoint ++ bytes32 c.sender ++ ((c.made * 128 + c.size) ∷ [])

  abbrev rest : List ℕ
  rest = bytes32 c.refreshed ++ (bytes24 c.epoch ++ (bytes32 c.identifier ++ i.after))

  parts : b ++ i.after ≡ front ++ (c.name ++ rest)
  parts =
      ap (λ l. front ++ l)
      (append_assoc (c.name ++ bytes32 c.refreshed ++ bytes24 c.epoch) (bytes32 c.identifier) i.after
      ∙ append_assoc (c.name ++ bytes32 c.refreshed) (bytes24 c.epoch) (bytes32 c.identifier ++ i.after)
      ∙ append_assoc c.name (bytes32 c.refreshed) (bytes24 c.epoch ++ (bytes32 c.identifier ++ i.after)))

  -- byte 44 + k of the record
  behind : (k : ℕ) → get_or (b ++ i.after) (12 + (32 + k)) 0 ≡ get_or rest k 0
  behind k =
      ap (λ l. get_or l (12 + (32 + k)) 0) parts
      ∙ get_or-append-add front (c.name ++ rest) (32 + k) 0
      ∙ rw (← n) (get_or-append-add c.name rest k 0)

  name_back : take 32 (drop (at + 12) s) ≡ c.name
  name_back =
      let list_if : s ≡ (i.before ++ front) ++ (c.name ++ rest) = i.list_if ∙ ap (λ l. i.before ++ l) parts ∙ sym (append_assoc i.before front (c.name ++ rest)) in
      let size : length (i.before ++ front) ≡ at + 12 = length-append i.before front ∙ ap (λ (k : ℕ). k + 12) i.size in
      rw (← size, list_if, drop-append_seam (i.before ++ front) (c.name ++ rest), ← n) (take-append_seam c.name rest)

  pub call_back : valid_ids c ≡ true → call_free_clear c ≡ true → slotted_at s at ≡ record { slot = slot; call = without_places c }
  call_back w t =
      let fits = request_fits c t in
      let few = (ids_named c w).most in
      let first : get_or s at 0 ≡ slot = rw add-zero at (read s b at i 0) in
      let marked : get_or s (at + 11) 0 ≡ c.made * 128 + c.size = read s b at i 11 in
      let size : (c.made * 128 + c.size) % 128 ≡ c.size = omega (arith, fits.0) in
      let made : (c.made * 128 + c.size) / 128 ≡ c.made = omega (arith, fits.0) in
      let refreshed : be32_at s (at + 44) ≡ c.refreshed = read32 s b at i 44 ∙ rw (behind 0, behind 1, behind 2, behind 3) (back32 c.refreshed) in
      let epoch : be24_at s (at + 48) ≡ c.epoch = read24 s b at i 48 ∙ rw (behind 4, behind 5, behind 6) (back24 c.epoch fits.1) in
      let identifier : be32_at s (at + 51) ≡ c.identifier = read32 s b at i 51 ∙ rw (behind 7, behind 8, behind 9, behind 10) (back32 c.identifier) in
      let id = read16 s b at i 1 ∙ back16 c.id in
      let endpoint = read32 s b at i 3 ∙ back32 c.endpoint in
      let sender = read32 s b at i 7 ∙ back32 c.sender in
      let name = name_back in
      cc
