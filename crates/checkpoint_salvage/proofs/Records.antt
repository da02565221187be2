-- A call's record and the call that it is: when its numbers are those of a call, and its IDs.
-- Assumes nothing.
use Prim.Native.Nat.{ℕ, zero, suc, ◌+◌, ◌-◌, ◌*◌, ◌%◌, ◌≤◌, ◌<◌}
use native.Mathlib.Nat.{add_assoc}
use native.Mathlib.Omega.{arith}
use mathlib.Core.Path.{◌≡◌, refl, sym}
use mathlib.Core.Logic.{◌≢◌}
use mathlib.Core.List.{List}
use mathlib.Core.Bool.{Bool, true, false, cond, not, ◌&&◌, ◌||◌, and-true, and-false}
use lib.Dec.{ltb, leb, eqb}
use lib.ListN.{get_or, take, drop}
use lib.Seq.{get_or-take, get_or-drop}
use borrow.Author.Tests.{eqb-false, eq-eqb, ne_eqb, lt-ltb, le-leb}
use Rattle.numbers.specs.BigEndian.{be16_at}
use Rattle.numbers.specs.Search.{zeros_at}
use Rattle.lists.specs.Below.{every_below}
use Rattle.lists.proofs.Tests.{both}
use Rattle.table.specs.Rules.{valid_ids, place_clear, place_valid, request_tidy, call_free_clear}
use Rattle.spec_changes.proofs.Valid.{ids_named}
use Rattle.spec_checkpoint.specs.Layout.{call_record}
use Rattle.checkpoint_salvage.proofs.Stands.{is_tidy}

-- zeros in a part of a list stand in the list
zeros_part : (s : List ℕ) (at m k n : ℕ) → k + n ≤ m → zeros_at (take m (drop at s)) k n ≡ zeros_at s (at + k) n
unfolding zeros_at
zeros_part s at m k zero h = refl
zeros_part s at m k (suc n) h = rw (get_or-take m (drop at s) k 0 (omega arith), get_or-drop at s k 0, zeros_part s at m (k + 1) n (omega arith), add_assoc)

-- ---- a record's request

-- a mark of one bit, an epoch of 24
pub mark_decides : (made epoch identifier : ℕ) → made < 2 → epoch < 0x1000000
    → (eqb made 1 || (eqb epoch 0 && eqb identifier 0)) ≡ cond (eqb made 1) (ltb epoch 0x1000000) (eqb made 0 && eqb epoch 0 && eqb identifier 0)
mark_decides made epoch identifier m e = by (eqb made 1) refl
  where
    by : (b : Bool) → eqb made 1 ≡ b
        → (b || (eqb epoch 0 && eqb identifier 0)) ≡ cond b (ltb epoch 0x1000000) (eqb made 0 && eqb epoch 0 && eqb identifier 0)
    by true q = sym (lt-ltb epoch 0x1000000 e)
    by false q = let none : made ≢ 1 = eqb-false made 1 q in rw (eq-eqb made 0 (omega arith))

-- ---- a record's numbers

-- the tests of a record in the order of the rules
in_order : (n e z r : Bool) → (n && e && z && r) ≡ (n && true && true && true && e && (r && z && true))
in_order false e z r = refl
in_order true false z r = refl
in_order true true true r = simp and-true
in_order true true false r = rw and-false

module _ (s : List ℕ) (i size : ℕ) (is : size ≡ get_or s (4 + 55 * i + 11) 0 % 128) where
  -- no length from 1 to 32
  pub untidy : not (ltb 0 size && leb size 32) ≡ true → false ≡ is_tidy (call_record s i).call
  untidy h = by (is_tidy (call_record s i).call) refl
    where
      by : (b : Bool) → is_tidy (call_record s i).call ≡ b → false ≡ b
      by true e =
          let n = ids_named (call_record s i).call (both (valid_ids (call_record s i).call) (call_free_clear (call_record s i).call) e).0 in
          rw (lt-ltb 0 size (rw is n.long), le-leb size 32 (rw is n.most)) at h
      by false e = refl

  pub tidy_is : (request : Bool) → request ≡ request_tidy (call_record s i).call → 0 < size → size ≤ 32 → be16_at s (4 + 55 * i + 1) < 0x10000
      → (not (eqb (be16_at s (4 + 55 * i + 1)) 0)
      && not (eqb (get_or s (4 + 55 * i + 12 + size - 1) 0) 0)
      && zeros_at s (4 + 55 * i + 12 + size) (32 - size)
      && request)
      ≡ is_tidy (call_record s i).call
  unfolding valid_ids call_free_clear every_below place_clear place_valid
  tidy_is request r some most id =
      let last : 4 + 55 * i + 12 + size - 1 ≡ 4 + 55 * i + 12 + (size - 1) = omega arith in
      rw (
        r,
        ← is,
        lt-ltb (be16_at s (4 + 55 * i + 1)) 0x10000 id,
        ne_eqb size 0 (omega arith),
        le-leb size 32 most,
        get_or-take 32 (drop (4 + 55 * i + 12) s) (size - 1) 0 (omega arith),
        get_or-drop (4 + 55 * i + 12) s (size - 1) 0,
        ← last,
        zeros_part s (4 + 55 * i + 12) 32 size (32 - size) (omega arith),
      )
      (in_order (not (eqb (be16_at s (4 + 55 * i + 1)) 0)) (not (eqb (get_or s (4 + 55 * i + 12 + size - 1) 0) 0)) (zeros_at s (4 + 55 * i + 12 + size) (32 - size))
      (request_tidy (call_record s i).call))
