-- What the tests of a call's head, of the slots and of a customer's four come to.
-- Assumes nothing.
use Prim.Native.Nat.{ℕ, ◌+◌, ◌-◌, ◌≤◌, ◌<◌}
use native.Mathlib.Omega.{arith}
use mathlib.Core.Path.{◌≡◌, refl, sym, ap, ◌∙◌}
use mathlib.Core.Bool.{Bool, true, false, cond, not, ◌&&◌, ◌||◌, and-true, and-false}
use lib.Dec.{eqb, ltb, leb}
use lib.ListN.{get_or}
use borrow.Author.Tests.{eqb-false, ltb-true, ltb-false, le-leb, lt-leb}
use Rattle.numbers.specs.Search.{zeros_at}
use Rattle.lists.specs.Below.{every_below}
use Rattle.lists.proofs.Below.{every_same, every_split}
use Rattle.lists.proofs.Pairs.{every_both, every_ext}
use Rattle.table.specs.Table.{Call, Customer, Table}
use Rattle.table.specs.Total.{slots}
use Rattle.table.specs.Word.{is_used, FreeFrom}
use Rattle.table.specs.Lists.{Four, call_at, call_four, customer_four, place_at, is_taken}
use Rattle.table.specs.Rules.{valid_ids, four_valid, request_tidy, call_free_clear, call_clear, kept_tidy, customer_free_clear, slot_free_clear, holds, names_and_ids, refreshes_past}
use Rattle.table_words.specs.Fours.{Alike}
use Rattle.table_words.specs.Heads.{head_of, last_words_of}
use Rattle.table_words.specs.declared.calls.CallHead.{CallHead}
use Rattle.table_words.specs.declared.customers.LastWords.{LastWords}
use Rattle.table_words.proofs.Alike.{alike_valid}

neither : (x y : Bool) → (x || y) ≡ false → (x ≡ false) × (y ≡ false)
neither true y e = (e, cc)
neither false y e = (refl, e)

-- a name that is neither empty nor too long
pub some_size : (size : ℕ) → (eqb size 0 || ltb 32 size) ≡ false → (0 < size) × (size ≤ 32)
some_size size q =
    let k = neither (eqb size 0) (ltb 32 size) q in
    let some : size ≡ 0 → ⊥ = eqb-false size 0 k.0 in
    (omega arith, ltb-false 32 size k.1)

-- the tests of an open call, in the code's order and in that of the rules
by_rule : (id past zeros last tidy four : Bool) → (id && past && (zeros && last) && tidy && four) ≡ ((id && last) && past && (tidy && zeros && four))
by_rule false past zeros last tidy four = refl
by_rule true false zeros last tidy four = sym (rw (and-false last))
by_rule true true true true tidy four = rw (and-true tidy)
by_rule true true true false tidy four = refl
by_rule true true false last tidy four = sym (rw (and-false tidy, and-false (last && true)))

module _ (c : Call) (h : CallHead) (e : h ≡ head_of c) where
  -- a name of no bytes, or of too many, decides by itself
  pub no_ids : (eqb h.size 0 || ltb 32 h.size) ≡ true → false ≡ valid_ids c
  unfolding valid_ids
  no_ids q = by (eqb c.size 0) refl
    where
      a : Bool
      a = not (eqb c.id 0) && ltb c.id 0x10000

      ends : Bool
      ends = not (eqb (get_or c.name (c.size - 1) 0) 0)

      by : (b : Bool) → eqb c.size 0 ≡ b → false ≡ (a && not (eqb c.size 0) && leb c.size 32 && ends)
      by true p = sym (rw (p, and-false a))
      by false p =
          let long = ltb-true 32 c.size (sym (ap (λ b. b || ltb 32 c.size) p) ∙ ap (λ (k : CallHead). eqb k.size 0 || ltb 32 k.size) (sym e) ∙ q) in
          sym (rw (lt-leb c.size 32 long, and-false (a && not (eqb c.size 0))))

  -- a name of 1 to 32 bytes
  pub tidy_by_head : (time : ℕ) (v n u f : Bool) → (eqb h.size 0 || ltb 32 h.size) ≡ false → v ≡ (not (eqb h.id.0 0) && ltb h.id.0 0x10000)
      → n ≡ (zeros_at c.name h.size (32 - h.size) && not (eqb (get_or c.name (h.size - 1) 0) 0))
      → u ≡ cond (eqb h.made 1) (ltb h.epoch 0x1000000) (eqb h.made 0 && eqb h.epoch 0 && eqb h.identifier 0)
      → f ≡ four_valid (call_four c) → (v && leb h.refreshed time && n && u && f) ≡ (valid_ids c && leb c.refreshed time && call_free_clear c)
  unfolding valid_ids call_free_clear
  tidy_by_head time v n u f q p m k r =
      let size = neither (eqb c.size 0) (ltb 32 c.size) (ap (λ (k : CallHead). eqb k.size 0 || ltb 32 k.size) (sym e) ∙ q) in
      let a = not (eqb c.id 0) && ltb c.id 0x10000 in
      let zeros = zeros_at c.name c.size (32 - c.size) in
      let last = not (eqb (get_or c.name (c.size - 1) 0) 0) in
      rw (p, m, k, r, e, size.0, le-leb c.size 32 (ltb-false 32 c.size size.1), and-true a, and-true a)
      (by_rule a (leb c.refreshed time) zeros last (request_tidy c) (four_valid (call_four c)))

-- ---- the slots

-- the three rules, of one slot
slot_all : (used valid past clear free : Bool) → ((not used || valid) && (not used || past) && cond used clear free) ≡ cond used (valid && past && clear) free
slot_all true valid past clear free = refl
slot_all false valid past clear free = refl

abbrev pub slot_tidy : Table → ℕ → Bool
slot_tidy t i =
    cond (is_used t.occupied i) (valid_ids (call_at t i) && leb (call_at t i).refreshed t.time && call_free_clear (call_at t i)) (call_clear (call_at t i))

-- the three rules, of all slots: the slots from n on are free
pub slots_tidy : (t : Table) (n : ℕ) → n ≤ slots → FreeFrom t.occupied n
    → (every_below (slot_tidy t) n && every_below (λ j. call_clear (call_at t (n + j))) (slots - n)) ≡ (holds names_and_ids t && holds refreshes_past t && every_below (slot_free_clear t) slots)
slots_tidy t n h free =
    let valid : ℕ → Bool = λ i. not (is_used t.occupied i) || valid_ids (call_at t i) in
    let past : ℕ → Bool = λ i. not (is_used t.occupied i) || leb (call_at t i).refreshed t.time in
    let all : n + (slots - n) ≡ slots = omega arith in
    let rest : every_below (λ j. slot_tidy t (n + j)) (slots - n) ≡ every_below (λ j. call_clear (call_at t (n + j))) (slots - n) =
    every_same _ _ (slots - n) (λ j l. ap (λ b. cond b (valid_ids (call_at t (n + j)) && leb (call_at t (n + j)).refreshed t.time && call_free_clear (call_at t (n + j))) (call_clear (call_at t (n + j)))) (free (n + j) (omega arith) (omega arith))) in
    sym
    (ap (λ b. b && every_below (slot_free_clear t) slots) (sym (every_both valid past slots))
    ∙ sym (every_both (λ i. valid i && past i) (slot_free_clear t) slots)
    ∙ every_ext _ (slot_tidy t) slots (λ i. slot_all (is_used t.occupied i) (valid_ids (call_at t i)) (leb (call_at t i).refreshed t.time) (call_free_clear (call_at t i)) (call_clear (call_at t i)))
    ∙ ap (λ (m : ℕ). every_below (slot_tidy t) m) (sym all)
    ∙ every_split (slot_tidy t) n (slots - n)
    ∙ ap (λ b. every_below (slot_tidy t) n && b) rest)

-- ---- the roster's records

-- the last MESSAGE_ID, by its three words
pub kept_by_words : (m : Customer) (h : LastWords) (b : Bool) → h ≡ last_words_of m → eqb h.kept 1 ≡ b
    → cond b (ltb h.epoch 0x1000000) (eqb h.kept 0 && eqb h.epoch 0 && eqb h.identifier 0) ≡ kept_tidy m
kept_by_words m h b e q = rw (← q, e)

abbrev beside : Four → ℕ → Bool
beside f j = is_taken (place_at f j) || eqb (f.endpoint j) 0

pub customer_by_four : (m : Customer) (f : Four) (k v e : Bool) → Alike f (customer_four m) → k ≡ kept_tidy m → v ≡ four_valid f → e ≡ every_below (beside f) 4
    → (k && v && e) ≡ customer_free_clear m
unfolding customer_free_clear
customer_by_four m f k v e a h p q =
    rw (h, p, q, alike_valid f (customer_four m) a, every_same (beside f) (beside (customer_four m)) 4 (λ j l. rw (a.places, a.endpoint j l)))
