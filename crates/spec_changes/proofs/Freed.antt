-- The table with slots freed, one after another: which calls stand there, and that all else is as it was.
-- Assumes nothing.
use Prim.Native.Nat.{ℕ, ◌/◌, ◌≤◌, ◌<◌}
use native.Mathlib.Omega.{arith}
use mathlib.Core.Path.{◌≡◌, refl, sym, ap, ◌∙◌}
use mathlib.Core.List.{List, [], ◌∷◌}
use mathlib.Core.Bool.{Bool, true, false, cond, not, ◌&&◌, ◌||◌, and-true, and-false}
use lib.Dec.{eqb}
use lib.ListN.{length, length-set}
use borrow.Author.Tests.{eqb-true, eqb-false}
use Rattle.lists.specs.Count.{has, without}
use Rattle.lists.specs.Below.{element_if}
use Rattle.lists.proofs.Count.{has_cons}
use Rattle.lists.proofs.Below.{below_ext, without_below}
use Rattle.table.specs.Table.{Call, Table}
use Rattle.table.specs.Total.{slots}
use Rattle.table.specs.Word.{is_used, with_free}
use Rattle.table.specs.Zeros.{no_call}
use Rattle.table.specs.Lists.{call_at, entry_of, open_at, entries, Entry}
use Rattle.table.specs.Words.{table_of}
use Rattle.table.proofs.Cells.{used_long}
use Rattle.table.proofs.Slots.{free_here, free_other, free_fits}
use Rattle.spec_changes.specs.Shape.{Shape}
use Rattle.spec_changes.specs.Calls.{freed}
use Rattle.spec_changes.specs.Expiry.{Closing, freed_all}
use Rattle.spec_changes.proofs.Words.{words_calls}
use Rattle.spec_changes.proofs.Slot.{call_here, call_other, slot_shape}

-- what these laws ask of a table: as many slots and words as there are
pub record Sized (t : Table) : Type 0 where
  pub calls : slots ≤ length t.calls
  pub words : length t.occupied ≡ 4

pub shape_sized : (t : Table) → Shape t → Sized t
shape_sized t s = record { calls = s.calls; words = s.words.four }

-- the table of any words
pub words_sized : (w : List ℕ) → Sized (table_of w)
words_sized w = record { calls = words_calls w; words = used_long w }

-- ---- one slot

module _ (t : Table) (i : ℕ) (inside : i < slots) (s : Sized t) where
  within_words : i / 64 < length t.occupied
  within_words = omega (arith, inside, s.words)

  freed_used : (j : ℕ) → is_used (freed t i).occupied j ≡ (is_used t.occupied j && not (eqb j i))
  unfolding freed
  freed_used j = by (eqb j i) refl
    where
      by : (b : Bool) → eqb j i ≡ b → is_used (with_free t.occupied i) j ≡ (is_used t.occupied j && not b)
      by true e = rw (eqb-true j i e, free_here t.occupied i within_words) (sym (and-false (is_used t.occupied i)))
      by false e = rw (free_other t.occupied i within_words j (eqb-false j i e)) (sym (and-true (is_used t.occupied j)))

  freed_call : (j : ℕ) → call_at (freed t i) j ≡ cond (eqb j i) no_call (call_at t j)
  unfolding freed
  freed_call j = by (eqb j i) refl
    where
      by : (b : Bool) → eqb j i ≡ b → call_at (freed t i) j ≡ cond b no_call (call_at t j)
      by true e = rw (eqb-true j i e) (call_here t (with_free t.occupied i) i no_call inside s.calls)
      by false e = call_other t (with_free t.occupied i) i no_call inside s.calls j (eqb-false j i e)

  freed_sized : Sized (freed t i)
  unfolding freed with_free
  freed_sized = record { calls = simp length-set s.calls; words = simp length-set s.words }

freed_shape : (t : Table) (i : ℕ) → i < slots → Shape t → Shape (freed t i)
unfolding freed no_call
freed_shape t i inside s = slot_shape t (with_free t.occupied i) i no_call inside s.calls s (free_fits t.occupied i s.words (omega arith)) refl

-- ---- the slots of a list

-- a slot is listed
abbrev pub is_in : List Closing → ℕ → Bool
is_in l j = has (λ c. eqb j c.slot) l

-- every slot listed is one of the table's
abbrev pub Inside : List Closing → Type 0
Inside [] = Unit {0}
Inside (c ∷ l) = (c.slot < slots) × Inside l

-- a test that one slot is not, and that others are not
neither : (u x y : Bool) → ((u && not x) && not y) ≡ (u && not (x || y))
neither true x y = by x y
  where
    by : (x y : Bool) → (not x && not y) ≡ not (x || y)
    by true y = refl
    by false y = refl
neither false x y = refl

either {ℓ} : {A : Type ℓ} (x y : Bool) (a b : A) → cond y a (cond x a b) ≡ cond (x || y) a b
either true true a b = refl
either true false a b = refl
either false y a b = refl

pub all_shape : (t : Table) (l : List Closing) → Inside l → Shape t → Shape (freed_all t l)
unfolding freed_all
all_shape t [] n s = s
all_shape t (c ∷ l) n s = all_shape (freed t c.slot) l n.1 (freed_shape t c.slot n.0 s)

pub all_used : (t : Table) (l : List Closing) → Inside l → Sized t → (j : ℕ) → is_used (freed_all t l).occupied j ≡ (is_used t.occupied j && not (is_in l j))
unfolding freed_all
all_used t [] n s j = sym (and-true (is_used t.occupied j))
all_used t (c ∷ l) n s j =
    all_used (freed t c.slot) l n.1 (freed_sized t c.slot n.0 s) j
    ∙ ap (λ b. b && not (is_in l j)) (freed_used t c.slot n.0 s j)
    ∙ neither (is_used t.occupied j) (eqb j c.slot) (is_in l j)
    ∙ ap (λ b. is_used t.occupied j && not b) (sym (has_cons (λ d. eqb j d.slot) c l))

pub all_call : (t : Table) (l : List Closing) → Inside l → Sized t → (j : ℕ) → call_at (freed_all t l) j ≡ cond (is_in l j) no_call (call_at t j)
unfolding freed_all
all_call t [] n s j = refl
all_call t (c ∷ l) n s j =
    all_call (freed t c.slot) l n.1 (freed_sized t c.slot n.0 s) j
    ∙ ap (λ d. cond (is_in l j) no_call d) (freed_call t c.slot n.0 s j)
    ∙ either (eqb j c.slot) (is_in l j) no_call (call_at t j)
    ∙ ap (λ b. cond b no_call (call_at t j)) (sym (has_cons (λ d. eqb j d.slot) c l))

-- ---- all else is as it was

abbrev pub with_slots : Table → List ℕ → List Call → Table
with_slots t words calls = record {
  address = t.address;
  epoch = t.epoch;
  next = t.next;
  time = t.time;
  listed = t.listed;
  form = t.form;
  occupied = words;
  customers = t.customers;
  calls = calls;
}

pub all_else : (t : Table) (l : List Closing) → freed_all t l ≡ with_slots t (freed_all t l).occupied (freed_all t l).calls
unfolding freed_all freed
all_else t [] = refl
all_else t (c ∷ l) = all_else (freed t c.slot) l

-- ---- the calls that are left

left : (l : List Closing) (i : ℕ) (c : Call) (used gone : Bool) → is_in l i ≡ gone
    → element_if (used && not gone) (entry_of i (cond gone no_call c)) ≡ without (λ (e : Entry). is_in l e.slot) (element_if used (entry_of i c))
unfolding element_if
left l i c true true e = rw e
left l i c true false e = rw e
left l i c false gone e = refl

-- the entries whose slot is not listed
pub all_entries : (t : Table) (l : List Closing) → Inside l → Sized t → entries (freed_all t l) ≡ without (λ e. is_in l e.slot) (entries t)
all_entries t l n s =
    below_ext (open_at (freed_all t l)) (λ i. without (λ e. is_in l e.slot) (open_at t i)) slots
    (λ i h. rw (all_used t l n s i, all_call t l n s i) (left l i (call_at t i) (is_used t.occupied i) (is_in l i) refl))
    ∙ sym (without_below (λ e. is_in l e.slot) (open_at t) slots)
