-- One slot more: what stands in it is untouched by the slots freed before it, and the list has one closing more, or none.
-- Assumes nothing.
use Prim.Native.Nat.{ℕ, ◌+◌, ◌≤◌, ◌<◌}
use native.Mathlib.Omega.{arith}
use mathlib.Core.Path.{◌≡◌, refl, sym, ap, ◌∙◌, subst}
use mathlib.Core.List.{List, [], ◌∷◌, ◌++◌, append-nil}
use mathlib.Core.Bool.{Bool, true, false, cond, not, ◌&&◌, and-true}
use lib.Dec.{eqb}
use lib.ListN.{length, length-append}
use borrow.Author.Tests.{le-ltb}
use Rattle.numbers.specs.Buffer.{at_front}
use Rattle.numbers.proofs.Buffer.{nothing_written}
use Rattle.lists.specs.Count.{bit}
use Rattle.lists.specs.Below.{element_if, below}
use Rattle.lists.proofs.Below.{below_more, below_rest, element_not}
use Rattle.table.specs.Table.{Table}
use Rattle.table.specs.Total.{slots}
use Rattle.table.specs.Word.{is_used, FreeFrom}
use Rattle.table.specs.Zeros.{no_call}
use Rattle.table.specs.Lists.{call_at}
use Rattle.spec_changes.specs.Calls.{freed}
use Rattle.spec_changes.specs.Expiry.{raised, expires_at, Closing, closing_at, closings_below, closings_of, closing_words, freed_all, elapsed}
use Rattle.spec_changes.proofs.Freed.{Sized, is_in, all_used, all_call}
use Rattle.spec_changes.proofs.Expired.{below_inside, below_listed}
use Rattle.expiry.specs.Row.{with_closing, goes, SlotExpired}
use Rattle.expiry.proofs.Row.{row_turn}

all_more : (t : Table) (l : List Closing) (c : Closing) → freed_all t (l ++ c ∷ []) ≡ freed (freed_all t l) c.slot
unfolding freed_all
all_more t [] c = refl
all_more t (d ∷ l) c = all_more (freed t d.slot) l c

-- after a slot: those listed are freed, and stand in the row's front
pub record Turned (u : Table) (l : List Closing) (most : ℕ) (row : List ℕ) (k : ℕ) (table : Table) (exit : List ℕ) : Type 0 where
  pub count : k ≡ length l
  pub within : k ≤ most
  pub freed : table ≡ freed_all u l
  pub listing : exit ≡ at_front (closing_words l) row

-- one closing more, or none
turned : (u t : Table) (l : List Closing) (i : ℕ) (row now : List ℕ) (k r : ℕ) (after : Table) (exit : List ℕ) (b : Bool) (c : Closing) → c.slot ≡ i → i < slots → Turned u l i row k t now
    → length row ≡ 400 → r ≡ k + bit b → after ≡ cond b (freed t i) t → exit ≡ cond b (with_closing now k c) now → Turned u (l ++ element_if b c) (i + 1) row r after exit
unfolding element_if
turned u t l i row now k r after exit true c e inside h long n f x = record {
  count = omega (arith, n, h.count, length-append l (c ∷ []));
  within = omega (arith, n, h.within);
  freed = f ∙ rw (h.freed, ← e) (sym (all_more u l c));
  listing = x ∙ rw h.listing (row_turn l c row k h.count (omega (arith, h.within)));
}
turned u t l i row now k r after exit false c e inside h long n f x = rw (append-nil l) (record {
  count = omega (arith, n, h.count);
  within = omega (arith, n, h.within);
  freed = f ∙ h.freed;
  listing = x ∙ h.listing;
})

module _ (u : Table) (period i : ℕ) (s : Sized u) (inside : i < slots) where
  abbrev listed : List Closing
  listed = closings_below u period i

  abbrev then : Table
  then = freed_all u listed

  not_yet : is_in listed i ≡ false
  not_yet = below_listed u period i i ∙ ap (λ b. b && expires_at u period i) (le-ltb i i (omega arith))

  same_call_lem : call_at then i ≡ call_at u i
  same_call_lem = all_call u listed (below_inside u period i (omega arith)) s i ∙ ap (λ b. cond b no_call (call_at u i)) not_yet

  same_used : is_used then.occupied i ≡ is_used u.occupied i
  same_used = all_used u listed (below_inside u period i (omega arith)) s i ∙ ap (λ b. is_used u.occupied i && not b) not_yet ∙ and-true (is_used u.occupied i)

  same_goes : (t : Table) → t ≡ then → goes t i u.time period ≡ expires_at u period i
  same_goes t e = ap (λ (w : Table). goes w i u.time period) e ∙ rw (same_used, same_call_lem)

  same_closing_lem : (t : Table) → t ≡ then → closing_at t i ≡ closing_at u i
  same_closing_lem t e = ap (λ (w : Table). closing_at w i) e ∙ ap (λ d. record { slot = i; address = d.sender }) same_call_lem

  pub slot_turn : (t : Table) (row now : List ℕ) (k r : ℕ) (after : Table) (exit : List ℕ) → Turned u (closings_below u period i) i row k t now → length row ≡ 400
      → SlotExpired t i u.time period k now r after exit → Turned u (closings_below u period (i + 1)) (i + 1) row r after exit
  slot_turn t row now k r after exit h long x =
      let g = same_goes t h.freed in
      subst (λ l. Turned u l (i + 1) row r after exit) (sym (below_more (λ j. element_if (expires_at u period j) (closing_at u j)) i))
      (turned u t listed i row now k r after exit (expires_at u period i) (closing_at u i) refl inside h long
      (x.count ∙ ap (λ b. k + bit b) g) (x.table ∙ ap (λ b. cond b (freed t i) t) g)
      (x.listing ∙ ap (λ b. cond b (with_closing now k (closing_at t i)) now) g ∙ ap (λ c. cond (expires_at u period i) (with_closing now k c) now) (same_closing_lem t h.freed)))

-- no slot listed yet
pub none_turned : (u : Table) (period : ℕ) (row : List ℕ) → Turned u (closings_below u period 0) 0 row 0 u row
unfolding below freed_all closing_words
none_turned u period row = record { count = refl; within = omega arith; freed = refl; listing = sym (nothing_written row) }

-- the slots past the last used one list nothing
pub all_turned : (u : Table) (period n : ℕ) → n ≤ slots → FreeFrom u.occupied n → eqb period 0 ≡ false → closings_below u period n ≡ closings_of u period
unfolding closings_of
all_turned u period n h free p =
    sym (below_rest (λ i. element_if (expires_at u period i) (closing_at u i)) n slots h (λ i l m. element_not _ (closing_at u i) (rw (free i l m)))) ∙ rw p

-- ---- the whole

-- what a caller gets: how many are listed, the table, and the row
abbrev Elapsed : Table → ℕ → ℕ → List ℕ → ℕ → Table → List ℕ → Type 0
Elapsed t at period row k table exit =
    (k ≡ length (closings_of (raised t at) period)) × (table ≡ elapsed t at period) × (exit ≡ at_front (closing_words (closings_of (raised t at) period)) row)

pub none_elapsed : (t : Table) (at period : ℕ) (row : List ℕ) (u : Table) → u ≡ raised t at → eqb period 0 ≡ true → Elapsed t at period row 0 u row
unfolding closings_of elapsed freed_all closing_words
none_elapsed t at period row u e p = (rw p, rw (p, e), rw p (sym (nothing_written row)))

pub all_elapsed : (t : Table) (at period n k : ℕ) (row : List ℕ) (u table : Table) (exit : List ℕ) → u ≡ raised t at → n ≤ slots → FreeFrom u.occupied n → eqb period 0 ≡ false
    → Turned u (closings_below u period n) n row k table exit → Elapsed t at period row k table exit
unfolding elapsed
all_elapsed t at period n k row u table exit e h free p x =
    let l = all_turned u period n h free p in
    let same : closings_of u period ≡ closings_of (raised t at) period = ap (λ (w : Table). closings_of w period) e in (
      x.count ∙ ap length (l ∙ same),
      x.freed ∙ ap (freed_all u) l ∙ ap (λ (w : Table). freed_all w (closings_of w period)) e,
      x.listing ∙ ap (λ (m : List Closing). at_front (closing_words m) row) (l ∙ same),
    )
