-- The connection records that name a call, counted: for the record that stands for those of one pair and short ID, then
-- for each of them.
-- Assumes nothing.
use Prim.Native.Nat.{ℕ, ◌+◌, ◌*◌, ◌-◌, ◌≤◌, ◌<◌}
use native.Mathlib.Omega.{arith}
use mathlib.Core.Path.{◌≡◌, refl, sym, ap, ◌∙◌}
use mathlib.Core.List.{List, [], ◌∷◌}
use mathlib.Core.Bool.{Bool, true, false, cond, ◌&&◌, and-false}
use lib.Dec.{eqb}
use lib.ListN.{length, get_or, set, length-set}
use lib.Seq.{get_or-set_same, get_or-set_other}
use borrow.Author.Tests.{ne_eqb, eqb-true, eqb-false}
use Rattle.lists.specs.Count.{bit, count_if}
use Rattle.lists.specs.Below.{element_if, below}
use Rattle.lists.proofs.Below.{count_none, count_turn}
use Rattle.table.specs.Lists.{Ids, ids_of, Held}
use Rattle.spec_changes.specs.Connections.{is_under}
use Rattle.spec_checkpoint.specs.Layout.{Slotted, calls_in, connections_in, call_record, held_at_byte}
use Rattle.spec_checkpoint.specs.Salvage.{named_by}
use Rattle.checkpoint_choice.specs.Chained.{has_short, shares_short, is_first, stand_in, stand_in_for, stand_in_named, counted}
use Rattle.checkpoint_choice.proofs.StandIn.{has_is, stand_in_within, stand_in_some, stand_in_none, stand_in_only, stand_in_own}

-- the first k of the records that start at a place
abbrev records_from : List ℕ → ℕ → ℕ → List Held
records_from s base k = below (λ j. held_at_byte s (base + 18 * j) ∷ []) k

named_turn : (s : List ℕ) (base k n r : ℕ) (c : Ids) → n ≡ count_if (is_under c) (records_from s base k) → r ≡ bit (is_under c (held_at_byte s (base + 18 * k)))
    → n + r ≡ count_if (is_under c) (records_from s base (k + 1))
unfolding element_if
named_turn s base k n r c e h = count_turn (λ j. held_at_byte s (base + 18 * j) ∷ []) (is_under c) k n r true (held_at_byte s (base + 18 * k)) refl e h

named_all : (s : List ℕ) (k m : ℕ) (r : Slotted) → k ≡ connections_in s → m ≡ count_if (is_under (ids_of r.call)) (records_from s (4 + 55 * calls_in s) k) → m ≡ named_by s r
unfolding named_by
named_all s k m r z e = rw z at e

-- ---- one more connection counted

pub counted_length : (counts : List ℕ) (e : ℕ) → length (counted counts e) ≡ length counts
unfolding counted
counted_length counts e = by (eqb e 0)
  where
    by : (b : Bool) → length (cond b counts (set counts (e - 1) (get_or counts (e - 1) 0 + 1))) ≡ length counts
    by true = refl
    by false = length-set counts (e - 1) (get_or counts (e - 1) 0 + 1)

pub counted_some : (counts : List ℕ) (i : ℕ) → set counts i (get_or counts i 0 + 1) ≡ counted counts (i + 1)
unfolding counted
counted_some counts i =
    let here : i + 1 - 1 ≡ i = omega arith in
    rw (ne_eqb (i + 1) 0 (λ e. omega arith), here)

counted_here : (counts : List ℕ) (e j : ℕ) → (e ≡ 0 → ⊥) → j ≡ e - 1 → j < length counts → get_or (counted counts e) j 0 ≡ get_or counts j 0 + 1
unfolding counted
counted_here counts e j some is l = rw (ne_eqb e 0 some, ← is) (get_or-set_same counts j (get_or counts j 0 + 1) 0 l)

counted_other : (counts : List ℕ) (e j : ℕ) → (e ≡ 0 → ⊥) → (j ≡ e - 1 → ⊥) → get_or (counted counts e) j 0 ≡ get_or counts j 0
unfolding counted
counted_other counts e j some other = rw (ne_eqb e 0 some) (get_or-set_other counts (e - 1) j (get_or counts (e - 1) 0 + 1) 0 other)

pub counted_none : (counts : List ℕ) → counted counts 0 ≡ counts
unfolding counted
counted_none counts = refl

module _ (s counts : List ℕ) (short endpoint sender n e : ℕ) (room : n ≤ length counts) (found : e ≡ stand_in s n short endpoint sender) where
  counted_at : (j : ℕ) → j < n → get_or (counted counts e) j 0 ≡ get_or counts j 0 + bit (is_first s j && has_short s short endpoint sender j)
  counted_at j l = by (eqb e 0) refl
    where
      at : (b : Bool) → eqb j (e - 1) ≡ b → (e ≡ 0 → ⊥)
          → get_or (counted counts e) j 0 ≡ get_or counts j 0 + bit (is_first s j && has_short s short endpoint sender j)
      at true h some =
          let is = eqb-true j (e - 1) h in
          let k = stand_in_some s short endpoint sender n e found some in
          rw (is, k.first, k.has) (counted_here counts e (e - 1) some refl (omega (arith, k.inside)))
      at false h some =
          let other = eqb-false j (e - 1) h in
          rw (stand_in_only s short endpoint sender n e found j l other) (counted_other counts e j some other ∙ omega arith)

      by : (b : Bool) → eqb e 0 ≡ b → get_or (counted counts e) j 0 ≡ get_or counts j 0 + bit (is_first s j && has_short s short endpoint sender j)
      by true h =
          let none = eqb-true e 0 h in
          let has : has_short s short endpoint sender j ≡ false = stand_in_none s short endpoint sender n e found none j l in
          rw (none, has, and-false (is_first s j)) (ap (λ (l : List ℕ). get_or l j 0) (counted_none counts) ∙ omega arith)
      by false h = at (eqb j (e - 1)) refl (eqb-false e 0 h)

  pub counted_most : (j k : ℕ) → get_or counts j 0 ≤ k → get_or (counted counts e) j 0 ≤ k + 1
  counted_most j k m = by (eqb e 0) (eqb j (e - 1)) refl refl
    where
      by : (b d : Bool) → eqb e 0 ≡ b → eqb j (e - 1) ≡ d → get_or (counted counts e) j 0 ≤ k + 1
      by true d h q = rw (eqb-true e 0 h, counted_none counts) (omega arith)
      by false true h q =
          let some = eqb-false e 0 h in
          let is = eqb-true j (e - 1) q in
          omega (arith, counted_here counts e j some is (omega (arith, stand_in_within s short endpoint sender n e found)))
      by false false h q = omega (arith, counted_other counts e j (eqb-false e 0 h) (eqb-false j (e - 1) q))

-- ---- for the records that are first

-- what is counted for them, of the first k connection records
abbrev pub Tallied : List ℕ → ℕ → ℕ → ℕ → List ℕ → Type 0
Tallied s base n k counts = (j : ℕ) → j < n → is_first s j ≡ true → get_or counts j 0 ≡ count_if (is_under (ids_of (call_record s j).call)) (records_from s base k)

pub tallied_none : (s : List ℕ) (base n : ℕ) (counts : List ℕ) → ((j : ℕ) → get_or counts j 0 ≡ 0) → Tallied s base n 0 counts
tallied_none s base n counts zeros j l f =
    zeros j ∙ sym (count_none (λ j. held_at_byte s (base + 18 * j) ∷ []) (is_under (ids_of (call_record s j).call)))

pub tallied_turn : (s : List ℕ) (base n k : ℕ) (counts : List ℕ) → n ≤ length counts → Tallied s base n k counts
    → Tallied s base n (k + 1) (counted counts (stand_in_named s n (held_at_byte s (base + 18 * k))))
tallied_turn s base n k counts room h j l f =
    let x = held_at_byte s (base + 18 * k) in
    let c = ids_of (call_record s j).call in
    counted_at s counts x.call x.lsp.endpoint x.lsp.sender n (stand_in_named s n x) room refl j l
    ∙ named_turn s base k (get_or counts j 0) (bit (is_first s j && is_under c x)) c (h j l f) (ap (λ (b : Bool). bit (b && is_under c x)) f)

-- ---- for each record

-- the records that are first have their counts
abbrev pub Named : List ℕ → ℕ → List ℕ → Type 0
Named s n counts = (j : ℕ) → j < n → is_first s j ≡ true → get_or counts j 0 ≡ named_by s (call_record s j)

pub tallied_all : (s : List ℕ) (k m : ℕ) (counts : List ℕ) → k ≡ connections_in s → Tallied s (4 + 55 * calls_in s) m k counts → Named s m counts
tallied_all s k m counts z h j l f = named_all s k (get_or counts j 0) (call_record s j) z (h j l f)

-- records that have the same short ID and pair are named by the same connections
same_named : (s : List ℕ) (i k : ℕ) → shares_short s i k ≡ true → named_by s (call_record s k) ≡ named_by s (call_record s i)
unfolding named_by
same_named s i k h =
    let own = has_is s (call_record s i).call.id (call_record s i).call.endpoint (call_record s i).call.sender k h in
    rw (own.id, own.endpoint_is, own.sender_is)

module _ (s : List ℕ) (n i : ℕ) (counts : List ℕ) (l : i < n) (h : Named s n counts) where
  -- what is counted for the one that stands for a record is the record's count
  pub for_named : get_or counts (stand_in_for s n i - 1) 0 ≡ named_by s (call_record s i)
  for_named =
      let e = stand_in_for s n i in
      let k = stand_in_some s (call_record s i).call.id (call_record s i).call.endpoint (call_record s i).call.sender n e refl (stand_in_own s n i e refl l) in
      h (e - 1) k.inside k.first ∙ same_named s i (e - 1) k.has

  pub named_kept : i < length counts → Named s n (set counts i (get_or counts (stand_in_for s n i - 1) 0))
  named_kept room j b f = by (eqb j i) refl
    where
      v : ℕ
      v = get_or counts (stand_in_for s n i - 1) 0

      by : (d : Bool) → eqb j i ≡ d → get_or (set counts i v) j 0 ≡ named_by s (call_record s j)
      by true q = rw (eqb-true j i q) (get_or-set_same counts i v 0 room ∙ for_named)
      by false q = get_or-set_other counts i j v 0 (eqb-false j i q) ∙ h j b f
