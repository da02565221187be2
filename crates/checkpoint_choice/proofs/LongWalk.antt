-- Call records in chains: one more record, put there or passed over (`chained-..`), the walk through a record's chain
-- (`walk-..`), which meets whoever is better, and what that says of the record.
-- Assumes nothing.
use Prim.Native.Nat.{ℕ, ◌+◌, ◌-◌, ◌<◌, ◌≤◌}
use native.Mathlib.Nat.{eq-or-lt_of_le}
use native.Mathlib.Omega.{arith}
use native.Mathlib.Numerals.{add-one}
use mathlib.Core.Path.{◌≡◌, refl, sym, ap, ◌∙◌}
use mathlib.Core.Logic.{⊎_elim}
use mathlib.Core.List.{List}
use mathlib.Core.Bool.{Bool, true, false, not, true≢false}
use lib.Dec.{eqb, ltb}
use lib.ListN.{length, get_or, set}
use borrow.Author.Tests.{eq-eqb, ne_eqb, ltb-true, ltb-false}
use Rattle.lists.specs.Chain.{last_below, in_chain, InChains}
use Rattle.lists.proofs.Below.{every_within, every_at}
use Rattle.lists.proofs.Tests.{both}
use Rattle.lists.proofs.Chain.{last_within, last_itself, last_is_last, chain_noted, chain_passed, back_less, back_last, back_none}
use Rattle.table.specs.Lists.{ids_of}
use Rattle.spec_checkpoint.specs.Layout.{call_record}
use Rattle.checkpoint_chains.specs.declared.Factors.{Factors}
use Rattle.checkpoint_choice.specs.Ranked.{is_ahead, is_better, is_best}
use Rattle.checkpoint_choice.specs.LongChain.{chain_of, chain_at, LongChains}
use Rattle.checkpoint_choice.proofs.Mixed.{one_chain}

-- the record of place k is sound
abbrev pub sound_at : List ℕ → ℕ → ℕ → Bool
sound_at sound n k = eqb (get_or sound (n - 1 - k) 0) 1

module _ (f : Factors) (s sound heads links : List ℕ) (n k : ℕ) (c : InChains (sound_at sound n) (chain_at f s n) heads links k) where
  pub chained_sound : (m : ℕ) → get_or sound (n - 1 - k) 0 ≡ 1 → m ≡ chain_at f s n k → m < length heads → k < length links
      → InChains (sound_at sound n) (chain_at f s n) (set heads m (k + 1)) (set links k (get_or heads m 0)) (k + 1)
  chained_sound m is e inside room =
      rw (add-one, e) (chain_noted (sound_at sound n) (chain_at f s n) c (eq-eqb (get_or sound (n - 1 - k) 0) 1 is) (rw e at inside) room)

  pub chained_unsound : (get_or sound (n - 1 - k) 0 ≡ 1 → ⊥) → InChains (sound_at sound n) (chain_at f s n) heads links (k + 1)
  chained_unsound isnt = rw add-one (chain_passed (sound_at sound n) (chain_at f s n) c (ne_eqb (get_or sound (n - 1 - k) 0) 1 isnt))

-- ---- the walk

-- the place is in record i's chain
abbrev in_own : Factors → List ℕ → List ℕ → ℕ → ℕ → ℕ → Bool
in_own f s sound n i k = in_chain (sound_at sound n) (chain_at f s n) (chain_of f s i) k

-- it has come to place e - 1 of record i's chain, and has met no better record
pub record Walked (f : Factors) (s sound named : List ℕ) (n i e : ℕ) : Type 0 where
  pub within : e ≤ n
  pub last : e ≡ last_below (in_own f s sound n i) e
  pub none : (k : ℕ) → e ≤ k → k < n → is_better s sound named i (n - 1 - k) ≡ true → ⊥

-- whoever is better is sound and in the chain
better_in : (f : Factors) (s sound named : List ℕ) (n i k : ℕ) → is_better s sound named i (n - 1 - k) ≡ true → in_own f s sound n i k ≡ true
unfolding is_better
better_in f s sound named n i k h =
    let b = both (is_ahead sound named i (n - 1 - k)) _ h in
    rw (both (sound_at sound n k) _ b.0).0
    (eq-eqb (chain_at f s n k) (chain_of f s i)
    (one_chain f (ids_of (call_record s (n - 1 - k)).call) (ids_of (call_record s i).call) b.1))

module _ {f : Factors} {s sound heads links : List ℕ} {n : ℕ} (c : LongChains f s sound heads links n) where
  head_is : (m : ℕ) → m < 1024 → get_or heads m 0 ≡ last_below (in_chain (sound_at sound n) (chain_at f s n) m) n
  head_is m h = c.chains.head m (rw c.room h)

  pub head_within : (m : ℕ) → m < 1024 → get_or heads m 0 ≤ n
  head_within m h = rw (head_is m h) (last_within (in_chain (sound_at sound n) (chain_at f s n) m) n)

  module _ {named : List ℕ} {i : ℕ} where
    pub walk_starts : (m : ℕ) → m ≡ chain_of f s i → m < 1024 → Walked f s sound named n i (get_or heads m 0)
    walk_starts m e h = rw (head_is m h, e) (record {
      within = last_within (in_own f s sound n i) n;
      last = last_itself (in_own f s sound n i) n;
      none = λ k h l b. last_is_last (in_own f s sound n i) n k h l (better_in f s sound named n i k b);
    })

    module _ {e : ℕ} (w : Walked f s sound named n i e) (some : 0 < e) where
      pub walk_goes_back : get_or links (e - 1) 0 < e
      walk_goes_back = back_less (sound_at sound n) (chain_at f s n) heads links n (chain_of f s i) e c.chains some w.within w.last

      pub walk_goes_on : is_better s sound named i (n - e) ≡ false → Walked f s sound named n i (get_or links (e - 1) 0)
      walk_goes_on worse = record {
        within = omega (arith, walk_goes_back, w.within);
        last = back_last (sound_at sound n) (chain_at f s n) heads links n (chain_of f s i) e c.chains some w.within w.last;
        none = none;
      }
        where
          none : (k : ℕ) → get_or links (e - 1) 0 ≤ k → k < n → is_better s sound named i (n - 1 - k) ≡ true → ⊥
          none k h l b = by (ltb k e) refl
            where
              here : k ≡ e - 1 → ⊥
              here q = let r : n - 1 - k ≡ n - e = omega arith in true≢false (sym (rw r at b) ∙ worse)

              before : k < e - 1 → ⊥
              before q =
                  back_none (sound_at sound n) (chain_at f s n) heads links n (chain_of f s i) e c.chains some w.within w.last k h q
                  (better_in f s sound named n i k b)

              by : (d : Bool) → ltb k e ≡ d → ⊥
              by true q = ⊎_elim here before (eq-or-lt_of_le (omega (arith, ltb-true k e q)))
              by false q = w.none k (ltb-false k e q) l b

-- ---- what it finds

module _ (s sound named : List ℕ) (n i : ℕ) where
  pub none_better : {f : Factors} → get_or sound i 0 ≡ 1 → Walked f s sound named n i 0 → true ≡ is_best s sound named n i
  unfolding is_best
  none_better alone w = sym (rw (eq-eqb (get_or sound i 0) 1 alone) (every_within _ n (λ j l. worse j l (is_better s sound named i j) refl)))
    where
      worse : (j : ℕ) → j < n → (d : Bool) → is_better s sound named i j ≡ d → not d ≡ true
      worse j l true q =
          let r : j ≡ n - 1 - (n - 1 - j) = omega arith in
          absurd (w.none (n - 1 - j) (omega arith) (omega arith) (rw r at q))
      worse j l false q = refl

  pub one_better : (j : ℕ) → j < n → is_better s sound named i j ≡ true → false ≡ is_best s sound named n i
  unfolding is_best
  one_better j l b = by (is_best s sound named n i) refl
    where
      by : (d : Bool) → is_best s sound named n i ≡ d → false ≡ d
      by true q = absurd (true≢false (sym (every_at _ n (both (eqb (get_or sound i 0) 1) _ q).1 j l) ∙ ap not b))
      by false q = refl

  pub not_sound : (get_or sound i 0 ≡ 1 → ⊥) → false ≡ is_best s sound named n i
  unfolding is_best
  not_sound d = rw (ne_eqb (get_or sound i 0) 1 d)
