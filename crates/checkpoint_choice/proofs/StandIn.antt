-- The record that stands for those of a short ID and a pair: the first that has them, so there is one and no other.
-- Assumes nothing.
use Prim.Native.Nat.{ℕ, suc, ◌+◌, ◌*◌, ◌-◌, ◌≤◌, ◌<◌}
use native.Mathlib.Numerals.{add-one}
use native.Mathlib.Omega.{arith}
use mathlib.Core.Path.{◌≡◌, refl, sym, ap, ◌∙◌}
use mathlib.Core.List.{List}
use mathlib.Core.Bool.{Bool, true, false, not, ◌&&◌, true≢false}
use lib.Dec.{ltb}
use lib.ListN.{length, get_or, set, length-set}
use borrow.Author.Tests.{eq-eqb, eqb-true, ltb-true, ltb-false, not-true}
use Rattle.lists.specs.Below.{first_below}
use Rattle.lists.specs.Chain.{last_below}
use Rattle.lists.proofs.Tests.{both}
use Rattle.lists.proofs.Below.{every_within, every_at}
use Rattle.lists.proofs.Search.{first_found, first_least}
use Rattle.lists.proofs.Chain.{last_within, last_itself, last_passes, last_is_last, chain_passed, chain_noted}
use Rattle.spec_checkpoint.specs.Layout.{call_record}
use Rattle.checkpoint_chains.specs.declared.Factors.{Factors}
use Rattle.checkpoint_chains.proofs.Places.{spread_within}
use Rattle.checkpoint_choice.specs.Chained.{short_chain, chain_of, has_short, shares_short, is_first, stand_in, stand_in_for, Noted}
use Rattle.checkpoint_choice.proofs.Walk.{Reached, reached_head, reached_end, reached_found, reached_less, reached_next}

-- ---- a short ID and a pair, and the first record that has them

pub record Has (s : List ℕ) (short endpoint sender i : ℕ) : Type 0 where
  pub id : short ≡ (call_record s i).call.id
  pub endpoint_is : endpoint ≡ (call_record s i).call.endpoint
  pub sender_is : sender ≡ (call_record s i).call.sender

pub has_is : (s : List ℕ) (short endpoint sender i : ℕ) → has_short s short endpoint sender i ≡ true → Has s short endpoint sender i
has_is s short endpoint sender i h =
    let a = both _ _ h in
    let b = both _ _ a.0 in
    record { id = eqb-true _ _ b.0; endpoint_is = eqb-true _ _ b.1; sender_is = eqb-true _ _ a.1 }

-- a record has its own
shares_self : (s : List ℕ) (i : ℕ) → shares_short s i i ≡ true
shares_self s i =
    rw (
      eq-eqb (call_record s i).call.id (call_record s i).call.id refl,
      eq-eqb (call_record s i).call.endpoint (call_record s i).call.endpoint refl,
      eq-eqb (call_record s i).call.sender (call_record s i).call.sender refl,
    )

first_is : (s : List ℕ) (i : ℕ) → ((j : ℕ) → j < i → shares_short s i j ≡ false) → is_first s i ≡ true
unfolding is_first
first_is s i h = every_within (λ j. not (shares_short s i j)) i (λ j l. ap not (h j l))

first_only : (s : List ℕ) (i j : ℕ) → is_first s i ≡ true → j < i → shares_short s i j ≡ false
unfolding is_first
first_only s i j h l = not-true _ (every_at (λ j. not (shares_short s i j)) i h j l)

-- ---- the one that stands for those that have them

last_some : (p : ℕ → Bool) (n e : ℕ) → e ≡ last_below p n → (e ≡ 0 → ⊥) → p (e - 1) ≡ true
last_some p n e h some =
    let one : e ≡ suc (e - 1) = omega arith in
    let up : e ≡ last_below p e = h ∙ last_itself p n ∙ ap (λ (k : ℕ). last_below p k) (sym h) in
    last_passes p (e - 1) (rw one at up)

pub record StandsIn (s : List ℕ) (n short endpoint sender i : ℕ) : Type 0 where
  pub inside : i < n
  pub first : is_first s i ≡ true
  pub has : has_short s short endpoint sender i ≡ true

module _ (s : List ℕ) (short endpoint sender : ℕ) where
  -- whoever has what record k has
  has_same : (k i : ℕ) → Has s short endpoint sender k → shares_short s k i ≡ has_short s short endpoint sender i
  has_same k i h = rw (h.id, h.endpoint_is, h.sender_is)

  -- whoever has them is of their chain
  has_chain : (f : Factors) (j : ℕ) → has_short s short endpoint sender j ≡ true → chain_of f s j ≡ short_chain f short endpoint sender
  has_chain f j h =
      let k = has_is s short endpoint sender j h in
      rw (k.id, k.endpoint_is, k.sender_is)

  module _ (n e : ℕ) (found : e ≡ stand_in s n short endpoint sender) where
    pub stand_in_within : e ≤ n
    unfolding stand_in
    stand_in_within = rw found (last_within (λ i. is_first s i && has_short s short endpoint sender i) n)

    pub stand_in_some : (e ≡ 0 → ⊥) → StandsIn s n short endpoint sender (e - 1)
    unfolding stand_in
    stand_in_some some =
        let b = both (is_first s (e - 1)) _ (last_some (λ i. is_first s i && has_short s short endpoint sender i) n e found some) in
        record { inside = omega (arith, stand_in_within); first = b.0; has = b.1 }

    pub stand_in_none : e ≡ 0 → (j : ℕ) → j < n → has_short s short endpoint sender j ≡ false
    unfolding stand_in
    stand_in_none none j l = by (has_short s short endpoint sender j) refl
      where
        by : (b : Bool) → has_short s short endpoint sender j ≡ b → has_short s short endpoint sender j ≡ false
        by true h =
            let p : ℕ → Bool = λ i. has_short s short endpoint sender i in
            let k = first_below p n in
            let f = first_found p n j l h in
            let own = has_is s short endpoint sender k f.passes in
            let first : is_first s k ≡ true = first_is s k (λ i q. has_same k i own ∙ first_least p n i q) in
            absurd (last_is_last (λ i. is_first s i && has_short s short endpoint sender i) n k (omega arith) f.inside (rw (first, f.passes)))
        by false h = h

    -- of the first n, no other stands for them
    pub stand_in_only : (j : ℕ) → j < n → (j ≡ e - 1 → ⊥) → (is_first s j && has_short s short endpoint sender j) ≡ false
    unfolding stand_in
    stand_in_only j l other = by (is_first s j && has_short s short endpoint sender j) refl
      where
        by : (b : Bool) → (is_first s j && has_short s short endpoint sender j) ≡ b → (is_first s j && has_short s short endpoint sender j) ≡ false
        by true h =
            let before : j < e = ltb-true _ _ (go (ltb j e) refl h) in
            let k = stand_in_some (λ (z : e ≡ 0). omega arith) in
            let own = has_is s short endpoint sender (e - 1) k.has in
            absurd (true≢false (sym (both (is_first s j) _ h).1 ∙ sym (has_same (e - 1) j own) ∙ first_only s (e - 1) j k.first (omega arith)))
          where
            go : (b : Bool) → ltb j e ≡ b → (is_first s j && has_short s short endpoint sender j) ≡ true → ltb j e ≡ true
            go true q h = q
            go false q h =
                absurd (last_is_last (λ i. is_first s i && has_short s short endpoint sender i) n j (rw found at (ltb-false j e q)) l h)
        by false h = h

-- a record has one that stands for it
pub stand_in_own : (s : List ℕ) (n i e : ℕ) → e ≡ stand_in_for s n i → i < n → e ≡ 0 → ⊥
stand_in_own s n i e found l none =
    true≢false
    (sym (shares_self s i) ∙ stand_in_none s (call_record s i).call.id (call_record s i).call.endpoint (call_record s i).call.sender n e found none i l)

-- ---- the search for it

-- it has come to record e - 1
abbrev pub Searched : Factors → List ℕ → ℕ → ℕ → ℕ → ℕ → ℕ → Type 0
Searched f s n short endpoint sender e = Reached (is_first s) (chain_of f s) n (short_chain f short endpoint sender) (λ i. has_short s short endpoint sender i) e

module _ (f : Factors) (s heads links : List ℕ) (n short endpoint sender : ℕ) (k : Noted f s heads links n) where
  pub search_head : (e : ℕ) → e ≡ get_or heads (short_chain f short endpoint sender) 0 → Searched f s n short endpoint sender e
  search_head e is =
      rw is
      (reached_head (is_first s) (chain_of f s) heads links n (short_chain f short endpoint sender) (λ i. has_short s short endpoint sender i) k.chains
      (has_chain s short endpoint sender f) (rw k.chain_count (omega (arith, spread_within f endpoint sender short 0))))

  pub search_end : (e : ℕ) → e ≡ 0 → Searched f s n short endpoint sender e → 0 ≡ stand_in s n short endpoint sender
  unfolding stand_in
  search_end e none r =
      reached_end (is_first s) (chain_of f s) heads links n (short_chain f short endpoint sender) (λ i. has_short s short endpoint sender i) k.chains
      (has_chain s short endpoint sender f) (rw none at r)

  module _ (e : ℕ) (some : e ≡ 0 → ⊥) (r : Searched f s n short endpoint sender e) where
    pub search_found : has_short s short endpoint sender (e - 1) ≡ true → e ≡ stand_in s n short endpoint sender
    unfolding stand_in
    search_found h =
        reached_found (is_first s) (chain_of f s) heads links n (short_chain f short endpoint sender) (λ i. has_short s short endpoint sender i) k.chains
        (has_chain s short endpoint sender f) e some r h

    pub search_less : get_or links (e - 1) 0 < e
    search_less =
        reached_less (is_first s) (chain_of f s) heads links n (short_chain f short endpoint sender) (λ i. has_short s short endpoint sender i) k.chains
        (has_chain s short endpoint sender f) e some r

    pub search_next : has_short s short endpoint sender (e - 1) ≡ false → Searched f s n short endpoint sender (get_or links (e - 1) 0)
    search_next h =
        reached_next (is_first s) (chain_of f s) heads links n (short_chain f short endpoint sender) (λ i. has_short s short endpoint sender i) k.chains
        (has_chain s short endpoint sender f) e some r h

-- ---- one more record noted

module _ (f : Factors) (s heads links : List ℕ) (i e : ℕ) (c : Noted f s heads links i) (within : 4 + 55 * i + 55 ≤ length s) (room : i < 4096) (found : e ≡ stand_in_for s i i) where
  pub noted_first : e ≡ 0 → (m : ℕ) → m ≡ chain_of f s i → m < 1024 → Noted f s (set heads m (i + 1)) (set links i (get_or heads m 0)) (i + 1)
  noted_first none m is inside = rw (is, add-one i) (record {
    within = omega arith;
    most = omega arith;
    chain_count = length-set heads (chain_of f s i) (suc i) ∙ c.chain_count;
    place_count = length-set links i (get_or heads (chain_of f s i) 0) ∙ c.place_count;
    chains = chain_noted (is_first s) (chain_of f s) c.chains first (omega (arith, c.chain_count, is)) (omega (arith, c.place_count));
  })
    where
      first : is_first s i ≡ true
      first = first_is s i (stand_in_none s (call_record s i).call.id (call_record s i).call.endpoint (call_record s i).call.sender i e found none)

  pub noted_later : (e ≡ 0 → ⊥) → Noted f s heads links (i + 1)
  noted_later some = rw (add-one i) (record {
    within = omega arith;
    most = omega arith;
    chain_count = c.chain_count;
    place_count = c.place_count;
    chains = chain_passed (is_first s) (chain_of f s) c.chains (later (is_first s i) refl);
  })
    where
      later : (b : Bool) → is_first s i ≡ b → is_first s i ≡ false
      later true h =
          let k = stand_in_some s (call_record s i).call.id (call_record s i).call.endpoint (call_record s i).call.sender i e found some in
          absurd (true≢false (sym k.has ∙ first_only s i (e - 1) h k.inside))
      later false h = h
