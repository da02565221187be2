-- What an opening's answer says of its cause, and that a new call is answered what its customer is due.
-- Assumes nothing.
use Prim.Native.Nat.{ℕ, ◌≤◌, ◌<◌}
use native.Mathlib.Omega.{arith}
use mathlib.Core.Path.{◌≡◌, refl}
use mathlib.Core.List.{List}
use mathlib.Core.Bool.{Bool, true, false, cond, not, ◌&&◌, ◌||◌}
use lib.Dec.{ltb, leb, eqb}
use borrow.Author.Tests.{eqb-false, ne_eqb, ltb-true, ltb-false, le-leb, lt-leb}
use Rattle.numbers.specs.Search.{is_in}
use Rattle.messages.specs.declared.message.CallRequest.{CallRequest}
use Rattle.table.specs.Lists.{Terms, Entry}
use Rattle.table.specs.Share.{guarantee_of, limit_of, calls_of, S}
use Rattle.answers.specs.declared.answer.Answer.TheVariants.{CallOpened, NoShare}
use Rattle.answers.specs.Answers.{answer_number}
use Rattle.spec_calls.specs.CallRules.{nameless, is_retry, short_taken, long_taken, share_used_up, open_answer}
use Rattle.spec_calls.proofs.Decided.{open_by, ShareSays, share_says}
use Rattle.spec_promises.specs.Promises.{due_answer, Cause}

-- an answer's number is another's
other {ℓ} : {A : Type ℓ} (m n : ℕ) → eqb m n ≡ false → m ≡ n → A
other m n e q = absurd (eqb-false m n e q)

-- no ID of a request without names is in use
never {ℓ} : {A : Type ℓ} (n u : Bool) → n ≡ true → (not n && u) ≡ true → A
never true u e h = let z : ◌≡◌ {A = ℕ} 0 1 = cc in absurd (omega arith)
never false u e h = let z : ◌≡◌ {A = ℕ} 0 1 = cc in absurd (omega arith)

module _ (total : ℕ) (r : List Terms) (l : List Entry) (s : List ℕ) (q : CallRequest) where
  -- every refusal has its cause
  cause_by : (x y z w : Bool) → is_retry l s q ≡ x → long_taken l s q ≡ y → short_taken l s q ≡ z → share_used_up total r l q.sender ≡ w
      → Cause total r l s q (answer_number (open_by x y z w))
  unfolding is_in ShareSays
  cause_by true y z w a b d e = record { short = other 21 30 refl; long = other 21 31 refl; share = other 21 34 refl; only = refl; unnamed = λ n. refl }
  cause_by false true z w a b d e = record { short = other 31 30 refl; long = λ n. (b, a); share = other 31 34 refl; only = refl; unnamed = λ n. never (nameless q) _ n b }
  cause_by false false true w a b d e = record { short = λ n. (d, b); long = other 30 31 refl; share = other 30 34 refl; only = refl; unnamed = λ n. never (nameless q) _ n d }
  cause_by false false false true a b d e =
      record { short = other 34 30 refl; long = other 34 31 refl; share = λ n. share_says total r l q.sender true e; only = refl; unnamed = λ n. refl }
  cause_by false false false false a b d e = record { short = other 20 30 refl; long = other 20 31 refl; share = other 20 34 refl; only = refl; unnamed = λ n. refl }

  pub open_cause : Cause total r l s q (answer_number (open_answer total r l s q))
  unfolding open_answer
  open_cause = cause_by (is_retry l s q) (long_taken l s q) (short_taken l s q) (share_used_up total r l q.sender) refl refl refl refl

  -- the share alone decides on a new call
  due_by : guarantee_of r q.sender ≤ limit_of r q.sender → (b : Bool) → share_used_up total r l q.sender ≡ b
      → answer_number (cond b NoShare CallOpened) ≡ due_answer total r l q.sender
  unfolding due_answer share_used_up
  due_by g b h = by (ltb (calls_of l q.sender) (guarantee_of r q.sender)) refl
    where
      rest : (x y z b : Bool) → y ≡ true → (x || (y && z)) ≡ b → answer_number (cond b NoShare CallOpened) ≡ cond (x || z) 34 20
      rest true y z true e h = refl
      rest true y z false e h = cc
      rest false true true true e h = refl
      rest false true true false e h = cc
      rest false true false true e h = cc
      rest false true false false e h = refl
      rest false false z b e h = cc

      below : (x y z b : Bool) → x ≡ false → y ≡ false → (x || (y && z)) ≡ b → answer_number (cond b NoShare CallOpened) ≡ 20
      below true y z b e f h = cc
      below false true z b e f h = cc
      below false false z true e f h = cc
      below false false z false e f h = refl

      by : (u : Bool) → ltb (calls_of l q.sender) (guarantee_of r q.sender) ≡ u
          → answer_number (cond b NoShare CallOpened) ≡ cond u 20 (cond (eqb (calls_of l q.sender) (limit_of r q.sender) || eqb (S r l) total) 34 20)
      by true e =
          let k : calls_of l q.sender < guarantee_of r q.sender = ltb-true _ _ e in
          below (eqb (calls_of l q.sender) (limit_of r q.sender)) (leb (guarantee_of r q.sender) (calls_of l q.sender)) (eqb (S r l) total) b
          (ne_eqb _ _ (λ (z : calls_of l q.sender ≡ limit_of r q.sender). omega arith)) (lt-leb (guarantee_of r q.sender) (calls_of l q.sender) k) h
      by false e =
          rest (eqb (calls_of l q.sender) (limit_of r q.sender)) (leb (guarantee_of r q.sender) (calls_of l q.sender)) (eqb (S r l) total) b
          (le-leb (guarantee_of r q.sender) (calls_of l q.sender) (ltb-false _ _ e)) h

  pub open_due : guarantee_of r q.sender ≤ limit_of r q.sender → is_retry l s q ≡ false → long_taken l s q ≡ false → short_taken l s q ≡ false
      → answer_number (open_answer total r l s q) ≡ due_answer total r l q.sender
  unfolding open_answer
  open_due g a b d = rw (a, b, d) (due_by g (share_used_up total r l q.sender) refl)
