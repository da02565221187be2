-- `read::bad_identity` meets its contract: what opens a call may have neither ID; a name that is too long is 13 whatever
-- it holds; else what was read is what the definition tests.
use Prim.Native.Nat.{ℕ, ◌≤◌, ◌<◌}
use mathlib.Core.Path.{◌≡◌, refl, sym, ◌∙◌}
use mathlib.Core.List.{List}
use mathlib.Core.Bool.{Bool, true, false, not, ◌&&◌, ◌||◌, or-true, or-false}
use lib.Dec.{eqb, ltb}
use borrow.Author.Tests.{lt-ltb, le-ltb, not-true}
use Rattle.lists.proofs.Tests.{both}
use Rattle.objects.specs.Forms.{name_length}
use Rattle.messages.specs.Fields.{call_id_at, long_size}
use Rattle.messages.specs.Read.{is_nameless, bad_identity}
use Rattle.messages.proofs.read.bad_identity.Goals as goal

module _ (s : List ℕ) (closes : Bool) (session attribute : ℕ) where
  abbrev lacks : Bool
  lacks = eqb (call_id_at s session) 0 || eqb (long_size s attribute) 0

  opens : (call name : ℕ) → (not closes && (eqb name 0 && eqb call 0)) ≡ true → call ≡ call_id_at s session → name ≡ name_length s attribute
      → false ≡ bad_identity s closes session attribute
  unfolding bad_identity is_nameless
  opens call name h p q =
      let k = both (not closes) (eqb name 0 && eqb call 0) h in
      sym (rw (not-true closes k.0, ← p, ← q, k.1))

  -- the IDs are looked at
  asked : (call name : ℕ) → (not closes && (eqb name 0 && eqb call 0)) ≡ false → call ≡ call_id_at s session → name ≡ name_length s attribute
      → bad_identity s closes session attribute ≡ (lacks || ltb 32 (name_length s attribute))
  unfolding bad_identity is_nameless
  asked call name h p q = by closes (rw (p, q) at h)
    where
      by : (c : Bool) → (not c && (eqb (name_length s attribute) 0 && eqb (call_id_at s session) 0)) ≡ false
          → ((c || not (eqb (name_length s attribute) 0 && eqb (call_id_at s session) 0)) && (lacks || ltb 32 (name_length s attribute))) ≡ (lacks || ltb 32 (name_length s attribute))
      by true h = refl
      by false h = rw h

  too_long : bad_identity s closes session attribute ≡ (lacks || ltb 32 (name_length s attribute)) → 32 < name_length s attribute → true ≡ bad_identity s closes session attribute
  too_long e h = sym (e ∙ rw (lt-ltb 32 (name_length s attribute) h) (or-true lacks))

  tested : (call size : ℕ) → bad_identity s closes session attribute ≡ (lacks || ltb 32 (name_length s attribute)) → name_length s attribute ≤ 32
      → call ≡ call_id_at s session → size ≡ long_size s attribute → (eqb call 0 || eqb size 0) ≡ bad_identity s closes session attribute
  tested call size e h p q = rw (p, q) (sym (e ∙ rw (le-ltb 32 (name_length s attribute) h) (or-false lacks)))

pub returns-then-closes-nameless : goal.returns-then-closes-nameless
returns-then-closes-nameless c = opens _ _ _ _ _ _ c.if-closes-nameless.true c.get16-call.ensures refl

pub returns-then-name-gt32 : goal.returns-then-name-gt32
returns-then-name-gt32 c = too_long _ _ _ _ (asked _ _ _ _ _ _ c.if-closes-nameless.false c.get16-call.ensures refl) c.if-name-gt32.true

pub returns : goal.returns
returns c =
    let g = c.get16-call.ensures in
    tested _ _ _ _ _ _ (asked _ _ _ _ _ _ c.if-closes-nameless.false g refl) c.if-name-gt32.false g c.long_size.ensures
