-- `read::read_objects` meets its contract: a Notify is its own case of `objects_read`, and the test for a Path tells
-- the other kinds apart.
use Prim.Native.Nat.{ℕ}
use mathlib.Core.Path.{◌≡◌, refl, ap, ◌∙◌}
use mathlib.Core.List.{List}
use mathlib.Core.Bool.{Bool, true, false}
use Rattle.objects.specs.declared.walk.Objects.{Objects}
use Rattle.messages.specs.declared.header.MessageType.{MessageType}
use Rattle.messages.specs.declared.header.MessageType.TheVariants.{Path, PathTear, Notify}
use Rattle.messages.specs.Read.{path_of, objects_read}
use Rattle.messages.proofs.read.read_objects.Goals as goal
use Rattle.messages.proofs.read.read_objects.Goals.{in-Path, in_default-matches}

-- a kind other than a Notify, and what the test for a Path says of it
by_path : (s : List ℕ) (v : Objects) (k : MessageType) (a : Bool) → (k ≡ Notify → ⊥) → (k ≡ Path → a ≡ true) × (k ≡ PathTear → a ≡ false)
    → path_of s v a ≡ objects_read s k v
by_path s v Path a t w = ap (path_of s v) (w.0 refl)
by_path s v PathTear a t w = ap (path_of s v) (w.1 refl)
by_path s v Notify a t w = absurd (t refl)

pub returns-in-Notify : goal.returns-in-Notify
returns-in-Notify c = rw c.in-Notify.is c.read_notify.ensures

pub returns : goal.returns
returns c =
    c.read_path.ensures
    ∙ by_path _ _ _ _ c.in_default.not-Notify
    (elim c.match-matches.branch [
      | in-Path w ↦ let k = w.in-Path.is in (λ e. w.matches-is, λ e. (cc))
      | in_default-matches w ↦ (λ e. absurd (w.in_default-matches.not-Path e), λ e. w.matches-is)
    ])
