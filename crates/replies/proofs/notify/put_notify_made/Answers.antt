-- `notify::put_notify_made` meets its contract: the two arrays that it hands on hold SESSION and SESSION_ATTRIBUTE with
-- the call's IDs.
use Prim.Native.Nat.{ℕ}
use native.Mathlib.Omega.{arith}
use mathlib.Core.Path.{◌≡◌, refl, ap, sym, ◌∙◌}
use mathlib.Core.List.{List, ◌++◌, append-nil}
use lib.ListN.{length, take, drop_of_length-le}
use lib.Seq.{length-take-le}
use Rattle.numbers.specs.Buffer.{at_front}
use Rattle.numbers.proofs.Buffer.{front_taken}
use Rattle.objects.specs.Part.{part_of}
use Rattle.reply_objects.specs.Objects.{session_with, attribute_with}
use Rattle.reply_objects.proofs.Lengths.{session_with_length}
use Rattle.replies.specs.declared.notify.Notify.{Notify}
use Rattle.replies.specs.Messages.{NotifyFits, notify_made_bytes}
use Rattle.replies.proofs.Lengths.{part_length, made_fit}
use Rattle.replies.proofs.Filled.{lent}
use Rattle.replies.proofs.notify.put_notify_made.Goals as goal

-- a buffer that is written whole
filled : (bs l : List ℕ) → length bs ≡ length l → at_front bs l ≡ bs
unfolding at_front
filled bs l e = ap (λ (r : List ℕ). bs ++ r) (drop_of_length-le l {i = length bs} (omega arith)) ∙ append-nil bs

-- what the two arrays hold
held : {msg reply session attribute : List ℕ} {n : Notify} {len r : ℕ} (call : ℕ) (name zeros blank : List ℕ) → NotifyFits msg n reply
    → length zeros ≡ 16
    → (r ≡ 16) × (session ≡ at_front (session_with (part_of msg n.session) call) zeros)
    → (len ≡ length (attribute_with (part_of msg n.attribute) name)) × (attribute ≡ at_front (attribute_with (part_of msg n.attribute) name) blank)
    → (session ≡ session_with (part_of msg n.session) call) × (take len attribute ≡ attribute_with (part_of msg n.attribute) name)
held {msg} {n = n} {len} call name zeros blank fits z s a =
    let p = part_length msg n.session fits.session in (
      s.1 ∙ filled _ _ (session_with_length (part_of msg n.session) call (omega arith) ∙ omega arith),
      ap (take len) a.1 ∙ front_taken _ _ len (sym a.0),
    )

pub slice_bounds-put_notify_with-end-2 : goal.slice_bounds-put_notify_with-end-2
slice_bounds-put_notify_with-end-2 c = sym (length-take-le _ _ (omega arith))

pub put_notify_with-requires : goal.put_notify_with-requires
put_notify_with-requires c =
    let a = c.args in
    let name = a.name.now in
    let attribute = c.put_attribute_with-len.ensures in
    let arrays = held a.call a.name.now _ _ c.requires.0 refl c.put_session_with.ensures (attribute.1, attribute.2) in
    rw (arrays.0, arrays.1) (made_fit a.call name c.requires.0 c.requires.1)

pub returns : goal.returns
unfolding notify_made_bytes
returns c =
    let a = c.args in
    let attribute = c.put_attribute_with-len.ensures in
    let arrays = held a.call a.name.now _ _ c.requires.0 refl c.put_session_with.ensures (attribute.1, attribute.2) in
    lent a.msg.now a.n a.reply.now arrays.0 arrays.1 c.put_notify_with.ensures
