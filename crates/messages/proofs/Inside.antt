-- What a message that was read promises of its parts: they lie within the message, with the sizes that a reply relies
-- on; and of its IDs: they have sixteen bits.
-- Assumes nothing.
use Prim.Native.Nat.{ℕ, ◌+◌, ◌≤◌, ◌<◌}
use native.Mathlib.Omega.{arith}
use mathlib.Core.Path.{◌≡◌, refl, subst}
use mathlib.Core.Logic.{◌⊎◌, inl, inr}
use mathlib.Core.List.{List}
use mathlib.Core.Bool.{Bool, true, false, cond, not, ◌&&◌, ◌||◌}
use lib.Dec.{ltb, eqb}
use borrow.Author.Tests.{eqb-true, eqb-false, ltb-false, not-false}
use Rattle.numbers.proofs.BigEndian.{be16_bound, be24_bound, be32_bound}
use Rattle.numbers.proofs.Padding.{unpadded_says}
use Rattle.lists.proofs.Tests.{both}
use Rattle.objects.specs.Forms.{name_length}
use Rattle.objects.specs.Placed.{Placed}
use Rattle.objects.specs.Walk.{Walked, walk_of}
use Rattle.objects.proofs.Placed.{walk_placed}
use Rattle.objects.specs.declared.fault.Fault.{Fault}
use Rattle.objects.specs.declared.fault.Fault.TheVariants.{CallIdentity}
use Rattle.objects.specs.declared.walk.Objects.{Objects}
use Rattle.messages.specs.declared.header.MessageType.{MessageType}
use Rattle.messages.specs.declared.header.MessageType.TheVariants.{Path, PathTear, Notify}
use Rattle.messages.specs.Header.{Header}
use Rattle.std.specs.Prelude.{Ok, Err}
use Rattle.messages.specs.declared.message.CallRequest.{CallRequest}
use Rattle.messages.specs.declared.message.Message.{Message}
use Rattle.messages.specs.declared.message.Message.TheVariants.{Open, Close}
use Rattle.messages.specs.Read.{Reading, refused, unfit, received}
use Rattle.messages.specs.declared.read.Refusal.TheVariants.{Misformed, Unfit}
use Rattle.messages.specs.Header.{header_of}
use Rattle.messages.specs.Counts.{notify_complete, path_complete}
use Rattle.messages.specs.Fields.{call_id_at, sender_at, long_size, connection_in, request_at}
use Rattle.messages.specs.Inside.{CallInside, ConnectionInside, Inside}
use Rattle.messages.specs.Claims.{ReadInside}
use Rattle.messages.specs.Read.{is_call_request, is_nameless, bad_identity, closes_at, notify_of, path_of, objects_read, walked_read, header_read, read_of}
use Rattle.messages.proofs.Bounds.{path_bounds, notify_bounds}

-- the promise of a reading: none where nothing was read
Promised : List ℕ → Reading → Type 0
Promised s (Err (Misformed fault offset headers)) = Unit {0}
Promised s (Err (Unfit fault sender headers)) = Unit {0}
Promised s (Ok read) = Inside s read.message

neither : (a b : Bool) → (a || b) ≡ false → (a ≡ false) × (b ≡ false)
neither true b h = (h, cc)
neither false b h = (refl, h)

module _ (s : List ℕ) (session attribute : ℕ) where
  -- both IDs, of sizes that fit, where none of the three tests of 13 meets
  some_identity : (eqb (call_id_at s session) 0 || eqb (long_size s attribute) 0 || ltb 32 (name_length s attribute)) ≡ false
      → (0 < call_id_at s session) × (0 < long_size s attribute) × (name_length s attribute ≤ 32)
  some_identity e =
      let k = neither (eqb (call_id_at s session) 0 || eqb (long_size s attribute) 0) (ltb 32 (name_length s attribute)) e in
      let m = neither (eqb (call_id_at s session) 0) (eqb (long_size s attribute) 0) k.0 in
      let x : call_id_at s session ≡ 0 → ⊥ = eqb-false _ _ m.0 in
      let y : long_size s attribute ≡ 0 → ⊥ = eqb-false _ _ m.1 in
      (omega arith, omega arith, ltb-false _ _ k.1)

  -- what closes a call has both
  close_identity : bad_identity s true session attribute ≡ false → (0 < call_id_at s session) × (0 < long_size s attribute) × (name_length s attribute ≤ 32)
  unfolding bad_identity
  close_identity e = some_identity e

  -- what opens one has both or neither
  open_identity : bad_identity s false session attribute ≡ false
      → ((0 < call_id_at s session) × (0 < long_size s attribute) × (name_length s attribute ≤ 32)) ⊎ ((call_id_at s session ≡ 0) × (name_length s attribute ≡ 0))
  unfolding bad_identity is_nameless
  open_identity e = by (eqb (name_length s attribute) 0 && eqb (call_id_at s session) 0) refl e
    where
      by : (b : Bool) → (eqb (name_length s attribute) 0 && eqb (call_id_at s session) 0) ≡ b
          → (not b && (eqb (call_id_at s session) 0 || eqb (long_size s attribute) 0 || ltb 32 (name_length s attribute))) ≡ false
          → ((0 < call_id_at s session) × (0 < long_size s attribute) × (name_length s attribute ≤ 32)) ⊎ ((call_id_at s session ≡ 0) × (name_length s attribute ≡ 0))
      by true q e =
          let k = both (eqb (name_length s attribute) 0) (eqb (call_id_at s session) 0) q in
          inr (eqb-true _ _ k.1, eqb-true _ _ k.0)
      by false q e = inl (some_identity e)

module _ (s : List ℕ) where
  none_refused : (fault : Fault) (offset headers : ℕ) → Promised s (refused fault offset headers)
  unfolding Promised
  none_refused fault offset headers = tt

  none_unfit : (fault : Fault) (sender headers : ℕ) → Promised s (unfit fault sender headers)
  unfolding Promised
  none_unfit fault sender headers = tt

  as_read : (message : Message) (headers : ℕ) → Inside s message → Promised s (received message headers)
  unfolding Promised
  as_read message headers h = h

  either : (b : Bool) (x y : Reading) → (b ≡ true → Promised s x) → (b ≡ false → Promised s y) → Promised s (cond b x y)
  either true x y f g = f refl
  either false x y f g = g refl

  request : (v : Objects) → Placed s v → notify_complete v ≡ true → name_length s v.attribute.at ≤ 32
      → CallInside s (request_at s v.session.at v.template.at v.identifier.at v.attribute.at)
  unfolding request_at
  request v g e most =
      let b = notify_bounds s v e g in
      let cut = unpadded_says s (v.attribute.at + 8) (name_length s v.attribute.at) in
      record {
        session = b.session;
        template = b.template;
        attribute = b.attribute;
        name = omega (arith, b.name, cut.most);
        session_size = refl;
        template_size = refl;
        attribute_least = omega (arith, b.attribute_size);
        attribute_most = omega (arith, b.attribute_size, most);
        attribute_fours = omega (arith, b.attribute_size);
        name_most = omega (arith, cut.most, most);
        name_ends = cut.last;
        call_fits = be16_bound s (v.session.at + 8);
        epoch_fits = be24_bound s (v.identifier.at + 5);
        identifier_fits = be32_bound s (v.identifier.at + 8);
      }

  abbrev request_in : Objects → CallRequest
  request_in v = request_at s v.session.at v.template.at v.identifier.at v.attribute.at

  closing : (v : Objects) → Placed s v → notify_complete v ≡ true → bad_identity s true v.session.at v.attribute.at ≡ false → Inside s (Close (request_in v))
  unfolding request_at
  closing v g e i =
      let k = close_identity s v.session.at v.attribute.at i in
      (request v g e k.2, record { name_some = k.1; call_some = k.0 })

  opening : (v : Objects) → Placed s v → notify_complete v ≡ true → bad_identity s false v.session.at v.attribute.at ≡ false → Inside s (Open (request_in v))
  unfolding request_at
  opening v g e i = by (open_identity s v.session.at v.attribute.at i)
    where
      by : ((0 < call_id_at s v.session.at) × (0 < long_size s v.attribute.at) × (name_length s v.attribute.at ≤ 32)) ⊎ ((call_id_at s v.session.at ≡ 0) × (name_length s v.attribute.at ≡ 0))
          → Inside s (Open (request_in v))
      by (inl k) = (request v g e k.2, inl (record { name_some = k.1; call_some = k.0 }))
      by (inr k) =
          let cut = unpadded_says s (v.attribute.at + 8) (name_length s v.attribute.at) in
          (request v g e (omega (arith, k.1)), inr (record { name_none = omega (arith, cut.most, k.1); call_none = k.0 }))

  notify : (v : Objects) → Placed s v → Promised s (notify_of s v)
  unfolding notify_of
  notify v g =
      either (not (notify_complete v)) _ _ (λ _. none_refused _ _ _) (λ e.
      either (not (is_call_request s v.status.at v.error.at)) _ _ (λ _. none_unfit _ _ _) (λ _. by (closes_at s v.status.at) (not-false _ e)))
    where
      by : (b : Bool) → notify_complete v ≡ true
          → Promised s (cond (bad_identity s b v.session.at v.attribute.at) (unfit CallIdentity (sender_at s v.template.at) v.headers) (cond b (received (Close (request_in v)) v.headers) (received (Open (request_in v)) v.headers)))
      by true e = either (bad_identity s true v.session.at v.attribute.at) _ _ (λ _. none_unfit _ _ _) (λ i. as_read _ _ (closing v g e i))
      by false e = either (bad_identity s false v.session.at v.attribute.at) _ _ (λ _. none_unfit _ _ _) (λ i. as_read _ _ (opening v g e i))

  connection : (v : Objects) → Placed s v → path_complete v ≡ true → ConnectionInside s (connection_in s v.session.at v.template.at)
  unfolding connection_in
  connection v g e =
      let b = path_bounds s v e g in
      record {
        session = b.0;
        template = b.1;
        session_size = refl;
        template_size = refl;
        tunnel_fits = be16_bound s (v.session.at + 10);
        lsp_fits = be16_bound s (v.template.at + 10);
      }

  path : (v : Objects) (adds : Bool) → Placed s v → Promised s (path_of s v adds)
  unfolding path_of
  path v adds g = either (not (path_complete v)) _ _ (λ _. none_refused _ _ _) (λ e. either adds _ _ (λ _. as_read _ _ (connection v g (not-false _ e))) (λ _. as_read _ _ (connection v g (not-false _ e))))

  by_type : (mtype : MessageType) (v : Objects) → Placed s v → Promised s (objects_read s mtype v)
  by_type Path v g = path v true g
  by_type PathTear v g = path v false g
  by_type Notify v g = notify v g

  by_walk : (mtype : MessageType) (w : Walked) → walk_of s ≡ w → Promised s (walked_read s mtype w)
  by_walk mtype (Err stop) e = none_refused _ _ _
  by_walk mtype (Ok v) e = by_type mtype v (walk_placed s v e)

  by_header : (h : Header) → Promised s (header_read s h)
  by_header (Err fault) = none_refused _ _ _
  by_header (Ok mtype) = by_walk mtype (walk_of s) refl

  promised : Promised s (read_of s)
  unfolding read_of
  promised = by_header (header_of s)

pub read_inside : ReadInside
unfolding Promised
read_inside s message headers e = subst (Promised s) e (promised s)
