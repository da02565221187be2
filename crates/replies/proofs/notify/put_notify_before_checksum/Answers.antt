-- `notify::put_notify_before_checksum` meets its contract: its writers follow one another, and the header says their
-- length.
use Prim.Native.Nat.{◌+◌}
use native.Mathlib.Omega.{arith}
use mathlib.Core.Path.{refl}
use mathlib.Core.List.{◌++◌}
use lib.ListN.{length}
use Rattle.objects.specs.Part.{part_of}
use Rattle.reply_objects.specs.Objects.{admin_status_bytes}
use Rattle.reply_objects.specs.Header.{header_bytes}
use Rattle.reply_objects.proofs.Written.{begun, more}
use Rattle.replies.specs.Messages.{notify_front}
use Rattle.replies.proofs.Lengths.{part_length, notify_with_length}
use Rattle.replies.proofs.Written.{complete}
use Rattle.replies.proofs.notify.put_notify_before_checksum.Goals as goal

pub returns : goal.returns
returns c =
    let n = c.args.n in
    let msg = c.args.msg.now in
    let session = c.args.session.now in
    let attribute = c.args.attribute.now in
    let status = admin_status_bytes n.status in
    let template = part_of msg n.template in
    let fits = c.requires in
    let len = 80 + length attribute in
    let w1 = begun (header_bytes 21 len ++ notify_front n) refl c.put_notify_front-a.ensures in
    let w2 = more session w1 refl (omega arith) c.put_bytes.ensures in
    let w3 = more status w2 refl (omega arith) c.put_admin_status.ensures in
    let w4 = more attribute w3 refl (omega arith) c.put_bytes-2.ensures in
    let w5 = more template w4 (part_length msg n.template fits.template) (omega arith) c.put_received.ensures in
    complete 21 len (notify_front n ++ session ++ status ++ attribute ++ template) w5 (notify_with_length fits)
