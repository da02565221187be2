-- `path_err::put_path_err_before_checksum` meets its contract: its four writers follow one another, and the header says
-- their length.
use native.Mathlib.Omega.{arith}
use mathlib.Core.Path.{refl}
use mathlib.Core.List.{◌++◌}
use Rattle.objects.specs.Part.{part_of}
use Rattle.reply_objects.specs.Objects.{error_spec_bytes}
use Rattle.reply_objects.specs.Header.{header_bytes}
use Rattle.reply_objects.proofs.Written.{begun, more}
use Rattle.replies.specs.Messages.{path_err_before_checksum}
use Rattle.replies.proofs.Lengths.{part_length, path_err_length}
use Rattle.replies.proofs.Written.{complete}
use Rattle.replies.proofs.path_err.put_path_err_before_checksum.Goals as goal

pub returns : goal.returns
unfolding path_err_before_checksum
returns c =
    let e = c.args.e in
    let msg = c.args.msg.now in
    let fits = c.requires in
    let session = part_of msg e.session in
    let error = error_spec_bytes e.error in
    let template = part_of msg e.template in
    let w1 = begun (header_bytes 3 48) refl c.put_header-a.ensures in
    let w2 = more session w1 (part_length msg e.session fits.session) (omega arith) c.put_received.ensures in
    let w3 = more error w2 refl (omega arith) c.put_error_spec.ensures in
    let w4 = more template w3 (part_length msg e.template fits.template) (omega arith) c.put_received-2.ensures in
    complete 3 48 (session ++ error ++ template) w4 (path_err_length fits)
