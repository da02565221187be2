-- `path_err::put_path_err` meets its contract: the message is written, and its checksum filled in.
use native.Mathlib.Omega.{arith}
use borrow.Author.Rules.{rules}
use Rattle.replies.specs.Messages.{path_err_bytes}
use Rattle.replies.proofs.Lengths.{path_err_length}
use Rattle.replies.proofs.Filled.{path_err_field_free, checksum_written}
use Rattle.replies.proofs.path_err.put_path_err.Goals as goal

pub fill_checksum-requires : goal.fill_checksum-requires
fill_checksum-requires c = (search rules, search rules, search rules, path_err_field_free _ _ _ _ c.put_path_err_before_checksum-n.ensures.1)

pub returns : goal.returns
unfolding path_err_bytes
returns c =
    checksum_written _ _ c.put_path_err_before_checksum-n.ensures (path_err_length c.requires) (omega arith) c.fill_checksum.ensures
