-- The array's last four bytes are those of the nonce.
use Rattle.wire.specs.Laws.Write.{bytes_high}
use Rattle.writing.proofs.store_nonce.Goals as goal

pub store_element-requires : goal.store_element-requires
store_element-requires c = rw (c.to_be_bytes-bytes.ensures, bytes_high 4 c.args.nonce) c.requires

pub returns : goal.returns
returns c = rw (c.to_be_bytes-bytes.ensures, bytes_high 4 c.args.nonce) at c.store_element.ensures
