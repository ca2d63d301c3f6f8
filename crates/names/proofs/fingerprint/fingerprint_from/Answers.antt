-- The nonce's bytes are the last four of the eight.
use Rattle.std.proofs.Common.{◌∙◌, ap}
use Rattle.wire.specs.Laws.Write.{bytes_high}
use Rattle.names.specs.Fingerprint.{fnv, fingerprint}
use Rattle.names.proofs.fingerprint.fingerprint_from.Goals as goal

pub returns : goal.returns
unfolding fingerprint
returns c =
    rw (c.to_be_bytes-bytes.ensures, c.fnv_from.ensures) at c.fnv_from-2.ensures
    ∙ ap (fnv (fnv c.args.start c.args.name.now)) (bytes_high 4 c.args.nonce)
