-- Each product of halves fits; their sum is the law of the product by columns.
use Rattle.names.specs.Laws.Fingerprint.{product}
use Rattle.names.proofs.fingerprint.wrapping_mul.Goals as goal

pub returns : goal.returns
returns c = product c.args.a c.args.b
