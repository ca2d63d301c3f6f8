-- `put_head` meets its contract: where `fits` says that there is room for both widths, the two numbers are stored one after the other,
-- and else nothing is stored.
use mathlib.Core.Path.{◌∙◌}
use native.Mathlib.Omega.{arith}
use Rattle.wire.specs.Laws.Write.{width_most, length_head_of, head_stored, wrote_fits, wrote_full}
use Rattle.wire.proofs.write.put_head.Goals as goal

pub overflow_add-both : goal.overflow_add-both
overflow_add-both c = omega (arith, width_most c.args.typ, width_most c.args.len)

pub returns-then-fits : goal.returns-then-fits
returns-then-fits c =
    let first = c.width_of-first.ensures in
    let room = c.fits.ensures in
    let stored = head_stored _ _ _ _ _ _ _ first c.put_shortest.ensures c.put_shortest-then-fits.ensures in
    wrote_fits _ _ _ _ _ (length_head_of _ _ ∙ omega arith) room c.if-fits.true stored

pub returns-else-fits : goal.returns-else-fits
returns-else-fits c = wrote_full _ _ _ _ (length_head_of _ _ ∙ omega arith) c.fits.ensures c.if-fits.false
