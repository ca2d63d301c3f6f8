-- `put_number` meets its contract: where `fits` says that there is room for the number's width, `put_shortest` stores it, and else
-- nothing is stored.
use mathlib.Core.Path.{sym, ◌∙◌}
use Rattle.wire.specs.Laws.Write.{length_encoded, wrote_fits, wrote_full}
use Rattle.wire.proofs.write.put_number.Goals as goal

pub returns-then-fits : goal.returns-then-fits
returns-then-fits c =
    let width = length_encoded _ ∙ sym c.width_of-width.ensures in
    let room = c.fits.ensures in
    wrote_fits _ _ _ _ _ width room c.if-fits.true c.put_shortest.ensures

pub returns-else-fits : goal.returns-else-fits
returns-else-fits c =
    let width = length_encoded _ ∙ sym c.width_of-width.ensures in
    wrote_full _ _ _ _ width c.fits.ensures c.if-fits.false
