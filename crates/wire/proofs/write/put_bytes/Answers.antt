-- `put_bytes` meets its contract: where `fits` says that there is room, `copy` stores the bytes, and else nothing is stored.
use mathlib.Core.Path.{refl}
use Rattle.wire.specs.Laws.Write.{wrote_fits, wrote_full}
use Rattle.wire.proofs.write.put_bytes.Goals as goal

pub returns-then-fits : goal.returns-then-fits
returns-then-fits c =
    let room = c.fits.ensures in
    wrote_fits _ _ _ _ _ refl room c.if-fits.true c.copy.ensures

pub returns-else-fits : goal.returns-else-fits
returns-else-fits c = wrote_full _ _ _ _ refl c.fits.ensures c.if-fits.false
