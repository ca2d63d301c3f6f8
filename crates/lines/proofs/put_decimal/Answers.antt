-- Where there is room for the digits they are stored, and else nothing is.
use mathlib.Core.Path.{sym}
use Rattle.lines.specs.Laws.Put.{put_fits, put_full}
use Rattle.lines.proofs.put_decimal.Goals as goal

pub returns-then-fits : goal.returns-then-fits
returns-then-fits c = put_fits _ _ _ _ _ _ (sym c.width.ensures.0) c.fits.ensures c.if-fits.true c.store_decimal.ensures

pub returns-else-fits : goal.returns-else-fits
returns-else-fits c = put_full _ _ _ _ (sym c.width.ensures.0) c.fits.ensures c.if-fits.false
