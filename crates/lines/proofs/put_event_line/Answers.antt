-- Where there is room for the line its position is stored, and then the rest; and else nothing is.
use mathlib.Core.Path.{◌∙◌}
use native.Mathlib.Omega.{arith}
use Rattle.lines.specs.Laws.Lines.{event_parts, length_event_parts}
use Rattle.lines.specs.Laws.Put.{put_fits, put_full, stored_on}
use Rattle.lines.proofs.put_event_line.Goals as goal

pub overflow_add-width : goal.overflow_add-width
overflow_add-width c = omega (arith, c.width.ensures.1, c.line_len.ensures.short)

pub returns-then-fits : goal.returns-then-fits
returns-then-fits c =
    put_fits _ _ _ _ _ _ (length_event_parts _ _ _ ∙ omega (arith, c.width.ensures.0, c.line_len.ensures.exact))
    c.fits.ensures c.if-fits.true (rw event_parts (stored_on _ _ _ _ _ _ _ _ c.store_decimal-next.ensures c.store_line.ensures))

pub returns-else-fits : goal.returns-else-fits
returns-else-fits c =
    put_full _ _ _ _ (length_event_parts _ _ _ ∙ omega (arith, c.width.ensures.0, c.line_len.ensures.exact))
    c.fits.ensures c.if-fits.false
