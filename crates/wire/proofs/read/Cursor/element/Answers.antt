-- The form of a byte each is one law; the rest is the longer function.
use Rattle.std.proofs.Common.{refl, sym}
use Rattle.wire.specs.Laws.Read.{element_short}
use Rattle.wire.proofs.read.Cursor.element.Goals as goal

pub returns-then-n-left : goal.returns-then-n-left
returns-then-n-left c =
    sym (element_short _ _ _ _ _ c.if-at-s.true c.if-s-at-ge2.true refl c.from-typ.ensures c.from-n.ensures c.if-typ-gt0.true c.if-typ-lt253.true c.if-n-lt253.true c.if-n-left.true)
