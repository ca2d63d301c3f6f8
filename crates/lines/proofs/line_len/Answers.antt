-- A turn counts a number's digits and the space before it.
use Rattle.std.proofs.Common.{arith}
use Rattle.lines.specs.Laws.Put.{length_line, length_next, length_none}
use Rattle.lines.proofs.line_len.Goals as goal

pub loop-n-init : goal.loop-n-init
loop-n-init c = (omega (arith, length_line c.args.word.now c.args.numbers.now), omega arith)

pub loop-n-preserved : goal.loop-n-preserved
loop-n-preserved c =
    let e = length_next c.args.numbers.now c.loop-n.n-index c.loop-n-test.true in
    (omega (arith, e, c.loop-n.invariant.0, c.width.ensures.0), omega (arith, c.loop-n.invariant.1, c.width.ensures.1))

pub returns-clause-exact : goal.returns-clause-exact
returns-clause-exact c =
    omega (arith, length_none c.args.numbers.now c.loop-n.n-index c.loop-n-test.false, c.loop-n.invariant.0)
