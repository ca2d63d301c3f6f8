-- The word is stored, then the numbers, and then the line's end.
use Rattle.std.proofs.Common.{arith}
use Rattle.lines.specs.Lines.{newline}
use Rattle.lines.specs.Laws.Put.{length_line, storing_none, storing_more, storing_all, room_more, room_end}
use Rattle.lines.proofs.store_line.Goals as goal

pub store_word-end-requires : goal.store_word-end-requires
store_word-end-requires c = omega (arith, length_line c.args.word.now c.args.numbers.now)

pub loop-n-init : goal.loop-n-init
loop-n-init c = storing_none _ c.store_word-end.ensures

pub store_spaced-end-requires : goal.store_spaced-end-requires
store_spaced-end-requires c = room_more c.loop-n.invariant c.loop-n-test.true c.requires

pub loop-n-preserved : goal.loop-n-preserved
loop-n-preserved c = storing_more c.loop-n.invariant _ _ c.loop-n-test.true c.store_spaced-end.ensures

pub store_word-requires : goal.store_word-requires
store_word-requires c = room_end c.loop-n.invariant c.requires

pub returns : goal.returns
unfolding newline
returns c = storing_all c.loop-n.invariant _ _ c.loop-n-test.false c.store_word.ensures
