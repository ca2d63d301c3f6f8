-- A byte more is one law; what is read so far and one byte more fit.
use Rattle.std.proofs.Common.{refl, arith}
use Rattle.wire.specs.Number.{big}
use Rattle.wire.specs.Laws.Read.{big_next, big_room}
use Rattle.wire.proofs.read.big_of.Goals as goal

pub loop-b-init : goal.loop-b-init
unfolding big
loop-b-init c = refl

pub overflow_mul-n : goal.overflow_mul-n
overflow_mul-n c = let r = big_room c.args.bytes.now c.loop-b.b-index (λ k. omega (arith, c.type_inv.bytes k)) c.loop-b-test.true c.requires in omega arith

pub overflow_add-n : goal.overflow_add-n
overflow_add-n c = let r = big_room c.args.bytes.now c.loop-b.b-index (λ k. omega (arith, c.type_inv.bytes k)) c.loop-b-test.true c.requires in omega (arith, c.type_inv.bytes c.loop-b.b-index)

pub loop-b-preserved : goal.loop-b-preserved
loop-b-preserved c = let n = big_next c.args.bytes.now c.loop-b.b-index c.loop-b-test.true in omega arith
