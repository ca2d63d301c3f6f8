-- Each arm is one form of a number, whose width is the room that its stores need.
use Rattle.std.proofs.Common.{◌∙◌, arith}
use Rattle.wire.specs.Laws.Write.{form_one, form_three, form_five, form_nine, short_stored, bytes_high}
use Rattle.wire.proofs.write.put_shortest.Goals as goal

pub bounds-buf-at : goal.bounds-buf-at
bounds-buf-at c = omega (arith, (form_one c.args.n (omega arith)).width)

pub put_long-requires : goal.put_long-requires
put_long-requires c = rw c.to_be_bytes-bytes.ensures (omega (arith, (form_three c.args.n (omega arith) (omega arith)).width))

pub put_long-requires-in-65536-to-4294967295 : goal.put_long-requires-in-65536-to-4294967295
put_long-requires-in-65536-to-4294967295 c = rw c.to_be_bytes-bytes.ensures (omega (arith, (form_five c.args.n (omega arith) (omega arith)).width))

pub put_long-requires-in_default : goal.put_long-requires-in_default
put_long-requires-in_default c = rw c.to_be_bytes-bytes.ensures (omega (arith, (form_nine c.args.n (omega arith)).width))

pub returns-in-0-to-252 : goal.returns-in-0-to-252
returns-in-0-to-252 c = rw c.to_be_bytes-bytes.ensures (short_stored _ _ _ (omega arith))

pub returns-in-253-to-65535 : goal.returns-in-253-to-65535
returns-in-253-to-65535 c = c.put_long.ensures ∙ rw (c.to_be_bytes-bytes.ensures, (form_three c.args.n (omega arith) (omega arith)).bytes, ← bytes_high 2 c.args.n)

pub returns-in-65536-to-4294967295 : goal.returns-in-65536-to-4294967295
returns-in-65536-to-4294967295 c = c.put_long-in-65536-to-4294967295.ensures ∙ rw (c.to_be_bytes-bytes.ensures, (form_five c.args.n (omega arith) (omega arith)).bytes, ← bytes_high 4 c.args.n)

pub returns-in_default : goal.returns-in_default
returns-in_default c = c.put_long-in_default.ensures ∙ rw (c.to_be_bytes-bytes.ensures, (form_nine c.args.n (omega arith)).bytes, ← bytes_high 8 c.args.n)
