-- The value is two elements, one after the other, and has few bytes more than the name.
use native.Mathlib.Omega.{arith}
use mathlib.Core.Path.{◌∙◌}
use Rattle.writing.specs.Written.{request_value, request_bytes, reason_bytes}
use Rattle.writing.specs.Laws.Written.{element_most, reason_most, request_most, nack_most}
use Rattle.writing.specs.Laws.Size.{nack_parts}
use Rattle.writing.proofs.nack_len.Goals as goal

pub element_len-requires : goal.element_len-requires
element_len-requires c = omega (arith, c.reason_len.ensures, reason_most c.args.reason)

pub element_len-requires-2 : goal.element_len-requires-2
unfolding request_bytes
element_len-requires-2 c =
    let r = c.args.request in
    let value = request_value r.name.now r.prefix r.fresh r.nonce in
    omega (arith, c.len.ensures, element_most 0x05 value, request_most r.name.now r.prefix r.fresh r.nonce)

pub returns : goal.returns
returns c =
    let r = c.args.request in
    let first = c.element_len.ensures (reason_bytes c.args.reason) c.reason_len.ensures in
    let second = c.element_len-2.ensures (request_bytes r.name.now r.prefix r.fresh r.nonce) c.len.ensures in
    nack_parts c.args.reason r.name.now r.prefix r.fresh r.nonce ∙ omega arith

pub overflow_add-result : goal.overflow_add-result
overflow_add-result c =
    let r = c.args.request in
    omega (arith, returns c, nack_most r.name.now r.prefix r.fresh r.nonce c.args.reason)
