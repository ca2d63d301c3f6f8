-- The Interest is an element, whose value has few bytes more than the name.
use native.Mathlib.Omega.{arith}
use Rattle.writing.specs.Written.{request_bytes}
use Rattle.writing.specs.Laws.Written.{request_most}
use Rattle.writing.proofs.Request.len.Goals as goal

pub element_len-requires : goal.element_len-requires
element_len-requires c =
    let r = c.args.self in
    omega (arith, c.value_len.ensures, request_most r.name.now r.prefix r.fresh r.nonce)

pub returns : goal.returns
unfolding request_bytes
returns c = c.element_len.ensures _ c.value_len.ensures
