-- The value is its four parts, one after the other, and has few bytes more than the name.
use native.Mathlib.Omega.{arith}
use mathlib.Core.Path.{refl, ◌∙◌}
use Rattle.writing.specs.Laws.Written.{element_most, flag_most, request_most}
use Rattle.writing.specs.Laws.Size.{request_parts}
use Rattle.wire.specs.Write.{bytes_of}
use Rattle.wire.specs.Laws.Write.{length_bytes_of}
use Rattle.writing.proofs.Request.value_len.Goals as goal

pub overflow_add-flags : goal.overflow_add-flags
overflow_add-flags c = omega (arith, flag_most 0x21 c.args.self.prefix, flag_most 0x12 c.args.self.fresh)

pub overflow_add-result : goal.overflow_add-result
overflow_add-result c =
    let r = c.args.self in
    let name = r.name.now in
    omega (
      arith,
      c.element_len.ensures name refl,
      element_most 0x07 name,
      flag_most 0x21 r.prefix,
      flag_most 0x12 r.fresh,
    )

pub returns : goal.returns
returns c =
    let r = c.args.self in
    let first = c.element_len.ensures r.name.now refl in
    let last = c.element_len-2.ensures (bytes_of 4 r.nonce) (length_bytes_of 4 r.nonce) in
    request_parts r.name.now r.prefix r.fresh r.nonce ∙ omega arith

pub overflow_add-result-2 : goal.overflow_add-result-2
overflow_add-result-2 c =
    let r = c.args.self in
    omega (arith, returns c, request_most r.name.now r.prefix r.fresh r.nonce)
