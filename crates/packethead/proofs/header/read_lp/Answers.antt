-- One law for each outcome, over what the walk over s and the walk over the Nack's bytes found.
use Rattle.std.proofs.Common.{rules, ◌≡◌, sym, ◌∙◌, arith}
use Rattle.std.proofs.lemmas.Result.{err_from_is_err_and}
use Rattle.packethead.specs.Laws.Header.{lp_bad, lp_nack_bad, lp_none, lp_bare}
use Rattle.packethead.specs.Places.Header.{nack_at}
use Rattle.packethead.specs.Laws.Part.{place_of, found_inside, exit_is}
use Rattle.grammar.specs.Types.{lp_packet}
use Rattle.packethead.proofs.header.read_lp.Goals as goal

pub returns-then-is_malformed : goal.returns-then-is_malformed
returns-then-is_malformed c = lp_bad c.args.s.now _ c.walk-f.ensures (sym c.is_malformed.ensures ∙ c.if-is_malformed.true)

pub returns-then-is_malformed-2 : goal.returns-then-is_malformed-2
returns-then-is_malformed-2 c =
    lp_nack_bad c.args.s.now _ c.walk-f.ensures (sym c.is_malformed.ensures ∙ c.if-is_malformed.false) c.bytes_at-held.ensures c.walk-k.ensures
    (sym c.is_malformed-2.ensures ∙ c.if-is_malformed-2.true)

pub returns-in_err-fragment : goal.returns-in_err-fragment
returns-in_err-fragment c =
    let p = err_from_is_err_and c.from_residual.result c.from_residual.ensures.1 in
    exit_is p.1 p.2 c.in_err-fragment.ensures.value c.in_err-fragment.ensures.ok_part
    (lp_none c.args.s.now _ c.walk-f.ensures (sym c.is_malformed.ensures ∙ c.if-is_malformed.false) c.bytes_at-held.ensures c.walk-k.ensures
    (sym c.is_malformed-2.ensures ∙ c.if-is_malformed-2.false) c.in_err-fragment.ensures.ok_part)

pub overflow_add-result : goal.overflow_add-result
overflow_add-result c = omega (arith, found_inside lp_packet c.args.s.now c.walk-f.ensures 2 c.in_ok-fragment.ensures.ok_part)

pub returns : goal.returns
unfolding nack_at
returns c =
    let n : c.map.result ≡ nack_at (place_of c.walk-f.result 1) c.whole_of-reason.result = search rules in
    rw (n, c.is_unsupported.ensures, c.whole_of-reason.ensures, c.bytes_at.ensures)
    (lp_bare c.args.s.now _ c.walk-f.ensures (sym c.is_malformed.ensures ∙ c.if-is_malformed.false) c.bytes_at-held.ensures c.walk-k.ensures
    (sym c.is_malformed-2.ensures ∙ c.if-is_malformed-2.false) c.in_ok-fragment.ensures.ok_part)
