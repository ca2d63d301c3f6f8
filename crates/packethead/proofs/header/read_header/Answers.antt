-- One law for each outcome, over the element that is read and the row of its type.
use Rattle.std.proofs.Common.{sym, ◌∙◌, arith}
use Rattle.std.proofs.Math.Nat.{add-sub_cancel_left}
use Rattle.std.proofs.lemmas.Result.{err_from_is_err_and}
use Rattle.wire.specs.Laws.Within.{read_is, value_length}
use Rattle.packethead.specs.Laws.Header.{header_long, header_bad, header_more, header_unknown, header_lp_read, header_bare}
use Rattle.packethead.specs.Laws.Part.{exit_is}
use Rattle.packethead.proofs.header.read_header.Goals as goal

pub returns-then-s-gt-PACKET : goal.returns-then-s-gt-PACKET
returns-then-s-gt-PACKET c = header_long _ c.if-s-gt-PACKET.true

pub returns-in_err-e : goal.returns-in_err-e
returns-in_err-e c =
    let p = err_from_is_err_and c.from_residual.result c.from_residual.ensures.1 in
    exit_is p.1 p.2 c.in_err-e.ensures.value c.in_err-e.ensures.ok_part
    (header_bad _ c.if-s-gt-PACKET.false (sym c.element.ensures ∙ c.in_err-e.ensures.ok_part))

pub returns-then-next-s : goal.returns-then-next-s
returns-then-next-s c =
    header_more _ c.if-s-gt-PACKET.false _ _ (sym c.element.ensures ∙ c.in_ok-e.ensures.ok_part) c.if-next-s.true

pub returns-in_err-row : goal.returns-in_err-row
returns-in_err-row c =
    let p = err_from_is_err_and c.from_residual-in_err-row.result c.from_residual-in_err-row.ensures.1 in
    exit_is p.1 p.2 c.in_err-row.ensures.value c.in_err-row.ensures.ok_part
    (header_unknown _ c.if-s-gt-PACKET.false _ _ (sym c.element.ensures ∙ c.in_ok-e.ensures.ok_part) c.if-next-s.false
    (sym c.row_of.ensures ∙ c.in_err-row.ensures.ok_part))

pub overflow_add-e : goal.overflow_add-e
overflow_add-e c =
    let n = read_is _ _ _ _ (sym c.element.ensures ∙ c.in_ok-e.ensures.ok_part) in
    omega (arith, n.value, n.inside)

pub slice_bounds-read_lp-end : goal.slice_bounds-read_lp-end
slice_bounds-read_lp-end c =
    let n = read_is _ _ _ _ (sym c.element.ensures ∙ c.in_ok-e.ensures.ok_part) in
    omega (arith, n.value, n.inside)

pub read_lp-requires : goal.read_lp-requires
read_lp-requires c =
    let n = read_is _ _ _ _ (sym c.element.ensures ∙ c.in_ok-e.ensures.ok_part) in
    rw add-sub_cancel_left (omega (arith, n.value, n.inside, value_length n))

pub returns-then-row-eq-LP_PACKET : goal.returns-then-row-eq-LP_PACKET
returns-then-row-eq-LP_PACKET c =
    c.read_lp.ensures
    ∙ rw add-sub_cancel_left
    (header_lp_read _ c.if-s-gt-PACKET.false _ _ (sym c.element.ensures ∙ c.in_ok-e.ensures.ok_part) c.if-next-s.false
    (sym c.row_of.ensures ∙ c.in_ok-row.ensures.ok_part) c.if-row-eq-LP_PACKET.true)

pub returns : goal.returns
returns c =
    header_bare _ c.if-s-gt-PACKET.false _ _ (sym c.element.ensures ∙ c.in_ok-e.ensures.ok_part) c.if-next-s.false
    (sym c.row_of.ensures ∙ c.in_ok-row.ensures.ok_part) c.if-row-eq-LP_PACKET.false
