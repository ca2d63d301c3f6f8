-- One law for each outcome of the one element, whose value ends with the packet; then its kind.
use Rattle.std.proofs.Common.{sym, ◌∙◌, arith}
use Rattle.std.proofs.Math.Nat.{add-sub_cancel_left}
use Rattle.std.proofs.lemmas.Result.{err_from_is_err_and}
use Rattle.wire.specs.Laws.Within.{read_is}
use Rattle.packethead.specs.Laws.Part.{exit_is}
use Rattle.packets.specs.Places.Bare.{packet_in}
use Rattle.packets.specs.Laws.Bare.{bare_bad, bare_longer, bare_unknown, bare_interest, bare_data, bare_nacked, bare_other}
use Rattle.packets.proofs.bare.read_bare.Goals as goal
use Rattle.packets.proofs.bare.read_bare.Goals.{else-row-eq-DATA-via-then-row-eq-DATA+else-is_none, else-row-eq-DATA-via-else-row-eq-DATA}

pub returns-in_err-e : goal.returns-in_err-e
unfolding packet_in
returns-in_err-e c =
    let p = err_from_is_err_and c.from_residual.result c.from_residual.ensures.1 in
    exit_is p.1 p.2 c.in_err-e.ensures.value c.in_err-e.ensures.ok_part
    (rw (bare_bad c.args.nack c.args.marked _ (sym c.element.ensures ∙ c.in_err-e.ensures.ok_part)))

pub returns-then-next-s : goal.returns-then-next-s
unfolding packet_in
returns-then-next-s c = rw (bare_longer c.args.nack c.args.marked _ _ _ (sym c.element.ensures ∙ c.in_ok-e.ensures.ok_part) c.if-next-s.true)

pub returns-in_err-row : goal.returns-in_err-row
returns-in_err-row c =
    let p = err_from_is_err_and c.from_residual-in_err-row.result c.from_residual-in_err-row.ensures.1 in
    exit_is p.1 p.2 c.in_err-row.ensures.value c.in_err-row.ensures.ok_part
    (bare_unknown _ _ _ _ _ (sym c.element.ensures ∙ c.in_ok-e.ensures.ok_part) c.if-next-s.false
    (sym c.row_of.ensures ∙ c.in_err-row.ensures.ok_part))

pub overflow_add-value : goal.overflow_add-value
overflow_add-value c =
    let n = read_is _ _ _ _ (sym c.element.ensures ∙ c.in_ok-e.ensures.ok_part) in
    omega (arith, n.value, n.inside)

pub slice_bounds-value-end : goal.slice_bounds-value-end
slice_bounds-value-end c =
    let n = read_is _ _ _ _ (sym c.element.ensures ∙ c.in_ok-e.ensures.ok_part) in
    omega (arith, n.value, n.inside)

pub returns-then-row-eq-INTEREST : goal.returns-then-row-eq-INTEREST
returns-then-row-eq-INTEREST c =
    c.read_interest.ensures
    ∙ rw add-sub_cancel_left
    (bare_interest _ _ _ _ _ (sym c.element.ensures ∙ c.in_ok-e.ensures.ok_part) c.if-next-s.false
    (sym c.row_of.ensures ∙ c.in_ok-row.ensures.ok_part) c.if-row-eq-INTEREST.true)

pub returns-then-is_none : goal.returns-then-is_none
returns-then-is_none c =
    c.read_data.ensures
    ∙ rw add-sub_cancel_left
    (bare_data _ _ _ _ _ (sym c.element.ensures ∙ c.in_ok-e.ensures.ok_part) c.if-next-s.false
    (sym c.row_of.ensures ∙ c.in_ok-row.ensures.ok_part) c.if-row-eq-DATA.true
    (rw c.if-is_none.true at c.is_none.ensures))

pub returns : goal.returns
returns c =
    let i = sym c.element.ensures ∙ c.in_ok-e.ensures.ok_part in
    let r = sym c.row_of.ensures ∙ c.in_ok-row.ensures.ok_part in
    elim c.else-row-eq-DATA.branch [
      | else-row-eq-DATA-via-then-row-eq-DATA+else-is_none w ↦
          bare_nacked _ _ _ _ _ i c.if-next-s.false r c.if-row-eq-INTEREST.false (rw w.if-is_none.false at w.is_none.ensures)
      | else-row-eq-DATA-via-else-row-eq-DATA w ↦
          bare_other _ _ _ _ _ i c.if-next-s.false r c.if-row-eq-INTEREST.false w.if-row-eq-DATA.false
    ]
