-- One law for each outcome, over what the walk over v found and what the Name says.
use Rattle.std.proofs.Common.{◌≡◌, ◌||◌, sym, ◌∙◌, ap, Err}
use Rattle.std.proofs.lemmas.Result.{err_from_is_err_and}
use Rattle.wire.specs.Verdict.{is_unsupported}
use Rattle.packethead.specs.Laws.Part.{exit_is}
use Rattle.packets.specs.Laws.Bare.{interest_bad, interest_no_nonce, interest_unnamed, interest_empty, interest_refused, interest_asked}
use Rattle.packets.proofs.bare.read_interest.Goals as goal
use Rattle.packets.proofs.bare.read_interest.Goals.{then-is_malformed-via-then-is_malformed, then-is_malformed-via-else-is_malformed+then-is_none, then-marked, else-marked}

pub returns-then-is_malformed : goal.returns-then-is_malformed
returns-then-is_malformed c =
    elim c.then-is_malformed.branch [
      | then-is_malformed-via-then-is_malformed w ↦ interest_bad _ _ _ _ c.walk-f.ensures (sym c.is_malformed.ensures ∙ w.if-is_malformed.true)
      | then-is_malformed-via-else-is_malformed+then-is_none w ↦ interest_no_nonce _ _ _ _ c.walk-f.ensures (rw w.if-is_none.true at w.is_none.ensures)
    ]

pub returns-in_err-name : goal.returns-in_err-name
returns-in_err-name c =
    let p = err_from_is_err_and c.from_residual.result c.from_residual.ensures.1 in
    exit_is p.1 p.2 c.in_err-name.ensures.value c.in_err-name.ensures.ok_part
    (interest_unnamed _ _ _ _ c.walk-f.ensures c.in_err-name.ensures.ok_part)

pub returns-then-c-eq0 : goal.returns-then-c-eq0
returns-then-c-eq0 c =
    interest_empty _ _ _ _ c.walk-f.ensures (sym c.is_malformed.ensures ∙ c.if-is_malformed.false) (rw c.if-is_none.false at c.is_none.ensures)
    c.in_ok-name.ensures.ok_part c.part_at.ensures c.count_components-c.ensures c.if-c-eq0.true

pub returns-in_err-check_name : goal.returns-in_err-check_name
returns-in_err-check_name c =
    let p = err_from_is_err_and c.from_residual-in_err-check_name.result c.from_residual-in_err-check_name.ensures.1 in
    let u : c.if-marked.check_name ≡ (c.args.marked || is_unsupported c.walk-f.result.said) =
    elim c.if-marked.branch [
      | then-marked w ↦ rw (w.check_name-is, w.if-marked.true)
      | else-marked w ↦ rw (w.check_name-is, w.if-marked.false) w.is_unsupported.ensures
    ] in
    p.1 ∙ ap Err p.2
    ∙ interest_refused _ _ _ _ c.walk-f.ensures (sym c.is_malformed.ensures ∙ c.if-is_malformed.false) (rw c.if-is_none.false at c.is_none.ensures)
    c.in_ok-name.ensures.ok_part c.part_at.ensures c.count_components-c.ensures c.if-c-eq0.false
    (rw (← u) (sym c.in_err-check_name.ensures))

pub returns : goal.returns
returns c =
    let u : c.if-marked.check_name ≡ (c.args.marked || is_unsupported c.walk-f.result.said) =
    elim c.if-marked.branch [
      | then-marked w ↦ rw (w.check_name-is, w.if-marked.true)
      | else-marked w ↦ rw (w.check_name-is, w.if-marked.false) w.is_unsupported.ensures
    ] in
    rw (c.with_nack.ensures, c.made.ensures)
    (interest_asked _ _ _ _ c.walk-f.ensures (sym c.is_malformed.ensures ∙ c.if-is_malformed.false) (rw c.if-is_none.false at c.is_none.ensures)
    c.in_ok-name.ensures.ok_part c.part_at.ensures c.count_components-c.ensures c.if-c-eq0.false
    (rw (← u) (sym c.in_ok-check_name.ensures)))
