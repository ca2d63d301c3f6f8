-- One law for each outcome, over what the walks over v and over its MetaInfo found and what the Name says.
use Rattle.std.proofs.Common.{sym, ◌∙◌, ap, Err, arith}
use Rattle.std.proofs.lemmas.Result.{err_from_is_err_and}
use Rattle.grammar.specs.Types.{dat}
use Rattle.packethead.specs.Laws.Part.{exit_is, found_inside}
use Rattle.packets.specs.Laws.Bare.{data_bad, data_no_info, data_no_value, data_unnamed, data_meta_bad, data_refused, data_brought}
use Rattle.packets.proofs.bare.read_data.Goals as goal
use Rattle.packets.proofs.bare.read_data.Goals.{then-is_malformed-via-then-is_malformed, then-is_malformed-via-else-is_malformed+then-is_none, then-is_malformed-via-else-is_malformed+else-is_none+then-is_none-2}

pub returns-then-is_malformed : goal.returns-then-is_malformed
returns-then-is_malformed c =
    elim c.then-is_malformed.branch [
      | then-is_malformed-via-then-is_malformed w ↦ data_bad _ _ _ c.walk-f.ensures (sym c.is_malformed.ensures ∙ w.if-is_malformed.true)
      | then-is_malformed-via-else-is_malformed+then-is_none w ↦ data_no_info _ _ _ c.walk-f.ensures (rw w.if-is_none.true at w.is_none.ensures)
      | then-is_malformed-via-else-is_malformed+else-is_none+then-is_none-2 w ↦
          data_no_value _ _ _ c.walk-f.ensures (rw w.if-is_none-2.true at w.is_none-else-is_none.ensures)
    ]

pub returns-in_err-name : goal.returns-in_err-name
returns-in_err-name c =
    let p = err_from_is_err_and c.from_residual.result c.from_residual.ensures.1 in
    exit_is p.1 p.2 c.in_err-name.ensures.value c.in_err-name.ensures.ok_part
    (data_unnamed _ _ _ c.walk-f.ensures c.in_err-name.ensures.ok_part)

pub returns-then-is_malformed-2 : goal.returns-then-is_malformed-2
returns-then-is_malformed-2 c =
    data_meta_bad _ _ _ c.walk-f.ensures c.bytes_at-held.ensures c.walk-m.ensures (sym c.is_malformed-2.ensures ∙ c.if-is_malformed-2.true)

pub returns-in_err-check_name : goal.returns-in_err-check_name
returns-in_err-check_name c =
    let p = err_from_is_err_and c.from_residual-in_err-check_name.result c.from_residual-in_err-check_name.ensures.1 in
    p.1 ∙ ap Err p.2
    ∙ data_refused _ _ _ c.walk-f.ensures c.bytes_at-held.ensures c.walk-m.ensures (sym c.is_malformed.ensures ∙ c.if-is_malformed.false)
    (rw c.if-is_none.false at c.is_none.ensures) (rw c.if-is_none-2.false at c.is_none-else-is_none.ensures)
    (sym c.is_malformed-2.ensures ∙ c.if-is_malformed-2.false) c.in_ok-name.ensures.ok_part c.part_at.ensures c.count_components-c.ensures
    (sym c.in_err-check_name.ensures)

pub shifted-requires : goal.shifted-requires
shifted-requires c = omega (arith, c.requires, found_inside dat c.args.v.now c.walk-f.ensures 1 c.in_ok-name.ensures.ok_part)

pub returns : goal.returns
returns c =
    rw (c.shifted.ensures, c.freshness_of.ensures)
    (data_brought _ _ _ c.walk-f.ensures c.bytes_at-held.ensures c.walk-m.ensures (sym c.is_malformed.ensures ∙ c.if-is_malformed.false)
    (rw c.if-is_none.false at c.is_none.ensures) (rw c.if-is_none-2.false at c.is_none-else-is_none.ensures)
    (sym c.is_malformed-2.ensures ∙ c.if-is_malformed-2.false) c.in_ok-name.ensures.ok_part c.part_at.ensures c.count_components-c.ensures
    (sym c.in_ok-check_name.ensures) c.requires)
