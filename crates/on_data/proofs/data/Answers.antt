-- By what is asked again, then by the scope.
use mathlib.Core.Path.{refl, sym}
use Rattle.event.specs.Laws.Allowed.{allowed_zero}
use Rattle.coming.specs.Laws.Guard.{guard_packet, guard_room}
use Rattle.on_data.specs.Laws.Data.{data_stops, data_scope, data_brings}
use Rattle.on_data.proofs.data.Goals as goal

pub returns-in-Err : goal.returns-in-Err
returns-in-Err c = λ r. data_stops _ _ _ _ _ _ _ c.find_name-name.ensures _ _ (sym c.in-Err.ensures) c.quiet.ensures

pub returns-then-is_out_of_scope : goal.returns-then-is_out_of_scope
returns-then-is_out_of_scope c =
    λ r.
    data_scope _ _ _ _ _ _ _ c.find_name-name.ensures _ (sym c.in_default.ensures) _
    c.is_out_of_scope.ensures _
    c.if-is_out_of_scope.true c.quiet-then-is_out_of_scope.ensures

pub bring-requires : goal.bring-requires
bring-requires c =
    let zero = allowed_zero _ _ (sym c.in_default.ensures) in
    record {
      name_is = c.find_name-name.ensures;
      packet = guard_packet _ _ _ _ _ refl zero;
      room = guard_room _ _ _ _ _ refl zero;
    }

pub returns : goal.returns
returns c =
    λ r.
    data_brings _ _ _ _ _ _ _ c.find_name-name.ensures _ (sym c.in_default.ensures) _
    c.is_out_of_scope.ensures _ _ _
    c.if-is_out_of_scope.false (c.bring.ensures r)
